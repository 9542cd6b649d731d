-- The lent rows, each by its name: question 20, what they hold, and what a call leaves in them. Assumes nothing.
-- enough_each, each_enough   question 20
-- state_at, drive_at_lem, holds_point, holds_drive, holds_state, state_held   the state in the rows
-- rows_hold_lem, row_left   the rows that a call leaves
use mathlib.Core.Path.{◌≡◌, refl, sym, ap, ap₂, ◌∙◌}
use mathlib.Core.Bool.{Bool, true, ◌&&◌, true≢false}
use mathlib.Core.List.{List, [], ◌∷◌, ◌++◌, foldr, map}
use Prim.Native.Nat.{ℕ, ◌≤◌, ◌<◌}
use native.Mathlib.Omega.{arith}
use lib.Dec.{leb}
use lib.ListN.{length, get_or, take, drop, take-append-drop, length-map, length-replicate, get_or-map}
use lib.Seq.{ext_get_or, get_or-take, take_at}
use lib.Ieee.{Float}
use borrow.Author.Tests.{leb-true, le-leb}
use Rattle.fields.specs.Real.{zero64}
use Rattle.loops.specs.Loops.{listed}
use Rattle.job.specs.Job.{Job, sections}
use Rattle.recurrence.specs.State.{Point, Drive, State, no_point, no_drive, point_at, drive_at}
use Rattle.recurrence.specs.Calls.{Row, heads, flows, highest, lowest, speeds, inflows, all_rows, Rows, in_use, enough_lent, point_in, drive_in, state_in, holds, rows_of}
use Rattle.recurrence.specs.Lent.{Holds}
use Rattle.loops.proofs.Tests.{both}
use Rattle.loops.proofs.Listed.{take-listed, length-listed, get_or-listed, map-listed}
use Rattle.recurrence.proofs.Runs.{Sized}
use Rattle.recurrence.proofs.EachRow.{EachOf, each, untupled}

-- ---- question 20

module _ (test : Row → Bool) where
  abbrev pass : List Row → Bool
  pass xs = foldr (λ x rest. test x && rest) true xs

  pass_each : (xs : List Row) → pass xs ≡ true → EachOf (λ x. test x ≡ true) xs
  pass_each [] h = tt
  pass_each (x ∷ xs) h = let b = both (test x) (pass xs) h in (b.0, pass_each xs b.1)

  each_pass : ((x : Row) → test x ≡ true) → (xs : List Row) → pass xs ≡ true
  each_pass h [] = refl
  each_pass h (x ∷ xs) = rw (h x) (each_pass h xs)

-- every row has the entries that the job uses
abbrev pub Enough : Job → Rows → Type 0
Enough j r = (x : Row) → in_use j x ≤ length (r x)

module _ (j : Job) (r : Rows) where
  abbrev holds_use : Row → Bool
  holds_use x = leb (in_use j x) (length (r x))

  pub enough_each : enough_lent j r ≡ true → Enough j r
  unfolding enough_lent
  enough_each h x = leb-true _ _ (untupled (λ y. holds_use y ≡ true) (pass_each holds_use all_rows h) x)

  pub each_enough : Enough j r → enough_lent j r ≡ true
  unfolding enough_lent
  each_enough h = each_pass holds_use (λ x. le-leb _ _ (h x)) all_rows

  -- ---- the state in the rows

  pub state_at : (s : ℕ) → s < sections j → point_at (state_in j r) s ≡ point_in r s
  unfolding state_in point_at
  state_at s h = get_or-listed (sections j) (point_in r) s no_point h

  pub drive_at_lem : (y : ℕ) → y < length j.nodes → drive_at (state_in j r) y ≡ drive_in r y
  unfolding state_in drive_at
  drive_at_lem y h = get_or-listed (length j.nodes) (drive_in r) y no_drive h

-- a row that holds a field of the points or drives, read entry by entry
field_at : {A : Type 0} (none : A) (n : ℕ) (f : A → Float) (row : List Float) (ps : List A) → f none ≡ zero64 → take n row ≡ map f ps
    → (s : ℕ) → s < n → get_or row s zero64 ≡ f (get_or ps s none)
field_at none n f row ps z h s l = sym (get_or-take n row s zero64 l) ∙ ap (λ r. get_or r s zero64) h ∙ rw (← z) (get_or-map f ps s none)

-- a list that is read entry by entry from elsewhere
listed_is : {A : Type 0} (none : A) (n : ℕ) (f : ℕ → A) (ps : List A) → length ps ≡ n → ((s : ℕ) → s < n → f s ≡ get_or ps s none) → listed n f ≡ ps
listed_is none n f ps long h =
    ext_get_or none (listed n f) ps (length-listed n f ∙ sym long)
    (λ s l. let q : s < n = omega (arith, length-listed n f) in get_or-listed n f s none q ∙ h s q)

module _ (j : Job) (r : Rows) (st : State) (h : Holds j r st) (sized : Sized j st) where
  pub holds_point : (s : ℕ) → s < sections j → point_in r s ≡ point_at st s
  unfolding point_in point_at no_point holds
  holds_point s l =
      let n = sections j in
      let a = field_at no_point n (λ p. p.head) (r heads) st.points refl (h heads refl) s l in
      let b = field_at no_point n (λ p. p.flow) (r flows) st.points refl (h flows refl) s l in
      let c = field_at no_point n (λ p. p.highest) (r highest) st.points refl (h highest refl) s l in
      let d = field_at no_point n (λ p. p.lowest) (r lowest) st.points refl (h lowest refl) s l in
      λ i. record { head = a i; flow = b i; highest = c i; lowest = d i }

  pub holds_drive : (y : ℕ) → y < length j.nodes → drive_in r y ≡ drive_at st y
  unfolding drive_in drive_at no_drive holds
  holds_drive y l =
      let n = length j.nodes in
      let a = field_at no_drive n (λ d. d.speed) (r speeds) st.drives refl (h speeds refl) y l in
      let b = field_at no_drive n (λ d. d.inflow) (r inflows) st.drives refl (h inflows refl) y l in
      λ i. record { speed = a i; inflow = b i }

  pub holds_state : state_in j r ≡ st
  unfolding state_in point_at drive_at
  holds_state =
      let a = listed_is no_point (sections j) (point_in r) st.points sized.points holds_point in
      let b = listed_is no_drive (length j.nodes) (drive_in r) st.drives sized.drives holds_drive in
      λ i. record { points = a i; drives = b i }

-- rows hold the state that is read from them
pub state_held : (j : Job) (r : Rows) → Enough j r → Holds j r (state_in j r)
unfolding holds state_in point_in drive_in
state_held j r long =
    let n = sections j in
    let y = length j.nodes in
    each _
    (λ _. take-listed zero64 n (r heads) (long heads) ∙ sym (map-listed (λ p. p.head) n (point_in r)))
    (λ _. take-listed zero64 n (r flows) (long flows) ∙ sym (map-listed (λ p. p.flow) n (point_in r)))
    (λ _. take-listed zero64 n (r highest) (long highest) ∙ sym (map-listed (λ p. p.highest) n (point_in r)))
    (λ _. take-listed zero64 n (r lowest) (long lowest) ∙ sym (map-listed (λ p. p.lowest) n (point_in r)))
    (λ _. take-listed zero64 y (r speeds) (long speeds) ∙ sym (map-listed (λ d. d.speed) y (drive_in r)))
    (λ _. take-listed zero64 y (r inflows) (long inflows) ∙ sym (map-listed (λ d. d.inflow) y (drive_in r)))
    (λ f. absurd (true≢false (sym f)))

-- ---- the rows that a call leaves

module _ (j : Job) (st : State) (lent : Rows) where
  holds_long : Sized j st → (x : Row) → length (holds j st x) ≡ in_use j x
  unfolding holds
  holds_long e =
      let p : (f : Point → Float) → length (map f st.points) ≡ sections j = λ f. length-map st.points f ∙ e.points in
      let d : (f : Drive → Float) → length (map f st.drives) ≡ length j.nodes = λ f. length-map st.drives f ∙ e.drives in
      each _ (p _) (p _) (p _) (p _) (d _) (d _) (length-replicate _ _)

  pub rows_hold_lem : Sized j st → (x : Row) → take (in_use j x) (rows_of j st lent x) ≡ holds j st x
  unfolding rows_of
  rows_hold_lem e x = take_at (holds j st x) (drop (in_use j x) (lent x)) (in_use j x) (holds_long e x)

  -- a row that holds the state, and past the entries in use is as lent
  pub row_left : (x : Row) (l : List Float) → take (in_use j x) l ≡ holds j st x → drop (in_use j x) l ≡ drop (in_use j x) (lent x) → l ≡ rows_of j st lent x
  unfolding rows_of
  row_left x l h rest = sym (take-append-drop (in_use j x) l) ∙ ap₂ ◌++◌ h rest
