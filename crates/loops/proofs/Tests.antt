-- What turns on a test goes by its two cases; two tests joined by `&&`; what a branch on a test's answer tells of the test. Assumes nothing.
use mathlib.Core.Path.{◌≡◌, refl, sym, ◌∙◌}
use mathlib.Core.Bool.{Bool, true, false, not, ◌&&◌, cond}
use borrow.Author.Tests.{not-true, not-false}

pub and_false : (a : Bool) → a && false ≡ false
and_false true = refl
and_false false = refl

pub both : (a b : Bool) → a && b ≡ true → (a ≡ true) × (b ≡ true)
both true b h = (refl, h)
both false b h = (h, cc)

pub cond_cong : {A : Type 0} (b : Bool) {x x' y y' : A} → (b ≡ true → x ≡ x') → (b ≡ false → y ≡ y') → cond b x y ≡ cond b x' y'
cond_cong true h k = h refl
cond_cong false h k = k refl

pub cond_all : {A : Type 0} (P : A → Type 0) (b : Bool) {x y : A} → P x → P y → P (cond b x y)
cond_all P true h k = h
cond_all P false h k = k

-- a whole of two halves: it fails where the first half does, and where the first half holds it is the second
pub half_fails : (a b : Bool) {whole : Bool} → whole ≡ a && b → a ≡ false → false ≡ whole
half_fails a b e h = sym (e ∙ rw h)

pub half_holds : (a b : Bool) {whole : Bool} → whole ≡ a && b → a ≡ true → b ≡ whole
half_holds a b e h = sym (e ∙ rw h)

-- what a branch on the negation of a test's answer tells of the test
pub is_yes : {r t : Bool} → r ≡ t → not r ≡ false → t ≡ true
is_yes e h = sym e ∙ not-false _ h

pub is_no : {r t : Bool} → r ≡ t → not r ≡ true → t ≡ false
is_no e h = sym e ∙ not-true _ h
