-- Texts stored one after another in a lent slice: in the end the joined text is stored, and a text at the front leaves the bytes after it. Assumes nothing.
use mathlib.Core.Path.{◌≡◌, refl, sym, ap, ◌∙◌}
use mathlib.Core.List.{List, [], ◌∷◌, ◌++◌}
use Prim.Native.Nat.{ℕ, suc, ◌+◌, ◌≤◌}
use native.Mathlib.Nat.{add-zero, zero-add}
use native.Mathlib.Numerals.{add-one}
use native.Mathlib.Omega.{arith}
use lib.ListN.{length, take, drop, set, length-append}
use lib.Seq.{sets, sets-eq}
use borrow.Rule.Slice.PartMut.{put_mid}
use Rattle.std.proofs.Common.{append_assoc}
use Rattle.std.proofs.lemmas.List.Edits.{paste_all}
use Rattle.std.proofs.lemmas.Slice.{put_mid-paste}
use Rattle.listing_text.specs.Listing.{lines_text, AtFront}
use Rattle.listing_text.specs.declared.Cursor.{Cursor}
use Rattle.listing_text.specs.Stored.{Stored}

-- two texts, the second behind the first
sets_append : (t u l : List ℕ) (i : ℕ) → sets (sets l i t) (i + length t) u ≡ sets l i (t ++ u)
sets_append [] u l i = ap (λ (k : ℕ). sets l k u) (add-zero i)
sets_append (a ∷ t) u l i =
    let e : i + suc (length t) ≡ suc i + length t = omega arith in
    ap (λ (k : ℕ). sets (sets (set l i a) (suc i) t) k u) e ∙ sets_append t u (set l i a) (suc i)

-- a text that is copied over a part of the slice
pub copied : (l t u : List ℕ) (at k : ℕ) → u ≡ t → k ≡ length t → at + length t ≤ length l → put_mid at k l u ≡ sets l at t
copied l t u at k e same fits = put_mid-paste at k l u t k e refl same ∙ paste_all l at t k same ∙ rw same (sym (sets-eq t l at fits ∙ append_assoc (take at l) t (drop (at + length t) l)))

-- ---- what a cursor's calls leave

-- one call after another
pub behind : {old mid new : Cursor} {t u : List ℕ} → Stored old t mid → Stored mid u new → Stored old (t ++ u) new
behind {old} {mid} {new} {t} {u} v w =
    record {
      same_slice = w.same_slice ∙ v.same_slice;
      bytes = w.bytes ∙ rw (v.bytes, v.after) (sets_append t u old.out.now old.at);
      length_kept = w.length_kept ∙ v.length_kept;
      after = omega (arith, length-append t u, v.after, w.after);
    }

-- ---- a text at the front

-- a text that a cursor stored from the front of a slice on, as the slice holds it at the end
pub at_front : {old new : Cursor} {t held left : List ℕ} {n : ℕ}
    → Stored old t new → old.at ≡ 0 → old.out.now ≡ held → n ≡ new.at → left ≡ new.out.now → AtFront t held n left
at_front {old} {new} {t} w front is-held is-at is-left =
    let e : old.at + length t ≡ length t = omega arith in
    let within : old.at + length t ≤ length old.out.now = omega (arith, w.after, w.length_kept, new.within) in
    rw (is-at, is-left, sym is-held) (record {
      counted = w.after ∙ e;
      bytes = w.bytes ∙ sets-eq t old.out.now old.at within ∙ rw (front, zero-add (length t)) refl;
    })

-- lines one after another, from none on
pub no_lines : (line : ℕ → List ℕ) {old : Cursor} → Stored old (lines_text line 0) old
unfolding lines_text
no_lines line {old} = record { same_slice = refl; bytes = refl; length_kept = refl; after = omega arith }

pub next_line : (line : ℕ → List ℕ) (s : ℕ) {old mid new : Cursor} → Stored old (lines_text line s) mid → Stored mid (line s) new → Stored old (lines_text line (s + 1)) new
unfolding lines_text
next_line line s v w = rw (add-one s) (behind v w)

-- nothing is written
pub no_text : {old : List ℕ} → AtFront [] old 0 old
no_text = record { counted = refl; bytes = refl }
