-- The line of a section, question 24 and the closing line (document 01, 'Listing'). Definitions only.
use Rattle.std.specs.Prelude.{◌≡◌, ℕ, zero, suc, Bool, ◌&&◌, cond, List, [], ◌∷◌, ◌++◌, leb, ltb, eqb, length, drop, Float}
use Rattle.listing_text.specs.Text.{ascii, decimal, pattern, printed}

-- "Listing line: is the section below 512 and the slice at least 72 bytes long? 24"
abbrev pub line_allowed : ℕ → ℕ → Bool
line_allowed section room = ltb section 512 && leb 72 room

-- "a line per section: number in decimal, head, flow, maximum, minimum"
abbrev pub line_text : ℕ → Float → Float → Float → Float → List ℕ
line_text section head flow highest lowest =
    printed (decimal section) (pattern head ∷ pattern flow ∷ pattern highest ∷ pattern lowest ∷ [])

-- "Last comes `done m`, `notfinite m s` or `parted m s` (steps done, section); a refused job prints only `refused n`."
-- By the answer's number: 0, 40, 41, or the number of the question that got a no.
unfoldable pub closing_text : ℕ → ℕ → ℕ → List ℕ
closing_text number steps section =
    cond (eqb number 0) (printed (ascii "done") (decimal steps ∷ []))
    (cond (eqb number 40) (printed (ascii "notfinite") (decimal steps ∷ decimal section ∷ []))
    (cond (eqb number 41) (printed (ascii "parted") (decimal steps ∷ decimal section ∷ []))
    (printed (ascii "refused") (decimal number ∷ []))))

-- The lines 0 to count - 1, one after another; in a listing `line s` is the line of section s.
unfoldable pub lines_text : (ℕ → List ℕ) → ℕ → List ℕ
lines_text line zero = []
lines_text line (suc count) = lines_text line count ++ line count

-- What the line call writes in a slice of `room` bytes: the line, or nothing for question 24's no.
unfoldable pub line_written : ℕ → Float → Float → Float → Float → ℕ → List ℕ
line_written section head flow highest lowest room = cond (line_allowed section room) (line_text section head flow highest lowest) []

-- What a call that writes a text at the front of a lent slice answers and leaves: the count of the text's bytes, and the text followed by
-- what the slice held there: "bytes after that part keep what they held".
pub record AtFront (text held : List ℕ) (count : ℕ) (left : List ℕ) : Type 0 where
  pub counted : count ≡ length text
  pub bytes : left ≡ text ++ drop (length text) held
