-- An answer as one number, for callers in C. Definitions only.
use Rattle.std.specs.Prelude.{ℕ, ◌+◌, ◌*◌, ◌/◌, ◌%◌, Float}
use Rattle.reader.specs.Answer.{ReadAnswer, refused, accepted}
use Rattle.recurrence.specs.Run.{Answer}
use Rattle.setting.specs.Setting as Set

-- The number of a question or a stop, 0 where there is neither, in the lowest 8 binary digits; a section or a section count in the next 12; steps in
-- the next 32. Every answer of document 01 and of the requests that have landed fits: numbers up to 53, and 255 for 'none', sections up to 512, steps up to 1,000,000.
unfoldable pub packed : ℕ → ℕ → ℕ → ℕ
packed number section steps = number % 256 + 256 * (section % 4096) + 1048576 * (steps % 4294967296)

-- the parts of such a number
unfoldable pub number_in : ℕ → ℕ
number_in p = p % 256

unfoldable pub section_in : ℕ → ℕ
section_in p = p / 256 % 4096

unfoldable pub steps_in : ℕ → ℕ
steps_in p = p / 1048576

-- the answer of the start and the run-on: "The result carries the steps done in all, and for a stop the section."
unfoldable pub packed_answer : Answer → ℕ
packed_answer a = packed a.number a.section a.steps

-- the answer of the reader: the question's number alone, or the section count and the listing's steps
unfoldable pub packed_read : ReadAnswer → ℕ
packed_read (refused n) = packed n 0 0
packed_read (accepted sections steps) = packed 0 sections steps

-- the answer of the call that sets a valve: the question's number alone; 255 for 'none', which the papers give no number; 0 where a coefficient is given
unfoldable pub packed_setting : Set.Answer → ℕ
packed_setting (Set.refused n) = packed n 0 0
packed_setting Set.none = packed 255 0 0
packed_setting (Set.coefficient a) = packed 0 0 0

-- what stands in the place lent for the coefficient: a where it is given, else what it held
unfoldable pub coefficient_left : Set.Answer → Float → Float
coefficient_left (Set.refused n) held = held
coefficient_left Set.none held = held
coefficient_left (Set.coefficient a) held = a
