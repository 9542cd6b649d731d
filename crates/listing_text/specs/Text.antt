-- Texts as lists of bytes: numbers in decimal and in hexadecimal, and fields on a line. Definitions only.
use Rattle.std.specs.Prelude.{ℕ, zero, suc, ◌/◌, ◌%◌, cond, List, [], ◌∷◌, ◌++◌, ltb, get_or, Float}
use Prim.Native.Char.{code}
use Prim.Native.String.{String, [] as empty, ◌∷◌ as ◌then◌}
use Rattle.std.specs.Float.{binary64}
use Rattle.std.specs.Float.Ieee.{to_bits}

-- the bytes of a quoted text
abbrev pub ascii : String → List ℕ
ascii empty = []
ascii (◌then◌ c s) = code c ∷ ascii s

-- the byte of a digit below 16: lower case
abbrev pub digit : ℕ → ℕ
digit d = get_or (ascii "0123456789abcdef") d 0

-- the last `count` digits of n in a base, "highest first"
unfoldable pub digits : ℕ → ℕ → ℕ → List ℕ
digits n base zero = []
digits n base (suc count) = digits (n / base) base count ++ (digit (n % base) ∷ [])

-- How many decimal digits n has: 1 below 10, else one more than n / 10 has. The first number only ends the recursion; n is always enough.
unfoldable pub places_within : ℕ → ℕ → ℕ
places_within zero n = 1
places_within (suc k) n = let more = suc (places_within k (n / 10)) in cond (ltb n 10) 1 more

abbrev pub places : ℕ → ℕ
places n = places_within n n

-- "number in decimal"
abbrev pub decimal : ℕ → List ℕ
decimal n = digits n 10 (places n)

-- "each f64 as 16 lower-case hexadecimal digits, highest first": its bit pattern. `to_bits` gives every NaN the one pattern 7ff8000000000000.
abbrev pub pattern : Float → List ℕ
pattern x = digits (to_bits binary64 x) 16 16

-- "One space parts two fields, and every printed line ends with a newline." `following` is what follows a line's first field.
abbrev pub following : List (List ℕ) → List ℕ
following [] = ascii "\n"
following (field ∷ fields) = ascii " " ++ (field ++ following fields)

abbrev pub printed : List ℕ → List (List ℕ) → List ℕ
printed first fields = first ++ following fields
