-- Section 5: halves and the 32-bit patterns that they widen to. Widening loses nothing: the value is the half's own, minus zero stays minus zero,
-- and of a NaN the sign and the fraction bits are kept while its quiet bit is set.
-- A half is IEEE 754's binary16, a number below 65536: a sign bit, five exponent bits, ten fraction bits.
-- `Float`, `binary32` and the bit patterns of binary32 are those of lib.Ieee.
use Rattle.std.specs.Prelude.{ℕ, zero, suc, ◌+◌, ◌*◌, ◌/◌, ◌%◌, ◌^◌, Bool, not, ◌&&◌, cond, List, ltb, eqb}
use lib.Ieee.{Float, nan, inf, binary32, odd, to_bits}
use Rattle.fields.specs.Le.{u16_at, u32_at}

abbrev pub sign : ℕ → ℕ
sign h = h / 32768

abbrev pub exponent : ℕ → ℕ
exponent h = h / 1024 % 32

abbrev pub fraction : ℕ → ℕ
fraction h = h % 1024

-- The value of a sign (true is minus), an exponent field and a fraction, written as lib.Ieee's `of_fields` is for its two formats.
-- binary16 has 11 digits, and its smallest positive value is 2 ^ -24; `odd 11 s q k 24` is q * 2 ^ k / 2 ^ 24 with the sign s.
unfoldable pub fields_value : Bool → ℕ → ℕ → Float
unfolding odd
fields_value s zero t = odd 11 s t 0 24
fields_value s (suc x) t = cond (eqb (suc x) 31) (cond (eqb t 0) (inf s) nan) (odd 11 s (1024 + t) x 24)

-- the value that a half stands for
unfoldable pub half_value : ℕ → Float
unfolding fields_value
half_value h = fields_value (eqb (sign h) 1) (exponent h) (fraction h)

abbrev pub is_nan_half : ℕ → Bool
is_nan_half h = eqb (exponent h) 31 && not (eqb (fraction h) 0)

-- a fraction with the quiet bit, the highest of its ten, set
abbrev pub quiet : ℕ → ℕ
quiet t = cond (ltb t 512) (t + 512) t

-- a NaN's 32-bit pattern: the sign kept, the exponent all ones, the fraction bits kept as the highest of the 23, the quiet bit set
abbrev pub widened_nan : ℕ → ℕ
widened_nan h = sign h * 2 ^ 31 + 255 * 2 ^ 23 + quiet (fraction h) * 2 ^ 13

-- the 32-bit pattern of a half
unfoldable pub widened : ℕ → ℕ
unfolding half_value to_bits
widened h = cond (is_nan_half h) (widened_nan h) (to_bits binary32 (half_value h))

-- the 32-bit pattern of the stored value at a position of the file: a half where the width is 2, else the four bytes themselves
unfoldable pub stored_value : List ℕ → ℕ → ℕ → ℕ
unfolding widened
stored_value s width at = cond (eqb width 2) (widened (u16_at s at)) (u32_at s at)
