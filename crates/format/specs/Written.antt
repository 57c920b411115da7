-- How a value is written: unit as nothing, numbers in shortest decimals, a float by its sixteen hexadecimal digits, texts by two
-- hexadecimal digits for each byte, a range by both ends. Assumes nothing.
use Rattle.std.specs.Prelude.{ℕ, zero, suc, ◌+◌, ◌/◌, ◌%◌, cond, List, [], ◌∷◌, ◌++◌, codes, nat_lt, to_bits, Float}
use Rattle.std.specs.Float.{binary64}
use Rattle.std.proofs.Math.Utf8.{encode}
use Rattle.std.specs.Fmt.{signed_decimal}
use Rattle.value.specs.Values.{Meaning, unit, bool, int, float, char, str, blob, excl, incl}

-- a hexadecimal digit, lower case
abbrev pub figure : ℕ → ℕ
figure d = cond (nat_lt d 10) (48 + d) (87 + d)

-- the last k hexadecimal digits of n
abbrev pub figures : ℕ → ℕ → List ℕ
figures zero n = []
figures (suc k) n = figures k (n / 16) ++ (figure (n % 16) ∷ [])

-- two digits of each byte
abbrev pub pairs : List ℕ → List ℕ
pairs [] = []
pairs (b ∷ bs) = figure (b / 16) ∷ figure (b % 16) ∷ pairs bs

-- the bits of a float; every NaN has the same
abbrev pub floated : Float → List ℕ
floated x = figures 16 (to_bits binary64 x)

abbrev pub written : Meaning → List ℕ
written unit = []
written (bool b) = cond b (codes "true") (codes "false")
written (int n) = signed_decimal n
written (float x) = floated x
written (char c) = pairs (encode c)
written (str bs) = pairs bs
written (blob bs) = pairs bs
written (excl a b) = signed_decimal a ++ (44 ∷ signed_decimal b)
written (incl a b) = signed_decimal a ++ (44 ∷ signed_decimal b)
