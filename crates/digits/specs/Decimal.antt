-- A NUMBER: 1 to 20 decimal digits, at most 18446744073709551615.
use Rattle.std.specs.Prelude.{ℕ, ◌+◌, ◌*◌, ◌-◌, Option, Some, None, cond, List, [], ◌∷◌, ltb, length, option_and_then}

-- the value of a digit's byte
abbrev pub digit_of : ℕ → Option ℕ
digit_of b = cond (ltb b 48) None (cond (ltb 57 b) None (Some (b - 48)))

-- the value of a text of digits, read on from the value n of what stands before it; none where a byte is no digit
unfoldable pub value_from : ℕ → List ℕ → Option ℕ
value_from n [] = Some n
value_from n (b ∷ s) = option_and_then (λ d. value_from (10 * n + d) s) (digit_of b)

-- n, unless it takes more than 64 bits
abbrev pub fitting : ℕ → Option ℕ
fitting n = cond (ltb 18446744073709551615 n) None (Some n)

abbrev pub number_of : List ℕ → Option ℕ
number_of s = cond (ltb (length s) 1) None (cond (ltb 20 (length s)) None (option_and_then fitting (value_from 0 s)))
