-- Hexadecimal text, highest digit first, with both cases of letters: bytes of two digits, words of eight.
use Rattle.std.specs.Prelude.{ℕ, ◌+◌, ◌*◌, ◌-◌, ◌/◌, Bool, Option, Some, None, cond, List, ltb, Float, length, get_or, is_some, unwrap_or}
use Rattle.std.specs.List.{list_all}
use Rattle.std.specs.Float.{binary32}
use Rattle.std.specs.Float.Ieee.{of_bits}
use Rattle.lists.specs.Table.{table}
use Rattle.words.specs.Word.{word_of}

-- the value of a digit's byte: 0 to 9, A to F, a to f
abbrev pub hex_digit : ℕ → Option ℕ
hex_digit b =
    cond (ltb b 48) None
    (cond (ltb b 58) (Some (b - 48))
    (cond (ltb b 65) None (cond (ltb b 71) (Some (b - 55)) (cond (ltb b 97) None (cond (ltb b 103) (Some (b - 87)) None)))))

abbrev pub is_hex : ℕ → Bool
is_hex b = is_some (hex_digit b)

abbrev pub all_hex : List ℕ → Bool
all_hex s = list_all is_hex s

-- the byte of two digits; another byte of text counts as the digit 0
abbrev pub pair_of : ℕ → ℕ → ℕ
pair_of high low = 16 * unwrap_or (hex_digit high) 0 + unwrap_or (hex_digit low) 0

-- the byte whose digits stand k places after i
abbrev pub byte_from : List ℕ → ℕ → ℕ → ℕ
byte_from s i k = pair_of (get_or s (i + k) 0) (get_or s (i + (k + 1)) 0)

-- the word whose digits stand at the place i
abbrev pub hex_word : List ℕ → ℕ → ℕ
hex_word s i = word_of (byte_from s i 6) (byte_from s i 4) (byte_from s i 2) (byte_from s i 0)

-- those of a text whose digits, n each, stand one behind the other, as `read` reads the one at a place
abbrev pub units_of : {A : Type 0} → ℕ → (List ℕ → ℕ → A) → List ℕ → List A
units_of n read s = table (length s / n) (λ k. read s (n * k))

-- BYTE: two digits
abbrev pub byte_read : List ℕ → ℕ → ℕ
byte_read s i = byte_from s i 0

-- SAMPLE: eight digits
abbrev pub sample_read : List ℕ → ℕ → Float
sample_read s i = of_bits binary32 (hex_word s i)
