-- Words and bytes as they are written: lower case, all digits, `-` for none.
use Rattle.std.specs.Prelude.{ℕ, ◌+◌, ◌/◌, ◌%◌, cond, List, [], ◌∷◌, ltb, Float}
use Rattle.std.specs.List.{flat_map}
use Rattle.std.specs.Float.{binary32}
use Rattle.std.specs.Float.Ieee.{to_bits}

-- the byte of a digit below 16
abbrev pub glyph_of : ℕ → ℕ
glyph_of d = cond (ltb d 10) (48 + d) (87 + d)

abbrev pub byte_text : ℕ → List ℕ
byte_text b = glyph_of (b / 16 % 16) ∷ glyph_of (b % 16) ∷ []

abbrev pub word_text : ℕ → List ℕ
word_text w =
    glyph_of (w / 0x1000_0000 % 16)
    ∷ glyph_of (w / 0x100_0000 % 16)
    ∷ glyph_of (w / 0x10_0000 % 16)
    ∷ glyph_of (w / 0x1_0000 % 16)
    ∷ glyph_of (w / 0x1000 % 16)
    ∷ glyph_of (w / 0x100 % 16)
    ∷ glyph_of (w / 0x10 % 16)
    ∷ glyph_of (w % 16)
    ∷ []

abbrev pub sample_text : Float → List ℕ
sample_text x = word_text (to_bits binary32 x)

-- the texts of a list's members, one after the other; `-` where there are none
abbrev pub units_text : {A : Type 0} → (A → List ℕ) → List A → List ℕ
units_text text [] = 45 ∷ []
units_text text (x ∷ xs) = flat_map text (x ∷ xs)
