-- BYTES and SAMPLES of the text of calls.
use Rattle.std.specs.Prelude.{ℕ, ◌%◌, Bool, false, cond, List, Option, Some, None, eqb, ltb, length, bytes_eq, codes}
use Rattle.digits.specs.Hex.{all_hex}

-- 1 to 8,192 hexadecimal digits
abbrev pub hex_run : List ℕ → Bool
hex_run s = cond (ltb (length s) 1) false (cond (ltb 8192 (length s)) false (all_hex s))

-- the field where it is `-`, or digits that make whole units
abbrev pub hex_field : List ℕ → Bool → Option (List ℕ)
hex_field s whole = cond (bytes_eq s (codes "-")) (Some s) (cond whole (cond (hex_run s) (Some s) None) None)

-- the field where it has whole units of so many digits each
abbrev pub units_field : ℕ → List ℕ → Option (List ℕ)
units_field digits s = hex_field s (eqb (length s % digits) 0)

-- BYTES
abbrev pub bytes_field : List ℕ → Option (List ℕ)
bytes_field s = units_field 2 s

-- SAMPLES
abbrev pub samples_field : List ℕ → Option (List ℕ)
samples_field s = units_field 8 s
