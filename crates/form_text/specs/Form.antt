-- FORM, MODE and WORD of the text of calls.
use Rattle.std.specs.Prelude.{ℕ, cond, List, [], ◌∷◌, Option, Some, None, Float, eqb, length, codes, option_map, option_and_then}
use Rattle.std.specs.Float.{binary32}
use Rattle.std.specs.Float.Ieee.{of_bits}
use Rattle.filter_core.specs.declared.FilterMode.{FilterMode}
use Rattle.filter_core.specs.declared.FilterMode.TheVariants.{LowPass, BandPass, BandPassNormalized, HighPass}
use Rattle.runs.specs.declared.RunForm.{RunForm}
use Rattle.runs.specs.declared.RunForm.TheVariants.{Plain, Gain, Stride, Multimode, Decimate, Gains, Pair, Split}
use Rattle.digits.specs.Decimal.{number_of}
use Rattle.digits.specs.Hex.{all_hex, hex_word}
use Rattle.form_text.specs.Name.{look_up}
use Rattle.form_text.specs.Field.{fields_of, of_two, of_three}

abbrev pub modes : List (List ℕ × FilterMode)
modes = (codes "low", LowPass) ∷ (codes "band", BandPass) ∷ (codes "normalized", BandPassNormalized) ∷ (codes "high", HighPass) ∷ []

-- MODE
abbrev pub mode_of : List ℕ → Option FilterMode
mode_of s = look_up s modes

-- WORD
abbrev pub value_of : List ℕ → Option Float
value_of s = cond (eqb (length s) 8) (cond (all_hex s) (Some (of_bits binary32 (hex_word s 0))) None) None

-- plain:MODE
abbrev pub plain_form : List (List ℕ) → Option RunForm
plain_form (m ∷ []) = option_map Plain (mode_of m)
plain_form _ = None

-- gain:MODE:WORD
abbrev pub gain_form : List (List ℕ) → Option RunForm
gain_form (m ∷ g ∷ []) = of_two Gain (mode_of m) (value_of g)
gain_form _ = None

-- stride:MODE:NUMBER
abbrev pub stride_form : List (List ℕ) → Option RunForm
stride_form (m ∷ n ∷ []) = of_two Stride (mode_of m) (number_of n)
stride_form _ = None

-- multimode:WORD
abbrev pub multimode_form : List (List ℕ) → Option RunForm
multimode_form (m ∷ []) = option_map Multimode (value_of m)
multimode_form _ = None

-- decimate:MODE:NUMBER
abbrev pub decimate_form : List (List ℕ) → Option RunForm
decimate_form (m ∷ n ∷ []) = of_two Decimate (mode_of m) (number_of n)
decimate_form _ = None

-- gains:MODE:WORD:WORD
abbrev pub gains_form : List (List ℕ) → Option RunForm
gains_form (m ∷ g ∷ h ∷ []) = of_three Gains (mode_of m) (value_of g) (value_of h)
gains_form _ = None

-- pair:MODE:MODE
abbrev pub pair_form : List (List ℕ) → Option RunForm
pair_form (m ∷ n ∷ []) = of_two Pair (mode_of m) (mode_of n)
pair_form _ = None

-- split
abbrev pub split_form : List (List ℕ) → Option RunForm
split_form [] = Some Split
split_form _ = None

-- what the fields behind each name make
abbrev pub forms : List (List ℕ × (List (List ℕ) → Option RunForm))
forms =
    (codes "plain", plain_form)
    ∷ (codes "gain", gain_form)
    ∷ (codes "stride", stride_form)
    ∷ (codes "multimode", multimode_form)
    ∷ (codes "decimate", decimate_form)
    ∷ (codes "gains", gains_form)
    ∷ (codes "pair", pair_form)
    ∷ (codes "split", split_form)
    ∷ []

abbrev pub form_for : List ℕ → List (List ℕ) → Option RunForm
form_for name fields = option_and_then (λ form. form fields) (look_up name forms)

abbrev pub form_in : List (List ℕ) → Option RunForm
form_in [] = None
form_in (name ∷ fields) = form_for name fields

-- FORM; 58 is the colon
abbrev pub form_of : List ℕ → Option RunForm
form_of s = form_in (fields_of 58 s)
