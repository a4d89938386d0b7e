-- The converter (02 f): a sheet as a sheet of the edition that is wanted.
use Rattle.std.specs.Prelude.{ℕ, ◌/◌, cond, List, [], ◌∷◌, eqb, length}
use Rattle.filter_core.specs.Refusal.{unless_refused}
use Rattle.filter_core.specs.Rows.{◌then◌}
use Rattle.lists.specs.Over.{over}
use Rattle.lists.specs.Room.{room_refusal}
use Rattle.sheets.specs.Edition.{edition_byte}
use Rattle.sheets.specs.Refusal.{first_refusal}
use Rattle.sheets.specs.Sheet.{entries_of, kind_at, check_of}
use Rattle.sheets.specs.declared.edition.Edition.{Edition}
use Rattle.sheets.specs.declared.edition.Edition.TheVariants.{One, Two}

-- ---- the refusals

-- 15 of 02 f, for a kind byte, which is kind + 16 * approximation: approximation 4, which edition 1 does not have
abbrev pub series_refusal : ℕ → ℕ
series_refusal kind = cond (eqb (kind / 16) 4) 15 0

-- for the first n entries
abbrev pub series_among : ℕ → List ℕ → ℕ
series_among n s = first_refusal n (λ e. series_refusal (kind_at s e))

-- for a sheet that is wanted in an edition; edition 2 has all that there is
abbrev pub wanted_refusal : Edition → List ℕ → ℕ
wanted_refusal One s = series_among (entries_of s) s
wanted_refusal Two s = 0

-- the number that opening s gives, then 15, then 12 for an output of m places
abbrev pub convert_refusal : Edition → List ℕ → ℕ → ℕ
convert_refusal v s m = check_of s then wanted_refusal v s then room_refusal (length s) m

-- ---- the answer, which is the sheet's length, and the output as it is left

-- the sheet over the output, and the byte of the edition v over its second place
abbrev pub put_over : Edition → List ℕ → List ℕ → List ℕ
put_over v s out = over 1 (edition_byte v ∷ []) (over 0 s out)

-- the number that a conversion of s to the edition v answers, for the output
abbrev pub convert_number : Edition → List ℕ → List ℕ → ℕ
convert_number v s out = convert_refusal v s (length out)

-- what an accepted conversion of s answers: how many bytes it has written
abbrev pub convert_length : List ℕ → ℕ
convert_length s = length s

-- a refused one leaves the output as it was
abbrev pub converted_of : Edition → List ℕ → List ℕ → List ℕ
converted_of v s out = unless_refused (convert_refusal v s (length out)) out (put_over v s out)
