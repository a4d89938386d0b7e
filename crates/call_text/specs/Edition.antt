-- EDITION of the text of calls (02 f).
use Rattle.std.specs.Prelude.{ℕ, List, [], ◌∷◌, Option, codes}
use Rattle.sheets.specs.declared.edition.Edition.{Edition}
use Rattle.sheets.specs.declared.edition.Edition.TheVariants.{One, Two}
use Rattle.form_text.specs.Name.{look_up}

-- `1` or `2`, and nothing else
abbrev pub edition_of : List ℕ → Option Edition
edition_of s = look_up s ((codes "1", One) ∷ (codes "2", Two) ∷ [])
