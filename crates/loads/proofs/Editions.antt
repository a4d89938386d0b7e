-- A load makes of an entry what its edition makes. Assumes nothing.
use Prim.Native.Nat.{ℕ, ◌<◌}
use mathlib.Core.Path.{◌≡◌, refl, sym, ap, ◌∙◌}
use mathlib.Core.List.{List}
use lib.ListN.{get_or}
use Rattle.sheets.specs.Refusal.{entry_refusal}
use Rattle.sheets.specs.Sheet.{entries_of, edition_in, entry_in}
use Rattle.sheets.specs.EditionOne.{entry_one}
use Rattle.sheets.specs.Rows.{Sheet}
use Rattle.sheets.specs.declared.edition.Edition.{Edition}
use Rattle.sheets.specs.declared.edition.Edition.TheVariants.{One}
use Rattle.sheets.specs.declared.entry.Entry.{Entry}
use Rattle.sheets.proofs.Editions.{entry_setter, both_editions}
use Rattle.sheets.proofs.Rows.{entry_taken}
use Rattle.loads.specs.Load.{filter_in, filter_of}
use Rattle.loads.specs.Editions.{LoadsInBothEditions}

same : (v : Edition) (t : Entry) → entry_refusal v t ≡ 0 → filter_of t ≡ filter_in v t
same v t z = rw (entry_setter v t z) refl

as_before : (s : List ℕ) → Sheet s → get_or s 1 0 ≡ 0 → (e : ℕ) → e < entries_of s → filter_of (entry_in s e) ≡ filter_in One (entry_one s e)
as_before s h b e l =
    let v : edition_in s ≡ One = rw b refl in
    same One (entry_in s e) (rw v at (entry_taken s h e l)) ∙ ap (filter_in One) (sym ((both_editions.found s b).entry e))

pub loads_in_both_editions : LoadsInBothEditions
loads_in_both_editions = record { same = same; as_before = as_before }
