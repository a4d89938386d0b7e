-- Loads from sheets of both editions (02 a).
use Rattle.std.specs.Prelude.{ℕ, ◌<◌, ◌≡◌, List, get_or}
use Rattle.sheets.specs.Refusal.{entry_refusal}
use Rattle.sheets.specs.Sheet.{entries_of, entry_in}
use Rattle.sheets.specs.EditionOne.{entry_one}
use Rattle.sheets.specs.Rows.{Sheet}
use Rattle.sheets.specs.declared.edition.Edition.{Edition}
use Rattle.sheets.specs.declared.edition.Edition.TheVariants.{One}
use Rattle.sheets.specs.declared.entry.Entry.{Entry}
use Rattle.loads.specs.Load.{filter_in, filter_of}

pub record LoadsInBothEditions : Type 0 where
  -- an entry that an edition takes makes the filter that it has there
  pub same : (v : Edition) (t : Entry) → entry_refusal v t ≡ 0 → filter_of t ≡ filter_in v t
  -- a sheet of edition 1 makes the filters of the entries that its own reader finds, by its own table
  pub as_before : (s : List ℕ) → Sheet s → get_or s 1 0 ≡ 0 → (e : ℕ) → e < entries_of s → filter_of (entry_in s e) ≡ filter_in One (entry_one s e)
