-- Loads from a sheet and from what it was converted to (02 f).
use Rattle.std.specs.Prelude.{ℕ, ◌≡◌, List}
use Rattle.sheets.specs.Sheet.{entry_in}
use Rattle.sheets.specs.declared.edition.Edition.{Edition}
use Rattle.conversion.specs.Conversion.{convert_number}
use Rattle.conversion.specs.Converted.{written_sheet}
use Rattle.loads.specs.Load.{filter_of}
use Rattle.frame.specs.Call.{opening, loading}
use Rattle.frame.specs.Calls.{Done, perform}
use Rattle.frame.specs.History.{Histories, advance}
use Rattle.frame.specs.declared.Frame.{Frame}

-- the frame f opens s, and then loads the entry e into the head h
abbrev pub load_from : Frame → List ℕ → ℕ → ℕ → Done
load_from f s h e = perform (perform f (opening s)).frame (loading h e)

-- the histories after the same two calls
abbrev pub loaded_from : Histories → List ℕ → ℕ → ℕ → Histories
loaded_from H s h e = advance (advance H (opening s)) (loading h e)

-- a load of the entry e from t is one from s
pub record LoadsAlike (s t : List ℕ) (e : ℕ) : Type 0 where
  -- the filter that the entry makes
  pub filter : filter_of (entry_in t e) ≡ filter_of (entry_in s e)
  -- in any frame and any head: the number, which is that of a refusal for a head or an entry that is not there, and all twelve heads
  pub reply : (f : Frame) (h : ℕ) → (load_from f t h e).reply ≡ (load_from f s h e).reply
  pub heads : (f : Frame) (h : ℕ) → (load_from f t h e).frame.heads ≡ (load_from f s h e).frame.heads
  -- and what it adds to the histories
  pub history : (H : Histories) (h j : ℕ) → (loaded_from H t h e).heads j ≡ (loaded_from H s h e).heads j

abbrev pub ConvertedLoads : Type 0
ConvertedLoads = (v : Edition) (s out : List ℕ) → convert_number v s out ≡ 0 → (e : ℕ) → LoadsAlike s (written_sheet v s out) e
