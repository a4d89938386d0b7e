-- Two sheets with the same entries load alike. Assumes nothing.
use Prim.Native.Nat.{ℕ, ◌<◌}
use mathlib.Core.Path.{◌≡◌, refl, sym, ap, ◌∙◌}
use mathlib.Core.Bool.{Bool, true, false, cond}
use mathlib.Core.List.{List}
use borrow.Author.Tests.{leb-false}
use lib.Dec.{leb, ltb, eqb}
use lib.ListN.{set}
use Rattle.sheets.specs.Sheet.{entries_of, entry_in}
use Rattle.sheets.specs.Rows.{Sheet}
use Rattle.sheets.specs.declared.entry.Entry.{Entry}
use Rattle.sheets.proofs.Rows.{sheet_check}
use Rattle.library.specs.Library.{count, library_of, entry_at}
use Rattle.library.specs.declared.Library.{Library}
use Rattle.library.proofs.RoundTrip.{count_in, same_entries}
use Rattle.conversion.specs.Converted.{written_sheet, HasEntries}
use Rattle.conversion.proofs.Rows.{taken}
use Rattle.conversion.proofs.Converted.{accepted_converted}
use Rattle.loads.specs.Load.{filter_of}
use Rattle.heads.specs.Snapshot.{loaded_with}
use Rattle.heads.specs.Head.{holding}
use Rattle.heads.specs.History.{load_event, HeadHistory, adding}
use Rattle.heads.specs.declared.Head.{Head}
use Rattle.frame.specs.Call.{opening, loading, Reply, plain}
use Rattle.frame.specs.Calls.{head_at, with_library, perform}
use Rattle.frame.specs.History.{Histories, head_first, load_number, call_number, changed_at, advance}
use Rattle.frame.specs.declared.Frame.{Frame}
use Rattle.converted_loads.specs.ConvertedLoads.{load_from, loaded_from, LoadsAlike, ConvertedLoads}

-- ---- two libraries with the same entry e, if they have one

-- what a load answers, and the heads after it
abbrev load : Frame → Library → ℕ → ℕ → Reply × List Head
load f l h e = ((perform (with_library f l) (loading h e)).reply, (perform (with_library f l) (loading h e)).frame.heads)

module _ (f : Frame) (l k : Library) (h e : ℕ) (n : count l ≡ count k) (q : e < count k → entry_at l e ≡ entry_at k e) where
  same_load : load f l h e ≡ load f k h e
  unfolding perform
  same_load = go (ltb 11 h) (leb (count k) e) refl refl
    where
      go : (a b : Bool) → ltb 11 h ≡ a → leb (count k) e ≡ b → load f l h e ≡ load f k h e
      go true b x y = rw x refl
      go false true x y = rw (x, n, y) refl
      go false false x y = rw (x, n, y) (ap (λ (t : Entry). (plain 0, set f.heads h (holding (head_at f h) (loaded_with t)))) (q (leb-false (count k) e y)))

-- ---- a frame that has opened a sheet
opened : (f : Frame) (s : List ℕ) → Sheet s → (perform f (opening s)).frame ≡ with_library f (library_of s)
unfolding perform
opened f s h = rw (sheet_check s h) refl

abbrev with_sheet : Histories → List ℕ → Histories
with_sheet H s = record H { sheet = s }

noted : (H : Histories) (s : List ℕ) → Sheet s → advance H (opening s) ≡ with_sheet H s
unfolding advance call_number
noted H s h = rw (sheet_check s h) refl

-- the history of the head j after a load into the head h, from a sheet of n entries of which u is the entry e
abbrev history_with : Histories → ℕ → ℕ → ℕ → ℕ → Entry → HeadHistory
history_with H h j n e u = cond (eqb (head_first h (cond (leb n e) 5 0)) 0) (changed_at h (adding (H.heads h) (load_event u)) H.heads j) (H.heads j)

grows : (H : Histories) (h j : ℕ) (s : List ℕ) (e : ℕ) → (advance (with_sheet H s) (loading h e)).heads j ≡ history_with H h j (entries_of s) e (entry_in s e)
unfolding advance call_number
grows H h j s e = go (eqb (head_first h (load_number s e)) 0) refl
  where
    go : (r : Bool) → eqb (head_first h (load_number s e)) 0 ≡ r
        → (advance (with_sheet H s) (loading h e)).heads j ≡ history_with H h j (entries_of s) e (entry_in s e)
    go true x = rw x refl
    go false x = rw x refl

module _ (s t : List ℕ) (a : Sheet s) (b : Sheet t) (q : HasEntries s t) (e : ℕ) where
  same_count : count (library_of t) ≡ count (library_of s)
  same_count = count_in t ∙ q.number ∙ sym (count_in s)

  entry : e < count (library_of s) → entry_at (library_of t) e ≡ entry_at (library_of s) e
  entry l =
      let i : e < entries_of s = rw count_in at l in
      (same_entries t b).entry e (rw q.number i) ∙ q.entry e ∙ sym ((same_entries s a).entry e i)

  reply : (f : Frame) (h : ℕ) → (load_from f t h e).reply ≡ (load_from f s h e).reply
  reply f h = rw (opened f s a, opened f t b) (ap (λ (p : Reply × List Head). p.0) (same_load f (library_of t) (library_of s) h e same_count entry))

  heads : (f : Frame) (h : ℕ) → (load_from f t h e).frame.heads ≡ (load_from f s h e).frame.heads
  heads f h = rw (opened f s a, opened f t b) (ap (λ (p : Reply × List Head). p.1) (same_load f (library_of t) (library_of s) h e same_count entry))

  history : (H : Histories) (h j : ℕ) → (loaded_from H t h e).heads j ≡ (loaded_from H s h e).heads j
  history H h j =
      rw (noted H s a, noted H t b)
      (grows H h j t e
      ∙ ap (λ (n : ℕ). history_with H h j n e (entry_in t e)) q.number
      ∙ ap (history_with H h j (entries_of s) e) (q.entry e)
      ∙ sym (grows H h j s e))

  alike : LoadsAlike s t e
  alike = record { filter = ap filter_of (q.entry e); reply = reply; heads = heads; history = history }

pub converted_loads : ConvertedLoads
converted_loads v s out z e =
    let c = accepted_converted v s out z in
    alike s (written_sheet v s out) (taken v s _ z).sheet c.sheet c.entries e
