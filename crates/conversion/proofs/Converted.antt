-- What a conversion makes of a sheet, and that it can be undone. Assumes nothing.
use Prim.Native.Nat.{ℕ, ◌≤◌, ◌<◌}
use mathlib.Core.Path.{◌≡◌, refl, sym, ap, ◌∙◌}
use mathlib.Core.List.{List, [], ◌∷◌}
use mathlib.Core.Logic.{◌⊎◌, inl, inr}
use native.Mathlib.Omega.{arith}
use lib.ListN.{length, get_or, set, take, drop, length-set}
use lib.Seq.{take-append_seam, set-append_left}
use Rattle.filter_core.proofs.Refusals.{stays}
use Rattle.std.proofs.lemmas.Bool.{cases_lt}
use Rattle.filter_core.proofs.Rows.{exactly}
use Rattle.lists.specs.Over.{over}
use Rattle.lists.proofs.Tables.{table_ext}
use Rattle.lists.proofs.Over.{over_all, over_one, length_over}
use Rattle.sheets.specs.Edition.{edition_byte}
use Rattle.sheets.specs.Sheet.{entries_of, edition_in, Fits, check_entry_of, lookup_of}
use Rattle.sheets.specs.Rows.{Sheet}
use Rattle.sheets.specs.declared.edition.Edition.{Edition}
use Rattle.sheets.specs.declared.edition.Edition.TheVariants.{One}
use Rattle.sheets.proofs.Editions.{both_editions}
use Rattle.sheets.proofs.Rows.{sheet_check}
use Rattle.library.specs.Library.{stored_in, library_of}
use Rattle.library.proofs.RoundTrip.{count_in, rewritten}
use Rattle.library.proofs.Rows.{write_short}
use Rattle.conversion.specs.Conversion.{convert_refusal, put_over, convert_number, converted_of}
use Rattle.conversion.specs.Converted.{in_edition, written_sheet, Writes, OldReader, Converted, library_in, AsWrite, Conversions}
use Rattle.conversion.proofs.Rows.{up, down, told_series, tells_series, Has, too_short, accepted, taken}
use Rattle.conversion.proofs.Moved.{length_in, entries_in, setting_is_in, stored_is_in, entry_is_in, byte_in, edition_is_in, long, sheet_in, in_back, in_own, one_has_no_series, no_series_in}

has_of : (v : Edition) (s : List ℕ) (m : ℕ) → Sheet s → (convert_refusal v s m ≡ 15 → ⊥) → Has v s
has_of v s m h n p u = n (rw p (tells_series s m h u))

-- ---- what is written

-- the byte over the copy of s is s with that byte
byte_over : (s out : List ℕ) (b : ℕ) → 1 < length s → length s ≤ length out → over 1 (b ∷ []) (over 0 s out) ≡ over 0 (set s 1 b) out
byte_over s out b a h =
    let l : length (set s 1 b) ≡ length s = length-set s 1 b in
    let w = length_over 0 s out in
    over_one 1 b (over 0 s out) (omega arith)
    ∙ rw (over_all s out h, set-append_left s (drop (length s) out) 1 b a)
    (sym (over_all (set s 1 b) out (omega arith) ∙ rw l refl))

-- where a sheet has room and its edition has all of it
writes : (v : Edition) (s out : List ℕ) → Sheet s → Has v s → length s ≤ length out → Writes v s out (in_edition v s)
writes v s out h d r =
    let z = accepted s (length out) h v d r in
    let l = length_in v s in
    let a = long s h in
    record { accepted = z; answer = sym l; bytes = rw z (byte_over s out (edition_byte v) (omega arith) r ∙ over_all (in_edition v s) out (omega arith)) }

copied : (s out : List ℕ) → Sheet s → length s ≤ length out → Writes (edition_in s) s out s
copied s out h r = rw (in_own s h.size) at (writes (edition_in s) s out h (one_has_no_series s h) r)

refused : (v : Edition) (s out : List ℕ) → (convert_number v s out ≡ 0 → ⊥) → converted_of v s out ≡ out
refused v s out z = sym (stays out (put_over v s out) (refl {a = convert_refusal v s (length out)}) z)

-- ---- the sheet in the edition v
module _ (v : Edition) (s : List ℕ) (h : Sheet s) (d : Has v s) where
  is_in : Sheet (in_edition v s)
  is_in = sheet_in v s h d

  back : (into : List ℕ) → length s ≤ length into → Writes (edition_in s) (in_edition v s) into s
  back into r =
      let l = length_in v s in
      rw (in_back v s h.size) at (writes (edition_in s) (in_edition v s) into is_in (no_series_in v s h) (omega arith))

  same_check : (e : ℕ) → check_entry_of (in_edition v s) e ≡ check_entry_of s e
  same_check e = rw (sheet_check (in_edition v s) is_in, sheet_check s h, entries_in v s) refl

  same_lookup : (e : ℕ) → lookup_of (in_edition v s) e ≡ lookup_of s e
  same_lookup e = rw (same_check e, setting_is_in v s e) refl

  old_reader : v ≡ One → OldReader s (in_edition v s)
  old_reader p =
      let b : get_or (in_edition v s) 1 0 ≡ 0 = byte_in v s (long s h) ∙ rw p refl in
      let a = both_editions.agreed (in_edition v s) (λ e. omega arith) in
      record {
        check = a.check ∙ sheet_check (in_edition v s) is_in;
        entry = λ e. a.entry e ∙ same_check e;
        lookup = λ e. a.lookup e ∙ same_lookup e;
      }

  made : (out : List ℕ) → length s ≤ length out → Converted v s out (in_edition v s)
  made out r =
      record {
        writes = writes v s out h d r;
        bytes = refl;
        sheet = is_in;
        edition = edition_is_in v s (long s h);
        entries = record { number = entries_in v s; entry = entry_is_in v s };
        back = back;
        old_reader = old_reader;
      }

  library_is_in : library_of (in_edition v s) ≡ library_in v (library_of s)
  library_is_in =
      let w = edition_is_in v s (long s h) in
      let t : (library_of (in_edition v s)).entries.items ≡ (library_of s).entries.items =
      rw entries_in (table_ext (entries_of s) (stored_in (in_edition v s)) (stored_in s) (λ e l. stored_is_in v s e)) in
      λ i. record { edition = w i; entries = record { items = t i } }

  as_write : (out : List ℕ) → AsWrite v s out (library_of (in_edition v s))
  as_write out = go (cases_lt (length out) (length s))
    where
      f : Fits (entries_of (in_edition v s)) (in_edition v s)
      f = is_in.size.fits

      go : (length out < length s) ⊎ (length s ≤ length out) → AsWrite v s out (library_of (in_edition v s))
      go (inl r) =
          let z = too_short s (length out) h v d r in
          let l = length_in v s in
          let k = f.long in
          let q = write_short (entries_of (in_edition v s)) (length out) f.some f.most (omega arith) in
          record { number = rw (z, count_in, ← q) refl; answer = sym l ∙ k ∙ rw count_in refl; bytes = rw (z, count_in, ← q) refl }
      go (inr r) =
          let l = length_in v s in
          let w = writes v s out h d r in
          let q = rewritten (in_edition v s) is_in out (omega arith) in
          record { number = w.accepted ∙ sym q.accepted; answer = w.answer ∙ sym q.answer; bytes = w.bytes ∙ sym q.bytes }

-- ---- all of them

-- the first bytes of what was written are the sheet
is_written : {v : Edition} {s out t : List ℕ} → Writes v s out t → written_sheet v s out ≡ t
is_written {v} {s} {out} {t} w =
    ap (λ (k : ℕ). take k (converted_of v s out)) w.answer ∙ ap (take (length t)) w.bytes ∙ take-append_seam t (drop (length t) out)

pub accepted_converted : (v : Edition) (s out : List ℕ) → convert_number v s out ≡ 0 → Converted v s out (written_sheet v s out)
accepted_converted v s out z =
    let t = taken v s (length out) z in
    let m = made v s t.sheet t.has out t.room in
    rw (is_written m.writes) m

pub conversions : Conversions
conversions =
    record {
      accepted = accepted_converted;
      refused = refused;
      up = λ s out h. exactly (up s (length out) h);
      down = λ s out h. exactly (down s (length out) h);
      series = λ s out h. (told_series s (length out) h, tells_series s (length out) h);
      copied = copied;
      as_write = λ v s out h n. let d = has_of v s (length out) h n in rw (library_is_in v s h d) at (as_write v s h d out);
    }
