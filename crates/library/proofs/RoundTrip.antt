-- A sheet and its library come back from each other. Assumes nothing.
use Prim.Native.Nat.{ℕ, ◌+◌, ◌*◌, ◌≤◌, ◌<◌}
use mathlib.Core.Path.{◌≡◌, refl, sym, ap, ◌∙◌}
use mathlib.Core.List.{List, [], ◌∷◌, ◌++◌, map}
use native.Mathlib.Omega.{arith}
use borrow.Author.Tests.{ne_eqb}
use lib.ListN.{length, get_or, take, drop, length-drop, take-append-drop}
use lib.Seq.{take_all, take-append_seam, drop-cons, drop-drop}
use Rattle.std.specs.Prelude.{Some, slice_get}
use Rattle.std.proofs.lemmas.Option.{slice_get-get_or}
use Rattle.std.specs.List.{flat_map}
use Rattle.lists.specs.Table.{table}
use Rattle.lists.proofs.Pieces.{pieces}
use Rattle.lists.proofs.Tables.{length_table, get_or_table}
use Rattle.lists.proofs.Over.{over_all}
use Rattle.sheets.specs.Sheet.{entries_of, edition_in, Fits, Sized, entry_in}
use Rattle.sheets.specs.Rows.{Sheet}
use Rattle.sheets.specs.Edition.{edition_byte}
use Rattle.sheets.proofs.Checks.{edition_back}
use Rattle.sheets.proofs.Rows.{sheet_check}
use Rattle.library.specs.Library.{count, none, stored_in, library_of, bytes_of, entry_from, entry_at, write_number}
use Rattle.library.specs.RoundTrip.{Rewritten, ReadWrite, Reread, written_sheet, WriteRead, RefusedWrite, OneSheet, SameEntries}
use Rattle.library.specs.declared.StoredEntry.{StoredEntry}
use Rattle.std.proofs.lemmas.List.Concat.{flat_map_single}
use Rattle.lists.proofs.Tables.{table_none}
use Rattle.library.proofs.Rows.{write_fits}

-- ---- lists

two_first : (s : List ℕ) → 2 ≤ length s → s ≡ get_or s 0 0 ∷ get_or s 1 0 ∷ drop 2 s
two_first s h = drop-cons s 0 0 (omega arith) ∙ ap (λ (l : List ℕ). get_or s 0 0 ∷ l) (drop-cons s 1 0 (omega arith))

-- ---- a sheet's parts in its library

pub count_in : (s : List ℕ) → count (library_of s) ≡ entries_of s
count_in s = length_table (entries_of s) (stored_in s)

module _ (s : List ℕ) (z : Fits (entries_of s) s) where
  kinds_in : map (λ (t : StoredEntry). t.kind) (library_of s).entries.items ≡ take (entries_of s) (drop 2 s)
  kinds_in =
      let n = entries_of s in
      let l = z.long in
      let m : 1 * n ≡ n = omega arith in
      sym (flat_map_single (λ (t : StoredEntry). t.kind) (table n (stored_in s)))
      ∙ pieces 1 n (drop 2 s) (λ (t : StoredEntry). t.kind ∷ []) (stored_in s)
      (λ i h. let p : 1 * i ≡ i = omega arith in rw (p, drop-drop i 2 s, drop-cons s (2 + i) 0 (omega arith)) refl)
      ∙ ap (λ (k : ℕ). take k (drop 2 s)) m

  settings_in : flat_map (λ (t : StoredEntry). t.setting) (library_of s).entries.items ≡ drop (2 + entries_of s) s
  settings_in =
      let n = entries_of s in
      let l = z.long in
      pieces 12 n (drop (2 + n) s) (λ (t : StoredEntry). t.setting) (stored_in s) (λ i h. ap (take 12) (sym (drop-drop (12 * i) (2 + n) s)))
      ∙ take_all (12 * n) (drop (2 + n) s) (omega (arith, length-drop (2 + n) s))

-- the sheet of the library is the sheet
bytes_in : (s : List ℕ) → Sized s → bytes_of (library_of s) ≡ s
bytes_in s z =
    let n = entries_of s in
    let l = z.fits.long in
    let b : edition_byte (edition_in s) ≡ get_or s 1 0 = edition_back z.edition in
    let c : drop n (drop 2 s) ≡ drop (2 + n) s = drop-drop n 2 s in
    let d : take n (drop 2 s) ++ drop (2 + n) s ≡ drop 2 s = rw (← c) (take-append-drop n (drop 2 s)) in
    rw (count_in s, kinds_in s z.fits, settings_in s z.fits, d) (ap (λ (x : ℕ). get_or s 0 0 ∷ x ∷ drop 2 s) b ∙ sym (two_first s (omega arith)))

-- ---- the round trips

module _ (s : List ℕ) (h : Sheet s) where
  accepted : (out : List ℕ) → length s ≤ length out → write_number (library_of s) out ≡ 0
  accepted out r =
      let l = h.size.fits.long in
      rw (count_in s) (sym (write_fits (entries_of s) (length out) h.size.fits.some h.size.fits.most (omega arith)))

  pub rewritten : (out : List ℕ) → length s ≤ length out → Rewritten s out
  rewritten out r =
      let a = accepted out r in
      record {
        accepted = a;
        answer = rw (count_in s) (sym h.size.fits.long);
        bytes = rw (a, bytes_in s h.size) (over_all s out r);
      }

  pub reread : (out : List ℕ) → length s ≤ length out → Reread s out
  reread out r =
      let w : written_sheet s out ≡ s = rw (rewritten out r).bytes (take-append_seam s (drop (length s) out)) in
      record { accepted = rw w (sheet_check s h); library = ap library_of w }

pub read_write : ReadWrite
read_write s out h l = rewritten s h out l

pub write_read : WriteRead
write_read s out h l = reread s h out l

pub refused_write : RefusedWrite
refused_write l out z = rw (ne_eqb (write_number l out) 0 z) refl

pub one_sheet : OneSheet
one_sheet s t h k e = sym (bytes_in s h.size) ∙ ap bytes_of e ∙ bytes_in t k.size

-- ---- entries

entry_is_in : (s : List ℕ) (e : ℕ) → e < entries_of s → entry_at (library_of s) e ≡ entry_in s e
entry_is_in s e l =
    let n = entries_of s in
    let p = get_or_table n (stored_in s) e (stored_in s e) l in
    let q : slice_get (table n (stored_in s)) e ≡ Some (stored_in s e) = slice_get-get_or (table n (stored_in s)) e (stored_in s e) (rw (length_table n (stored_in s)) l) ∙ ap Some p in
    ap entry_from q

pub same_entries : SameEntries
same_entries s h = record { number = count_in s; edition = refl; most = rw (count_in s) h.size.fits.most; entry = λ e l. entry_is_in s e l }

-- no bytes stand for no library
pub no_sheet : library_of [] ≡ none
no_sheet = rw table_none refl
