-- A snapshot and its row come back from each other. Assumes nothing.
use Prim.Native.Nat.{ℕ, ◌≤◌}
use mathlib.Core.Path.{◌≡◌, refl, sym, ap, ◌∙◌}
use mathlib.Core.List.{List}
use native.Mathlib.Omega.{arith}
use lib.ListN.{length, length-map}
use lib.Ieee.{binary32, to_bits}
use Rattle.std.specs.Prelude.{Option, None, Some, IfSome}
use Rattle.std.proofs.lemmas.List.Elements.{All-replicate}
use Rattle.std.proofs.lemmas.Option.{none-some}
use Rattle.any_filter.specs.Cases.{type_of}
use Rattle.any_filter.specs.Fields.{type_number, type_numbered, fields_of}
use Rattle.any_filter.specs.Binary32.{Representable}
use Rattle.any_filter.specs.Words.{WordsOf}
use Rattle.any_filter.specs.declared.Filter.{Filter}
use Rattle.any_filter.specs.declared.FilterType.{FilterType}
use Rattle.any_filter.proofs.Laws.{numbered, number_by, number_back, number_known, eight}
use Rattle.any_filter.proofs.Words.{filter_words_return}
use Rattle.heads.specs.declared.Snapshot.{Snapshot}
use Rattle.saved_heads.specs.Row.{filter_byte, filter_words, row_of, snapshot_by, snapshot_in}
use Rattle.saved_heads.specs.Rules.{RowRight}
use Rattle.heads.specs.Valid.{ValidSnapshot}
use Rattle.saved_heads.specs.declared.Row.{Row}
use Rattle.saved_heads.proofs.Bytes.{Small, Shaped}

-- only an empty head's filter byte is 0
pub byte_of_none : (f : Option Filter) → filter_byte f ≡ 0 → f ≡ None
byte_of_none None e = refl
byte_of_none (Some f) e = absurd (omega (arith, (number_known (type_of f)).0))

pub byte_known : (f : Option Filter) → filter_byte f ≤ 6
byte_known None = omega arith
byte_known (Some f) = (number_known (type_of f)).1

pub eight_words : (f : Option Filter) → length (filter_words f) ≡ 8
eight_words None = refl
eight_words (Some f) = length-map (fields_of f) (to_bits binary32) ∙ eight f

-- ---- a snapshot's row

module _ (h : ℕ) (s : Snapshot) (k : ValidSnapshot s) where
  abbrev with_filter : Option Filter → Snapshot
  with_filter f = record { filter = f; count = s.count }

  abbrev NoCount : Option Filter → Type 0
  NoCount f = f ≡ None → s.count ≡ 0

  pub snapshot_back : snapshot_in (row_of h s) ≡ s
  unfolding snapshot_in row_of
  snapshot_back = go s.filter k.representable k.no_count
    where
      go : (f : Option Filter) → IfSome f Representable → NoCount f → snapshot_in (row_of h (with_filter f)) ≡ with_filter f
      go None p z = rw (z refl) refl
      go (Some f) p z = rw (numbered (type_of f), filter_words_return.filter f p) refl

  pub row_shaped : Shaped (row_of h s)
  unfolding row_of
  row_shaped = go s.filter k.representable
    where
      go : (f : Option Filter) → IfSome f Representable → Shaped (row_of h (with_filter f))
      go None p = record { eight = refl; small = All-replicate Small 8 0 (omega arith); count = omega (arith, k.small) }
      go (Some f) p = let w = filter_words_return.of_filter f p in record { eight = w.eight; small = w.small; count = omega (arith, k.small) }

  pub row_right : RowRight (row_of h s)
  unfolding row_of
  row_right = go s.filter k.representable k.no_count
    where
      go : (f : Option Filter) → IfSome f Representable → NoCount f → RowRight (row_of h (with_filter f))
      go None p z = record { known = omega arith; words = tt; empty = λ e. (refl, z refl) }
      go (Some f) p z =
          let n = number_known (type_of f) in
          record {
            known = n.1;
            words = rw (numbered (type_of f)) (filter_words_return.of_filter f p);
            empty = λ e. absurd (omega (arith, n.0));
          }

-- ---- the snapshot of a row

module _ (r : Row) where
  row_is : {f : ℕ} {w : List ℕ} {c : ℕ} → f ≡ r.filter → w ≡ r.words → c ≡ r.count → record { head = r.head; filter = f; words = w; count = c } ≡ r
  row_is p q s = rw (p, q, s) refl

  pub row_back : RowRight r → Shaped r → row_of r.head (snapshot_in r) ≡ r
  unfolding snapshot_in row_of
  row_back t s = go (type_numbered r.filter) (number_back r.filter t.known) t.words
    where
      go : (n : Option FilterType) → number_by n ≡ r.filter → IfSome n (λ (k : FilterType). WordsOf k r.words) → row_of r.head (snapshot_by n r) ≡ r
      go None e w = let z = t.empty (sym e) in row_is e (sym z.0) (sym z.1)
      go (Some k) e w = row_is (ap type_number (filter_words_return.type k r.words) ∙ e) (filter_words_return.words k r.words w) refl

  pub valid_in : Shaped r → ValidSnapshot (snapshot_in r)
  unfolding snapshot_in
  valid_in s = go (type_numbered r.filter)
    where
      go : (n : Option FilterType) → ValidSnapshot (snapshot_by n r)
      go None = record { representable = tt; small = omega arith; no_count = λ e. refl }
      go (Some k) = record { representable = filter_words_return.held k r.words s.eight; small = omega (arith, s.count); no_count = λ e. absurd (none-some _ (sym e)) }

  -- where it holds nothing, the filter byte is 0
  pub empty_in : RowRight r → Shaped r → (snapshot_in r).filter ≡ None → r.filter ≡ 0
  unfolding row_of
  empty_in t s e = sym (ap (λ (x : Row). x.filter) (row_back t s)) ∙ ap filter_byte e
