-- A filter as eight words of binary32: its fields' bits, every NaN as the one that is written.
use Rattle.std.specs.Prelude.{ℕ, ◌-◌, ◌<◌, ◌≡◌, false, List, length, drop, map, replicate, Some}
use Rattle.std.specs.Float.{binary32}
use Rattle.std.specs.Float.Ieee.{of_bits, to_bits}
use Rattle.std.specs.List.{All}
use Rattle.words.specs.Word.{other_nan}
use Rattle.any_filter.specs.Cases.{type_of}
use Rattle.any_filter.specs.Fields.{type_number, type_numbered, field_count, fields_of, filter_from}
use Rattle.any_filter.specs.Binary32.{Representable}
use Rattle.any_filter.specs.declared.FilterType.{FilterType}
use Rattle.any_filter.specs.declared.Filter.{Filter}

abbrev pub words_of : Filter → List ℕ
words_of f = map (to_bits binary32) (fields_of f)

abbrev pub filter_of_words : FilterType → List ℕ → Filter
filter_of_words k w = filter_from k (map (of_bits binary32) w)

-- ---- and back

-- words that a filter of the type k can have: eight of 32 bits, with zeros behind the fields, and of the NaNs only the written one
pub record WordsOf (k : FilterType) (w : List ℕ) : Type 0 where
  pub eight : length w ≡ 8
  pub small : All (λ (n : ℕ). n < 4294967296) w
  pub nan : All (λ (n : ℕ). other_nan n ≡ false) w
  pub unused : drop (field_count k) w ≡ replicate (8 - field_count k) 0

pub record FilterWordsReturn : Type 0 where
  pub filter : (f : Filter) → Representable f → filter_of_words (type_of f) (words_of f) ≡ f
  pub words : (k : FilterType) (w : List ℕ) → WordsOf k w → words_of (filter_of_words k w) ≡ w
  -- a type comes back from its number
  pub number : (k : FilterType) → type_numbered (type_number k) ≡ Some k
  -- a filter's words are such words, and words make a filter of their type that binary32 holds
  pub of_filter : (f : Filter) → Representable f → WordsOf (type_of f) (words_of f)
  pub type : (k : FilterType) (w : List ℕ) → type_of (filter_of_words k w) ≡ k
  pub held : (k : FilterType) (w : List ℕ) → length w ≡ 8 → Representable (filter_of_words k w)
