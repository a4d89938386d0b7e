-- A filter and its words come back from each other. Assumes nothing.
use Prim.Native.Nat.{ℕ, zero, suc, ◌-◌, ◌<◌}
use mathlib.Core.Path.{◌≡◌, refl, sym, ap, ◌∙◌}
use mathlib.Core.Bool.{Bool, true, false, cond}
use mathlib.Core.List.{List, [], ◌∷◌, ◌++◌, map}
use native.Mathlib.Omega.{arith}
use borrow.Author.Tests.{clash}
use lib.Dec.{eqb}
use lib.Ieee.{Float, nan, inf, fin, binary32, is_nan, of_bits, to_bits}
use lib.Ieee.Bits.{of_bits-to_bits, to_bits-lt, of_bits-fits}
use lib.ListN.{length, get_or, take, drop, replicate, length-map, take-append-drop}
use lib.Seq.{drop-cons}
use Rattle.std.specs.List.{All}
use Rattle.std.proofs.lemmas.List.{drop_all, take-map, map-append}
use Rattle.std.proofs.lemmas.List.Elements.{All-head, All-tail, All-map, All-weaker, All-append, All-take, All-replicate}
use Rattle.filter_core.specs.Arithmetic.{word, zeroᶠ}
use Rattle.filter_core.specs.Fields.{field}
use Rattle.words.specs.Word.{written_nan, other_nan}
use Rattle.words.proofs.Words.{comes_back}
use Rattle.any_filter.specs.Cases.{type_of}
use Rattle.any_filter.specs.Fields.{field_count, fields_of, filter_from}
use Rattle.any_filter.specs.Binary32.{IsBinary32, AllBinary32, Representable}
use Rattle.any_filter.specs.Words.{words_of, filter_of_words, WordsOf, FilterWordsReturn}
use Rattle.any_filter.specs.declared.FilterType.{FilterType}
use Rattle.any_filter.specs.declared.FilterType.TheVariants as type
use Rattle.any_filter.specs.declared.Filter.{Filter}
use Rattle.any_filter.specs.declared.Filter.TheVariants.{DcBlocker, OnePole, Svf, NaiveSvf, ModifiedSvf, CrossoverSvf}
use Rattle.any_filter.proofs.Laws.{comes_back as filter_back, numbered, eight}

-- ---- fields, of a filter that was made from eight numbers

eight_of : (v : List Float) → length v ≡ 8 → field v 0 ∷ field v 1 ∷ field v 2 ∷ field v 3 ∷ field v 4 ∷ field v 5 ∷ field v 6 ∷ field v 7 ∷ [] ≡ v
eight_of v l =
    sym
    (from 0 (omega arith)
    ∙ ap (at 0)
    (from 1 (omega arith)
    ∙ ap (at 1)
    (from 2 (omega arith)
    ∙ ap (at 2)
    (from 3 (omega arith)
    ∙ ap (at 3)
    (from 4 (omega arith) ∙ ap (at 4) (from 5 (omega arith) ∙ ap (at 5) (from 6 (omega arith) ∙ ap (at 6) (from 7 (omega arith) ∙ ap (at 7) none))))))))
  where
    at : ℕ → List Float → List Float
    at i t = field v i ∷ t

    from : (i : ℕ) → i < 8 → drop i v ≡ field v i ∷ drop (suc i) v
    from i h = drop-cons v i nan (omega arith)

    none : drop 8 v ≡ []
    none = drop_all 8 v (omega arith)

fields_from : (k : FilterType) (v : List Float) → length v ≡ 8 → fields_of (filter_from k v) ≡ take (field_count k) v ++ replicate (8 - field_count k) zeroᶠ
fields_from k v l = go k (eight_of v l)
  where
    go : (k : FilterType) → field v 0 ∷ field v 1 ∷ field v 2 ∷ field v 3 ∷ field v 4 ∷ field v 5 ∷ field v 6 ∷ field v 7 ∷ [] ≡ v → fields_of (filter_from k v) ≡ take (field_count k) v ++ replicate (8 - field_count k) zeroᶠ
    go type.DcBlocker e = ap (λ (t : List Float). take 3 t ++ replicate 5 zeroᶠ) e
    go type.OnePole e = ap (λ (t : List Float). take 3 t ++ replicate 5 zeroᶠ) e
    go type.Svf e = ap (λ (t : List Float). take 5 t ++ replicate 3 zeroᶠ) e
    go type.NaiveSvf e = ap (λ (t : List Float). take 4 t ++ replicate 4 zeroᶠ) e
    go type.ModifiedSvf e = ap (λ (t : List Float). take 5 t ++ replicate 3 zeroᶠ) e
    go type.CrossoverSvf e = ap (λ (t : List Float). take 8 t ++ replicate 0 zeroᶠ) e

type_from : (k : FilterType) (v : List Float) → type_of (filter_from k v) ≡ k
type_from type.DcBlocker v = refl
type_from type.OnePole v = refl
type_from type.Svf v = refl
type_from type.NaiveSvf v = refl
type_from type.ModifiedSvf v = refl
type_from type.CrossoverSvf v = refl

-- ---- numbers and words

floats_back : (v : List Float) → AllBinary32 v → map word (map (to_bits binary32) v) ≡ v
floats_back [] h = refl
floats_back (x ∷ v) h = cc (of_bits-to_bits binary32 x (All-head IsBinary32 x v h), floats_back v (All-tail IsBinary32 x v h))

abbrev Small : ℕ → Type 0
Small n = n < 4294967296

abbrev NoOther : ℕ → Type 0
NoOther n = other_nan n ≡ false

words_back : (w : List ℕ) → All Small w → All NoOther w → map (to_bits binary32) (map word w) ≡ w
words_back [] h g = refl
words_back (n ∷ w) h g =
    cc (comes_back n (All-head Small n w h) (All-head NoOther n w g), words_back w (All-tail Small n w h) (All-tail NoOther n w g))

zero_word : to_bits binary32 zeroᶠ ≡ 0
unfolding is_nan of_bits
zero_word = comes_back 0 (omega arith) refl

zeros_back : (n : ℕ) → map (to_bits binary32) (replicate n zeroᶠ) ≡ replicate n 0
zeros_back zero = refl
zeros_back (suc n) = cc (zero_word, zeros_back n)

is_written : (x : Float) → is_nan x ≡ true → to_bits binary32 x ≡ written_nan
unfolding is_nan to_bits
is_written nan e = refl
is_written (inf s) e = absurd (clash e)
is_written (fin s m d) e = absurd (clash e)

-- the word of a number that binary32 holds is no other NaN
no_other : (x : Float) → IsBinary32 x → NoOther (to_bits binary32 x)
no_other x h = go (is_nan x) refl
  where
    never : (b : Bool) → cond b false false ≡ false
    never true = refl
    never false = refl

    go : (b : Bool) → is_nan x ≡ b → NoOther (to_bits binary32 x)
    go true q = rw (is_written x q) refl
    go false q = rw (of_bits-to_bits binary32 x h, q) (never (eqb (to_bits binary32 x) written_nan))

-- ---- the statements

module _ (k : FilterType) (w : List ℕ) where
  abbrev v : List Float
  v = map word w

  long : length w ≡ 8 → length v ≡ 8
  long e = length-map w word ∙ e

  words : WordsOf k w → words_of (filter_of_words k w) ≡ w
  words h =
      let n = field_count k in
      ap (map (to_bits binary32)) (fields_from k v (long h.eight))
      ∙ map-append (to_bits binary32) (take n v) (replicate (8 - n) zeroᶠ)
      ∙ ap (λ (t : List ℕ). map (to_bits binary32) (take n v) ++ t) (zeros_back (8 - n) ∙ sym h.unused)
      ∙ rw (← take-map (to_bits binary32) n v, words_back w h.small h.nan) (take-append-drop n w)

  held : length w ≡ 8 → Representable (filter_of_words k w)
  held e =
      rw (fields_from k v (long e))
      (All-append IsBinary32 (take (field_count k) v) (replicate (8 - field_count k) zeroᶠ)
      (All-take IsBinary32 (field_count k) v (All-map IsBinary32 word w (λ i d l. of_bits-fits binary32 (get_or w i d))))
      (All-replicate IsBinary32 (8 - field_count k) zeroᶠ (of_bits-fits binary32 0)))

unused : (f : Filter) → drop (field_count (type_of f)) (words_of f) ≡ replicate (8 - field_count (type_of f)) 0
unused (DcBlocker s) = rw zero_word refl
unused (OnePole s) = rw zero_word refl
unused (Svf s) = rw zero_word refl
unused (NaiveSvf s) = rw zero_word refl
unused (ModifiedSvf s) = rw zero_word refl
unused (CrossoverSvf p) = refl

module _ (f : Filter) (h : Representable f) where
  filter : filter_of_words (type_of f) (words_of f) ≡ f
  filter = ap (filter_from (type_of f)) (floats_back (fields_of f) h) ∙ filter_back f

  of_filter : WordsOf (type_of f) (words_of f)
  of_filter =
      record {
        eight = length-map (fields_of f) (to_bits binary32) ∙ eight f;
        small = All-map Small (to_bits binary32) (fields_of f) (All-weaker IsBinary32 (λ x. Small (to_bits binary32 x)) (to_bits-lt binary32) (fields_of f) h);
        nan = All-map NoOther (to_bits binary32) (fields_of f) (All-weaker IsBinary32 (λ x. NoOther (to_bits binary32 x)) no_other (fields_of f) h);
        unused = unused f;
      }

pub filter_words_return : FilterWordsReturn
filter_words_return = record { filter = filter; words = words; number = numbered; of_filter = of_filter; type = λ k w. type_from k (map word w); held = held }
