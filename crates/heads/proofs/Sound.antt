-- What holds of every history that calls make: the filter that it leads to is of the type that it names, its count is one of 32 bits, and no
-- head has more than four checkpoints. Assumes nothing.
use Prim.Native.Nat.{ℕ, zero, suc, ◌+◌, ◌≤◌, ◌<◌}
use mathlib.Core.Path.{◌≡◌, refl, sym, ap, ◌∙◌}
use mathlib.Core.Bool.{Bool, true, false, cond}
use mathlib.Core.List.{List, [], ◌∷◌, ◌++◌}
use native.Mathlib.Omega.{arith}
use borrow.Author.Tests.{ltb-false, leb-false, eqb-true}
use lib.ListN.{length, get_or, take, length-append, length-take}
use lib.Seq.{take-nil}
use lib.Dec.{eqb, ltb, leb}
use lib.Ieee.{Float}
use Rattle.std.proofs.lemmas.List.Elements.{All-nil, All-take, All-push, All-get_or}
use Rattle.std.proofs.lemmas.Option.{none-some}
use Rattle.filter_core.specs.Buffer.{within}
use Rattle.sheets.specs.declared.entry.Entry.{Entry}
use Rattle.any_filter.specs.Cases.{type_of, rested}
use Rattle.any_filter.specs.declared.FilterType.{FilterType}
use Rattle.any_filter.specs.declared.FilterType.TheVariants as type
use Rattle.any_filter.specs.declared.Filter.{Filter}
use Rattle.any_filter.specs.declared.Filter.TheVariants.{DcBlocker, OnePole, Svf, NaiveSvf, ModifiedSvf, CrossoverSvf}
use Rattle.runs.specs.Form.{run_refusal, run_two_refusal}
use Rattle.runs.specs.Run.{through}
use Rattle.runs.specs.declared.form.RunForm.{RunForm}
use Rattle.heads.specs.Act.{Act, run, run_two, rest, mark, back, drop, count}
use Rattle.heads.specs.Snapshot.{greatest_count, run_number}
use Rattle.heads.specs.History.{Event, load_event, run_event, rest_event, HeadHistory, no_history, type_with, type_from, last_type, since_from, samples_in, count_of, count_with, unless_bare, no_mark, act_number, adding, grown_by, advance_by, filter_with, snapshot_with, snapshot_from, snapshot_of}
use Rattle.heads.specs.Follows.{Fits, bare, held, Good, SoundHead}
use Rattle.heads.proofs.Counts.{run_zero, count_snoc}
use Rattle.std.specs.Prelude.{Option, None, Some}
use Rattle.heads.specs.declared.Snapshot.{Snapshot}

-- ---- histories joined, and with one event more

pub snapshot_append : (s : Snapshot) (l m : List Event) → snapshot_from s (l ++ m) ≡ snapshot_from (snapshot_from s l) m
unfolding snapshot_from
snapshot_append s [] m = refl
snapshot_append s (i ∷ l) m = snapshot_append (snapshot_with s i) l m

pub snapshot_snoc : (s : Snapshot) (l : List Event) (i : Event) → snapshot_from s (l ++ i ∷ []) ≡ snapshot_with (snapshot_from s l) i
unfolding snapshot_from
snapshot_snoc s l i = snapshot_append s l (i ∷ [])

type_snoc : (k : FilterType) (l : List Event) (i : Event) → type_from k (l ++ i ∷ []) ≡ type_with (type_from k l) i
unfolding type_from
type_snoc k [] i = refl
type_snoc k (j ∷ l) i = type_snoc (type_with k j) l i

-- ---- filters keep their type

pub type_through : (f : Filter) (form : RunForm) (us : List Float) → type_of (through f form us) ≡ type_of f
unfolding through
type_through (DcBlocker s) form us = refl
type_through (OnePole s) form us = refl
type_through (Svf s) form us = refl
type_through (NaiveSvf s) form us = refl
type_through (ModifiedSvf s) form us = refl
type_through (CrossoverSvf p) form us = refl

pub type_rested : (f : Filter) → type_of (rested f) ≡ type_of f
type_rested (DcBlocker s) = refl
type_rested (OnePole s) = refl
type_rested (Svf s) = refl
type_rested (NaiveSvf s) = refl
type_rested (ModifiedSvf s) = refl
type_rested (CrossoverSvf p) = refl

-- a good history without a filter is empty
pub no_events : (l : List Event) (σ : Option Filter) → Fits l σ → σ ≡ None → l ≡ []
no_events [] None bare e = refl
no_events (i ∷ l) (Some f) (held q) e = absurd (none-some f (sym e))
no_events [] (Some f) g e = elim g [ ]
no_events (i ∷ l) None g e = elim g [ ]

-- ---- a history stays good

pub good_none : Good []
unfolding snapshot_from since_from samples_in
good_none = record { fits = bare; small = omega arith }

fits_load : (l : List Event) (e : Entry) → Fits (l ++ load_event e ∷ []) (snapshot_of (l ++ load_event e ∷ [])).filter
unfolding type_from
fits_load [] e = rw snapshot_snoc (held refl)
fits_load (j ∷ l) e = rw snapshot_snoc (held (sym (type_snoc type.DcBlocker (j ∷ l) (load_event e))))

good_load : (l : List Event) (e : Entry) → Good (l ++ load_event e ∷ [])
good_load l e = record { fits = fits_load l e; small = omega (arith, count_snoc l (load_event e)) }

-- an event that names no type, on a history that is not empty
module _ (i : Event) (names-none : (k : FilterType) → type_with k i ≡ k)
    (step : Filter → Filter) (moves : (f : Filter) → filter_with (Some f) i ≡ Some (step f)) (keeps : (f : Filter) → type_of (step f) ≡ type_of f) where
  fits_same : (j : Event) (l : List Event) (σ : Option Filter) → Fits (j ∷ l) σ → Fits (j ∷ l ++ i ∷ []) (filter_with σ i)
  fits_same j l (Some f) (held e) =
      rw (moves f) (held (keeps f ∙ e ∙ sym (type_snoc type.DcBlocker (j ∷ l) i ∙ names-none (last_type (j ∷ l)))))
  fits_same j l None h = elim h [ ]

  fits_next : (l : List Event) (n : ℕ) → unless_bare l n ≡ 0 → Good l → Fits (l ++ i ∷ []) (snapshot_of (l ++ i ∷ [])).filter
  fits_next [] n q g = absurd (omega arith)
  fits_next (j ∷ l) n q g = rw snapshot_snoc (fits_same j l (snapshot_of (j ∷ l)).filter g.fits)

  good_next : (l : List Event) (n : ℕ) → unless_bare l n ≡ 0 → count_with (count_of l) i ≤ greatest_count → Good l → Good (l ++ i ∷ [])
  good_next l n q s g = record { fits = fits_next l n q g; small = rw count_snoc s }

-- a number behind that of an empty head
past_bare : (l : List Event) (n : ℕ) → unless_bare l n ≡ 0 → n ≡ 0
past_bare [] n q = absurd (omega arith)
past_bare (i ∷ l) n q = q

-- a is the number of the form
good_run : (l : List Event) (form : RunForm) (us : List Float) (a : ℕ) → unless_bare l (run_number a (count_of l) (length us)) ≡ 0 → Good l
    → Good (l ++ run_event form us ∷ [])
good_run l form us a q g =
    good_next (run_event form us) (λ k. refl) (λ f. through f form us) (λ f. refl) (λ f. type_through f form us) l _ q
    (run_zero a (count_of l) (length us) (past_bare l _ q)).1 g

good_rest : (l : List Event) (n : ℕ) → unless_bare l n ≡ 0 → Good l → Good (l ++ rest_event ∷ [])
good_rest l n q g = good_next rest_event (λ k. refl) rested (λ f. refl) type_rested l n q g.small g

goods_snoc : (r : List (List Event)) (l : List Event) → ((m : ℕ) → Good (get_or r m [])) → Good l → (m : ℕ) → Good (get_or (r ++ l ∷ []) m [])
goods_snoc [] l g e zero = e
goods_snoc [] l g e (suc m) = good_none
goods_snoc (x ∷ r) l g e zero = g 0
goods_snoc (x ∷ r) l g e (suc m) = goods_snoc r l (λ i. g (suc i)) e m

goods_take : (n : ℕ) (r : List (List Event)) → ((m : ℕ) → Good (get_or r m [])) → (m : ℕ) → Good (get_or (take n r) m [])
goods_take zero r g m = good_none
goods_take (suc n) [] g m = good_none
goods_take (suc n) (x ∷ r) g zero = g 0
goods_take (suc n) (x ∷ r) g (suc m) = goods_take n r (λ i. g (suc i)) m

-- ---- an accepted call keeps its head sound

-- a mark is accepted only up to a limit
up_to : (k n r : ℕ) (l : List Event) → unless_bare l (cond (ltb k n) (suc r) 0) ≡ 0 → n ≤ k
up_to k n r l e = go (ltb k n) refl (past_bare l _ e)
  where
    go : (b : Bool) → ltb k n ≡ b → cond {A = ℕ} b (suc r) 0 ≡ 0 → n ≤ k
    go true q e = absurd (omega arith)
    go false q e = ltb-false k n q

pub no_cons : {A : Type 0} {x : A} {l : List A} → x ∷ l ≡ [] → ⊥
no_cons e = let z = ap length e in omega arith

-- an event added leaves no empty history
added : (l : List Event) (i : Event) → l ++ i ∷ [] ≡ [] → ⊥
added [] i e = no_cons e
added (j ∷ l) i e = no_cons e

abbrev Filled : List Event → Type 0
Filled l = l ≡ [] → ⊥

not_bare : (l : List Event) (n : ℕ) → unless_bare l n ≡ 0 → Filled l
not_bare [] n q e = absurd (omega arith)
not_bare (i ∷ l) n q e = no_cons e

sound_adding : (x : HeadHistory) (i : Event) → SoundHead x → Good (x.history ++ i ∷ []) → SoundHead (adding x i)
sound_adding x i S g = record { good = g; goods = S.goods; four = S.four; filled = S.filled; of_empty = λ e. absurd (added x.history i e) }

-- fewer checkpoints
sound_taken : (x : HeadHistory) (l : List Event) (n : ℕ) → SoundHead x → Good l → (l ≡ [] → x.checkpoints ≡ []) → SoundHead (record { history = l; checkpoints = take n x.checkpoints })
sound_taken x l n S g e =
    record {
      good = g;
      goods = goods_take n x.checkpoints S.goods;
      four = omega (arith, length-take n x.checkpoints, S.four);
      filled = All-take Filled n x.checkpoints S.filled;
      of_empty = λ z. ap (take n) (e z) ∙ take-nil n;
    }

sound_marked : (x : HeadHistory) → SoundHead x → act_number x mark ≡ 0 → SoundHead (grown_by x mark)
sound_marked x S q =
    let f = not_bare x.history _ q in
    record {
      good = S.good;
      goods = goods_snoc x.checkpoints x.history S.goods S.good;
      four = omega (arith, length-append x.checkpoints (x.history ∷ []), up_to _ (length x.checkpoints) _ x.history q);
      filled = All-push Filled x.checkpoints x.history S.filled f;
      of_empty = λ e. absurd (f e);
    }

-- mark m is there
there : (x : HeadHistory) (m : ℕ) → no_mark x m ≡ 0 → m < length x.checkpoints
there x m q = go (leb (length x.checkpoints) m) refl q
  where
    go : (b : Bool) → leb (length x.checkpoints) m ≡ b → cond {A = ℕ} b 7 0 ≡ 0 → m < length x.checkpoints
    go true e q = absurd (omega arith)
    go false e q = leb-false (length x.checkpoints) m e

pub sound_grown : (x : HeadHistory) (a : Act) → SoundHead x → act_number x a ≡ 0 → SoundHead (grown_by x a)
sound_grown x (run form us ys) S q = sound_adding x _ S (good_run x.history form (within us ys) (run_refusal (last_type x.history) form) q S.good)
sound_grown x (run_two form us ys zs) S q =
    sound_adding x _ S (good_run x.history form (within (within us ys) zs) (run_two_refusal (last_type x.history) form) q S.good)
sound_grown x rest S q = sound_adding x rest_event S (good_rest x.history _ q S.good)
sound_grown x mark S q = sound_marked x S q
sound_grown x (back m) S q = sound_taken x _ (m + 1) S (S.goods m) (λ e. absurd (All-get_or Filled x.checkpoints m [] (there x m q) S.filled e))
sound_grown x (drop m) S q = sound_taken x x.history m S S.good S.of_empty
sound_grown x count S q = S

pub sound_advance : (x : HeadHistory) (a : Act) → SoundHead x → SoundHead (advance_by x a)
unfolding advance_by
sound_advance x a S = go (eqb (act_number x a) 0) refl
  where
    go : (b : Bool) → eqb (act_number x a) 0 ≡ b → SoundHead (cond b (grown_by x a) x)
    go true q = sound_grown x a S (eqb-true _ _ q)
    go false q = S

pub sound_loaded : (x : HeadHistory) (e : Entry) → SoundHead x → SoundHead (adding x (load_event e))
sound_loaded x e S = sound_adding x (load_event e) S (good_load x.history e)

pub sound_none : SoundHead no_history
sound_none = record { good = good_none; goods = λ m. good_none; four = omega arith; filled = All-nil Filled; of_empty = λ e. refl }
