-- Every head that calls lead to is valid, and a valid head is the picture of the history that it opens when it is restored. Assumes nothing.
use Prim.Native.Nat.{◌+◌}
use mathlib.Core.Path.{◌≡◌, refl, ap, subst}
use mathlib.Core.List.{List, [], ◌∷◌, map}
use native.Mathlib.Omega.{arith}
use lib.ListN.{length, get_or, length-map}
use Rattle.std.specs.Prelude.{Option, None, Some, IfSome}
use Rattle.std.specs.List.{All}
use Rattle.std.proofs.lemmas.List.Elements.{All-nil, All-cons, All-head, All-tail, All-map, All-weaker, All-take, All-push}
use Rattle.std.proofs.lemmas.List.{get_or_default}
use Rattle.filter_core.specs.Buffer.{within}
use Rattle.any_filter.specs.Binary32.{IsBinary32, Representable}
use Rattle.any_filter.specs.declared.Filter.{Filter}
use Rattle.heads.specs.Act.{Act, run, run_two, rest, mark, back, drop, count}
use Rattle.heads.specs.History.{Event, load_event, run_event, rest_event, restored_event, HeadHistory, adding, grown_by, type_from, since_from, samples_in, snapshot_from, snapshot_of}
use Rattle.heads.specs.Follows.{head_for, held, Good, SoundHead}
use Rattle.heads.specs.Binary32.{RepresentableEvent, RepresentableEvents, RepresentableSamples}
use Rattle.heads.specs.Valid.{ValidSnapshot, ValidMark, ValidHead, opened_by, restored_list, restored_history, RepresentableHead, HeadsValid}
use Rattle.heads.specs.declared.Snapshot.{Snapshot}
use Rattle.heads.specs.declared.Head.{Head}
use Rattle.heads.proofs.Counts.{count_is}
use Rattle.heads.proofs.Sound.{good_none, no_cons, no_events}
use Rattle.lists.proofs.Pieces.{all_get_or}
use Rattle.heads.proofs.Binary32.{held_of}

-- ---- of a restored snapshot

module _ (s : Snapshot) (k : ValidSnapshot s) where
  abbrev with_filter : Option Filter → Snapshot
  with_filter f = record { filter = f; count = s.count }

  restored_snapshot : snapshot_of (restored_list s) ≡ s
  unfolding snapshot_from
  restored_snapshot = go s.filter k.no_count
    where
      go : (f : Option Filter) → (f ≡ None → s.count ≡ 0) → snapshot_of (opened_by f s.count) ≡ with_filter f
      go None z = rw (z refl) refl
      go (Some f) z = refl

  restored_good : Good (restored_list s)
  unfolding snapshot_from type_from since_from samples_in
  restored_good = go s.filter
    where
      go : (f : Option Filter) → Good (opened_by f s.count)
      go None = good_none
      go (Some f) = record { fits = held refl; small = omega (arith, k.small) }

  restored_held : RepresentableEvents (restored_list s)
  restored_held = go s.filter k.representable
    where
      go : (f : Option Filter) → IfSome f Representable → RepresentableEvents (opened_by f s.count)
      go None h = All-nil RepresentableEvent
      go (Some f) h = All-cons RepresentableEvent (restored_event f s.count) [] h (All-nil RepresentableEvent)

-- the list is empty where nothing is held, and nowhere else
empty_list : (s : Snapshot) → restored_list s ≡ [] → s.filter ≡ None
empty_list s = go s.filter
  where
    go : (f : Option Filter) → opened_by f s.count ≡ [] → f ≡ None
    go None e = refl
    go (Some f) e = absurd (no_cons e)

filled_list : (s : Snapshot) → ValidMark s → restored_list s ≡ [] → ⊥
filled_list s k e = k.filled (empty_list s e)

-- ---- of a restored head

module _ (x : Head) (k : ValidHead x) where
  same_marks : map snapshot_of (map restored_list x.marks.items) ≡ x.marks.items
  same_marks = go x.marks.items k.marks
    where
      go : (ms : List Snapshot) → All ValidMark ms → map snapshot_of (map restored_list ms) ≡ ms
      go [] h = refl
      go (m ∷ ms) h = cc (restored_snapshot m (All-head ValidMark m ms h).valid, go ms (All-tail ValidMark m ms h))

  restored : head_for (restored_history x) ≡ x
  restored = rw (restored_snapshot x.now k.now, same_marks) refl

  -- what holds of the list of each mark
  each_list : (P : List Event → Type 0) → ((s : Snapshot) → ValidMark s → P (restored_list s)) → All P (map restored_list x.marks.items)
  each_list P f = All-map P restored_list x.marks.items (All-weaker ValidMark (λ s. P (restored_list s)) f x.marks.items k.marks)

  sound : SoundHead (restored_history x)
  sound =
      record {
        good = restored_good x.now k.now;
        goods = λ m. all_get_or Good (map restored_list x.marks.items) m [] good_none (each_list Good (λ s h. restored_good s h.valid));
        four = rw (length-map x.marks.items restored_list) k.few;
        filled = each_list (λ l. l ≡ [] → ⊥) filled_list;
        of_empty = λ e. ap (map restored_list) (k.of_empty (empty_list x.now e));
      }

  held_head : RepresentableHead (restored_history x)
  held_head = record { history = restored_held x.now k.now; checkpoints = each_list RepresentableEvents (λ s h. restored_held s h.valid) }

-- ---- of a head that calls lead to

valid_snapshot : (l : List Event) → Good l → RepresentableEvents l → ValidSnapshot (snapshot_of l)
unfolding snapshot_from
valid_snapshot l g h =
    record {
      representable = held_of l h;
      small = rw count_is g.small;
      no_count = λ e. ap (λ (m : List Event). (snapshot_of m).count) (no_events l _ g.fits e);
    }

valid_mark : (l : List Event) → Good l → RepresentableEvents l → (l ≡ [] → ⊥) → ValidMark (snapshot_of l)
valid_mark l g h f = record { valid = valid_snapshot l g h; filled = λ e. f (no_events l _ g.fits e) }

valid : (x : HeadHistory) → SoundHead x → RepresentableHead x → ValidHead (head_for x)
valid x S h =
    record {
      now = valid_snapshot x.history S.good h.history;
      few = rw (length-map x.checkpoints snapshot_of) S.four;
      marks =
          All-map ValidMark snapshot_of x.checkpoints
          (λ i d l. valid_mark (get_or x.checkpoints i d) (subst Good (get_or_default x.checkpoints i [] d l) (S.goods i)) (h.checkpoints i d l) (S.filled i d l));
      of_empty = λ e. ap (map snapshot_of) (S.of_empty (no_events x.history _ S.good.fits e));
    }

-- ---- what calls add to histories that are held

module _ (x : HeadHistory) (h : RepresentableHead x) where
  held_adding : (i : Event) → RepresentableEvent i → RepresentableHead (adding x i)
  held_adding i q = record { history = All-push RepresentableEvent x.history i h.history q; checkpoints = h.checkpoints }

  held_grown : (a : Act) → RepresentableSamples a → RepresentableHead (grown_by x a)
  held_grown (run form us ys) q = held_adding (run_event form (within us ys)) (All-take IsBinary32 (length ys) us q)
  held_grown (run_two form us ys zs) q =
      held_adding (run_event form (within (within us ys) zs)) (All-take IsBinary32 (length zs) (within us ys) (All-take IsBinary32 (length ys) us q))
  held_grown rest q = held_adding rest_event tt
  held_grown mark q = record { history = h.history; checkpoints = All-push RepresentableEvents x.checkpoints x.history h.checkpoints h.history }
  held_grown (back m) q = record { history = all_get_or RepresentableEvents x.checkpoints m [] (All-nil RepresentableEvent) h.checkpoints; checkpoints = All-take RepresentableEvents (m + 1) x.checkpoints h.checkpoints }
  held_grown (drop m) q = record { history = h.history; checkpoints = All-take RepresentableEvents m x.checkpoints h.checkpoints }
  held_grown count q = h

pub heads_valid : HeadsValid
heads_valid =
    record {
      valid = valid;
      restored = restored;
      sound = sound;
      representable = held_head;
      fresh = record { history = All-nil RepresentableEvent; checkpoints = All-nil RepresentableEvents };
      grown = λ x a h q. held_grown x h a q;
      load = λ x e h. held_adding x h (load_event e) tt;
    }
