-- Saving over every list of calls. Assumes nothing.
use Prim.Native.Nat.{ℕ, ◌+◌, ◌*◌, ◌<◌}
use mathlib.Core.Path.{◌≡◌, refl, sym, ap, subst, ◌∙◌}
use mathlib.Core.Bool.{Bool, true, false, cond}
use mathlib.Core.List.{List, [], ◌∷◌, ◌++◌, append_assoc, append-nil}
use native.Mathlib.Nat.{min-zero}
use native.Mathlib.Omega.{arith}
use borrow.Author.Tests.{clash}
use lib.Dec.{eqb, ltb}
use lib.ListN.{length, drop, drop_of_length-le, length-append}
use Rattle.lists.specs.Over.{room}
use Rattle.lists.proofs.Over.{over_past}
use Rattle.filter_core.specs.Rows.{◌then◌}
use Rattle.filter_core.proofs.Rows.{Step, yes, no}
use Rattle.library.specs.Library.{count, write_number}
use Rattle.library.specs.declared.Library.{Library}
use Rattle.saves.specs.declared.Save.{Save}
use Rattle.saves.specs.Save.{zero_bytes, left_of}
use Rattle.saves.proofs.Rows.{unfinished_step, finished_step}
use Rattle.saves.proofs.Parts.{parts, begin_refused, none_left}
use Rattle.frame.specs.Call.{Call, opening, writing, loading, at, beginning, taking, at_rota, saving_heads, restoring_heads, number_in, wrote}
use Rattle.frame.specs.Calls.{Done, with_save, perform}
use Rattle.frame.specs.History.{Histories, no_histories, call_number, grown, advance, advance_all}
use Rattle.frame.specs.Demand.{frame_after}
use Rattle.frame.specs.Saves.{is_begin_or_take, written_count, part_in, parts_from, NoneBegun, no_call, refused_begin, other_call, Joined, begun_after, sheet_after, Saving}
use Rattle.frame.proofs.Sound.{Sound, sound_all, sound_none}
use Rattle.frame.proofs.Picture.{cond_out, begun_save, frame_for}
use Rattle.frame.proofs.Upholds.{after_calls}
use Rattle.frame.proofs.Apart.{Sort, begins, takes, feeds, neither, sort_of, beside_save, beside_left}
use Rattle.frame.proofs.Without.{Part, kept, frame_step, frame_without, replies_without, histories_without}
use Rattle.frame.specs.declared.Frame.{Frame}

-- ---- beside another save, the other calls do the same

aside_by : (f : Frame) (v : Save) {c : Call} → Sort c → is_begin_or_take c ≡ false → perform (with_save f v) c ≡ record { reply = (perform f c).reply; frame = with_save (perform f c).frame v }
unfolding perform
aside_by f v begins q = absurd (clash (sym q))
aside_by f v (takes out) q = absurd (clash (sym q))
aside_by f v (feeds c) q = refl
aside_by f v (neither {c} s n m) q = beside_save f v c s

aside : (f : Frame) (v : Save) (c : Call) → is_begin_or_take c ≡ false → perform (with_save f v) c ≡ record { reply = (perform f c).reply; frame = with_save (perform f c).frame v }
aside f v c = aside_by f v (sort_of c)

-- ---- a list without its begins and takes

-- a begin and a take change the save alone
alone : (f : Frame) {c : Call} → Sort c → is_begin_or_take c ≡ true → (perform f c).frame ≡ with_save f (perform f c).frame.save
unfolding perform
alone f begins q = refl
alone f (takes out) q = refl
alone f (feeds c) q = absurd (clash q)
alone f (neither s n m) q = absurd (clash (sym n ∙ q))

the_save : Part is_begin_or_take frame_step with_save (λ f. f.save)
the_save =
    record {
      got = λ f v. refl;
      again = λ f v w. refl;
      as_is = λ f. refl;
      others = λ f v c q. ap (λ (d : Done). d.frame) (aside f v c q);
      those = λ f c. alone f (sort_of c);
    }

-- ---- the same of the histories

-- with another list of bytes that are left
abbrev with_bytes : Histories → List ℕ → Histories
with_bytes H l = record H { left = l }

module _ (H : Histories) where
  aside_in : (l : List ℕ) {c : Call} → Sort c → is_begin_or_take c ≡ false → advance (with_bytes H l) c ≡ with_bytes (advance H c) l
  unfolding advance call_number
  aside_in l begins q = absurd (clash (sym q))
  aside_in l (takes out) q = absurd (clash (sym q))
  aside_in l (feeds c) q = cond_out (λ G. with_bytes G l) (eqb (call_number H (at_rota c)) 0) (grown H (at_rota c)) H
  aside_in l (neither {c} s n m) q = beside_left H l c s

  only_left : (b : Bool) (l : List ℕ) → cond b (with_bytes H l) H ≡ with_bytes H (cond b (with_bytes H l) H).left
  only_left true l = refl
  only_left false l = refl

  alone_in : {c : Call} → Sort c → is_begin_or_take c ≡ true → advance H c ≡ with_bytes H (advance H c).left
  unfolding advance
  alone_in begins q = only_left (eqb (call_number H beginning) 0) H.sheet
  alone_in (takes out) q = only_left (eqb (call_number H (taking out)) 0) (drop (room 0 H.left out) H.left)
  alone_in (feeds c) q = absurd (clash q)
  alone_in (neither s n m) q = absurd (clash (sym n ∙ q))

left_in : Part is_begin_or_take advance with_bytes (λ H. H.left)
left_in =
    record {
      got = λ H l. refl;
      again = λ H l m. refl;
      as_is = λ H. refl;
      others = λ H l c. aside_in H l (sort_of c);
      those = λ H c. alone_in H (sort_of c);
    }

-- ---- the parts

-- what a call hands out, with what it leaves, is what was left
abbrev Part_of : Frame → Call → Type 0
Part_of f c = part_in c (perform f c).reply ++ left_of (perform f c).frame.save ≡ left_of f.save

part_refused : (f : Frame) → (number_in (perform f beginning).reply ≡ 0 → ⊥) → Part_of f beginning
unfolding perform
part_refused f z = ap left_of (begin_refused f.save f.library z)

part_taken : (f : Frame) (out : List ℕ) → Part_of f (taking out)
unfolding perform
part_taken f out = (parts.part f.save out).joined

part_other : (f : Frame) (c : Call) → (c ≡ beginning → ⊥) → Part_of f c
part_other f (opening s) z = ap left_of (kept the_save f (opening s) refl)
part_other f (writing out) z = ap left_of (kept the_save f (writing out) refl)
part_other f (loading h e) z = ap left_of (kept the_save f (loading h e) refl)
part_other f (at h a) z = ap left_of (kept the_save f (at h a) refl)
part_other f beginning z = absurd (z refl)
part_other f (taking out) z = part_taken f out
part_other f (at_rota c) z = ap left_of (kept the_save f (at_rota c) refl)
part_other f (saving_heads out) z = ap left_of (kept the_save f (saving_heads out) refl)
part_other f (restoring_heads b) z = ap left_of (kept the_save f (restoring_heads b) refl)

joined_first : (f : Frame) (c : Call) (cs : List Call) → Part_of f c
    → parts_from (perform f c).frame cs ++ left_of (frame_after (perform f c).frame cs).save ≡ left_of (perform f c).frame.save
    → parts_from f (c ∷ cs) ++ left_of (frame_after f (c ∷ cs)).save ≡ left_of f.save
unfolding parts_from frame_after
joined_first f c cs p j =
    append_assoc (part_in c (perform f c).reply) (parts_from (perform f c).frame cs) (left_of (frame_after (perform f c).frame cs).save)
    ∙ ap (λ (s : List ℕ). part_in c (perform f c).reply ++ s) j
    ∙ p

joined : {f : Frame} {cs : List Call} → NoneBegun f cs → parts_from f cs ++ left_of (frame_after f cs).save ≡ left_of f.save
unfolding parts_from frame_after
joined no_call = refl
joined {f} (refused_begin {cs = cs} z n) = joined_first f beginning cs (part_refused f z) (joined n)
joined {f} (other_call {c = c} {cs} z n) = joined_first f c cs (part_other f c z) (joined n)

-- behind all of a list nothing is joined to it
nothing_behind : (xs ys : List ℕ) → xs ++ ys ≡ xs → ys ≡ []
nothing_behind xs ys e = drop_of_length-le ys {i = 0} (omega (arith, length-append xs ys, ap length e))

parts_are : (f : Frame) (cs : List Call) → NoneBegun f cs → Joined f cs (left_of f.save)
parts_are f cs n =
    let j = joined n in
    record {
      joined = j;
      whole = λ z. sym (append-nil (parts_from f cs)) ∙ ap (λ (s : List ℕ). parts_from f cs ++ s) (sym z) ∙ j;
      ended = λ e. nothing_behind (parts_from f cs) (left_of (frame_after f cs).save) (j ∙ sym e);
    }

left_begun : (H : Histories) → Sound H → number_in (perform (frame_for H) beginning).reply ≡ 0 → left_of (perform (frame_for H) beginning).frame.save ≡ H.sheet
unfolding perform
left_begun H S z = ap left_of (begun_save H S z)

begun : (cs ds : List Call) → number_in (begun_after cs).reply ≡ 0 → NoneBegun (begun_after cs).frame ds → Joined (begun_after cs).frame ds (sheet_after cs)
begun cs ds z n =
    let e : left_of (begun_after cs).frame.save ≡ sheet_after cs = rw (after_calls cs) (left_begun (advance_all no_histories cs) (sound_all no_histories cs sound_none) (rw (after_calls cs) at z)) in
    subst (λ (s : List ℕ). Joined (begun_after cs).frame ds s) e (parts_are (begun_after cs).frame ds n)

-- ---- when a save is unfinished

-- a write has other numbers
not_unfinished : (l : Library) (out : List ℕ) → write_number l out ≡ 16 → ⊥
not_unfinished l out = go (ltb (count l) 1) (ltb 64 (count l)) (ltb (length out) (2 + 13 * count l))
  where
    go : (b c d : Bool) → ◌≡◌ {A = ℕ} (cond b 2 (cond c 2 (cond d 12 0))) 16 → ⊥
    go true c d e = omega arith
    go false true d e = omega arith
    go false false true e = omega arith
    go false false false e = omega arith

some_left : (s : List ℕ) → (s ≡ [] → ⊥) → 0 < length s
some_left [] z = absurd (z refl)
some_left (b ∷ s) z = omega arith

some_begin : {k x : ℕ} (w : ℕ) → 0 < k → Step (0 < k) 16 x → (x then w) ≡ 16
some_begin w l (yes p) = refl
some_begin w l (no q) = absurd (q l)

some_take : {k x : ℕ} → 0 < k → Step (k ≡ 0) 17 x → x ≡ 0
some_take l (yes p) = absurd (omega arith)
some_take l (no q) = refl

module _ (f : Frame) where
  unfinished : (number_in (perform f beginning).reply ≡ 16 → left_of f.save ≡ [] → ⊥) × ((left_of f.save ≡ [] → ⊥) → number_in (perform f beginning).reply ≡ 16)
  unfolding perform
  unfinished = (λ e z. not_unfinished f.library (zero_bytes 834) (rw z at e), λ z. some_begin _ (some_left f.save.left.items z) (unfinished_step (length f.save.left.items)))

  finished : (out : List ℕ) → (number_in (perform f (taking out)).reply ≡ 17 → left_of f.save ≡ []) × (left_of f.save ≡ [] → number_in (perform f (taking out)).reply ≡ 17)
  unfolding perform
  finished out = (λ e. none_left f.save out (λ z. omega arith), λ e. rw e refl)

  full : (out : List ℕ) → (left_of (perform f (taking out)).frame.save ≡ [] → ⊥) → written_count (perform f (taking out)).reply ≡ length out
  unfolding perform
  full out z = (parts.part f.save out).full z

  no_places : (left_of f.save ≡ [] → ⊥) → perform f (taking []) ≡ record { reply = wrote 0 0 []; frame = f }
  unfolding perform
  no_places z =
      rw (some_take (some_left f.save.left.items z) (finished_step (length f.save.left.items)), min-zero (length f.save.left.items), over_past 0 f.save.left.items [] (omega arith))
      refl

pub save_goes_on : Saving
save_goes_on =
    record {
      replies = replies_without the_save (λ f v c q. ap (λ (d : Done). d.reply) (aside f v c q));
      heads = λ f cs. ap (λ (g : Frame). g.heads) (frame_without the_save f cs);
      library = λ f cs. ap (λ (g : Frame). g.library) (frame_without the_save f cs);
      histories = λ H cs. ap (λ (G : Histories). G.heads) (histories_without left_in H cs);
      sheet = λ H cs. ap (λ (G : Histories). G.sheet) (histories_without left_in H cs);
      alone = λ f c. alone f (sort_of c);
      others = kept the_save;
      left = kept left_in;
      begun = begun;
      parts = parts_are;
      unfinished = unfinished;
      finished = finished;
      full = full;
      no_places = no_places;
    }
