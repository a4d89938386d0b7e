-- Closing and opening, over every frame and every list of calls. Assumes nothing.
use Prim.Native.Nat.{ℕ, ◌≤◌}
use mathlib.Core.Path.{◌≡◌, refl, sym, ap, subst, ◌∙◌}
use mathlib.Core.List.{List, [], ◌∷◌, ◌++◌}
use native.Mathlib.Omega.{arith}
use borrow.Author.Tests.{eqb-true, le-ltb}
use lib.Dec.{eqb}
use lib.ListN.{length, get_or, take, drop}
use lib.Seq.{take-append_seam}
use Rattle.std.specs.List.{All}
use Rattle.std.proofs.lemmas.Bool.{cond_both}
use Rattle.std.proofs.lemmas.List.Elements.{All-head, All-tail}
use Rattle.lists.specs.Over.{over}
use Rattle.lists.proofs.Over.{over_all}
use Rattle.lists.proofs.Tables.{length_table, all_table}
use Rattle.library.specs.Library.{library_of}
use Rattle.saves.specs.Save.{with_left, left_of}
use Rattle.rota.specs.Follows.{rota_for}
use Rattle.heads.specs.Head.{empty_head}
use Rattle.sheets.specs.Sheet.{entry_in}
use Rattle.heads.specs.History.{load_event, HeadHistory, adding, grown_by}
use Rattle.heads.specs.Follows.{head_for}
use Rattle.heads.specs.Valid.{ValidHead, RepresentableHead}
use Rattle.heads.specs.declared.Head.{Head}
use Rattle.heads.proofs.Valid.{heads_valid}
use Rattle.saved_heads.specs.Bytes.{bytes_of, heads_in}
use Rattle.saved_heads.specs.Saved.{saved_length, restore_refusal}
use Rattle.saved_heads.specs.RoundTrip.{ValidHeads}
use Rattle.saved_heads.proofs.Heads.{head_valid, rows_many, rows_few}
use Rattle.saved_heads.proofs.RoundTrip.{heads_return}
use Rattle.frame.specs.Call.{Call, opening, writing, loading, at, beginning, taking, at_rota, saving_heads, restoring_heads, plain, wrote, number_in}
use Rattle.frame.specs.Calls.{with_heads, Done, refuse, perform}
use Rattle.frame.specs.History.{Histories, no_histories, heads_of, call_number, with_history, with_restored, grown, advance, advance_all}
use Rattle.frame.specs.Demand.{Upheld}
use Rattle.frame.specs.Saves.{written_bytes, after}
use Rattle.frame.specs.Closing.{LendsBinary32, save_done, restore_done, Returns, OfSheet, nothing, sheet, Closing}
use Rattle.frame.proofs.Sound.{Sound, SoundSheet, sound_all, sound_none, sound_restored, sheet_of}
use Rattle.frame.proofs.Picture.{frame_for, restored_heads}
use Rattle.frame.proofs.Upholds.{upheld, after_calls}
use Rattle.library.specs.declared.Library.{Library}
use Rattle.saves.specs.declared.Save.{Save}
use Rattle.rota.specs.declared.Rota.{Rota}
use Rattle.frame.specs.declared.Frame.{Frame}

-- ---- calls that lend binary32's numbers lead to heads that hold them

abbrev Held : Histories → Type 0
Held H = (h : ℕ) → RepresentableHead (H.heads h)

held_at : (H : Histories) (h : ℕ) (x : HeadHistory) → Held H → RepresentableHead x → Held (with_history H h x)
held_at H h x p q = λ j. cond_both (eqb j h) x (H.heads j) RepresentableHead (λ e. q) (λ e. p j)

held_grown : (H : Histories) (c : Call) → Held H → LendsBinary32 c → call_number H c ≡ 0 → Held (grown H c)
unfolding call_number
held_grown H (opening s) p q z = p
held_grown H (writing out) p q z = p
held_grown H (loading h e) p q z = held_at H h (adding (H.heads h) (load_event (entry_in H.sheet e))) p (heads_valid.load (H.heads h) (entry_in H.sheet e) (p h))
held_grown H (at h a) p q z = held_at H h (grown_by (H.heads h) a) p (heads_valid.grown (H.heads h) a (p h) q)
held_grown H beginning p q z = p
held_grown H (taking out) p q z = p
held_grown H (at_rota c) p q z = p
held_grown H (saving_heads out) p q z = p
held_grown H (restoring_heads b) p q z = λ h. heads_valid.representable (get_or (heads_in b) h empty_head) (head_valid (heads_in b) (heads_return.valid b z).heads h)

held_advance : (H : Histories) (c : Call) → Held H → LendsBinary32 c → Held (advance H c)
unfolding advance
held_advance H c p q = cond_both (eqb (call_number H c) 0) (grown H c) H Held (λ e. held_grown H c p q (eqb-true _ _ e)) (λ e. p)

held_all : (H : Histories) (cs : List Call) → Held H → All LendsBinary32 cs → Held (advance_all H cs)
unfolding advance_all
held_all H [] p q = p
held_all H (c ∷ cs) p q = held_all (advance H c) cs (held_advance H c p (All-head LendsBinary32 c cs q)) (All-tail LendsBinary32 c cs q)

-- so they can be saved
heads_valid_by : (H : Histories) → Sound H → Held H → ValidHeads (heads_of H)
heads_valid_by H S p =
    record {
      twelve = length_table 12 (λ h. head_for (H.heads h));
      heads = all_table ValidHead 12 (λ h. head_for (H.heads h)) (λ h l. heads_valid.valid (H.heads h) (S.each h) (p h));
    }

-- ---- saved and restored

module _ (f : Frame) (out : List ℕ) (room : saved_length f.heads ≤ length out) where
  saved : save_done f out ≡ record { reply = wrote 0 (saved_length f.heads) (over 0 (bytes_of f.heads) out); frame = f }
  unfolding perform
  saved = rw (le-ltb (length out) (saved_length f.heads) room) refl

  written : written_bytes (save_done f out).reply ≡ bytes_of f.heads
  written =
      let b = bytes_of f.heads in
      let l : length b ≡ saved_length f.heads = heads_return.long f.heads in
      ap (λ (d : Done). written_bytes d.reply) saved
      ∙ ap (take (saved_length f.heads)) (over_all b out (omega arith))
      ∙ ap (λ (n : ℕ). take n (b ++ drop (length b) out)) (sym l)
      ∙ take-append_seam b (drop (length b) out)

restored : (f g : Frame) → ValidHeads f.heads → restore_done g (bytes_of f.heads) ≡ record { reply = plain 0; frame = with_heads g f.heads }
unfolding perform
restored f g k = let r = heads_return.restored f.heads k in rw (r.0, r.1) refl

returns : (f g : Frame) (out : List ℕ) → ValidHeads f.heads → saved_length f.heads ≤ length out → Returns f g out
returns f g out k room =
    record {
      saved = saved f out room;
      restored = rw (written f out room) (restored f g k);
      least = omega (arith, rows_many 0 f.heads, k.twelve);
      most = omega (arith, rows_few 0 f.heads k.heads, k.twelve);
    }

-- ---- a restore

-- what a restore comes to where it is accepted
abbrev taken : Frame → List ℕ → Done
taken f b = record { reply = plain 0; frame = with_heads f (heads_in b) }

abbrev declined : Frame → List ℕ → Done
declined f b = refuse f (restoring_heads b) (restore_refusal b)

restore_accepted : (f : Frame) (b : List ℕ) → number_in (restore_done f b).reply ≡ 0 → restore_refusal b ≡ 0
unfolding perform
restore_accepted f b =
    cond_both (eqb (restore_refusal b) 0) (taken f b) (declined f b) (λ d. number_in d.reply ≡ 0 → restore_refusal b ≡ 0) (λ e z. eqb-true _ _ e) (λ e z. z)

restored_frame : (f : Frame) (b : List ℕ) → restore_refusal b ≡ 0 → (restore_done f b).frame ≡ with_heads f (heads_in b)
unfolding perform
restored_frame f b z = rw z refl

heads_alone : (f : Frame) (b : List ℕ) → (restore_done f b).frame ≡ with_heads f (restore_done f b).frame.heads
unfolding perform
heads_alone f b = cond_both (eqb (restore_refusal b) 0) (taken f b) (declined f b) (λ d. d.frame ≡ with_heads f d.frame.heads) (λ e. refl) (λ e. refl)

again : (f : Frame) (b out : List ℕ) → number_in (restore_done f b).reply ≡ 0 → length b ≤ length out → written_bytes (save_done (restore_done f b).frame out).reply ≡ b
again f b out z l =
    let a = restore_accepted f b z in
    let e : bytes_of (restore_done f b).frame.heads ≡ b = ap (λ (g : Frame). bytes_of g.heads) (restored_frame f b a) ∙ heads_return.saved b a in
    written (restore_done f b).frame out (omega (arith, heads_return.long (restore_done f b).frame.heads, ap length e)) ∙ e

-- ---- from a restored frame on

sheet_sound : {s : List ℕ} → OfSheet s → SoundSheet s
sheet_sound nothing = sound_none.sheet
sheet_sound (sheet p) = sheet_of p

frame_is : {xs ys : List Head} {l m : Library} {v w : Save} {r t : Rota} → xs ≡ ys → l ≡ m → v ≡ w → r ≡ t
    → ◌≡◌ {A = Frame} (record { heads = xs; library = l; save = v; rota = r }) (record { heads = ys; library = m; save = w; rota = t })
frame_is p q r s = cc

-- from the histories that the restored heads open, where the others are sound
onward_from : (f : Frame) (H : Histories) (b : List ℕ) (cs : List Call) → SoundSheet H.sheet → f.library ≡ library_of H.sheet → left_of f.save ≡ H.left → f.rota ≡ rota_for H.rota
    → number_in (restore_done f b).reply ≡ 0 → Upheld (restore_done f b).frame (with_restored H (heads_in b)) cs
onward_from f H b cs o l v t z =
    let a = restore_accepted f b z in
    let G = with_restored H (heads_in b) in
    let e : (restore_done f b).frame ≡ frame_for G = restored_frame f b a ∙ frame_is (restored_heads b a) l (ap with_left v) t in
    subst (λ (g : Frame). Upheld g G cs) (sym e) (upheld G cs (record { sheet = o; each = sound_restored b a }))

after_valid : (cs : List Call) → All LendsBinary32 cs → ValidHeads (after cs).heads
after_valid cs q =
    subst (λ (f : Frame). ValidHeads f.heads) (sym (after_calls cs))
    (heads_valid_by (advance_all no_histories cs) (sound_all no_histories cs sound_none) (held_all no_histories cs (λ h. heads_valid.fresh) q))

onward_after : (ds : List Call) (b : List ℕ) (cs : List Call) → number_in (restore_done (after ds) b).reply ≡ 0
    → Upheld (restore_done (after ds) b).frame (with_restored (advance_all no_histories ds) (heads_in b)) cs
onward_after ds b cs z =
    let H = advance_all no_histories ds in
    let e = after_calls ds in
    onward_from (after ds) H b cs (sound_all no_histories ds sound_none).sheet (ap (λ (f : Frame). f.library) e) (ap (λ (f : Frame). left_of f.save) e)
    (ap (λ (f : Frame). f.rota) e) z

saving_leaves : (f : Frame) (out : List ℕ) → (save_done f out).frame ≡ f
unfolding perform
saving_leaves f out = refl

pub closing : Closing
closing =
    record {
      returns = λ cs q g out l. returns (after cs) g out (after_valid cs q) l;
      again = again;
      saving_leaves = saving_leaves;
      heads_alone = heads_alone;
      onward = λ f H b cs k z. onward_from f H b cs (sheet_sound k.of_sheet) k.library k.left k.rota z;
      after_calls = onward_after;
    }
