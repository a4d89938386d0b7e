-- A frame is the picture of its histories, and a call on a picture gives the picture of the call. Assumes nothing.
use Prim.Native.Nat.{ℕ, ◌<◌}
use mathlib.Core.Path.{◌≡◌, refl, sym, ap, ◌∙◌}
use mathlib.Core.Bool.{Bool, true, false, cond}
use mathlib.Core.List.{List, [], ◌∷◌}
use native.Mathlib.Omega.{arith}
use borrow.Author.Tests.{ltb-false, leb-false, eqb-true, eqb-false}
use lib.Dec.{eqb, leb, ltb}
use lib.ListN.{get_or, length}
use lib.Seq.{set-get_or}
use Rattle.filter_core.specs.Rows.{First, none, here, later}
use Rattle.sheets.specs.Sheet.{entries_of, entry_in, check_of}
use Rattle.sheets.specs.declared.entry.Entry.{Entry}
use Rattle.library.specs.Library.{library_of, write_number}
use Rattle.library.proofs.RoundTrip.{count_in}
use Rattle.lists.specs.Table.{table}
use Rattle.heads.specs.Act.{Act, refused_act}
use Rattle.heads.specs.Snapshot.{loaded_with}
use Rattle.heads.specs.Head.{empty_head, holding}
use Rattle.heads.specs.History.{load_event, HeadHistory, act_number, adding, grown_by, advance_by, accepted_act, act_reply}
use Rattle.heads.specs.Follows.{head_for}
use Rattle.heads.specs.Valid.{restored_history}
use Rattle.heads.specs.declared.Head.{Head}
use Rattle.lists.proofs.Tables.{get_or_table, table_ext, table_is, set_table}
use Rattle.heads.proofs.Valid.{heads_valid}
use Rattle.saved_heads.specs.Bytes.{heads_in}
use Rattle.saved_heads.specs.Saved.{save_number, restore_refusal}
use Rattle.saved_heads.proofs.Heads.{head_valid}
use Rattle.saved_heads.proofs.RoundTrip.{heads_return}
use Rattle.heads.proofs.Follows.{head_follows}
use Rattle.saves.specs.Save.{with_left, begin_refusal, begin_of, take_refusal}
use Rattle.saves.specs.Rows.{BeginCase, no_entries}
use Rattle.saves.proofs.Rows.{begin_row}
use Rattle.saves.proofs.Parts.{begin_accepted, begin_refused, left_begun, take_refused}
use Rattle.rota.specs.Call as rota
use Rattle.rota.specs.History.{call_number as rota_number}
use Rattle.rota.specs.Follows.{rota_for}
use Rattle.rota.proofs.Follows.{rota_follows}
use Rattle.frame.specs.Call.{Call, opening, writing, loading, at, beginning, taking, at_rota, saving_heads, restoring_heads, plain, acted, of_rota}
use Rattle.frame.specs.Calls.{with_head, with_heads, settled, perform}
use Rattle.frame.specs.History.{Histories, heads_of, call_number, with_history, advance, reply_to}
use Rattle.frame.proofs.Sound.{Sound}
use Rattle.saves.specs.declared.Save.{Save}
use Rattle.frame.specs.declared.Frame.{Frame}

abbrev pub frame_for : Histories → Frame
frame_for H = record { heads = table 12 (λ h. head_for (H.heads h)); library = library_of H.sheet; save = with_left H.left; rota = rota_for H.rota }

pub cond_out : {A B : Type 0} (g : A → B) (b : Bool) (x y : A) → cond b (g x) (g y) ≡ g (cond b x y)
cond_out g true x y = refl
cond_out g false x y = refl

-- the picture with another head is that of the histories with another
head_set : (H : Histories) (h : ℕ) (x : HeadHistory) → with_head (frame_for H) h (head_for x) ≡ frame_for (with_history H h x)
head_set H h x =
    ap (λ l. record (frame_for H) { heads = l })
    (set_table 12 _ h (head_for x) ∙ table_ext 12 _ _ (λ j l. cond_out head_for (eqb j h) x (H.heads j)))

abbrev pub Follows : Histories → Call → Type 0
Follows H c = perform (frame_for H) c ≡ record { reply = reply_to H c; frame = frame_for (advance H c) }

follows_open : (H : Histories) (s : List ℕ) → Follows H (opening s)
unfolding perform reply_to advance call_number
follows_open H s = go (eqb (check_of s) 0) refl
  where
    go : (b : Bool) → eqb (check_of s) 0 ≡ b → Follows H (opening s)
    go true q = rw q
    go false q = rw q

follows_write : (H : Histories) (out : List ℕ) → Follows H (writing out)
unfolding perform reply_to advance call_number
follows_write H out = go (eqb (write_number (library_of H.sheet) out) 0) refl
  where
    go : (b : Bool) → eqb (write_number (library_of H.sheet) out) 0 ≡ b → Follows H (writing out)
    go true q = rw (q, eqb-true (write_number (library_of H.sheet) out) 0 q)
    go false q = rw q

module _ (H : Histories) (h : ℕ) (below : h < 12) where
  -- the picture's head
  pub the_head : get_or (frame_for H).heads h empty_head ≡ head_for (H.heads h)
  the_head = get_or_table 12 (λ j. head_for (H.heads j)) h empty_head below

  -- put back where it stood
  head_same : with_head (frame_for H) h (head_for (H.heads h)) ≡ frame_for H
  head_same = rw (← the_head, set-get_or (frame_for H).heads h empty_head) refl

follows_load : (H : Histories) (h e : ℕ) → Sound H → Follows H (loading h e)
unfolding perform reply_to advance call_number
follows_load H h e S = go (ltb 11 h) refl (leb (entries_of H.sheet) e) refl
  where
    go : (b : Bool) → ltb 11 h ≡ b → (d : Bool) → leb (entries_of H.sheet) e ≡ d → Follows H (loading h e)
    go true q d p = rw q refl
    go false q true p = rw (q, count_in H.sheet, p) refl
    go false q false p =
        rw (q, count_in H.sheet, p, the_head H h (omega (arith, ltb-false 11 h q)))
        (ap (λ (t : Entry). record { reply = plain 0; frame = with_head (frame_for H) h (holding (head_for (H.heads h)) (loaded_with t)) }) (S.sheet.entry e (leb-false _ _ p))
        ∙ rw (head_follows.load (H.heads h) (entry_in H.sheet e) (S.each h))
        (ap (λ g. record { reply = plain 0; frame = g }) (head_set H h (adding (H.heads h) (load_event (entry_in H.sheet e))))))

-- what the head's history says, said of the histories
module _ (H : Histories) (h : ℕ) (below : h < 12) (a : Act) where
  x : HeadHistory
  x = H.heads h

  settles : settled (frame_for H) h (record { reply = act_reply x a; head = head_for (advance_by x a) })
      ≡ record {
        reply = cond (eqb (act_number x a) 0) (acted (accepted_act x a)) (acted (refused_act (act_number x a) a));
        frame = frame_for (cond (eqb (act_number x a) 0) (with_history H h (grown_by x a)) H);
      }
  unfolding act_reply advance_by x
  settles = go (eqb (act_number x a) 0)
    where
      go : (b : Bool) → settled (frame_for H) h (record { reply = cond b (accepted_act x a) (refused_act (act_number x a) a); head = head_for (cond b (grown_by x a) x) })
          ≡ record { reply = cond b (acted (accepted_act x a)) (acted (refused_act (act_number x a) a)); frame = frame_for (cond b (with_history H h (grown_by x a)) H) }
      go true = ap (λ g. record { reply = acted (accepted_act x a); frame = g }) (head_set H h (grown_by x a))
      go false = ap (λ g. record { reply = acted (refused_act (act_number x a) a); frame = g }) (head_same H h below)

follows_at : (H : Histories) (h : ℕ) (a : Act) → Sound H → Follows H (at h a)
unfolding perform reply_to advance call_number x
follows_at H h a S = go (ltb 11 h) refl
  where
    go : (b : Bool) → ltb 11 h ≡ b → Follows H (at h a)
    go true q = rw q refl
    go false q =
        let below : h < 12 = omega (arith, ltb-false 11 h q) in
        rw (q, the_head H h below, head_follows.act (H.heads h) a (S.each h)) (settles H h below a)

-- an accepted begin has entries to save
has_entries : {k n r : ℕ} → r ≡ 0 → First (BeginCase k n) (16 ∷ 2 ∷ []) r → 0 < n
has_entries e (here p) = absurd (omega arith)
has_entries e (later p (here q)) = absurd (omega arith)
has_entries {n} e (later p (later q none)) = omega (arith, ne_zero)
  where
    ne_zero : n ≡ 0 → ⊥
    ne_zero z = q (no_entries z)

-- and leaves all of the sheet
pub begun_save : (H : Histories) → Sound H → begin_refusal (length H.left) (library_of H.sheet) ≡ 0
    → begin_of (with_left H.left) (library_of H.sheet) ≡ with_left H.sheet
begun_save H S z =
    begin_accepted (with_left H.left) (library_of H.sheet) z
    ∙ ap with_left (left_begun H.sheet (S.sheet.whole (has_entries z (begin_row (length H.left) (library_of H.sheet) (entries_of H.sheet) S.sheet.held))))

follows_begin : (H : Histories) → Sound H → Follows H beginning
unfolding perform reply_to advance call_number
follows_begin H S = go (eqb number 0) refl
  where
    number : ℕ
    number = begin_refusal (length H.left) (library_of H.sheet)

    go : (b : Bool) → eqb number 0 ≡ b → Follows H beginning
    go true q = let z = eqb-true number 0 q in rw (begun_save H S z, z) refl
    go false q = rw (begin_refused (with_left H.left) (library_of H.sheet) (eqb-false number 0 q), q) refl

follows_take : (H : Histories) (out : List ℕ) → Follows H (taking out)
unfolding perform reply_to advance call_number
follows_take H out = go (eqb (take_refusal v) 0) refl
  where
    v : Save
    v = with_left H.left

    go : (b : Bool) → eqb (take_refusal v) 0 ≡ b → Follows H (taking out)
    go true q = rw (eqb-true (take_refusal v) 0 q) refl
    go false q =
        let t = take_refused v out (eqb-false (take_refusal v) 0 q) in
        rw (q, t.save, t.output, t.length) refl

follows_rota : (H : Histories) (c : rota.Call) → Follows H (at_rota c)
unfolding perform reply_to advance call_number
follows_rota H c = go (eqb (rota_number H.rota c) 0) refl
  where
    go : (b : Bool) → eqb (rota_number H.rota c) 0 ≡ b → Follows H (at_rota c)
    go true q = rw (q, rota_follows.call H.rota c) refl
    go false q =
        let t = rota_follows.refused H.rota c (eqb-false _ _ q) in
        rw (q, rota_follows.call H.rota c, t.1) (ap (λ r. record { reply = of_rota r; frame = frame_for H }) t.0)

follows_save : (H : Histories) (out : List ℕ) → Follows H (saving_heads out)
unfolding perform reply_to advance call_number
follows_save H out = go (eqb (save_number (heads_of H) out) 0) refl
  where
    go : (b : Bool) → eqb (save_number (heads_of H) out) 0 ≡ b → Follows H (saving_heads out)
    go true q = rw (q, eqb-true (save_number (heads_of H) out) 0 q)
    go false q = rw q

-- the restored heads are those of the histories that they open
pub restored_heads : (b : List ℕ) → restore_refusal b ≡ 0 → heads_in b ≡ table 12 (λ h. head_for (restored_history (get_or (heads_in b) h empty_head)))
restored_heads b q =
    let k = heads_return.valid b q in
    let xs = heads_in b in
    let f : ℕ → Head = λ h. head_for (restored_history (get_or xs h empty_head)) in
    sym (table_is xs f empty_head (λ i l. heads_valid.restored (get_or xs i empty_head) (head_valid xs k.heads i))) ∙ ap (λ (n : ℕ). table n f) k.twelve

follows_restore : (H : Histories) (b : List ℕ) → Follows H (restoring_heads b)
unfolding perform reply_to advance call_number
follows_restore H b = go (eqb (restore_refusal b) 0) refl
  where
    go : (t : Bool) → eqb (restore_refusal b) 0 ≡ t → Follows H (restoring_heads b)
    go true q = rw q (ap (λ (xs : List Head). record { reply = plain 0; frame = with_heads (frame_for H) xs }) (restored_heads b (eqb-true (restore_refusal b) 0 q)))
    go false q = rw q

pub follows : (H : Histories) (c : Call) → Sound H → Follows H c
follows H (opening s) S = follows_open H s
follows H (writing out) S = follows_write H out
follows H (loading h e) S = follows_load H h e S
follows H (at h a) S = follows_at H h a S
follows H beginning S = follows_begin H S
follows H (taking out) S = follows_take H out
follows H (at_rota c) S = follows_rota H c
follows H (saving_heads out) S = follows_save H out
follows H (restoring_heads b) S = follows_restore H b
