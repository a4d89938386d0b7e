-- Demand 3, over whole lists of calls: from the picture of any sound histories, of which a fresh frame is one. Assumes nothing.
use mathlib.Core.Path.{◌≡◌, refl, ap}
use mathlib.Core.List.{List, [], ◌∷◌}
use Rattle.library.proofs.RoundTrip.{no_sheet}
use Rattle.lists.specs.Table.{table}
use Rattle.heads.specs.History.{snapshot_from, snapshot_of}
use Rattle.std.proofs.lemmas.List.{length-map}
use Rattle.heads.proofs.Follows.{head_follows}
use Rattle.heads.proofs.Sound.{no_events}
use Rattle.rota.proofs.Follows.{rota_follows}
use Rattle.frame.specs.Calls.{fresh_frame}
use Rattle.frame.specs.Call.{Call, Reply}
use Rattle.frame.specs.History.{Histories, no_histories, advance, advance_all, reply_to, replies_to}
use Rattle.frame.specs.Demand.{replies_from, frame_after, Upheld, Demand3}
use Rattle.frame.proofs.Sound.{Sound, sound_advance, sound_none}
use Rattle.frame.proofs.Picture.{frame_for, the_head, follows}

record Followed (H : Histories) (cs : List Call) : Type 0 where
  replies : replies_from (frame_for H) cs ≡ replies_to H cs
  frame : frame_after (frame_for H) cs ≡ frame_for (advance_all H cs)
  sound : Sound (advance_all H cs)

followed : (H : Histories) (cs : List Call) → Sound H → Followed H cs
unfolding replies_from frame_after replies_to advance_all
followed H [] S = record { replies = refl; frame = refl; sound = S }
followed H (c ∷ cs) S =
    let r = followed (advance H c) cs (sound_advance H c S) in
    record {
      replies = rw (follows H c S) (ap (λ (l : List Reply). reply_to H c ∷ l) r.replies);
      frame = rw (follows H c S) r.frame;
      sound = r.sound;
    }

pub upheld : (H : Histories) (cs : List Call) → Sound H → Upheld (frame_for H) H cs
unfolding snapshot_from
upheld H cs S =
    let r = followed H cs S in
    record {
      replies = r.replies;
      heads = λ h l. rw (r.frame, the_head (advance_all H cs) h l);
      empty =
          λ h l e. no_events ((advance_all H cs).heads h).history _ (r.sound.each h).good.fits
          (rw (r.frame, the_head (advance_all H cs) h l) at e);
      bare = λ h l e. rw (r.frame, the_head (advance_all H cs) h l, e);
      standing = λ h l. rw (r.frame, the_head (advance_all H cs) h l) (length-map ((advance_all H cs).heads h).checkpoints snapshot_of);
      marks = λ h l. rw (r.frame, the_head (advance_all H cs) h l);
      library = rw r.frame;
      left = rw r.frame;
      rota = rw r.frame;
    }

fresh_picture : fresh_frame ≡ frame_for no_histories
unfolding table
fresh_picture = rw (no_sheet, head_follows.fresh, rota_follows.fresh) refl

pub after_calls : (cs : List Call) → frame_after fresh_frame cs ≡ frame_for (advance_all no_histories cs)
after_calls cs = rw fresh_picture (followed no_histories cs sound_none).frame

pub demand3 : Demand3
unfolding Demand3
demand3 cs = rw fresh_picture (upheld no_histories cs sound_none)
