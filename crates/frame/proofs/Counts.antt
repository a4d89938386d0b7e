-- Counts over every frame and every list of calls. Assumes nothing.
use Prim.Native.Nat.{ℕ}
use mathlib.Core.Path.{◌≡◌, refl}
use mathlib.Core.Bool.{Bool, true, false}
use lib.Dec.{ltb}
use lib.Seq.{set-get_or}
use mathlib.Core.Bool.{cond}
use Rattle.heads.specs.Act.{count}
use Rattle.heads.specs.Head.{empty_head, turn}
use Rattle.frame.specs.Call.{at}
use Rattle.frame.specs.Calls.{head_at, refuse, settled, perform}
use Rattle.frame.specs.Counts.{Counts}
use Rattle.frame.specs.History.{no_histories}
use Rattle.frame.proofs.Sound.{sound_all, sound_none}
use Rattle.frame.specs.declared.Frame.{Frame}

asked : (f : Frame) (h : ℕ) → (perform f (at h count)).frame ≡ f
unfolding perform turn
asked f h = go (ltb 11 h)
  where
    go : (b : Bool) → (cond b (refuse f (at h count) 1) (settled f h (turn (head_at f h) count))).frame ≡ f
    go true = refl
    go false = rw (set-get_or f.heads h empty_head) refl

pub counts : Counts
counts =
    record {
      asking = asked;
      fit = λ cs h. ((sound_all no_histories cs sound_none).each h).good.small;
      marks_fit = λ cs h m. (((sound_all no_histories cs sound_none).each h).goods m).small;
    }
