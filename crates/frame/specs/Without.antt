-- A list of calls without those of a kind.
use Rattle.std.specs.Prelude.{cond, Bool, not, List, [], ◌∷◌, filter}
use Rattle.frame.specs.Call.{Call, Reply}
use Rattle.frame.specs.Calls.{perform}
use Rattle.frame.specs.declared.Frame.{Frame}

abbrev pub without : (Call → Bool) → List Call → List Call
without kind cs = filter (λ c. not (kind c)) cs

-- what the calls reply, but for those of the kind
unfoldable pub other_replies : (Call → Bool) → Frame → List Call → List Reply
other_replies kind f [] = []
other_replies kind f (c ∷ cs) =
    let rs = other_replies kind (perform f c).frame cs in
    cond (kind c) rs ((perform f c).reply ∷ rs)
