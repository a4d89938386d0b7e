use Prim.Native.Nat.{◌/◌}
use Rattle.sheets.proofs.KindBytes.{up_to_last}
use Rattle.sheets.proofs.setter.setter_in.Goals as goal

pub returns : goal.returns
returns c =
    let last = c.last_for_kind.ensures in
    let high = c.args.kind / 16 in
    up_to_last c.args.edition c.args.kind last.by_number c.if-last_for_kind-high.false c.approximation_of.ensures
    (c.setter_for.ensures (rw c.approximation_of.ensures (last.taken high c.if-last_for_kind-high.false)))
