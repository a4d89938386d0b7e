use Rattle.std.proofs.Common.{arith}
use Rattle.sheets.proofs.KindBytes.{takes_1, takes_4, takes_6_7}
use Rattle.sheets.proofs.setter.last_for_kind.Goals as goal

pub returns-then-is_first-clause-taken : goal.returns-then-is_first-clause-taken
returns-then-is_first-clause-taken c = takes_1 c.args.kind (omega arith) (omega arith)

pub returns-then-is_fourth-clause-taken : goal.returns-then-is_fourth-clause-taken
returns-then-is_fourth-clause-taken c = takes_4 c.args.kind (omega arith)

pub returns-then-is_past_fifth-clause-taken : goal.returns-then-is_past_fifth-clause-taken
returns-then-is_past_fifth-clause-taken c = takes_6_7 c.args.kind (omega arith) (omega arith)
