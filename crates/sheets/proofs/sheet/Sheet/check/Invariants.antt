use Rattle.std.proofs.Common.{◌≡◌}
use Rattle.sheets.specs.Refusal.{first_refusal}
use Rattle.sheets.specs.Sheet.{refusal_at}
use Rattle.sheets.proofs.sheet.Sheet.check.Given as goal

abbrev pub invariant-loop-e : goal.invariant-loop-e
invariant-loop-e l = first_refusal l.e (refusal_at l.self.edition l.self.n l.self.bytes.now) ≡ 0
