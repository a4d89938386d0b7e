use Rattle.form_text.proofs.Cuts.{some_left}
use Rattle.form_text.proofs.field.Fields.end.Goals as goal

-- No plainer: `using` on the function does not find a law that says what there is.
pub returns-in-Some : goal.returns-in-Some
returns-in-Some c = some_left c.args.self.now c.in-Some.field-0 c.in-Some.is
