use Rattle.std.proofs.Common.{codes, arith, rules}
use Rattle.std.proofs.lemmas.Slice.Eq.{text_from_reads}
use Rattle.form_text.proofs.form.form_for.Goals as goal

pub returns-in-stride : goal.returns-in-stride
returns-in-stride c = rw (text_from_reads c.args.name.now (codes "stride") (omega arith) (search rules)) c.stride_form.ensures

pub returns-in-decimate : goal.returns-in-decimate
returns-in-decimate c = rw (text_from_reads c.args.name.now (codes "decimate") (omega arith) (search rules)) c.decimate_form.ensures

pub returns-in-multimode : goal.returns-in-multimode
returns-in-multimode c = rw (text_from_reads c.args.name.now (codes "multimode") (omega arith) (search rules)) c.multimode_form.ensures
