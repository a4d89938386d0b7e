use Rattle.std.proofs.Common.{refl, codes, arith, rules}
use Rattle.std.proofs.lemmas.Slice.Eq.{text_from_reads}
use Rattle.form_text.proofs.form.mode_of.Goals as goal

pub returns-in-normalized : goal.returns-in-normalized
returns-in-normalized c = rw (text_from_reads c.args.s.now (codes "normalized") (omega arith) (search rules)) refl
