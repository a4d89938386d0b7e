use Rattle.runs.proofs.Ran.{ran_two_case}
use Rattle.runs.proofs.two.run_two.Goals as goal

-- No plainer: `using(ran_two_case)` on the function does not find which filter the case is.
pub returns-in-Svf-clause-ran : goal.returns-in-Svf-clause-ran
returns-in-Svf-clause-ran c = ran_two_case _ _ c.in-Svf.is c.run_two_svf.ensures.ran

pub returns-in-NaiveSvf-clause-ran : goal.returns-in-NaiveSvf-clause-ran
returns-in-NaiveSvf-clause-ran c = ran_two_case _ _ c.in-NaiveSvf.is c.run_two_naive.ensures.ran
