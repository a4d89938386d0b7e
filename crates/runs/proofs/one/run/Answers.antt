use Rattle.runs.proofs.Ran.{ran_case}
use Rattle.runs.proofs.one.run.Goals as goal

-- No plainer: `using(ran_case)` on the function does not find which filter the case is.
pub returns-in-DcBlocker-clause-ran : goal.returns-in-DcBlocker-clause-ran
returns-in-DcBlocker-clause-ran c = ran_case _ _ c.in-DcBlocker.is c.run_plain.ensures.ran

pub returns-in-OnePole-clause-ran : goal.returns-in-OnePole-clause-ran
returns-in-OnePole-clause-ran c = ran_case _ _ c.in-OnePole.is c.run_plain-in-OnePole.ensures.ran

pub returns-in-Svf-clause-ran : goal.returns-in-Svf-clause-ran
returns-in-Svf-clause-ran c = ran_case _ _ c.in-Svf.is c.run_svf.ensures.ran

pub returns-in-NaiveSvf-clause-ran : goal.returns-in-NaiveSvf-clause-ran
returns-in-NaiveSvf-clause-ran c = ran_case _ _ c.in-NaiveSvf.is c.run_naive.ensures.ran

pub returns-in-ModifiedSvf-clause-ran : goal.returns-in-ModifiedSvf-clause-ran
returns-in-ModifiedSvf-clause-ran c = ran_case _ _ c.in-ModifiedSvf.is c.run_plain-in-ModifiedSvf.ensures.ran

pub returns-in-CrossoverSvf-clause-ran : goal.returns-in-CrossoverSvf-clause-ran
returns-in-CrossoverSvf-clause-ran c = rw c.from.ensures (ran_case _ _ c.in-CrossoverSvf.is (rw c.from-f.ensures at c.run_plain-ran.ensures.ran))
