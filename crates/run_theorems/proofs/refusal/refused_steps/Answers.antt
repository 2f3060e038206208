use Rattle.run_theorems.proofs.RefusalLaws.{refused_still, end_releases, run_lets_go, others_stay}
use Rattle.run_theorems.proofs.refusal.refused_steps.Goals as goal

pub returns-clause-still : goal.returns-clause-still
returns-clause-still c = refused_still

pub returns-clause-released : goal.returns-clause-released
returns-clause-released c = end_releases

pub returns-clause-unlocked : goal.returns-clause-unlocked
returns-clause-unlocked c = run_lets_go

pub returns-clause-others : goal.returns-clause-others
returns-clause-others c = others_stay
