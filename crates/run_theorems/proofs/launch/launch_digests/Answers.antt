use Rattle.run_theorems.proofs.LaunchLaws.{digest_is}
use Rattle.run_theorems.proofs.launch.launch_digests.Goals as goal

pub returns : goal.returns
returns c = record { digest = digest_is }
