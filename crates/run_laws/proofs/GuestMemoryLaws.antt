-- The private accesses of a disciplined guest are one legal history of a memory of its own where no ciphertext meets the tag of another, whatever the other guests are and whatever the schedule is.
use Rattle.std.proofs.Common.{ℕ, List}
use Rattle.snp_model.specs.declared.scenario.Scenario.{Scenario}
use Rattle.snp_model.specs.Premises.{AreLegal}
use Rattle.snp_model.specs.Run.{IsDefined}
use Rattle.snp_model.specs.Sound.{IsSound}
use Rattle.run_laws.proofs.SealedRuns.{disciplined_lacks, lacking_guest_legal}

pub guests_are_legal : (c : Scenario) (s : List ℕ) → IsSound c → IsDefined c s → AreLegal c s
guests_are_legal c s sound defined guest some most disciplined chance = lacking_guest_legal c s guest sound defined some most (disciplined_lacks c s guest disciplined) chance
