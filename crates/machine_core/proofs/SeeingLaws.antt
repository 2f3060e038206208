-- What an event sees over the machine's bays is what it would see in the state that the machine stands for.
use Rattle.std.proofs.Common.{◌≡◌, List}
use Rattle.snp_model.specs.declared.scenario.GuestSpec.{GuestSpec}
use Rattle.snp_model.specs.HeldContexts.{HeldContext}
use Rattle.snp_model.specs.Locks.{context_holder_of, holder_of, view_of}
use Rattle.snp_model.specs.State.{ActorPart}
use Rattle.machine_core.specs.declared.bay.Bay.{Bay}
use Rattle.machine_core.specs.Bays.{contents_of, context_holders_of, holders_of, own_bays, own_contexts, own_stock, view_on}
use Rattle.machine_core.specs.Machine.{MachineImage, state_of}

abbrev pub machine_with : List Bay → List HeldContext → List GuestSpec → List ActorPart → MachineImage
machine_with bays contexts guests actors = record { bays = bays; contexts = contexts; guests = guests; actors = actors }

-- so where the bays and contexts have the locks that the open attempts have taken
pub sees_state : (bays : List Bay) (contexts : List HeldContext) (guests : List GuestSpec) (actors : List ActorPart) → holders_of (own_bays bays) ≡ holder_of (state_of (machine_with bays contexts guests actors))
    → context_holders_of (own_contexts contexts) ≡ context_holder_of (state_of (machine_with bays contexts guests actors))
    → view_on (own_stock bays contexts) guests ≡ view_of (state_of (machine_with bays contexts guests actors))
sees_state bays contexts guests actors holders context_holders =
    λ i. record { contents = contents_of (own_stock bays contexts) guests; holder = holders i; context_holder = context_holders i }
