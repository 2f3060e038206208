-- What contracts see of the machine, and the flat state that it stands for.
use Rattle.std.specs.Prelude.{◌≡◌, ◌*◌, ◌≤◌, List, length}
use Rattle.snp_model.specs.declared.scenario.GuestSpec.{GuestSpec}
use Rattle.snp_model.specs.HeldContexts.{HeldContext}
use Rattle.snp_model.specs.Locks.{view_of}
use Rattle.snp_model.specs.State.{ActorPart, State}
use Rattle.run_laws.specs.KeptLocks.{KeepsLocks}
use Rattle.run_laws.specs.Ready.{AreReady}
use Rattle.machine_core.specs.declared.bay.Bay.{Bay}
use Rattle.machine_core.specs.Bays.{contents_of, own_stock, view_on}

pub record MachineImage : Type 0 where
  pub bays : List Bay
  pub contexts : List HeldContext
  pub guests : List GuestSpec
  pub actors : List ActorPart

-- the state that a machine is in
abbrev pub state_of : MachineImage → State
state_of machine =
    record { frames = 512 * length machine.bays; guests = machine.guests; contents = contents_of (own_stock machine.bays machine.contexts) machine.guests; actors = machine.actors }

-- there are few regions, guests and actors, each guest has its context, each actor is ready for its next event, locks are kept as runs keep them, and an event sees what it would see in the state: the regions' entries have the locks that the open attempts have taken
pub record IsMachine (machine : MachineImage) : Type 0 where
  pub few_regions : length machine.bays ≤ 16
  pub few_guests : length machine.guests ≤ 8
  pub contexts_all : length machine.contexts ≡ length machine.guests
  pub few : length machine.actors ≤ 32
  pub ready : AreReady (state_of machine)
  pub locks : KeepsLocks (state_of machine)
  pub sees : view_on (own_stock machine.bays machine.contexts) machine.guests ≡ view_of (state_of machine)
