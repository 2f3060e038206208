-- Where the guest walk of an item stands.
use Rattle.std.specs.Prelude.{ℕ, List, Option, Some, None}
use Rattle.snp_model.specs.declared.item.Item.{Item}
use Rattle.snp_model.specs.declared.item.Item.TheVariants as items
use Rattle.snp_model.specs.declared.scenario.Role.{Role}
use Rattle.snp_model.specs.declared.scenario.Role.TheVariants.{Cpu, Host, Firmware}
use Rattle.snp_model.specs.declared.walk.GuestEnd.{GuestEnd}
use Rattle.snp_model.specs.declared.walk.GuestEnd.TheVariants as guest_ends
use Rattle.snp_model.specs.declared.walk.Need.{Need}
use Rattle.snp_model.specs.declared.walk.Need.TheVariants as needs
use Rattle.snp_model.specs.Bounds.{IsPaging}
use Rattle.snp_model.specs.InstructionStep.{page_lookup}
use Rattle.snp_model.specs.Walking.{guest_stands, lookup_of}
use Rattle.machine_core.specs.declared.cpu.Arrived.{Arrived}

-- the guest tables of a guest processor begin at a guest page number
abbrev pub IsPagingRole : Role → Type 0
IsPagingRole (Cpu guest vmpl npt paging) = IsPaging paging
IsPagingRole Host = Unit {0}
IsPagingRole Firmware = Unit {0}

-- the end that stands for a guest walk where there is none
abbrev pub no_walk : GuestEnd
no_walk = guest_ends.Fault 0

-- where the guest walk of an actor's item stands that has read these words
abbrev pub stands_of : Role → Item → List ℕ → GuestEnd
stands_of (Cpu guest vmpl npt paging) (items.Access address op) words = guest_stands paging (lookup_of address op) words
stands_of (Cpu guest vmpl npt paging) (items.Pvalidate address size validate) words = guest_stands paging (page_lookup address) words
stands_of (Cpu guest vmpl npt paging) (items.Rmpadjust address size target mask vmsa) words = guest_stands paging (page_lookup address) words
stands_of (Cpu guest vmpl npt paging) (items.Rmpupdate update) words = no_walk
stands_of (Cpu guest vmpl npt paging) (items.Psmash frame) words = no_walk
stands_of (Cpu guest vmpl npt paging) (items.Firmware command) words = no_walk
stands_of (Cpu guest vmpl npt paging) (items.Skip count test) words = no_walk
stands_of Host item words = no_walk
stands_of Firmware item words = no_walk

-- a word of a nested table is needed
abbrev pub IsReading : Need → Type 0
IsReading (needs.Nested frame index) = Unit {0}
IsReading (needs.Table gpn index frame size) = ⊥
IsReading (needs.Data gpn private frame size) = ⊥
IsReading (needs.Fault outcome) = ⊥

-- the page to which walks have come that need this, if they have
abbrev pub arrived_at : Need → Option Arrived
arrived_at (needs.Nested frame index) = None
arrived_at (needs.Table gpn index frame size) = None
arrived_at (needs.Data gpn private frame size) = Some (record { gpn = gpn; private = private; frame = frame; size = size })
arrived_at (needs.Fault outcome) = None
