-- The numbers of an event are those of its types. This project's own.
use Rattle.std.specs.Prelude.{◌≡◌, ℕ, ◌^◌, ◌<◌, List, length, IfSome}
use Rattle.snp_model.specs.declared.event.Deed.{Deed}
use Rattle.snp_model.specs.declared.event.Deed.TheVariants.{Begin, Nested, Table, Access, Host, Lock, LockContext, Compute, Commit, CommitContext, Control}
use Rattle.snp_model.specs.declared.event.Outcome.{Outcome}
use Rattle.snp_model.specs.declared.event.Outcome.TheVariants.{Loaded, Opaque, Stored, Swapped, Compared, Gp, Pf, Npf, Vc, Offline, Status, Carry, StatusInUse, Firmware, FirmwareInUse, BadTag, Next, Skipped}
use Rattle.snp_model.specs.declared.event.Event.{Event}
use Rattle.snp_model.specs.EventText.{event_text}
use Rattle.snp_model.specs.Metadata.{AreBytes}

-- of what an event does
abbrev pub IsDeed : Deed → Type 0
IsDeed Begin = Unit {0}
IsDeed (Nested frame index value) = (frame < 2 ^ 32) × (index < 2 ^ 16) × (value < 2 ^ 64)
IsDeed (Table gpn index frame value) = (gpn < 2 ^ 64) × (index < 2 ^ 16) × (frame < 2 ^ 32) × IfSome value (λ v. v < 2 ^ 64)
IsDeed (Access gpn index frame private) = (gpn < 2 ^ 64) × (index < 2 ^ 16) × (frame < 2 ^ 32)
IsDeed (Host frame index) = (frame < 2 ^ 32) × (index < 2 ^ 16)
IsDeed (Lock frame) = frame < 2 ^ 64
IsDeed (LockContext guest) = guest < 2 ^ 8
IsDeed Compute = Unit {0}
IsDeed (Commit frame gpn size) = (frame < 2 ^ 32) × (gpn < 2 ^ 64)
IsDeed (CommitContext guest) = guest < 2 ^ 8
IsDeed Control = Unit {0}

-- a tag has 16 bytes
abbrev pub IsTag : List ℕ → Type 0
IsTag tag = (length tag ≡ 16) × AreBytes tag

-- of how an attempt ends
abbrev pub IsOutcome : Outcome → Type 0
IsOutcome (Loaded value) = value < 2 ^ 64
IsOutcome Opaque = Unit {0}
IsOutcome Stored = Unit {0}
IsOutcome (Swapped value) = value < 2 ^ 64
IsOutcome (Compared found written) = found < 2 ^ 64
IsOutcome Gp = Unit {0}
IsOutcome Offline = Unit {0}
IsOutcome (Pf code) = code < 2 ^ 64
IsOutcome (Npf code) = code < 2 ^ 64
IsOutcome (Vc code) = code < 2 ^ 64
IsOutcome (Status status) = status < 2 ^ 8
IsOutcome (Carry carry) = Unit {0}
IsOutcome (StatusInUse holder) = holder < 2 ^ 32
IsOutcome (Firmware status) = status < 2 ^ 16
IsOutcome (FirmwareInUse holder) = holder < 2 ^ 32
IsOutcome (BadTag found kept) = IsTag found × IsTag kept
IsOutcome Next = Unit {0}
IsOutcome (Skipped count) = count < 2 ^ 32

-- an event of the types, whether or not a run makes it
pub record IsEvent (event : Event) : Type 0 where
  pub item : event.item < 2 ^ 32
  pub attempt : event.attempt < 2 ^ 32
  pub deed : IsDeed event.deed
  pub outcome : IfSome event.outcome IsOutcome

-- the line of event k, of this actor
pub record IsLineOf (line : List ℕ) (k actor : ℕ) (event : Event) : Type 0 where
  pub number : k < 2 ^ 32
  pub actor_number : actor < 2 ^ 32
  pub types : IsEvent event
  pub text : line ≡ event_text k actor event
