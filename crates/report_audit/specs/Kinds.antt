-- Which events can be of an item, as far as an audit asks. This project's own.
use Rattle.std.specs.Prelude.{ℕ, ◌%◌, ◌^◌, ◌==◌, nat_lt, Bool, true, false, not, ◌&&◌, ◌||◌, List, Option, Some, None}
use Rattle.snp_model.specs.declared.command.Command.TheVariants as commands
use Rattle.snp_model.specs.declared.event.Deed.{Deed}
use Rattle.snp_model.specs.declared.event.Deed.TheVariants as deeds
use Rattle.snp_model.specs.declared.event.Event.{Event}
use Rattle.snp_model.specs.declared.event.Outcome.{Outcome}
use Rattle.snp_model.specs.declared.event.Outcome.TheVariants as outcomes
use Rattle.snp_model.specs.declared.item.Item.{Item}
use Rattle.snp_model.specs.declared.item.Item.TheVariants as items
use Rattle.snp_model.specs.declared.scenario.GuestSpec.{GuestSpec}
use Rattle.snp_model.specs.declared.scenario.Role.{Role}
use Rattle.snp_model.specs.declared.scenario.Role.TheVariants.{Cpu, Host, Firmware}
use Rattle.snp_model.specs.ScenarioLines.{is_opened}
use Rattle.snp_model.specs.Verdicts.{is_large}
use Rattle.guest_memory.specs.Answers.{IsInRange}
use Rattle.guest_memory.specs.Uses.{may_belong}

-- whether the guest page number and the index of a processor's deed are in range, and a page of 2 MB begins at a multiple of 512
abbrev pub is_in_range : Deed → Bool
is_in_range deeds.Begin = true
is_in_range (deeds.Nested frame index value) = nat_lt index 512
is_in_range (deeds.Table gpn index frame value) = nat_lt gpn (2 ^ 36) && nat_lt index 512
is_in_range (deeds.Access gpn index frame private) = nat_lt gpn (2 ^ 36) && nat_lt index 512
is_in_range (deeds.Host frame index) = nat_lt index 512
is_in_range (deeds.Lock frame) = true
is_in_range (deeds.LockContext guest) = true
is_in_range deeds.Compute = true
is_in_range (deeds.Commit frame gpn size) = nat_lt gpn (2 ^ 36) && (not (is_large size) || (gpn % 512 == 0))
is_in_range (deeds.CommitContext guest) = true
is_in_range deeds.Control = true

-- the guest for which an item launches a page
abbrev pub launched_for : Item → Option ℕ
launched_for (items.Firmware (commands.LaunchUpdate guest frame page_type imi perms)) = Some guest
launched_for item = None

-- whether a deed is the commit of a page
abbrev pub is_commit : Deed → Bool
is_commit (deeds.Commit frame gpn size) = true
is_commit deed = false

-- whether the firmware was done
abbrev pub is_success : Option Outcome → Bool
is_success (Some (outcomes.Firmware status)) = status == 0
is_success outcome = false

abbrev pub is_some_opened : List GuestSpec → Option ℕ → Bool
is_some_opened guests (Some guest) = is_opened guests guest
is_some_opened guests None = false

-- whether an event of the firmware launches a page for a guest that is opened
abbrev pub launches : List GuestSpec → Item → Event → Bool
launches guests item event = is_commit event.deed && is_success event.outcome && is_some_opened guests (launched_for item)

-- whether an event can be of an item of an actor
unfoldable pub is_kind : List GuestSpec → Role → Item → Event → Bool
is_kind guests (Cpu guest vmpl npt paging) item event = may_belong event.outcome event.deed item && is_in_range event.deed
is_kind guests Host item event = true
is_kind guests Firmware item event = not (launches guests item event)

-- the numbers of the deed of a processor are in range
abbrev pub IsRangeFor : Role → Deed → Type 0
IsRangeFor (Cpu guest vmpl npt paging) deed = IsInRange deed
IsRangeFor Host deed = Unit {0}
IsRangeFor Firmware deed = Unit {0}
