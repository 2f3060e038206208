-- What a scenario has that some text can say, beside the bounds of `Sound`: its numbers are those of its types, and only some items are
-- tried again. This project's own.
use Rattle.std.specs.Prelude.{◌≡◌, ℕ, ◌^◌, ◌<◌, true, List, length}
use Rattle.std.specs.List.{AllByRecursion}
use Rattle.snp_model.specs.declared.command.Command.{Command}
use Rattle.snp_model.specs.declared.command.Command.TheVariants.{GctxCreate, Activate, LaunchStart, LaunchUpdate, LaunchFinish, MdInit, PageMove, SwapOut, SwapIn, Reclaim, MdOut, MdIn, MdRootOut, MdRootIn}
use Rattle.snp_model.specs.declared.item.Item.{Item}
use Rattle.snp_model.specs.declared.item.Item.TheVariants.{Access, Psmash, Pvalidate, Rmpadjust, Rmpupdate, Skip}
use Rattle.snp_model.specs.declared.item.Item.TheVariants as items
use Rattle.snp_model.specs.declared.item.Line.{Line}
use Rattle.snp_model.specs.declared.item.SkipTest.{SkipTest}
use Rattle.snp_model.specs.declared.item.SkipTest.TheVariants.{Good, Bad, Value}
use Rattle.snp_model.specs.declared.scenario.Actor.{Actor}
use Rattle.snp_model.specs.declared.scenario.GuestSpec.{GuestSpec}
use Rattle.snp_model.specs.declared.scenario.PageSpec.{PageSpec}
use Rattle.snp_model.specs.declared.scenario.Paging.{Paging}
use Rattle.snp_model.specs.declared.scenario.Paging.TheVariants.{Flat, Four, Five}
use Rattle.snp_model.specs.declared.scenario.Role.{Role}
use Rattle.snp_model.specs.declared.scenario.Role.TheVariants.{Cpu, Host, Firmware}
use Rattle.snp_model.specs.declared.scenario.Scenario.{Scenario}
use Rattle.snp_model.specs.ScenarioLines.{is_opened}

-- accesses and skips are never tried again
abbrev pub IsTriedBy : ℕ → Item → Type 0
IsTriedBy retries (Access address op) = retries ≡ 0
IsTriedBy retries (Pvalidate address size validate) = Unit {0}
IsTriedBy retries (Rmpadjust address size target mask vmsa) = Unit {0}
IsTriedBy retries (Rmpupdate update) = Unit {0}
IsTriedBy retries (Psmash frame) = Unit {0}
IsTriedBy retries (items.Firmware command) = Unit {0}
IsTriedBy retries (Skip count test) = retries ≡ 0

-- words of 64 bits
abbrev pub IsWideTest : SkipTest → Type 0
IsWideTest Good = Unit {0}
IsWideTest Bad = Unit {0}
IsWideTest (Value value) = value < 2 ^ 64

-- frames of a command
abbrev pub IsWideCommand : Command → Type 0
IsWideCommand (GctxCreate guest frame) = frame < 2 ^ 64
IsWideCommand (Activate guest asid) = Unit {0}
IsWideCommand (LaunchStart guest) = Unit {0}
IsWideCommand (LaunchUpdate guest frame page_type imi perms) = frame < 2 ^ 64
IsWideCommand (LaunchFinish guest) = Unit {0}
IsWideCommand (MdInit frame) = frame < 2 ^ 64
IsWideCommand (PageMove guest source target) = (source < 2 ^ 64) × (target < 2 ^ 64)
IsWideCommand (SwapOut guest source target metadata entry) = (source < 2 ^ 64) × (target < 2 ^ 64) × (metadata < 2 ^ 64)
IsWideCommand (SwapIn guest source target metadata entry) = (source < 2 ^ 64) × (target < 2 ^ 64) × (metadata < 2 ^ 64)
IsWideCommand (Reclaim frame) = frame < 2 ^ 64
IsWideCommand (MdOut guest source target metadata entry) = (source < 2 ^ 64) × (target < 2 ^ 64) × (metadata < 2 ^ 64)
IsWideCommand (MdIn guest source target metadata entry) = (source < 2 ^ 64) × (target < 2 ^ 64) × (metadata < 2 ^ 64)
IsWideCommand (MdRootOut guest source target) = (source < 2 ^ 64) × (target < 2 ^ 64)
IsWideCommand (MdRootIn guest source target) = (source < 2 ^ 64) × (target < 2 ^ 64)

-- addresses, frames and words of an item
abbrev pub IsWide : Item → Type 0
IsWide (Access address op) = address < 2 ^ 64
IsWide (Pvalidate address size validate) = address < 2 ^ 64
IsWide (Rmpadjust address size target mask vmsa) = address < 2 ^ 64
IsWide (Rmpupdate update) = update.frame < 2 ^ 64
IsWide (Psmash frame) = frame < 2 ^ 64
IsWide (items.Firmware command) = IsWideCommand command
IsWide (Skip count test) = IsWideTest test

-- a key has 32 bytes
abbrev pub HasWholeKey : GuestSpec → Type 0
HasWholeKey guest = length guest.key ≡ 32

-- a page's guest is opened
abbrev pub IsOfOpened : List GuestSpec → PageSpec → Type 0
IsOfOpened guests page = is_opened guests page.guest ≡ true

-- guest tables of five levels are of version 2 alone
abbrev pub IsPagingOf : ℕ → Paging → Type 0
IsPagingOf version Flat = Unit {0}
IsPagingOf version (Four root) = Unit {0}
IsPagingOf version (Five root) = version ≡ 2

abbrev pub IsRoleOf : ℕ → Role → Type 0
IsRoleOf version (Cpu guest vmpl npt paging) = IsPagingOf version paging
IsRoleOf version Host = Unit {0}
IsRoleOf version Firmware = Unit {0}

-- only some items are tried again, and all numbers are words of 64 bits
abbrev pub IsSpelledLine : Line → Type 0
IsSpelledLine line = IsTriedBy line.retries line.item × IsWide line.item

abbrev pub IsSpelledActor : ℕ → Actor → Type 0
IsSpelledActor version actor = IsRoleOf version actor.role × AllByRecursion IsSpelledLine actor.script

-- a scenario
pub record IsSpelled (c : Scenario) : Type 0 where
  pub keys : AllByRecursion HasWholeKey c.guests
  pub opened : AllByRecursion (IsOfOpened c.guests) c.pages
  pub actors : AllByRecursion (IsSpelledActor c.version) c.actors
