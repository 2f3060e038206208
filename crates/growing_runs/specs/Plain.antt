-- Items and outcomes that pass over no item: all but skips. This project's own.
use Rattle.std.specs.Prelude.{◌≡◌, List, Option, Some, None}
use Rattle.std.specs.List.{AllByRecursion}
use Rattle.snp_model.specs.declared.event.Outcome.{Outcome}
use Rattle.snp_model.specs.declared.item.Item.{Item}
use Rattle.snp_model.specs.declared.item.Item.TheVariants as items
use Rattle.snp_model.specs.declared.item.Line.{Line}
use Rattle.snp_model.specs.Step.{passed_over}

-- an item that passes over none
abbrev pub IsPlain : Item → Type 0
IsPlain (items.Access address op) = Unit {0}
IsPlain (items.Pvalidate address size validate) = Unit {0}
IsPlain (items.Rmpadjust address size target mask vmsa) = Unit {0}
IsPlain (items.Rmpupdate update) = Unit {0}
IsPlain (items.Psmash frame) = Unit {0}
IsPlain (items.Firmware command) = Unit {0}
IsPlain (items.Skip count test) = ⊥

-- a script without skips
abbrev pub AreAllPlain : List Line → Type 0
AreAllPlain script = AllByRecursion (λ line. IsPlain line.item) script

-- an outcome passes over no item
abbrev pub PassesNone : Option Outcome → Type 0
PassesNone None = Unit {0}
PassesNone (Some outcome) = passed_over outcome ≡ 0
