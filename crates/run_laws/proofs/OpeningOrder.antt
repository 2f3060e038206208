-- The opening of a sound scenario is in order.
use Rattle.std.proofs.Common.{ℕ, zero, suc, ◌-◌, List, [], ◌∷◌, map, get_or, slice_get, sym, ap, ◌∙◌, arith}
use Rattle.std.proofs.lemmas.Option.{none-some}
use Rattle.std.specs.List.{AllByRecursion}
use Rattle.snp_model.specs.declared.command.Command.{Command}
use Rattle.snp_model.specs.declared.command.Command.TheVariants as commands
use Rattle.snp_model.specs.declared.item.Item.{Item}
use Rattle.snp_model.specs.declared.item.Item.TheVariants as items
use Rattle.snp_model.specs.declared.item.Line.{Line}
use Rattle.snp_model.specs.declared.item.Op.{Op}
use Rattle.snp_model.specs.declared.item.Op.TheVariants.{Load, Store, Swap, Compare, Xor}
use Rattle.snp_model.specs.declared.scenario.Actor.{Actor}
use Rattle.snp_model.specs.declared.scenario.Role.{Role}
use Rattle.snp_model.specs.declared.scenario.Role.TheVariants.{Cpu, Host, Firmware}
use Rattle.snp_model.specs.declared.scenario.Scenario.{Scenario}
use Rattle.snp_model.specs.Bounds.{AreOperationWords, IsRole, IsFirmwareCommand, IsItemOf, IsLineOf}
use Rattle.snp_model.specs.Opening.{opening, opening_part}
use Rattle.snp_model.specs.Sound.{IsSound, IsActor}
use Rattle.snp_model.specs.State.{Standing, idle_part}
use Rattle.snp_model.specs.Step.{idle_line, line_at}
use Rattle.run_laws.specs.Operands.{AreWordsOf, AreCommandOperands, AreOperands, HaveOperands}
use Rattle.run_laws.proofs.InOrder.{IsInOrder, HaveFitMade, HaveFitRoots, HaveRoles}
use Rattle.run_laws.proofs.LockedRuns.{opening_keeps_locks, shaped_whole}
use Rattle.run_laws.proofs.OpenAttemptsLaws.{opening_walking}
use Rattle.run_laws.proofs.OpeningLaws.{no_root}
use Rattle.run_laws.proofs.OpeningParts.{opening_shaped, part_idle}

-- roles
parts_roles : (frames guests : ℕ) (actors : List Actor) (k : ℕ) → AllByRecursion (IsActor frames guests) actors → IsRole frames guests (get_or (map opening_part actors) k idle_part).role
unfolding idle_part
parts_roles frames guests [] k all = tt
parts_roles frames guests (actor ∷ actors) zero all = all.0.role
parts_roles frames guests (actor ∷ actors) (suc k) all = parts_roles frames guests actors k all.1

opening_roles : (c : Scenario) → IsSound c → HaveRoles (opening c)
unfolding opening
opening_roles c sound actor = parts_roles _ _ c.actors (actor - 1) sound.actors

-- operands
command_operands : (command : Command) → IsFirmwareCommand command → AreCommandOperands command
command_operands (commands.GctxCreate guest frame) is = tt
command_operands (commands.Activate guest asid) is = tt
command_operands (commands.LaunchStart guest) is = tt
command_operands (commands.LaunchUpdate guest frame page_type imi perms) is = is.2
command_operands (commands.LaunchFinish guest) is = tt
command_operands (commands.MdInit frame) is = tt
command_operands (commands.PageMove guest source target) is = tt
command_operands (commands.SwapOut guest source target metadata entry) is = grind (arith, is)
command_operands (commands.SwapIn guest source target metadata entry) is = grind (arith, is)
command_operands (commands.Reclaim frame) is = tt
command_operands (commands.MdOut guest source target metadata entry) is = grind (arith, is)
command_operands (commands.MdIn guest source target metadata entry) is = grind (arith, is)
command_operands (commands.MdRootOut guest source target) is = tt
command_operands (commands.MdRootIn guest source target) is = tt

operation_words : (op : Op) → AreOperationWords op → AreWordsOf op
operation_words Load are = tt
operation_words (Store value) are = are
operation_words (Swap value) are = are
operation_words (Compare expected next) are = are.1
operation_words (Xor value) are = are

item_operands : (frames : ℕ) (role : Role) (item : Item) → IsItemOf frames role item → AreOperands item
item_operands frames (Cpu guest vmpl npt paging) (items.Access address op) is = operation_words op is.1
item_operands frames (Cpu guest vmpl npt paging) (items.Pvalidate address size validate) is = tt
item_operands frames (Cpu guest vmpl npt paging) (items.Rmpadjust address size target mask vmsa) is = is.1
item_operands frames (Cpu guest vmpl npt paging) (items.Rmpupdate update) is = absurd is
item_operands frames (Cpu guest vmpl npt paging) (items.Psmash frame) is = tt
item_operands frames (Cpu guest vmpl npt paging) (items.Firmware command) is = absurd is
item_operands frames (Cpu guest vmpl npt paging) (items.Skip count test) is = tt
item_operands frames Host (items.Access address op) is = operation_words op is.2
item_operands frames Host (items.Pvalidate address size validate) is = tt
item_operands frames Host (items.Rmpadjust address size target mask vmsa) is = absurd is
item_operands frames Host (items.Rmpupdate update) is = is
item_operands frames Host (items.Psmash frame) is = tt
item_operands frames Host (items.Firmware command) is = absurd is
item_operands frames Host (items.Skip count test) is = tt
item_operands frames Firmware (items.Access address op) is = absurd is
item_operands frames Firmware (items.Pvalidate address size validate) is = tt
item_operands frames Firmware (items.Rmpadjust address size target mask vmsa) is = absurd is
item_operands frames Firmware (items.Rmpupdate update) is = absurd is
item_operands frames Firmware (items.Psmash frame) is = tt
item_operands frames Firmware (items.Firmware command) is = command_operands command is
item_operands frames Firmware (items.Skip count test) is = tt

script_operands : (frames : ℕ) (role : Role) (script : List Line) (place : ℕ) → AllByRecursion (IsLineOf frames role) script → AreOperands (line_at script place).item
unfolding idle_line
script_operands frames role [] place all = tt
script_operands frames role (line ∷ lines) zero all = item_operands frames role line.item all.0.item
script_operands frames role (line ∷ lines) (suc place) all = script_operands frames role lines place all.1

parts_operands : (frames guests : ℕ) (actors : List Actor) (k place : ℕ) → AllByRecursion (IsActor frames guests) actors → AreOperands (line_at (get_or (map opening_part actors) k idle_part).script place).item
unfolding idle_part idle_line
parts_operands frames guests [] k place all = tt
parts_operands frames guests (actor ∷ actors) zero place all = script_operands frames actor.role actor.script place all.0.script
parts_operands frames guests (actor ∷ actors) (suc k) place all = parts_operands frames guests actors k place all.1

opening_operands : (c : Scenario) → IsSound c → HaveOperands (opening c)
unfolding opening
opening_operands c sound actor place = parts_operands _ _ c.actors (actor - 1) place sound.actors

-- nothing is made
opening_fit_made : (c : Scenario) → HaveFitMade (opening c)
opening_fit_made c actor made is = absurd (none-some made (sym (ap (λ (standing : Standing). standing.computed) (part_idle c actor)) ∙ is))

-- and no guest has a root
opening_roots : (c : Scenario) → HaveFitRoots (opening c)
unfolding opening
opening_roots c guest entry is = absurd (none-some entry (sym (no_root (slice_get c.guests (guest - 1))) ∙ is))

pub opening_order : (c : Scenario) → IsSound c → IsInOrder (opening c)
opening_order c sound =
    let shapes = opening_shaped c sound in
    record {
      roles = opening_roles c sound;
      operands = opening_operands c sound;
      locks = opening_keeps_locks c (shaped_whole (opening c) shapes);
      walking = opening_walking c;
      shapes = shapes;
      made = opening_fit_made c;
      roots = opening_roots c;
    }
