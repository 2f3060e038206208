-- That the operands of an item fit what they are written to: words of 64 bits, facts of frames, and entries of a metadata page. This project's own.
use Rattle.std.specs.Prelude.{ℕ, ◌<◌, ◌^◌}
use Rattle.snp_model.specs.declared.command.Command.{Command}
use Rattle.snp_model.specs.declared.command.Command.TheVariants as commands
use Rattle.snp_model.specs.declared.item.Item.{Item}
use Rattle.snp_model.specs.declared.item.Item.TheVariants as items
use Rattle.snp_model.specs.declared.item.Op.{Op}
use Rattle.snp_model.specs.declared.item.Op.TheVariants.{Load, Store, Swap, Compare, Xor}
use Rattle.snp_model.specs.Bounds.{IsUpdate, IsLaunchedWith}
use Rattle.snp_model.specs.State.{State, part_of}
use Rattle.snp_model.specs.Step.{line_at}

-- what an access writes, if it writes, is made of words of 64 bits
abbrev pub AreWordsOf : Op → Type 0
AreWordsOf Load = Unit {0}
AreWordsOf (Store value) = value < 2 ^ 64
AreWordsOf (Swap value) = value < 2 ^ 64
AreWordsOf (Compare expected next) = next < 2 ^ 64
AreWordsOf (Xor value) = value < 2 ^ 64

-- a command launches with permissions of a byte each, and names one of the 64 entries of a metadata page
abbrev pub AreCommandOperands : Command → Type 0
AreCommandOperands (commands.GctxCreate guest frame) = Unit {0}
AreCommandOperands (commands.Activate guest asid) = Unit {0}
AreCommandOperands (commands.LaunchStart guest) = Unit {0}
AreCommandOperands (commands.LaunchUpdate guest frame page_type imi perms) = IsLaunchedWith perms
AreCommandOperands (commands.LaunchFinish guest) = Unit {0}
AreCommandOperands (commands.MdInit frame) = Unit {0}
AreCommandOperands (commands.PageMove guest source target) = Unit {0}
AreCommandOperands (commands.SwapOut guest source target metadata entry) = entry < 64
AreCommandOperands (commands.SwapIn guest source target metadata entry) = entry < 64
AreCommandOperands (commands.Reclaim frame) = Unit {0}
AreCommandOperands (commands.MdOut guest source target metadata entry) = entry < 64
AreCommandOperands (commands.MdIn guest source target metadata entry) = entry < 64
AreCommandOperands (commands.MdRootOut guest source target) = Unit {0}
AreCommandOperands (commands.MdRootIn guest source target) = Unit {0}

-- the operands of an item fit
abbrev pub AreOperands : Item → Type 0
AreOperands (items.Access address op) = AreWordsOf op
AreOperands (items.Pvalidate address size validate) = Unit {0}
AreOperands (items.Rmpadjust address size target mask vmsa) = mask < 2 ^ 8
AreOperands (items.Rmpupdate update) = IsUpdate update
AreOperands (items.Psmash frame) = Unit {0}
AreOperands (items.Firmware command) = AreCommandOperands command
AreOperands (items.Skip count test) = Unit {0}

-- so those of each item of each actor
abbrev pub HaveOperands : State → Type 0
HaveOperands m = (actor place : ℕ) → AreOperands (line_at (part_of m actor).script place).item
