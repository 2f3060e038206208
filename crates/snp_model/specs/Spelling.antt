-- The lines of items as they are written: all numbers in base 10, and retries only where there are some. The texts are this
-- project's own.
use Rattle.std.specs.Prelude.{ℕ, ◌==◌, Bool, if◌then◌else◌, List, [], ◌∷◌, ◌++◌, codes, decimal}
use Rattle.snp_model.specs.declared.command.Command.{Command}
use Rattle.snp_model.specs.declared.command.Command.TheVariants as commands
use Rattle.snp_model.specs.declared.item.Item.{Item}
use Rattle.snp_model.specs.declared.item.Item.TheVariants as items
use Rattle.snp_model.specs.declared.item.Line.{Line}
use Rattle.snp_model.specs.declared.item.Op.{Op}
use Rattle.snp_model.specs.declared.item.Op.TheVariants.{Load, Store, Swap, Compare, Xor}
use Rattle.snp_model.specs.declared.item.SkipTest.{SkipTest}
use Rattle.snp_model.specs.declared.item.SkipTest.TheVariants.{Good, Bad, Value}
use Rattle.snp_model.specs.declared.item.Update.{Update}
use Rattle.snp_model.specs.EventText.{size_text}

-- words behind others, each after a single space; 32 is the space
abbrev pub behind : List (List ℕ) → List ℕ
behind [] = []
behind (w ∷ ws) = 32 ∷ (w ++ behind ws)

-- the line of these words
abbrev pub joined : List (List ℕ) → List ℕ
joined [] = []
joined (w ∷ ws) = w ++ behind ws

-- numbers as words
abbrev pub numbers : List ℕ → List (List ℕ)
numbers [] = []
numbers (n ∷ ns) = decimal n ∷ numbers ns

-- 0 or 1
unfoldable pub flag_text : Bool → List ℕ
flag_text flag = if flag then codes "1" else codes "0"

-- an access
unfoldable pub access_words : ℕ → Op → List (List ℕ)
access_words address Load = codes "load" ∷ decimal address ∷ []
access_words address (Store value) = codes "store" ∷ decimal address ∷ decimal value ∷ []
access_words address (Swap value) = codes "swap" ∷ decimal address ∷ decimal value ∷ []
access_words address (Compare expected next) = codes "cas" ∷ decimal address ∷ decimal expected ∷ decimal next ∷ []
access_words address (Xor value) = codes "xor" ∷ decimal address ∷ decimal value ∷ []

-- the operands of RMPUPDATE
unfoldable pub update_words : Update → List (List ℕ)
update_words update =
    codes "rmpupdate" ∷ decimal update.frame ∷ size_text update.size ∷ flag_text update.assigned ∷ decimal update.asid
    ∷ decimal update.gpn ∷ flag_text update.immutable ∷ []

-- a command
unfoldable pub command_words : Command → List (List ℕ)
command_words (commands.GctxCreate guest frame) = codes "gctx_create" ∷ decimal guest ∷ decimal frame ∷ []
command_words (commands.Activate guest asid) = codes "activate" ∷ decimal guest ∷ decimal asid ∷ []
command_words (commands.LaunchStart guest) = codes "launch_start" ∷ decimal guest ∷ []
command_words (commands.LaunchUpdate guest frame page_type imi perms) =
    codes "launch_update" ∷ decimal guest ∷ decimal frame ∷ decimal page_type ∷ flag_text imi ∷ numbers perms
command_words (commands.LaunchFinish guest) = codes "launch_finish" ∷ decimal guest ∷ []
command_words (commands.MdInit frame) = codes "md_init" ∷ decimal frame ∷ []
command_words (commands.PageMove guest source target) = codes "page_move" ∷ decimal guest ∷ decimal source ∷ decimal target ∷ []
command_words (commands.SwapOut guest source target metadata entry) =
    codes "swap_out" ∷ decimal guest ∷ decimal source ∷ decimal target ∷ decimal metadata ∷ decimal entry ∷ []
command_words (commands.SwapIn guest source target metadata entry) =
    codes "swap_in" ∷ decimal guest ∷ decimal source ∷ decimal target ∷ decimal metadata ∷ decimal entry ∷ []
command_words (commands.Reclaim frame) = codes "page_reclaim" ∷ decimal frame ∷ []
command_words (commands.MdOut guest source target metadata entry) =
    codes "md_out" ∷ decimal guest ∷ decimal source ∷ decimal target ∷ decimal metadata ∷ decimal entry ∷ []
command_words (commands.MdIn guest source target metadata entry) =
    codes "md_in" ∷ decimal guest ∷ decimal source ∷ decimal target ∷ decimal metadata ∷ decimal entry ∷ []
command_words (commands.MdRootOut guest source target) = codes "md_root_out" ∷ decimal guest ∷ decimal source ∷ decimal target ∷ []
command_words (commands.MdRootIn guest source target) = codes "md_root_in" ∷ decimal guest ∷ decimal source ∷ decimal target ∷ []

-- a skip
unfoldable pub skip_words : ℕ → SkipTest → List (List ℕ)
skip_words count Good = codes "skip" ∷ decimal count ∷ codes "if" ∷ codes "ok" ∷ []
skip_words count Bad = codes "skip" ∷ decimal count ∷ codes "if" ∷ codes "bad" ∷ []
skip_words count (Value value) = codes "skip" ∷ decimal count ∷ codes "if" ∷ codes "value" ∷ decimal value ∷ []

-- the words of an item
unfoldable pub item_said : Item → List (List ℕ)
item_said (items.Access address op) = access_words address op
item_said (items.Pvalidate address size validate) = codes "pvalidate" ∷ decimal address ∷ size_text size ∷ flag_text validate ∷ []
item_said (items.Rmpadjust address size target mask vmsa) =
    codes "rmpadjust" ∷ decimal address ∷ size_text size ∷ decimal target ∷ decimal mask ∷ flag_text vmsa ∷ []
item_said (items.Rmpupdate update) = update_words update
item_said (items.Psmash frame) = codes "psmash" ∷ decimal frame ∷ []
item_said (items.Firmware command) = command_words command
item_said (items.Skip count test) = skip_words count test

-- `retry N`, where an item is tried again
unfoldable pub retry_words : ℕ → List (List ℕ)
retry_words retries = if retries == 0 then [] else codes "retry" ∷ decimal retries ∷ []

-- the line of an item: its words, and its retries behind them
unfoldable pub item_text : Line → List ℕ
item_text line = joined (item_said line.item) ++ behind (retry_words line.retries)
