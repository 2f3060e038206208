-- The lines of items, a row for each form, by the role of their actor. The texts are this project's own.
use Rattle.std.specs.Prelude.{ℕ, ◌+◌, ◌*◌, ◌^◌, ◌==◌, ◌||◌, if◌then◌else◌, Bool, List, [], ◌∷◌, Result, Ok, Err, codes, bytes_eq, length}
use Rattle.snp_model.specs.declared.command.Command.{Command}
use Rattle.snp_model.specs.declared.command.Command.TheVariants.{GctxCreate, Activate, LaunchStart, LaunchUpdate, LaunchFinish, MdInit, PageMove, SwapOut, SwapIn, Reclaim, MdOut, MdIn, MdRootOut, MdRootIn}
use Rattle.snp_model.specs.declared.entry.PageSize.{PageSize}
use Rattle.snp_model.specs.declared.entry.PageSize.TheVariants.{Small, Large}
use Rattle.snp_model.specs.declared.reading.Reason.{Reason}
use Rattle.snp_model.specs.declared.reading.Reason.TheVariants.{Form}
use Rattle.snp_model.specs.declared.scenario.Role.{Role}
use Rattle.snp_model.specs.declared.scenario.Role.TheVariants.{Cpu, Host, Firmware}
use Rattle.snp_model.specs.declared.item.Line.{Line}
use Rattle.snp_model.specs.declared.item.Op.TheVariants.{Load, Store, Swap, Compare, Xor}
use Rattle.snp_model.specs.declared.item.SkipTest.{SkipTest}
use Rattle.snp_model.specs.declared.item.SkipTest.TheVariants.{Good, Bad, Value}
use Rattle.snp_model.specs.declared.item.Item.{Item}
use Rattle.snp_model.specs.declared.item.Item.TheVariants as items
use Rattle.snp_model.specs.declared.item.Item.TheVariants.{Access, Psmash, Pvalidate, Rmpadjust, Rmpupdate, Skip}
use Rattle.snp_model.specs.declared.item.Update.{Update}
use Rattle.snp_model.specs.Lines.{◌>>=◌, ◌>>◌, words_of, word, is_plain, is_row, fixed, number, ranged, below, multiple}

-- an item without retries
abbrev pub once : Item → Line
once item = record { item = item; retries = 0 }

-- the address of an access: any for a guest processor, and one in a memory of so many frames for a hypervisor's
unfoldable pub address_word : Role → ℕ → List ℕ → Result ℕ Reason
address_word (Cpu guest vmpl npt paging) frames w = do
  place ← number w
  multiple 8 place
address_word Host frames w = do
  place ← below (4096 * frames) w
  multiple 8 place
address_word Firmware frames w = Err Form

-- `load A`
unfoldable pub load_row : Role → ℕ → List (List ℕ) → Result Line Reason
load_row role frames ws = do
  address ← address_word role frames (word ws 1)
  Ok (once (Access address Load))

-- `store A V`
unfoldable pub store_row : Role → ℕ → List (List ℕ) → Result Line Reason
store_row role frames ws = do
  address ← address_word role frames (word ws 1)
  value ← number (word ws 2)
  Ok (once (Access address (Store value)))

-- `swap A V`
unfoldable pub swap_row : Role → ℕ → List (List ℕ) → Result Line Reason
swap_row role frames ws = do
  address ← address_word role frames (word ws 1)
  value ← number (word ws 2)
  Ok (once (Access address (Swap value)))

-- `cas A OLD NEW`
unfoldable pub cas_row : Role → ℕ → List (List ℕ) → Result Line Reason
cas_row role frames ws = do
  address ← address_word role frames (word ws 1)
  expected ← number (word ws 2)
  next ← number (word ws 3)
  Ok (once (Access address (Compare expected next)))

-- `xor A V`
unfoldable pub xor_row : Role → ℕ → List (List ℕ) → Result Line Reason
xor_row role frames ws = do
  address ← address_word role frames (word ws 1)
  value ← number (word ws 2)
  Ok (once (Access address (Xor value)))

-- the test of a skip that names no value
unfoldable pub skip_test : List ℕ → Result SkipTest Reason
skip_test w = if bytes_eq w (codes "ok") then Ok Good else if bytes_eq w (codes "bad") then Ok Bad else Err Form

-- `skip N if ok`, `skip N if bad`
unfoldable pub skip_row : List (List ℕ) → Result Line Reason
skip_row ws = do
  count ← ranged 1 8192 (word ws 1)
  fixed (word ws 2) (codes "if")
  test ← skip_test (word ws 3)
  Ok (once (Skip count test))

-- `skip N if value V`
unfoldable pub skip_value_row : List (List ℕ) → Result Line Reason
skip_value_row ws = do
  count ← ranged 1 8192 (word ws 1)
  fixed (word ws 2) (codes "if")
  fixed (word ws 3) (codes "value")
  value ← number (word ws 4)
  Ok (once (Skip count (Value value)))

-- the items of every role
unfoldable pub skip_item : List (List ℕ) → Result Line Reason
skip_item ws =
    if is_row ws (codes "skip") 4 then skip_row ws
    else if is_row ws (codes "skip") 5 then skip_value_row ws
    else Err Form

-- the items of a guest processor and of a hypervisor processor
unfoldable pub access_item : Role → ℕ → List (List ℕ) → Result Line Reason
access_item role frames ws =
    if is_row ws (codes "load") 2 then load_row role frames ws
    else if is_row ws (codes "store") 3 then store_row role frames ws
    else if is_row ws (codes "swap") 3 then swap_row role frames ws
    else if is_row ws (codes "cas") 4 then cas_row role frames ws
    else if is_row ws (codes "xor") 3 then xor_row role frames ws
    else skip_item ws

-- the size of a page
unfoldable pub size_word : List ℕ → Result PageSize Reason
size_word w = if bytes_eq w (codes "4k") then Ok Small else if bytes_eq w (codes "2m") then Ok Large else Err Form

-- 0 or 1
unfoldable pub flag_word : List ℕ → Result Bool Reason
flag_word w = do
  flag ← below 2 w
  Ok (flag == 1)

-- whether a line is of a row that retries may end: its first word is this, with so many words, and two more where it ends with `retry N`
abbrev pub is_retry_row : List (List ℕ) → List ℕ → ℕ → Bool
is_retry_row ws name count = is_row ws name count || is_row ws name (count + 2)

-- how many times an item is tried again: none where the row ends at its own words, and else `retry N`
unfoldable pub retries_word : List (List ℕ) → ℕ → Result ℕ Reason
retries_word ws count =
    if length ws == count then Ok 0
    else (do
      fixed (word ws count) (codes "retry")
      ranged 1 255 (word ws (count + 1)))

-- `F S B A P I`: the operands of RMPUPDATE
unfoldable pub update_operands : List (List ℕ) → Result Update Reason
update_operands ws = do
  frame ← number (word ws 1)
  size ← size_word (word ws 2)
  assigned ← flag_word (word ws 3)
  asid ← below 1024 (word ws 4)
  gpn ← below (2 ^ 36) (word ws 5)
  immutable ← flag_word (word ws 6)
  Ok (record { frame = frame; size = size; assigned = assigned; asid = asid; gpn = gpn; immutable = immutable })

-- `rmpupdate F S B A P I`, `rmpupdate F S B A P I retry N`
unfoldable pub update_row : List (List ℕ) → Result Line Reason
update_row ws = do
  update ← update_operands ws
  retries ← retries_word ws 7
  Ok (record { item = Rmpupdate update; retries = retries })

-- `psmash F`, `psmash F retry N`
unfoldable pub smash_row : List (List ℕ) → Result Line Reason
smash_row ws = do
  frame ← number (word ws 1)
  retries ← retries_word ws 2
  Ok (record { item = Psmash frame; retries = retries })

-- `pvalidate VA S B`, `pvalidate VA S B retry N`
unfoldable pub validate_row : List (List ℕ) → Result Line Reason
validate_row ws = do
  address ← number (word ws 1)
  size ← size_word (word ws 2)
  validate ← flag_word (word ws 3)
  retries ← retries_word ws 4
  Ok (record { item = Pvalidate address size validate; retries = retries })

-- `VA S T M W`: the operands of RMPADJUST
unfoldable pub adjust_operands : List (List ℕ) → Result Item Reason
adjust_operands ws = do
  address ← number (word ws 1)
  size ← size_word (word ws 2)
  target ← below 256 (word ws 3)
  mask ← below 256 (word ws 4)
  vmsa ← flag_word (word ws 5)
  Ok (Rmpadjust address size target mask vmsa)

-- `rmpadjust VA S T M W`, `rmpadjust VA S T M W retry N`
unfoldable pub adjust_row : List (List ℕ) → Result Line Reason
adjust_row ws = do
  item ← adjust_operands ws
  retries ← retries_word ws 6
  Ok (record { item = item; retries = retries })

-- the items of a guest processor
unfoldable pub cpu_item : Role → ℕ → List (List ℕ) → Result Line Reason
cpu_item role frames ws =
    if is_retry_row ws (codes "pvalidate") 4 then validate_row ws
    else if is_retry_row ws (codes "rmpadjust") 6 then adjust_row ws
    else access_item role frames ws

-- the items of a hypervisor processor
unfoldable pub host_item : ℕ → List (List ℕ) → Result Line Reason
host_item frames ws =
    if is_retry_row ws (codes "rmpupdate") 7 then update_row ws
    else if is_retry_row ws (codes "psmash") 2 then smash_row ws
    else access_item Host frames ws

-- the guest of a command, which may be an undeclared one
unfoldable pub guest_word : List ℕ → Result ℕ Reason
guest_word w = ranged 1 8 w

-- `gctx_create G F`
unfoldable pub create_operands : List (List ℕ) → Result Command Reason
create_operands ws = do
  guest ← guest_word (word ws 1)
  frame ← number (word ws 2)
  Ok (GctxCreate guest frame)

-- `activate G A`
unfoldable pub activate_operands : List (List ℕ) → Result Command Reason
activate_operands ws = do
  guest ← guest_word (word ws 1)
  asid ← below 1024 (word ws 2)
  Ok (Activate guest asid)

-- `launch_start G`
unfoldable pub start_operands : List (List ℕ) → Result Command Reason
start_operands ws = do
  guest ← guest_word (word ws 1)
  Ok (LaunchStart guest)

-- `launch_update G F T I X Y Z`
unfoldable pub launch_operands : List (List ℕ) → Result Command Reason
launch_operands ws = do
  guest ← guest_word (word ws 1)
  frame ← number (word ws 2)
  page_type ← below 256 (word ws 3)
  imi ← flag_word (word ws 4)
  first ← below 16 (word ws 5)
  second ← below 16 (word ws 6)
  third ← below 16 (word ws 7)
  Ok (LaunchUpdate guest frame page_type imi (first ∷ second ∷ third ∷ []))

-- `launch_finish G`
unfoldable pub finish_operands : List (List ℕ) → Result Command Reason
finish_operands ws = do
  guest ← guest_word (word ws 1)
  Ok (LaunchFinish guest)

-- `md_init F`
unfoldable pub init_operands : List (List ℕ) → Result Command Reason
init_operands ws = do
  frame ← number (word ws 1)
  Ok (MdInit frame)

-- `page_move G SRC DST`
unfoldable pub move_operands : List (List ℕ) → Result Command Reason
move_operands ws = do
  guest ← guest_word (word ws 1)
  source ← number (word ws 2)
  target ← number (word ws 3)
  Ok (PageMove guest source target)

-- `page_reclaim F`
unfoldable pub reclaim_operands : List (List ℕ) → Result Command Reason
reclaim_operands ws = do
  frame ← number (word ws 1)
  Ok (Reclaim frame)

-- `G SRC DST`: the guest of a command that seals or opens a page, and the frames that it reads and fills
unfoldable pub frames_words : List (List ℕ) → Result (ℕ × ℕ × ℕ) Reason
frames_words ws = do
  guest ← guest_word (word ws 1)
  source ← number (word ws 2)
  target ← number (word ws 3)
  Ok (guest, source, target)

-- `MD E` behind them: a metadata page and an entry of it
unfoldable pub place_words : List (List ℕ) → Result (ℕ × ℕ) Reason
place_words ws = do
  metadata ← number (word ws 4)
  entry ← below 64 (word ws 5)
  Ok (metadata, entry)

-- `swap_out G SRC DST MD E`
unfoldable pub swap_out_operands : List (List ℕ) → Result Command Reason
swap_out_operands ws = do
  pages ← frames_words ws
  place ← place_words ws
  Ok (SwapOut pages.0 pages.1 pages.2 place.0 place.1)

-- `swap_in G SRC DST MD E`
unfoldable pub swap_in_operands : List (List ℕ) → Result Command Reason
swap_in_operands ws = do
  pages ← frames_words ws
  place ← place_words ws
  Ok (SwapIn pages.0 pages.1 pages.2 place.0 place.1)

-- `md_out G SRC DST MD E`
unfoldable pub metadata_out_operands : List (List ℕ) → Result Command Reason
metadata_out_operands ws = do
  pages ← frames_words ws
  place ← place_words ws
  Ok (MdOut pages.0 pages.1 pages.2 place.0 place.1)

-- `md_in G SRC DST MD E`
unfoldable pub metadata_in_operands : List (List ℕ) → Result Command Reason
metadata_in_operands ws = do
  pages ← frames_words ws
  place ← place_words ws
  Ok (MdIn pages.0 pages.1 pages.2 place.0 place.1)

-- `md_root_out G SRC DST`
unfoldable pub root_out_operands : List (List ℕ) → Result Command Reason
root_out_operands ws = do
  pages ← frames_words ws
  Ok (MdRootOut pages.0 pages.1 pages.2)

-- `md_root_in G SRC DST`
unfoldable pub root_in_operands : List (List ℕ) → Result Command Reason
root_in_operands ws = do
  pages ← frames_words ws
  Ok (MdRootIn pages.0 pages.1 pages.2)

-- a command with so many words of its own, which `retry N` may end
unfoldable pub command_row : List (List ℕ) → ℕ → Result Command Reason → Result Line Reason
command_row ws count operands = do
  command ← operands
  retries ← retries_word ws count
  Ok (record { item = items.Firmware command; retries = retries })

-- the commands that seal or open a page, and the items of every role
unfoldable pub sealing_item : List (List ℕ) → Result Line Reason
sealing_item ws =
    if is_retry_row ws (codes "swap_out") 6 then command_row ws 6 (swap_out_operands ws)
    else if is_retry_row ws (codes "swap_in") 6 then command_row ws 6 (swap_in_operands ws)
    else if is_retry_row ws (codes "md_out") 6 then command_row ws 6 (metadata_out_operands ws)
    else if is_retry_row ws (codes "md_in") 6 then command_row ws 6 (metadata_in_operands ws)
    else if is_retry_row ws (codes "md_root_out") 4 then command_row ws 4 (root_out_operands ws)
    else if is_retry_row ws (codes "md_root_in") 4 then command_row ws 4 (root_in_operands ws)
    else skip_item ws

-- the items of a firmware actor
unfoldable pub firmware_item : List (List ℕ) → Result Line Reason
firmware_item ws =
    if is_retry_row ws (codes "gctx_create") 3 then command_row ws 3 (create_operands ws)
    else if is_retry_row ws (codes "activate") 3 then command_row ws 3 (activate_operands ws)
    else if is_retry_row ws (codes "launch_start") 2 then command_row ws 2 (start_operands ws)
    else if is_retry_row ws (codes "launch_update") 8 then command_row ws 8 (launch_operands ws)
    else if is_retry_row ws (codes "launch_finish") 2 then command_row ws 2 (finish_operands ws)
    else if is_retry_row ws (codes "md_init") 2 then command_row ws 2 (init_operands ws)
    else if is_retry_row ws (codes "page_move") 4 then command_row ws 4 (move_operands ws)
    else if is_retry_row ws (codes "page_reclaim") 2 then command_row ws 2 (reclaim_operands ws)
    else sealing_item ws

-- the words of an item of an actor with this role
abbrev pub item_words : Role → ℕ → List (List ℕ) → Result Line Reason
item_words (Cpu guest vmpl npt paging) frames ws = cpu_item (Cpu guest vmpl npt paging) frames ws
item_words Host frames ws = host_item frames ws
item_words Firmware frames ws = firmware_item ws

-- a line with an item
unfoldable pub item_line : Role → ℕ → List ℕ → Result Line Reason
item_line role frames line = if is_plain line then item_words role frames (words_of line) else Err Form
