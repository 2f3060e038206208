-- An item that a line can make is tried again only where it may be, and its numbers are words of 64 bits: each row of items gives such.
use Rattle.std.proofs.Common.{◌≡◌, ℕ, ◌*◌, ◌^◌, ◌<◌, List, Result, Ok, refl, sym, subst}
use Rattle.std.specs.Prelude.{codes, bytes_eq}
use Rattle.snp_model.specs.declared.command.Command.{Command}
use Rattle.snp_model.specs.declared.command.Command.TheVariants.{SwapOut, SwapIn, MdOut, MdIn, MdRootOut, MdRootIn}
use Rattle.snp_model.specs.declared.item.Item.{Item}
use Rattle.snp_model.specs.declared.item.Item.TheVariants as items
use Rattle.snp_model.specs.declared.item.Item.TheVariants.{Rmpupdate}
use Rattle.snp_model.specs.declared.item.Line.{Line}
use Rattle.snp_model.specs.declared.item.Update.{Update}
use Rattle.snp_model.specs.declared.reading.Reason.{Reason}
use Rattle.snp_model.specs.declared.reading.Reason.TheVariants.{Form}
use Rattle.snp_model.specs.declared.scenario.Role.{Role}
use Rattle.snp_model.specs.declared.scenario.Role.TheVariants.{Cpu, Host, Firmware}
use Rattle.snp_model.specs.ItemLines.{address_word, load_row, store_row, swap_row, cas_row, xor_row, skip_test, skip_row, skip_value_row, skip_item, access_item, size_word, flag_word, is_retry_row, retries_word, update_operands, update_row, smash_row, validate_row, adjust_operands, adjust_row, cpu_item, host_item, guest_word, create_operands, activate_operands, start_operands, launch_operands, finish_operands, init_operands, move_operands, reclaim_operands, frames_words, place_words, swap_out_operands, swap_in_operands, metadata_out_operands, metadata_in_operands, root_out_operands, root_in_operands, command_row, sealing_item, firmware_item, item_words}
use Rattle.snp_model.specs.Lines.{◌>>=◌, below, fixed, is_row, multiple, number, ranged, word}
use Rattle.snp_model.proofs.LineLaws.{bind_ok, multiple_ok, number_ok}
use Rattle.snp_model.specs.Spelled.{IsTriedBy, IsWide, IsWideCommand, IsWideTest, IsSpelledLine}
use Rattle.script_text.proofs.SpellingLaws.{below_small}
use Rattle.scenario_text.proofs.GivesLaws.{Gives, done, none, step, next, choose}

abbrev Spells : Result Line Reason → Type 0
Spells row = Gives IsSpelledLine row

-- an address
address_wide : (role : Role) (frames : ℕ) (w : List ℕ) (a : ℕ) → address_word role frames w ≡ Ok a → a < 2 ^ 64
unfolding address_word
address_wide (Cpu guest vmpl npt paging) frames w a h =
    let place = bind_ok (number w) (multiple 8) a h in
    subst (λ (n : ℕ). n < 2 ^ 64) (sym (multiple_ok 8 place.0 a place.2).0) (number_ok w place.0 place.1)
address_wide Host frames w a h =
    let place = bind_ok (below (4096 * frames) w) (multiple 8) a h in
    subst (λ (n : ℕ). n < 2 ^ 64) (sym (multiple_ok 8 place.0 a place.2).0) (below_small (4096 * frames) w place.0 place.1)
address_wide Firmware frames w a h = absurd (cc)

-- accesses
load_spelled : (role : Role) (frames : ℕ) (ws : List (List ℕ)) → Spells (load_row role frames ws)
unfolding load_row
load_spelled role frames ws =
    step IsSpelledLine (address_word role frames (word ws 1)) _ (λ a is.
    done IsSpelledLine _ (refl, address_wide role frames (word ws 1) a is))

store_spelled : (role : Role) (frames : ℕ) (ws : List (List ℕ)) → Spells (store_row role frames ws)
unfolding store_row
store_spelled role frames ws =
    step IsSpelledLine (address_word role frames (word ws 1)) _ (λ a is.
    step IsSpelledLine (number (word ws 2)) _ (λ _ _.
    done IsSpelledLine _ (refl, address_wide role frames (word ws 1) a is)))

swap_spelled : (role : Role) (frames : ℕ) (ws : List (List ℕ)) → Spells (swap_row role frames ws)
unfolding swap_row
swap_spelled role frames ws =
    step IsSpelledLine (address_word role frames (word ws 1)) _ (λ a is.
    step IsSpelledLine (number (word ws 2)) _ (λ _ _.
    done IsSpelledLine _ (refl, address_wide role frames (word ws 1) a is)))

cas_spelled : (role : Role) (frames : ℕ) (ws : List (List ℕ)) → Spells (cas_row role frames ws)
unfolding cas_row
cas_spelled role frames ws =
    step IsSpelledLine (address_word role frames (word ws 1)) _ (λ a is.
    step IsSpelledLine (number (word ws 2)) _ (λ _ _.
    step IsSpelledLine (number (word ws 3)) _ (λ _ _.
    done IsSpelledLine _ (refl, address_wide role frames (word ws 1) a is))))

xor_spelled : (role : Role) (frames : ℕ) (ws : List (List ℕ)) → Spells (xor_row role frames ws)
unfolding xor_row
xor_spelled role frames ws =
    step IsSpelledLine (address_word role frames (word ws 1)) _ (λ a is.
    step IsSpelledLine (number (word ws 2)) _ (λ _ _.
    done IsSpelledLine _ (refl, address_wide role frames (word ws 1) a is)))

-- skips
test_wide : (w : List ℕ) → Gives IsWideTest (skip_test w)
unfolding skip_test
test_wide w =
    choose IsWideTest (bytes_eq w (codes "ok")) _ _ (λ _. done IsWideTest _ tt)
    (choose IsWideTest (bytes_eq w (codes "bad")) _ _ (λ _. done IsWideTest _ tt) (none IsWideTest Form))

skip_spelled : (ws : List (List ℕ)) → Spells (skip_row ws)
unfolding skip_row
skip_spelled ws =
    step IsSpelledLine (ranged 1 8192 (word ws 1)) _ (λ _ _.
    next IsSpelledLine (fixed (word ws 2) (codes "if")) _ (λ _ _.
    step IsSpelledLine (skip_test (word ws 3)) _ (λ test is.
    done IsSpelledLine _ (refl, test_wide (word ws 3) test is))))

skip_value_spelled : (ws : List (List ℕ)) → Spells (skip_value_row ws)
unfolding skip_value_row
skip_value_spelled ws =
    step IsSpelledLine (ranged 1 8192 (word ws 1)) _ (λ _ _.
    next IsSpelledLine (fixed (word ws 2) (codes "if")) _ (λ _ _.
    next IsSpelledLine (fixed (word ws 3) (codes "value")) _ (λ _ _.
    step IsSpelledLine (number (word ws 4)) _ (λ value is.
    done IsSpelledLine _ (refl, number_ok (word ws 4) value is)))))

skip_item_spelled : (ws : List (List ℕ)) → Spells (skip_item ws)
unfolding skip_item
skip_item_spelled ws =
    choose IsSpelledLine (is_row ws (codes "skip") 4) _ _ (λ _. skip_spelled ws)
    (choose IsSpelledLine (is_row ws (codes "skip") 5) _ _ (λ _. skip_value_spelled ws)
    (none IsSpelledLine Form))

access_item_spelled : (role : Role) (frames : ℕ) (ws : List (List ℕ)) → Spells (access_item role frames ws)
unfolding access_item
access_item_spelled role frames ws =
    choose IsSpelledLine (is_row ws (codes "load") 2) _ _ (λ _. load_spelled role frames ws)
    (choose IsSpelledLine (is_row ws (codes "store") 3) _ _ (λ _. store_spelled role frames ws)
    (choose IsSpelledLine (is_row ws (codes "swap") 3) _ _ (λ _. swap_spelled role frames ws)
    (choose IsSpelledLine (is_row ws (codes "cas") 4) _ _ (λ _. cas_spelled role frames ws)
    (choose IsSpelledLine (is_row ws (codes "xor") 3) _ _ (λ _. xor_spelled role frames ws)
    (skip_item_spelled ws)))))

-- instructions
abbrev HasWideFrame : Update → Type 0
HasWideFrame update = update.frame < 2 ^ 64

update_wide : (ws : List (List ℕ)) → Gives HasWideFrame (update_operands ws)
unfolding update_operands
update_wide ws =
    step HasWideFrame (number (word ws 1)) _ (λ frame is.
    step HasWideFrame (size_word (word ws 2)) _ (λ _ _.
    step HasWideFrame (flag_word (word ws 3)) _ (λ _ _.
    step HasWideFrame (below 1024 (word ws 4)) _ (λ _ _.
    step HasWideFrame (below (2 ^ 36) (word ws 5)) _ (λ _ _.
    step HasWideFrame (flag_word (word ws 6)) _ (λ _ _.
    done HasWideFrame _ (number_ok (word ws 1) frame is)))))))

update_spelled : (ws : List (List ℕ)) → Spells (update_row ws)
unfolding update_row
update_spelled ws =
    step IsSpelledLine (update_operands ws) _ (λ update is.
    step IsSpelledLine (retries_word ws 7) _ (λ retries _.
    done IsSpelledLine (let line : Line = record { item = Rmpupdate update; retries = retries } in line) (tt, update_wide ws update is)))

smash_spelled : (ws : List (List ℕ)) → Spells (smash_row ws)
unfolding smash_row
smash_spelled ws =
    step IsSpelledLine (number (word ws 1)) _ (λ frame is.
    step IsSpelledLine (retries_word ws 2) _ (λ _ _.
    done IsSpelledLine _ (tt, number_ok (word ws 1) frame is)))

host_item_spelled : (frames : ℕ) (ws : List (List ℕ)) → Spells (host_item frames ws)
unfolding host_item
host_item_spelled frames ws =
    choose IsSpelledLine (is_retry_row ws (codes "rmpupdate") 7) _ _ (λ _. update_spelled ws)
    (choose IsSpelledLine (is_retry_row ws (codes "psmash") 2) _ _ (λ _. smash_spelled ws)
    (access_item_spelled Host frames ws))

validate_spelled : (ws : List (List ℕ)) → Spells (validate_row ws)
unfolding validate_row
validate_spelled ws =
    step IsSpelledLine (number (word ws 1)) _ (λ address is.
    step IsSpelledLine (size_word (word ws 2)) _ (λ _ _.
    step IsSpelledLine (flag_word (word ws 3)) _ (λ _ _.
    step IsSpelledLine (retries_word ws 4) _ (λ _ _.
    done IsSpelledLine _ (tt, number_ok (word ws 1) address is)))))

-- an item that may be tried again as often as one likes
abbrev IsRetried : Item → Type 0
IsRetried item = ((retries : ℕ) → IsTriedBy retries item) × IsWide item

adjust_wide : (ws : List (List ℕ)) → Gives IsRetried (adjust_operands ws)
unfolding adjust_operands
adjust_wide ws =
    step IsRetried (number (word ws 1)) _ (λ address is.
    step IsRetried (size_word (word ws 2)) _ (λ _ _.
    step IsRetried (below 256 (word ws 3)) _ (λ _ _.
    step IsRetried (below 256 (word ws 4)) _ (λ _ _.
    step IsRetried (flag_word (word ws 5)) _ (λ _ _.
    done IsRetried _ ((λ _. tt), number_ok (word ws 1) address is))))))

adjust_spelled : (ws : List (List ℕ)) → Spells (adjust_row ws)
unfolding adjust_row
adjust_spelled ws =
    step IsSpelledLine (adjust_operands ws) _ (λ item is.
    step IsSpelledLine (retries_word ws 6) _ (λ retries _.
    let adjusts = adjust_wide ws item is in
    done IsSpelledLine (let line : Line = record { item = item; retries = retries } in line) (adjusts.0 retries, adjusts.1)))

cpu_item_spelled : (role : Role) (frames : ℕ) (ws : List (List ℕ)) → Spells (cpu_item role frames ws)
unfolding cpu_item
cpu_item_spelled role frames ws =
    choose IsSpelledLine (is_retry_row ws (codes "pvalidate") 4) _ _ (λ _. validate_spelled ws)
    (choose IsSpelledLine (is_retry_row ws (codes "rmpadjust") 6) _ _ (λ _. adjust_spelled ws)
    (access_item_spelled role frames ws))

-- commands
abbrev Commands : Result Command Reason → Type 0
Commands operands = Gives IsWideCommand operands

create_wide : (ws : List (List ℕ)) → Commands (create_operands ws)
unfolding create_operands
create_wide ws =
    step IsWideCommand (guest_word (word ws 1)) _ (λ _ _.
    step IsWideCommand (number (word ws 2)) _ (λ frame is.
    done IsWideCommand _ (number_ok (word ws 2) frame is)))

activate_wide : (ws : List (List ℕ)) → Commands (activate_operands ws)
unfolding activate_operands
activate_wide ws =
    step IsWideCommand (guest_word (word ws 1)) _ (λ _ _.
    step IsWideCommand (below 1024 (word ws 2)) _ (λ _ _.
    done IsWideCommand _ tt))

start_wide : (ws : List (List ℕ)) → Commands (start_operands ws)
unfolding start_operands
start_wide ws = step IsWideCommand (guest_word (word ws 1)) _ (λ _ _. done IsWideCommand _ tt)

launch_wide : (ws : List (List ℕ)) → Commands (launch_operands ws)
unfolding launch_operands
launch_wide ws =
    step IsWideCommand (guest_word (word ws 1)) _ (λ _ _.
    step IsWideCommand (number (word ws 2)) _ (λ frame is.
    step IsWideCommand (below 256 (word ws 3)) _ (λ _ _.
    step IsWideCommand (flag_word (word ws 4)) _ (λ _ _.
    step IsWideCommand (below 16 (word ws 5)) _ (λ _ _.
    step IsWideCommand (below 16 (word ws 6)) _ (λ _ _.
    step IsWideCommand (below 16 (word ws 7)) _ (λ _ _.
    done IsWideCommand _ (number_ok (word ws 2) frame is))))))))

finish_wide : (ws : List (List ℕ)) → Commands (finish_operands ws)
unfolding finish_operands
finish_wide ws = step IsWideCommand (guest_word (word ws 1)) _ (λ _ _. done IsWideCommand _ tt)

init_wide : (ws : List (List ℕ)) → Commands (init_operands ws)
unfolding init_operands
init_wide ws = step IsWideCommand (number (word ws 1)) _ (λ frame is. done IsWideCommand _ (number_ok (word ws 1) frame is))

move_wide : (ws : List (List ℕ)) → Commands (move_operands ws)
unfolding move_operands
move_wide ws =
    step IsWideCommand (guest_word (word ws 1)) _ (λ _ _.
    step IsWideCommand (number (word ws 2)) _ (λ source first.
    step IsWideCommand (number (word ws 3)) _ (λ target second.
    done IsWideCommand _ (number_ok (word ws 2) source first, number_ok (word ws 3) target second))))

reclaim_wide : (ws : List (List ℕ)) → Commands (reclaim_operands ws)
unfolding reclaim_operands
reclaim_wide ws = step IsWideCommand (number (word ws 1)) _ (λ frame is. done IsWideCommand _ (number_ok (word ws 1) frame is))

-- frames of a command that seals or opens a page
abbrev AreWideFrames : ℕ × ℕ × ℕ → Type 0
AreWideFrames pages = (pages.1 < 2 ^ 64) × (pages.2 < 2 ^ 64)

frames_wide : (ws : List (List ℕ)) → Gives AreWideFrames (frames_words ws)
unfolding frames_words
frames_wide ws =
    step AreWideFrames (guest_word (word ws 1)) _ (λ guest _.
    step AreWideFrames (number (word ws 2)) _ (λ source first.
    step AreWideFrames (number (word ws 3)) _ (λ target second.
    done AreWideFrames (guest, source, target) (number_ok (word ws 2) source first, number_ok (word ws 3) target second))))

abbrev IsWidePlace : ℕ × ℕ → Type 0
IsWidePlace place = place.0 < 2 ^ 64

place_wide : (ws : List (List ℕ)) → Gives IsWidePlace (place_words ws)
unfolding place_words
place_wide ws =
    step IsWidePlace (number (word ws 4)) _ (λ metadata is.
    step IsWidePlace (below 64 (word ws 5)) _ (λ entry _.
    done IsWidePlace (metadata, entry) (number_ok (word ws 4) metadata is)))

-- a command of two frames and a metadata page, and one of two frames alone
abbrev IsWideAt : (ℕ → ℕ → ℕ → ℕ → ℕ → Command) → Type 0
IsWideAt command = (guest source target metadata entry : ℕ) → source < 2 ^ 64 → target < 2 ^ 64 → metadata < 2 ^ 64 → IsWideCommand (command guest source target metadata entry)

at_place : (command : ℕ → ℕ → ℕ → ℕ → ℕ → Command) (ws : List (List ℕ)) → IsWideAt command
    → Commands (frames_words ws >>= (λ (p : ℕ × ℕ × ℕ). place_words ws >>= (λ (q : ℕ × ℕ). Ok (command p.0 p.1 p.2 q.0 q.1))))
at_place command ws wide =
    step IsWideCommand (frames_words ws) _ (λ pages are.
    step IsWideCommand (place_words ws) _ (λ place is.
    let frames = frames_wide ws pages are in
    done IsWideCommand _ (wide pages.0 pages.1 pages.2 place.0 place.1 frames.0 frames.1 (place_wide ws place is))))

swap_out_wide : (ws : List (List ℕ)) → Commands (swap_out_operands ws)
unfolding swap_out_operands
swap_out_wide ws = at_place SwapOut ws (λ guest source target metadata entry first second third. (first, second, third))

swap_in_wide : (ws : List (List ℕ)) → Commands (swap_in_operands ws)
unfolding swap_in_operands
swap_in_wide ws = at_place SwapIn ws (λ guest source target metadata entry first second third. (first, second, third))

metadata_out_wide : (ws : List (List ℕ)) → Commands (metadata_out_operands ws)
unfolding metadata_out_operands
metadata_out_wide ws = at_place MdOut ws (λ guest source target metadata entry first second third. (first, second, third))

metadata_in_wide : (ws : List (List ℕ)) → Commands (metadata_in_operands ws)
unfolding metadata_in_operands
metadata_in_wide ws = at_place MdIn ws (λ guest source target metadata entry first second third. (first, second, third))

root_out_wide : (ws : List (List ℕ)) → Commands (root_out_operands ws)
unfolding root_out_operands
root_out_wide ws = step IsWideCommand (frames_words ws) _ (λ pages are. done IsWideCommand (MdRootOut pages.0 pages.1 pages.2) (frames_wide ws pages are))

root_in_wide : (ws : List (List ℕ)) → Commands (root_in_operands ws)
unfolding root_in_operands
root_in_wide ws = step IsWideCommand (frames_words ws) _ (λ pages are. done IsWideCommand (MdRootIn pages.0 pages.1 pages.2) (frames_wide ws pages are))

command_spelled : (ws : List (List ℕ)) (count : ℕ) (operands : Result Command Reason) → Commands operands → Spells (command_row ws count operands)
unfolding command_row
command_spelled ws count operands are =
    step IsSpelledLine operands _ (λ command is.
    step IsSpelledLine (retries_word ws count) _ (λ retries _.
    done IsSpelledLine (let line : Line = record { item = items.Firmware command; retries = retries } in line) (tt, are command is)))

sealing_item_spelled : (ws : List (List ℕ)) → Spells (sealing_item ws)
unfolding sealing_item
sealing_item_spelled ws =
    choose IsSpelledLine (is_retry_row ws (codes "swap_out") 6) _ _ (λ _. command_spelled ws 6 (swap_out_operands ws) (swap_out_wide ws))
    (choose IsSpelledLine (is_retry_row ws (codes "swap_in") 6) _ _ (λ _. command_spelled ws 6 (swap_in_operands ws) (swap_in_wide ws))
    (choose IsSpelledLine (is_retry_row ws (codes "md_out") 6) _ _ (λ _. command_spelled ws 6 (metadata_out_operands ws) (metadata_out_wide ws))
    (choose IsSpelledLine (is_retry_row ws (codes "md_in") 6) _ _ (λ _. command_spelled ws 6 (metadata_in_operands ws) (metadata_in_wide ws))
    (choose IsSpelledLine (is_retry_row ws (codes "md_root_out") 4) _ _ (λ _. command_spelled ws 4 (root_out_operands ws) (root_out_wide ws))
    (choose IsSpelledLine (is_retry_row ws (codes "md_root_in") 4) _ _ (λ _. command_spelled ws 4 (root_in_operands ws) (root_in_wide ws))
    (skip_item_spelled ws))))))

firmware_item_spelled : (ws : List (List ℕ)) → Spells (firmware_item ws)
unfolding firmware_item
firmware_item_spelled ws =
    choose IsSpelledLine (is_retry_row ws (codes "gctx_create") 3) _ _ (λ _. command_spelled ws 3 (create_operands ws) (create_wide ws))
    (choose IsSpelledLine (is_retry_row ws (codes "activate") 3) _ _ (λ _. command_spelled ws 3 (activate_operands ws) (activate_wide ws))
    (choose IsSpelledLine (is_retry_row ws (codes "launch_start") 2) _ _ (λ _. command_spelled ws 2 (start_operands ws) (start_wide ws))
    (choose IsSpelledLine (is_retry_row ws (codes "launch_update") 8) _ _ (λ _. command_spelled ws 8 (launch_operands ws) (launch_wide ws))
    (choose IsSpelledLine (is_retry_row ws (codes "launch_finish") 2) _ _ (λ _. command_spelled ws 2 (finish_operands ws) (finish_wide ws))
    (choose IsSpelledLine (is_retry_row ws (codes "md_init") 2) _ _ (λ _. command_spelled ws 2 (init_operands ws) (init_wide ws))
    (choose IsSpelledLine (is_retry_row ws (codes "page_move") 4) _ _ (λ _. command_spelled ws 4 (move_operands ws) (move_wide ws))
    (choose IsSpelledLine (is_retry_row ws (codes "page_reclaim") 2) _ _ (λ _. command_spelled ws 2 (reclaim_operands ws) (reclaim_wide ws))
    (sealing_item_spelled ws))))))))

pub item_spelled : (role : Role) (frames : ℕ) (ws : List (List ℕ)) → Gives IsSpelledLine (item_words role frames ws)
item_spelled (Cpu guest vmpl npt paging) frames ws = cpu_item_spelled (Cpu guest vmpl npt paging) frames ws
item_spelled Host frames ws = host_item_spelled frames ws
item_spelled Firmware frames ws = firmware_item_spelled ws
