-- The line of a command that is written is read again as that command.
use Rattle.std.proofs.Common.{◌≡◌, ℕ, ◌^◌, ◌<◌, Bool, List, [], ◌∷◌, refl, arith}
use Rattle.std.specs.Prelude.{Ok, decimal, codes}
use Rattle.snp_model.specs.declared.command.Command.{Command}
use Rattle.snp_model.specs.declared.command.Command.TheVariants.{GctxCreate, Activate, LaunchStart, LaunchUpdate, LaunchFinish, MdInit, PageMove, SwapOut, SwapIn, Reclaim, MdOut, MdIn, MdRootOut, MdRootIn}
use Rattle.snp_model.specs.declared.item.Item.{Item}
use Rattle.snp_model.specs.declared.item.Item.TheVariants as items
use Rattle.snp_model.specs.declared.item.Line.{Line}
use Rattle.snp_model.specs.declared.scenario.Role.TheVariants.{Firmware}
use Rattle.snp_model.specs.Bounds.{IsFirmwareCommand, IsGuestNumber, IsLaunchedWith}
use Rattle.snp_model.specs.ItemLines.{retries_word, guest_word, create_operands, activate_operands, start_operands, launch_operands, finish_operands, init_operands, move_operands, reclaim_operands, frames_words, place_words, swap_out_operands, swap_in_operands, metadata_out_operands, metadata_in_operands, root_out_operands, root_in_operands, command_row, sealing_item, firmware_item}
use Rattle.snp_model.specs.Lines.{fixed}
use Rattle.snp_model.specs.Spelling.{flag_text, command_words, item_said, item_text}
use Rattle.snp_model.specs.Spelled.{IsWideCommand}
use Rattle.script_text.proofs.AgainLaws.{Again, flag_again, flag_spelled, retried_again}
use Rattle.script_text.proofs.ItemAgain.{below_decimal, ranged_decimal, tried_below}
use Rattle.script_text.proofs.SpellingLaws.{IsWord, decimal_word, number_decimal}

-- guests
guest_read : (guest : ℕ) → IsGuestNumber guest → guest_word (decimal guest) ≡ Ok guest
unfolding guest_word
guest_read guest is = ranged_decimal 1 8 guest (omega (arith, is.0)) is.1 (omega (arith, is.1))

guest_spelled : (guest : ℕ) → IsGuestNumber guest → IsWord (decimal guest)
guest_spelled guest is = decimal_word guest (omega (arith, is.1))

-- the permissions of a launch
launch_again : (frames guest frame page_type : ℕ) (imi : Bool) (perms : List ℕ) (n : ℕ) → IsGuestNumber guest → frame < 2 ^ 64 → page_type < 256 → IsLaunchedWith perms → n < 256
    → Again Firmware frames (let l : Line = record { item = items.Firmware (LaunchUpdate guest frame page_type imi perms); retries = n } in l)
unfolding launch_operands command_row firmware_item retries_word fixed item_text item_said command_words
launch_again frames guest frame page_type imi [] n g f t is few = absurd (omega (arith, is.three))
launch_again frames guest frame page_type imi (x ∷ []) n g f t is few = absurd (omega (arith, is.three))
launch_again frames guest frame page_type imi (x ∷ y ∷ []) n g f t is few = absurd (omega (arith, is.three))
launch_again frames guest frame page_type imi (x ∷ y ∷ z ∷ w ∷ perms) n g f t is few = absurd (omega (arith, is.three))
launch_again frames guest frame page_type imi (x ∷ y ∷ z ∷ []) n g f t is few =
    let command : Item = items.Firmware (LaunchUpdate guest frame page_type imi (x ∷ y ∷ z ∷ [])) in
    let below_x : x < 16 = is.below.0 in
    let below_y : y < 16 = is.below.1.0 in
    let below_z : z < 16 = is.below.1.1.0 in
    let guest_is = guest_read guest g in
    let frame_is = number_decimal frame f in
    let type_is = below_decimal 256 page_type t (omega arith) in
    let imi_is = flag_again imi in
    let x_is = below_decimal 16 x below_x (omega arith) in
    let y_is = below_decimal 16 y below_y (omega arith) in
    let z_is = below_decimal 16 z below_z (omega arith) in
    retried_again Firmware frames (codes "launch_update") (decimal guest ∷ decimal frame ∷ decimal page_type ∷ flag_text imi ∷ decimal x ∷ decimal y ∷ decimal z ∷ []) command n refl
    (guest_spelled guest g, (decimal_word frame f, (decimal_word page_type (omega arith), (flag_spelled imi, (decimal_word x (omega arith), (decimal_word y (omega arith), (decimal_word z (omega arith), tt))))))) refl (λ d. refl)
    (rw (guest_is, frame_is, type_is, imi_is, x_is, y_is, z_is) refl) (λ r. rw (guest_is, frame_is, type_is, imi_is, x_is, y_is, z_is, r) refl) (tried_below n few)

-- the commands that seal or open a page, of an entry of a metadata page or of a root
swap_out_again : (frames guest source target metadata entry n : ℕ) → IsFirmwareCommand (SwapOut guest source target metadata entry) → n < 256 → IsWideCommand (SwapOut guest source target metadata entry)
    → Again Firmware frames (let l : Line = record { item = items.Firmware (SwapOut guest source target metadata entry); retries = n } in l)
unfolding frames_words place_words swap_out_operands command_row sealing_item firmware_item retries_word fixed item_text item_said command_words
swap_out_again frames guest source target metadata entry n is few wide =
    let command : Item = items.Firmware (SwapOut guest source target metadata entry) in
    let g = guest_read guest is.0 in
    let s = number_decimal source wide.0 in
    let t = number_decimal target wide.1 in
    let m = number_decimal metadata wide.2 in
    let e = below_decimal 64 entry is.1 (omega (arith, is.1)) in
    retried_again Firmware frames (codes "swap_out") (decimal guest ∷ decimal source ∷ decimal target ∷ decimal metadata ∷ decimal entry ∷ []) command n refl
    (guest_spelled guest is.0, (decimal_word source wide.0, (decimal_word target wide.1, (decimal_word metadata wide.2, (decimal_word entry (omega (arith, is.1)), tt))))) refl (λ d. refl)
    (rw (g, s, t, m, e) refl) (λ r. rw (g, s, t, m, e, r) refl) (tried_below n few)

swap_in_again : (frames guest source target metadata entry n : ℕ) → IsFirmwareCommand (SwapIn guest source target metadata entry) → n < 256 → IsWideCommand (SwapIn guest source target metadata entry)
    → Again Firmware frames (let l : Line = record { item = items.Firmware (SwapIn guest source target metadata entry); retries = n } in l)
unfolding frames_words place_words swap_in_operands command_row sealing_item firmware_item retries_word fixed item_text item_said command_words
swap_in_again frames guest source target metadata entry n is few wide =
    let command : Item = items.Firmware (SwapIn guest source target metadata entry) in
    let g = guest_read guest is.0 in
    let s = number_decimal source wide.0 in
    let t = number_decimal target wide.1 in
    let m = number_decimal metadata wide.2 in
    let e = below_decimal 64 entry is.1 (omega (arith, is.1)) in
    retried_again Firmware frames (codes "swap_in") (decimal guest ∷ decimal source ∷ decimal target ∷ decimal metadata ∷ decimal entry ∷ []) command n refl
    (guest_spelled guest is.0, (decimal_word source wide.0, (decimal_word target wide.1, (decimal_word metadata wide.2, (decimal_word entry (omega (arith, is.1)), tt))))) refl (λ d. refl)
    (rw (g, s, t, m, e) refl) (λ r. rw (g, s, t, m, e, r) refl) (tried_below n few)

metadata_out_again : (frames guest source target metadata entry n : ℕ) → IsFirmwareCommand (MdOut guest source target metadata entry) → n < 256 → IsWideCommand (MdOut guest source target metadata entry)
    → Again Firmware frames (let l : Line = record { item = items.Firmware (MdOut guest source target metadata entry); retries = n } in l)
unfolding frames_words place_words metadata_out_operands command_row sealing_item firmware_item retries_word fixed item_text item_said command_words
metadata_out_again frames guest source target metadata entry n is few wide =
    let command : Item = items.Firmware (MdOut guest source target metadata entry) in
    let g = guest_read guest is.0 in
    let s = number_decimal source wide.0 in
    let t = number_decimal target wide.1 in
    let m = number_decimal metadata wide.2 in
    let e = below_decimal 64 entry is.1 (omega (arith, is.1)) in
    retried_again Firmware frames (codes "md_out") (decimal guest ∷ decimal source ∷ decimal target ∷ decimal metadata ∷ decimal entry ∷ []) command n refl
    (guest_spelled guest is.0, (decimal_word source wide.0, (decimal_word target wide.1, (decimal_word metadata wide.2, (decimal_word entry (omega (arith, is.1)), tt))))) refl (λ d. refl)
    (rw (g, s, t, m, e) refl) (λ r. rw (g, s, t, m, e, r) refl) (tried_below n few)

metadata_in_again : (frames guest source target metadata entry n : ℕ) → IsFirmwareCommand (MdIn guest source target metadata entry) → n < 256 → IsWideCommand (MdIn guest source target metadata entry)
    → Again Firmware frames (let l : Line = record { item = items.Firmware (MdIn guest source target metadata entry); retries = n } in l)
unfolding frames_words place_words metadata_in_operands command_row sealing_item firmware_item retries_word fixed item_text item_said command_words
metadata_in_again frames guest source target metadata entry n is few wide =
    let command : Item = items.Firmware (MdIn guest source target metadata entry) in
    let g = guest_read guest is.0 in
    let s = number_decimal source wide.0 in
    let t = number_decimal target wide.1 in
    let m = number_decimal metadata wide.2 in
    let e = below_decimal 64 entry is.1 (omega (arith, is.1)) in
    retried_again Firmware frames (codes "md_in") (decimal guest ∷ decimal source ∷ decimal target ∷ decimal metadata ∷ decimal entry ∷ []) command n refl
    (guest_spelled guest is.0, (decimal_word source wide.0, (decimal_word target wide.1, (decimal_word metadata wide.2, (decimal_word entry (omega (arith, is.1)), tt))))) refl (λ d. refl)
    (rw (g, s, t, m, e) refl) (λ r. rw (g, s, t, m, e, r) refl) (tried_below n few)

root_out_again : (frames guest source target n : ℕ) → IsFirmwareCommand (MdRootOut guest source target) → n < 256 → IsWideCommand (MdRootOut guest source target)
    → Again Firmware frames (let l : Line = record { item = items.Firmware (MdRootOut guest source target); retries = n } in l)
unfolding frames_words root_out_operands command_row sealing_item firmware_item retries_word fixed item_text item_said command_words
root_out_again frames guest source target n is few wide =
    let command : Item = items.Firmware (MdRootOut guest source target) in
    let g = guest_read guest is in
    let s = number_decimal source wide.0 in
    let t = number_decimal target wide.1 in
    retried_again Firmware frames (codes "md_root_out") (decimal guest ∷ decimal source ∷ decimal target ∷ []) command n refl (guest_spelled guest is, (decimal_word source wide.0, (decimal_word target wide.1, tt))) refl (λ d. refl)
    (rw (g, s, t) refl) (λ r. rw (g, s, t, r) refl) (tried_below n few)

root_in_again : (frames guest source target n : ℕ) → IsFirmwareCommand (MdRootIn guest source target) → n < 256 → IsWideCommand (MdRootIn guest source target)
    → Again Firmware frames (let l : Line = record { item = items.Firmware (MdRootIn guest source target); retries = n } in l)
unfolding frames_words root_in_operands command_row sealing_item firmware_item retries_word fixed item_text item_said command_words
root_in_again frames guest source target n is few wide =
    let command : Item = items.Firmware (MdRootIn guest source target) in
    let g = guest_read guest is in
    let s = number_decimal source wide.0 in
    let t = number_decimal target wide.1 in
    retried_again Firmware frames (codes "md_root_in") (decimal guest ∷ decimal source ∷ decimal target ∷ []) command n refl (guest_spelled guest is, (decimal_word source wide.0, (decimal_word target wide.1, tt))) refl (λ d. refl)
    (rw (g, s, t) refl) (λ r. rw (g, s, t, r) refl) (tried_below n few)

-- each command
pub command_again : (frames : ℕ) (command : Command) (n : ℕ) → IsFirmwareCommand command → n < 256 → IsWideCommand command → Again Firmware frames (let l : Line = record { item = items.Firmware command; retries = n } in l)
unfolding create_operands activate_operands start_operands finish_operands init_operands move_operands reclaim_operands command_row firmware_item retries_word fixed item_text item_said command_words
command_again frames (GctxCreate guest frame) n is few wide =
    let command : Item = items.Firmware (GctxCreate guest frame) in
    let g = guest_read guest is in
    let f = number_decimal frame wide in
    retried_again Firmware frames (codes "gctx_create") (decimal guest ∷ decimal frame ∷ []) command n refl (guest_spelled guest is, (decimal_word frame wide, tt)) refl (λ d. refl) (rw (g, f) refl) (λ r. rw (g, f, r) refl) (tried_below n few)
command_again frames (Activate guest asid) n is few wide =
    let command : Item = items.Firmware (Activate guest asid) in
    let g = guest_read guest is.0 in
    let a = below_decimal 1024 asid is.1 (omega (arith, is.1)) in
    retried_again Firmware frames (codes "activate") (decimal guest ∷ decimal asid ∷ []) command n refl (guest_spelled guest is.0, (decimal_word asid (omega (arith, is.1)), tt)) refl (λ d. refl) (rw (g, a) refl) (λ r. rw (g, a, r) refl) (tried_below n few)
command_again frames (LaunchStart guest) n is few wide =
    let command : Item = items.Firmware (LaunchStart guest) in
    let g = guest_read guest is in
    retried_again Firmware frames (codes "launch_start") (decimal guest ∷ []) command n refl (guest_spelled guest is, tt) refl (λ d. refl) (rw (g) refl) (λ r. rw (g, r) refl) (tried_below n few)
command_again frames (LaunchUpdate guest frame page_type imi perms) n is few wide = launch_again frames guest frame page_type imi perms n is.0 wide is.1 is.2 few
command_again frames (LaunchFinish guest) n is few wide =
    let command : Item = items.Firmware (LaunchFinish guest) in
    let g = guest_read guest is in
    retried_again Firmware frames (codes "launch_finish") (decimal guest ∷ []) command n refl (guest_spelled guest is, tt) refl (λ d. refl) (rw (g) refl) (λ r. rw (g, r) refl) (tried_below n few)
command_again frames (MdInit frame) n is few wide =
    let command : Item = items.Firmware (MdInit frame) in
    let f = number_decimal frame wide in
    retried_again Firmware frames (codes "md_init") (decimal frame ∷ []) command n refl (decimal_word frame wide, tt) refl (λ d. refl) (rw (f) refl) (λ r. rw (f, r) refl) (tried_below n few)
command_again frames (PageMove guest source target) n is few wide =
    let command : Item = items.Firmware (PageMove guest source target) in
    let g = guest_read guest is in
    let s = number_decimal source wide.0 in
    let t = number_decimal target wide.1 in
    retried_again Firmware frames (codes "page_move") (decimal guest ∷ decimal source ∷ decimal target ∷ []) command n refl (guest_spelled guest is, (decimal_word source wide.0, (decimal_word target wide.1, tt))) refl (λ d. refl) (rw (g, s, t) refl) (λ r. rw (g, s, t, r) refl) (tried_below n few)
command_again frames (SwapOut guest source target metadata entry) n is few wide = swap_out_again frames guest source target metadata entry n is few wide
command_again frames (SwapIn guest source target metadata entry) n is few wide = swap_in_again frames guest source target metadata entry n is few wide
command_again frames (Reclaim frame) n is few wide =
    let command : Item = items.Firmware (Reclaim frame) in
    let f = number_decimal frame wide in
    retried_again Firmware frames (codes "page_reclaim") (decimal frame ∷ []) command n refl (decimal_word frame wide, tt) refl (λ d. refl) (rw (f) refl) (λ r. rw (f, r) refl) (tried_below n few)
command_again frames (MdOut guest source target metadata entry) n is few wide = metadata_out_again frames guest source target metadata entry n is few wide
command_again frames (MdIn guest source target metadata entry) n is few wide = metadata_in_again frames guest source target metadata entry n is few wide
command_again frames (MdRootOut guest source target) n is few wide = root_out_again frames guest source target n is few wide
command_again frames (MdRootIn guest source target) n is few wide = root_in_again frames guest source target n is few wide
