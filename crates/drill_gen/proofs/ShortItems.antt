-- The line of each item that is drawn is short: it has at most seven words, and each is a name or a number.
use Rattle.std.proofs.Common.{ℕ, ◌+◌, ◌*◌, ◌^◌, ◌<◌, ◌≤◌, Bool, true, false, [], length, arith, length-append}
use Rattle.std.proofs.lemmas.Bool.{cond_both}
use Rattle.std.specs.List.{AllByRecursion}
use Rattle.std.specs.Prelude.{nat_lt, ◌==◌}
use Rattle.rand_pcg.specs.Lcg.{Lcg}
use Rattle.snp_model.specs.declared.command.Command.{Command}
use Rattle.snp_model.specs.declared.entry.PageSize.TheVariants.{Small}
use Rattle.snp_model.specs.declared.item.Item.{Item}
use Rattle.snp_model.specs.declared.item.Item.TheVariants as items
use Rattle.snp_model.specs.declared.item.Op.TheVariants.{Load, Store, Xor}
use Rattle.snp_model.specs.declared.scenario.Role.{Role}
use Rattle.snp_model.specs.declared.scenario.Role.TheVariants.{Cpu, Host, Firmware}
use Rattle.snp_model.specs.EventText.{size_text}
use Rattle.snp_model.specs.Generated.{draw, word_address, mapping, cpu_item_of, cpu_item, given, taken_away, host_item_of, host_item, command_of, firmware_item, item_for, once}
use Rattle.snp_model.specs.Spelling.{joined, flag_text, access_words, update_words, command_words, item_said, retry_words, item_text}
use Rattle.drill_gen.proofs.GeneratedCommands.{draw_below}
use Rattle.drill_gen.proofs.ShortLines.{IsShortWord, IsShortLine, number_short, small_short, line_short}

-- what is asked of the words of an item that is tried once
abbrev pub IsShortItem : Item → Type 0
IsShortItem item = AllByRecursion IsShortWord (item_said item) × (length (item_said item) ≤ 12)

-- an item that was drawn, with the generator that is left
abbrev Short : Item × Lcg → Type 0
Short drawn = IsShortItem drawn.0

-- the line of such an item
pub once_short : (item : Item) → IsShortItem item → IsShortLine (item_text (once item))
unfolding item_text retry_words
once_short item is =
    let line = line_short (item_said item) is.0 is.1 in
    let whole = length-append (joined (item_said item)) [] in
    omega arith

-- a flag is one digit
flag_short : (flag : Bool) → IsShortWord (flag_text flag)
unfolding flag_text
flag_short true = omega arith
flag_short false = omega arith

-- the words of a load
load_short : (address : ℕ) → address < 2 ^ 64 → IsShortItem (items.Access address Load)
unfolding item_said access_words
load_short address below = ((omega arith, (number_short address below, tt)), omega arith)

-- the words of a store
store_short : (address value : ℕ) → address < 2 ^ 64 → value < 2 ^ 64 → IsShortItem (items.Access address (Store value))
unfolding item_said access_words
store_short address value below small = ((omega arith, (number_short address below, (number_short value small, tt))), omega arith)

-- the words of an exclusive or
xor_short : (address value : ℕ) → address < 2 ^ 64 → value < 2 ^ 64 → IsShortItem (items.Access address (Xor value))
unfolding item_said access_words
xor_short address value below small = ((omega arith, (number_short address below, (number_short value small, tt))), omega arith)

-- the words of PVALIDATE of a 4 KB page
pvalidate_short : (address : ℕ) (flag : Bool) → address < 2 ^ 64 → IsShortItem (items.Pvalidate address Small flag)
unfolding item_said size_text
pvalidate_short address flag below = ((omega arith, (number_short address below, (omega arith, (flag_short flag, tt)))), omega arith)

-- the words of an RMPUPDATE that assigns a frame
given_short : (frame asid gpn : ℕ) (immutable : Bool) → frame < 2 ^ 32 → asid < 2 ^ 32 → gpn < 2 ^ 32 → IsShortItem (items.Rmpupdate (given frame asid gpn immutable))
unfolding item_said update_words size_text
given_short frame asid gpn immutable frame_is asid_is gpn_is =
    ((omega arith, (small_short frame frame_is, (omega arith, (flag_short true, (small_short asid asid_is, (small_short gpn gpn_is, (flag_short immutable, tt))))))), omega arith)

-- the words of an RMPUPDATE that takes a frame away
taken_short : (frame : ℕ) → frame < 2 ^ 32 → IsShortItem (items.Rmpupdate (taken_away frame))
unfolding item_said update_words size_text
taken_short frame frame_is =
    let zero_is = small_short 0 (omega arith) in
    ((omega arith, (small_short frame frame_is, (omega arith, (flag_short false, (zero_is, (zero_is, (flag_short false, tt))))))), omega arith)

-- an item of a guest's processor, by its kind
cpu_item_of_short : (kind page index : ℕ) (g : Lcg) → page < 16 → index < 512 → Short (cpu_item_of kind page index g)
unfolding cpu_item_of
cpu_item_of_short kind page index g page_is index_is =
    let value = draw_below 1000 g (omega arith) in
    cond_both (nat_lt kind 4) _ _ Short (λ _. load_short (word_address page index) (omega arith))
    (λ _. cond_both (nat_lt kind 6) _ _ Short (λ _. store_short (word_address page index) (draw 1000 g).0 (omega arith) (omega arith))
    (λ _. cond_both (kind == 6) _ _ Short (λ _. xor_short (word_address page index) (draw 1000 g).0 (omega arith) (omega arith))
    (λ _. pvalidate_short (4096 * page) ((draw 2 g).0 == 1) (omega arith))))

-- each item of a guest's processor
cpu_item_short : (g : Lcg) → IsShortItem (cpu_item g).0
unfolding cpu_item
cpu_item_short g =
    let kind = draw 8 g in
    let page = draw 16 kind.1 in
    let index = draw 512 page.1 in
    cpu_item_of_short kind.0 page.0 index.0 index.1 (draw_below 16 kind.1 (omega arith)) (draw_below 512 page.1 (omega arith))

-- an item of a hypervisor's processor, by its kind
host_item_of_short : (kind guest frame place : ℕ) (g : Lcg) → guest ≤ 2 → frame < 144 → place < 16 → Short (host_item_of kind guest frame place g)
unfolding host_item_of
host_item_of_short kind guest frame place g guest_is frame_is place_is =
    let sealed = draw_below 16 g (omega arith) in
    let metadata = draw_below 4 g (omega arith) in
    cond_both (kind == 0) _ _ Short (λ _. given_short frame guest place ((draw 2 g).0 == 1) (omega arith) (omega arith) (omega arith))
    (λ _. cond_both (kind == 1) _ _ Short (λ _. store_short (word_address (16 * guest + 3) place) (mapping frame) (omega arith) (omega arith))
    (λ _. cond_both (kind == 2) _ _ Short (λ _. taken_short frame (omega arith))
    (λ _. cond_both (kind == 3) _ _ Short (λ _. xor_short (word_address (300 + (draw 16 g).0) place) 1 (omega arith) (omega arith))
    (λ _. cond_both (kind == 4) _ _ Short (λ _. given_short (400 + (draw 4 g).0) 0 0 true (omega arith) (omega arith) (omega arith))
    (λ _. load_short (word_address frame place) (omega arith))))))

-- each item of a hypervisor's processor
host_item_short : (g : Lcg) → IsShortItem (host_item g).0
unfolding host_item
host_item_short g =
    let kind = draw 6 g in
    let guest = draw 2 kind.1 in
    let frame = draw 16 guest.1 in
    let place = draw 16 frame.1 in
    let guest_is = draw_below 2 kind.1 (omega arith) in
    let frame_is = draw_below 16 guest.1 (omega arith) in
    host_item_of_short kind.0 (1 + guest.0) (64 * (1 + guest.0) + frame.0) place.0 place.1 (omega arith) (omega arith) (draw_below 16 frame.1 (omega arith))

-- the words of a command
abbrev IsShortCommand : Command → Type 0
IsShortCommand command = IsShortItem (items.Firmware command)

-- a command, by its kind
command_short : (kind guest frame other sealed metadata entry : ℕ) → guest < 2 ^ 32 → frame < 2 ^ 32 → other < 2 ^ 32 → sealed < 2 ^ 32 → metadata < 2 ^ 32 → entry < 2 ^ 32
    → IsShortCommand (command_of kind guest frame other sealed metadata entry)
unfolding command_of item_said command_words
command_short kind guest frame other sealed metadata entry guest_is frame_is other_is sealed_is metadata_is entry_is =
    let g = small_short guest guest_is in
    let f = small_short frame frame_is in
    let o = small_short other other_is in
    let s = small_short sealed sealed_is in
    let m = small_short metadata metadata_is in
    let e = small_short entry entry_is in
    cond_both (kind == 0) _ _ IsShortCommand (λ _. ((omega arith, (m, tt)), omega arith))
    (λ _. cond_both (kind == 1) _ _ IsShortCommand (λ _. ((omega arith, (g, (f, (o, tt)))), omega arith))
    (λ _. cond_both (kind == 2) _ _ IsShortCommand (λ _. ((omega arith, (g, (f, (s, (m, (e, tt)))))), omega arith))
    (λ _. cond_both (kind == 3) _ _ IsShortCommand (λ _. ((omega arith, (g, (s, (f, (m, (e, tt)))))), omega arith))
    (λ _. ((omega arith, (f, tt)), omega arith)))))

-- each item of the firmware
firmware_item_short : (g : Lcg) → IsShortItem (firmware_item g).0
unfolding firmware_item
firmware_item_short g =
    let kind = draw 5 g in
    let guest = draw 2 kind.1 in
    let frame = draw 16 guest.1 in
    let other = draw 16 frame.1 in
    let sealed = draw 16 other.1 in
    let metadata = draw 4 sealed.1 in
    let entry = draw 64 metadata.1 in
    let base = 64 * (1 + guest.0) in
    let guest_is = draw_below 2 kind.1 (omega arith) in
    let frame_is = draw_below 16 guest.1 (omega arith) in
    let other_is = draw_below 16 frame.1 (omega arith) in
    let sealed_is = draw_below 16 other.1 (omega arith) in
    let metadata_is = draw_below 4 sealed.1 (omega arith) in
    let entry_is = draw_below 64 metadata.1 (omega arith) in
    command_short kind.0 (1 + guest.0) (base + frame.0) (base + other.0) (300 + sealed.0) (400 + metadata.0) entry.0 (omega arith) (omega arith) (omega arith) (omega arith) (omega arith) (omega arith)

-- each item of each role
pub item_short : (role : Role) (g : Lcg) → IsShortItem (item_for role g).0
item_short (Cpu guest vmpl npt paging) g = cpu_item_short g
item_short Host g = host_item_short g
item_short Firmware g = firmware_item_short g
