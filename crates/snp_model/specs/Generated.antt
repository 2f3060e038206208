-- The scenario of a number: two guests with their pages and tables, and eight actors whose items are drawn (this project's own). A draw
-- gives what is drawn and the generator that is left; draws are made in the order in which they stand.
use Rattle.std.specs.Prelude.{ℕ, zero, suc, ◌+◌, ◌*◌, ◌%◌, ◌==◌, nat_lt, Bool, true, false, if◌then◌else◌, List, [], ◌∷◌, ◌++◌, map, replicate}
use Rattle.std.specs.List.{range_with_len}
use Rattle.rand_pcg.specs.Lcg.{Lcg, increment_of, started}
use Rattle.rand_pcg.specs.Pcg.{multiplier_64, pcg32}
use Rattle.snp_model.specs.declared.command.Command.{Command}
use Rattle.snp_model.specs.declared.command.Command.TheVariants.{MdInit, PageMove, SwapOut, SwapIn, Reclaim}
use Rattle.snp_model.specs.declared.entry.PageSize.TheVariants.{Small}
use Rattle.snp_model.specs.declared.item.Item.{Item}
use Rattle.snp_model.specs.declared.item.Item.TheVariants as items
use Rattle.snp_model.specs.declared.item.Line.{Line}
use Rattle.snp_model.specs.declared.item.Op.TheVariants.{Load, Store, Xor}
use Rattle.snp_model.specs.declared.item.Update.{Update}
use Rattle.snp_model.specs.declared.scenario.Actor.{Actor}
use Rattle.snp_model.specs.declared.scenario.GuestSpec.{GuestSpec}
use Rattle.snp_model.specs.declared.scenario.PageSpec.{PageSpec}
use Rattle.snp_model.specs.declared.scenario.Paging.TheVariants.{Flat}
use Rattle.snp_model.specs.declared.scenario.Role.{Role}
use Rattle.snp_model.specs.declared.scenario.Role.TheVariants.{Cpu, Host, Firmware}
use Rattle.snp_model.specs.declared.scenario.Scenario.{Scenario}
use Rattle.snp_model.specs.declared.scenario.WordSpec.{WordSpec}

-- the generator of a number: PCG XSH RR 64/32 from that number on, on stream 1 (O'Neill, "PCG: a family of simple fast
-- space-efficient statistically good algorithms for random number generation")
unfoldable pub generator_of : ℕ → Lcg
generator_of number = started 64 multiplier_64 number (increment_of 64 1)

-- a number below a count: the next word of 32 bits, modulo the count
unfoldable pub draw : ℕ → Lcg → ℕ × Lcg
draw count g = ((pcg32 g).0 % count, (pcg32 g).1)

-- an item that one more draw completes
abbrev pub completed : ℕ → (ℕ → Item) → Lcg → Item × Lcg
completed count item g = (item (draw count g).0, (draw count g).1)

-- the address of a word of a page: system physical by its frame, virtual by its guest page number
abbrev pub word_address : ℕ → ℕ → ℕ
word_address page index = 4096 * page + 8 * index

-- the entry of a nested table that maps this frame: present, writable, for user accesses
abbrev pub mapping : ℕ → ℕ
mapping frame = 4096 * frame + 7

-- an item of a guest's processor, by its kind: 0 to 3 load, 4 and 5 store, 6 is an exclusive or, and 7 validates or rescinds
unfoldable pub cpu_item_of : ℕ → ℕ → ℕ → Lcg → Item × Lcg
cpu_item_of kind page index g =
    if nat_lt kind 4 then (items.Access (word_address page index) Load, g)
    else if nat_lt kind 6 then completed 1000 (λ value. items.Access (word_address page index) (Store value)) g
    else if kind == 6 then completed 1000 (λ value. items.Access (word_address page index) (Xor value)) g
    else completed 2 (λ flag. items.Pvalidate (4096 * page) Small (flag == 1)) g

-- kind, page and word of an item of a guest's processor
unfoldable pub cpu_item : Lcg → Item × Lcg
cpu_item g =
    let kind = draw 8 g in
    let page = draw 16 kind.1 in
    let index = draw 512 page.1 in
    cpu_item_of kind.0 page.0 index.0 index.1

-- the operands of RMPUPDATE that assign a frame, and that take it away
abbrev pub given : ℕ → ℕ → ℕ → Bool → Update
given frame asid gpn immutable = record { frame = frame; size = Small; assigned = true; asid = asid; gpn = gpn; immutable = immutable }

abbrev pub taken_away : ℕ → Update
taken_away frame = record { frame = frame; size = Small; assigned = false; asid = 0; gpn = 0; immutable = false }

-- an item of a hypervisor's processor, by its kind, for a guest, a frame of its and a place
unfoldable pub host_item_of : ℕ → ℕ → ℕ → ℕ → Lcg → Item × Lcg
host_item_of kind guest frame place g =
    if kind == 0 then completed 2 (λ flag. items.Rmpupdate (given frame guest place (flag == 1))) g
    else if kind == 1 then (items.Access (word_address (16 * guest + 3) place) (Store (mapping frame)), g)
    else if kind == 2 then (items.Rmpupdate (taken_away frame), g)
    else if kind == 3 then completed 16 (λ sealed. items.Access (word_address (300 + sealed) place) (Xor 1)) g
    else if kind == 4 then completed 4 (λ metadata. items.Rmpupdate (given (400 + metadata) 0 0 true)) g
    else (items.Access (word_address frame place) Load, g)

-- kind, guest, frame and place of an item of a hypervisor's processor
unfoldable pub host_item : Lcg → Item × Lcg
host_item g =
    let kind = draw 6 g in
    let guest = draw 2 kind.1 in
    let frame = draw 16 guest.1 in
    let place = draw 16 frame.1 in
    host_item_of kind.0 (1 + guest.0) (64 * (1 + guest.0) + frame.0) place.0 place.1

-- a command of the firmware, by its kind, for a guest, two frames of its, a frame for ciphertexts, a metadata page and an entry of it
unfoldable pub command_of : ℕ → ℕ → ℕ → ℕ → ℕ → ℕ → ℕ → Command
command_of kind guest frame other sealed metadata entry =
    if kind == 0 then MdInit metadata
    else if kind == 1 then PageMove guest frame other
    else if kind == 2 then SwapOut guest frame sealed metadata entry
    else if kind == 3 then SwapIn guest sealed frame metadata entry
    else Reclaim frame

-- kind, guest, frames and entry of an item of the firmware, all drawn whatever the kind
unfoldable pub firmware_item : Lcg → Item × Lcg
firmware_item g =
    let kind = draw 5 g in
    let guest = draw 2 kind.1 in
    let frame = draw 16 guest.1 in
    let other = draw 16 frame.1 in
    let sealed = draw 16 other.1 in
    let metadata = draw 4 sealed.1 in
    let entry = draw 64 metadata.1 in
    let base = 64 * (1 + guest.0) in
    (items.Firmware (command_of kind.0 (1 + guest.0) (base + frame.0) (base + other.0) (300 + sealed.0) (400 + metadata.0) entry.0), entry.1)

-- an item of an actor with this role
abbrev pub item_for : Role → Lcg → Item × Lcg
item_for (Cpu guest vmpl npt paging) g = cpu_item g
item_for Host g = host_item g
item_for Firmware g = firmware_item g

-- a line that is tried once
abbrev pub once : Item → Line
once item = record { item = item; retries = 0 }

-- a script of so many items
unfoldable pub script_for : Role → ℕ → Lcg → List Line × Lcg
script_for role zero g = ([], g)
script_for role (suc count) g =
    let item = item_for role g in
    let script = script_for role count item.1 in
    (once item.0 ∷ script.0, script.1)

-- actors with these roles and scripts of so many items, one actor after the other
unfoldable pub actors_for : List Role → ℕ → Lcg → List Actor × Lcg
actors_for [] count g = ([], g)
actors_for (role ∷ roles) count g =
    let script = script_for role count g in
    let actors = actors_for roles count script.1 in
    ((record { role = role; script = script.0 }) ∷ actors.0, actors.1)

-- a processor of a guest, whose nested tables begin at frame 16 times the guest's number
abbrev pub processor : ℕ → Role
processor guest = Cpu guest 0 (16 * guest) Flat

-- two processors for each guest, two of the hypervisor, and two actors of the firmware
unfoldable pub roles : List Role
roles = processor 1 ∷ processor 1 ∷ processor 2 ∷ processor 2 ∷ Host ∷ Host ∷ Firmware ∷ Firmware ∷ []

-- a guest that runs, with the ASID of its number, and a key of which each hex digit is the number
unfoldable pub guest_spec : ℕ → GuestSpec
guest_spec guest = record { opened = true; asid = guest; iv = 0; key = replicate 32 (17 * guest) }

-- a page of a guest at the frame 64 times its number and on, validated, for VMPL0 alone
unfoldable pub page_spec : ℕ → ℕ → PageSpec
page_spec guest gpn =
    record { frame = 64 * guest + gpn; guest = guest; gpn = gpn; size = Small; valid = true; perms = 0 ∷ 0 ∷ 0 ∷ [] }

-- the word of a table of a guest, above the last one, that leads to the next table
unfoldable pub table_word : ℕ → ℕ → WordSpec
table_word guest level = record { frame = 16 * guest + level; index = 0; value = mapping (16 * guest + level + 1) }

-- the word of a guest's last table that maps a page
unfoldable pub leaf_word : ℕ → ℕ → WordSpec
leaf_word guest gpn = record { frame = 16 * guest + 3; index = gpn; value = mapping (64 * guest + gpn) }

-- the eight pages that a guest has from the start
unfoldable pub pages_for : ℕ → List PageSpec
pages_for guest = map (page_spec guest) (range_with_len 0 8)

-- three tables above the last one, and 16 words of the last one
unfoldable pub words_for : ℕ → List WordSpec
words_for guest = map (table_word guest) (range_with_len 0 3) ++ map (leaf_word guest) (range_with_len 0 16)

-- a scenario with these actors
unfoldable pub scenario_with : List Actor → Scenario
scenario_with actors =
    record {
      version = 1;
      regions = 2;
      guests = guest_spec 1 ∷ guest_spec 2 ∷ [];
      pages = pages_for 1 ++ pages_for 2;
      words = words_for 1 ++ words_for 2;
      actors = actors;
      order = [];
    }

-- how many items a script has
abbrev pub items_each : ℕ
items_each = 512

-- the scenario that a generator draws
unfoldable pub drawn_scenario : Lcg → Scenario × Lcg
drawn_scenario g =
    let actors = actors_for roles items_each g in
    (scenario_with actors.0, actors.1)

-- the scenario of a number
abbrev pub generated : ℕ → Scenario
generated number = (drawn_scenario (generator_of number)).0
