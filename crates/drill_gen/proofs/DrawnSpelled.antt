-- The scenario of each number is one whose text is read again: keys are whole, pages are of guests that run, and each item is tried once,
-- with numbers that are words of 64 bits.
use Rattle.std.proofs.Common.{◌≡◌, ℕ, zero, suc, ◌+◌, ◌*◌, ◌<◌, ◌≤◌, true, List, [], ◌∷◌, refl, arith}
use Rattle.std.proofs.lemmas.Bool.{cond_both}
use Rattle.std.proofs.lemmas.List.{length-replicate}
use Rattle.std.specs.List.{AllByRecursion}
use Rattle.std.specs.Prelude.{nat_lt, ◌==◌}
use Rattle.rand_pcg.specs.Lcg.{Lcg}
use Rattle.snp_model.specs.declared.item.Item.{Item}
use Rattle.snp_model.specs.declared.item.Item.TheVariants as items
use Rattle.snp_model.specs.declared.item.Op.{Op}
use Rattle.snp_model.specs.declared.item.Op.TheVariants.{Load, Store, Xor}
use Rattle.snp_model.specs.declared.scenario.Actor.{Actor}
use Rattle.snp_model.specs.declared.scenario.GuestSpec.{GuestSpec}
use Rattle.snp_model.specs.declared.scenario.Role.{Role}
use Rattle.snp_model.specs.declared.scenario.Role.TheVariants.{Cpu, Host, Firmware}
use Rattle.snp_model.specs.Generated.{generator_of, draw, word_address, mapping, cpu_item_of, cpu_item, host_item_of, host_item, command_of, firmware_item, item_for, script_for, actors_for, roles, guest_spec, page_spec, pages_for, scenario_with, drawn_scenario, generated}
use Rattle.snp_model.specs.ScenarioLines.{is_opened}
use Rattle.snp_model.proofs.PairLaws.{each_append}
use Rattle.snp_model.specs.Spelled.{IsTriedBy, IsWide, IsWideCommand, HasWholeKey, IsOfOpened, IsRoleOf, IsSpelledLine, IsSpelledActor, IsSpelled}
use Rattle.drill_gen.proofs.GeneratedCommands.{draw_below}
use Rattle.drill_gen.proofs.GeneratedSound.{each_from}

-- an item that is tried once
abbrev IsOnce : Item → Type 0
IsOnce item = IsTriedBy 0 item × IsWide item

abbrev Spelled : Item × Lcg → Type 0
Spelled drawn = IsOnce drawn.0

access_spelled : (page index : ℕ) (op : Op) → page < 1024 → index < 512 → IsOnce (items.Access (word_address page index) op)
access_spelled page index op inside below = (refl, omega arith)

cpu_item_of_spelled : (kind page index : ℕ) (g : Lcg) → page < 16 → index < 512 → Spelled (cpu_item_of kind page index g)
unfolding cpu_item_of
cpu_item_of_spelled kind page index g page_is index_is =
    let access : (op : Op) → IsOnce (items.Access (word_address page index) op) = λ op. access_spelled page index op (omega arith) index_is in
    cond_both (nat_lt kind 4) _ _ Spelled (λ _. access Load)
    (λ _. cond_both (nat_lt kind 6) _ _ Spelled (λ _. access (Store (draw 1000 g).0))
    (λ _. cond_both (kind == 6) _ _ Spelled (λ _. access (Xor (draw 1000 g).0)) (λ _. (tt, omega arith))))

cpu_item_spelled : (g : Lcg) → IsOnce (cpu_item g).0
unfolding cpu_item
cpu_item_spelled g =
    let kind = draw 8 g in
    let page = draw 16 kind.1 in
    let index = draw 512 page.1 in
    cpu_item_of_spelled kind.0 page.0 index.0 index.1 (draw_below 16 kind.1 (omega arith)) (draw_below 512 page.1 (omega arith))

host_item_of_spelled : (kind guest frame place : ℕ) (g : Lcg) → guest ≤ 2 → frame < 144 → place < 16 → Spelled (host_item_of kind guest frame place g)
unfolding host_item_of
host_item_of_spelled kind guest frame place g guest_is frame_is place_is =
    let sealed = draw_below 16 g (omega arith) in
    let metadata = draw_below 4 g (omega arith) in
    cond_both (kind == 0) _ _ Spelled (λ _. (tt, omega arith))
    (λ _. cond_both (kind == 1) _ _ Spelled (λ _. access_spelled (16 * guest + 3) place (Store (mapping frame)) (omega arith) (omega arith))
    (λ _. cond_both (kind == 2) _ _ Spelled (λ _. (tt, omega arith))
    (λ _. cond_both (kind == 3) _ _ Spelled (λ _. access_spelled (300 + (draw 16 g).0) place (Xor 1) (omega arith) (omega arith))
    (λ _. cond_both (kind == 4) _ _ Spelled (λ _. (tt, omega arith))
    (λ _. access_spelled frame place Load (omega arith) (omega arith))))))

host_item_spelled : (g : Lcg) → IsOnce (host_item g).0
unfolding host_item
host_item_spelled g =
    let kind = draw 6 g in
    let guest = draw 2 kind.1 in
    let frame = draw 16 guest.1 in
    let place = draw 16 frame.1 in
    let guest_is = draw_below 2 kind.1 (omega arith) in
    let frame_is = draw_below 16 guest.1 (omega arith) in
    host_item_of_spelled kind.0 (1 + guest.0) (64 * (1 + guest.0) + frame.0) place.0 place.1 (omega arith) (omega arith) (draw_below 16 frame.1 (omega arith))

-- a command's frames are inside memory
command_wide : (kind guest frame other sealed metadata entry : ℕ) → frame < 1024 → other < 1024 → sealed < 1024 → metadata < 1024
    → IsWideCommand (command_of kind guest frame other sealed metadata entry)
unfolding command_of
command_wide kind guest frame other sealed metadata entry frame_is other_is sealed_is metadata_is =
    cond_both (kind == 0) _ _ IsWideCommand (λ _. omega arith)
    (λ _. cond_both (kind == 1) _ _ IsWideCommand (λ _. (omega arith, omega arith))
    (λ _. cond_both (kind == 2) _ _ IsWideCommand (λ _. (omega arith, omega arith, omega arith))
    (λ _. cond_both (kind == 3) _ _ IsWideCommand (λ _. (omega arith, omega arith, omega arith))
    (λ _. omega arith))))

firmware_item_spelled : (g : Lcg) → IsOnce (firmware_item g).0
unfolding firmware_item
firmware_item_spelled g =
    let kind = draw 5 g in
    let guest = draw 2 kind.1 in
    let frame = draw 16 guest.1 in
    let other = draw 16 frame.1 in
    let sealed = draw 16 other.1 in
    let metadata = draw 4 sealed.1 in
    let entry = draw 64 metadata.1 in
    let base = 64 * (1 + guest.0) in
    let guest_is = draw_below 2 kind.1 (omega arith) in
    let frame_is = draw_below 16 guest.1 (omega arith) in
    let other_is = draw_below 16 frame.1 (omega arith) in
    let sealed_is = draw_below 16 other.1 (omega arith) in
    let metadata_is = draw_below 4 sealed.1 (omega arith) in
    (tt, command_wide kind.0 (1 + guest.0) (base + frame.0) (base + other.0) (300 + sealed.0) (400 + metadata.0) entry.0 (omega arith) (omega arith) (omega arith) (omega arith))

item_spelled : (role : Role) (g : Lcg) → IsOnce (item_for role g).0
item_spelled (Cpu guest vmpl npt paging) g = cpu_item_spelled g
item_spelled Host g = host_item_spelled g
item_spelled Firmware g = firmware_item_spelled g

script_spelled : (role : Role) (count : ℕ) (g : Lcg) → AllByRecursion IsSpelledLine (script_for role count g).0
unfolding script_for
script_spelled role zero g = tt
script_spelled role (suc count) g = (item_spelled role g, script_spelled role count (item_for role g).1)

actors_spelled : (rs : List Role) (count : ℕ) (g : Lcg) → AllByRecursion (IsRoleOf 1) rs → AllByRecursion (IsSpelledActor 1) (actors_for rs count g).0
unfolding actors_for
actors_spelled [] count g are = tt
actors_spelled (role ∷ rest) count g are = ((are.0, script_spelled role count g), actors_spelled rest count (script_for role count g).1 are.1)

-- no guest tables have five levels
roles_of_version : AllByRecursion (IsRoleOf 1) roles
unfolding roles
roles_of_version = (tt, (tt, (tt, (tt, (tt, (tt, (tt, (tt, tt))))))))

key_whole : (guest : ℕ) → HasWholeKey (guest_spec guest)
unfolding guest_spec
key_whole guest = length-replicate 32 (17 * guest)

-- both guests run
abbrev guests : List GuestSpec
guests = guest_spec 1 ∷ guest_spec 2 ∷ []

first_opened : is_opened guests 1 ≡ true
unfolding is_opened guest_spec
first_opened = refl

second_opened : is_opened guests 2 ≡ true
unfolding is_opened guest_spec
second_opened = refl

page_opened : (guest gpn : ℕ) → is_opened guests guest ≡ true → IsOfOpened guests (page_spec guest gpn)
unfolding page_spec
page_opened guest gpn is = is

guest_pages_opened : (guest : ℕ) → is_opened guests guest ≡ true → AllByRecursion (IsOfOpened guests) (pages_for guest)
unfolding pages_for
guest_pages_opened guest is = each_from (IsOfOpened guests) (page_spec guest) 0 8 (λ gpn from below. page_opened guest gpn is)

-- a scenario with actors whose scripts are read again
with_actors_spelled : (actors : List Actor) → AllByRecursion (IsSpelledActor 1) actors → IsSpelled (scenario_with actors)
unfolding scenario_with
with_actors_spelled actors are =
    record {
      keys = (key_whole 1, (key_whole 2, tt));
      opened = each_append (IsOfOpened guests) (pages_for 1) (pages_for 2) (guest_pages_opened 1 first_opened) (guest_pages_opened 2 second_opened);
      actors = are;
    }

count_spelled : (g : Lcg) (count : ℕ) → IsSpelled (scenario_with (actors_for roles count g).0)
count_spelled g count = with_actors_spelled (actors_for roles count g).0 (actors_spelled roles count g roles_of_version)

-- the text of the scenario of a number is read again
pub drawn_spelled : (number : ℕ) → IsSpelled (generated number)
unfolding drawn_scenario
drawn_spelled number = count_spelled (generator_of number) 512
