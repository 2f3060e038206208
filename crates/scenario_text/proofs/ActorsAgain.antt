-- The lines that are written of a scenario's actors and their scripts are read again as these actors.
use Rattle.std.proofs.Common.{◌≡◌, ℕ, ◌+◌, ◌^◌, ◌<◌, ◌≤◌, Bool, true, false, List, [], ◌∷◌, ◌++◌, length, refl, sym, ap, subst, append_assoc, append-nil, length-append, arith}
use Rattle.std.specs.Prelude.{Result, Ok, codes, decimal, nat_le}
use Rattle.std.specs.List.{AllByRecursion}
use Rattle.std.proofs.lemmas.Bool.Decides.{nat_tests}
use Rattle.snp_model.specs.declared.reading.Reason.{Reason}
use Rattle.snp_model.specs.declared.scenario.Actor.{Actor}
use Rattle.snp_model.specs.declared.scenario.Paging.{Paging}
use Rattle.snp_model.specs.declared.scenario.Paging.TheVariants.{Flat, Four, Five}
use Rattle.snp_model.specs.declared.scenario.Role.{Role}
use Rattle.snp_model.specs.declared.scenario.Role.TheVariants.{Cpu, Host, Firmware}
use Rattle.snp_model.specs.declared.scenario.Scenario.{Scenario}
use Rattle.snp_model.specs.Attempts.{actors_attempts, attempts_of}
use Rattle.snp_model.specs.Bounds.{IsCpu, IsRole}
use Rattle.snp_model.specs.Lines.{fixed}
use Rattle.snp_model.specs.Reading.{Made, reading, Makes, add_actor, add_words, fit}
use Rattle.snp_model.specs.ScenarioLines.{before_orders, cpu_row, frames_of, has_five_levels, has_no, idle, is_declared, next_number, role_row, role_word, tables_at, tables_row}
use Rattle.snp_model.specs.ScenarioText.{actor_line, actor_lines, item_lines, paging_words}
use Rattle.snp_model.specs.Sound.{IsActor}
use Rattle.snp_model.specs.Spelling.{joined}
use Rattle.script_text.proofs.ItemAgain.{below_decimal, ranged_decimal}
use Rattle.script_text.proofs.SpellingLaws.{IsWord, decimal_word, number_decimal}
use Rattle.snp_model.specs.Spelled.{IsRoleOf, IsSpelledActor}
use Rattle.scenario_text.proofs.ItemsAgain.{items_make, with_actors}
use Rattle.scenario_text.proofs.MakesAgain.{makes_append, more_make, said_fits}
use Rattle.scenario_text.proofs.NamedLines.{named}

-- a scenario that has room for one more actor
record HasRoom (c : Scenario) : Type 0 where
  stands : before_orders c ≡ true
  frames : frames_of c ≤ 2 ^ 32
  guests : length c.guests ≤ 8
  actors : length c.actors < 32

-- the number of the next actor
abbrev next_actor : Scenario → ℕ
next_actor c = length c.actors + 1

-- which is read again
number_again : (c : Scenario) → HasRoom c → next_number (length c.actors) (decimal (next_actor c)) ≡ Ok (next_actor c)
unfolding next_number
number_again c room = ranged_decimal (next_actor c) (next_actor c) (next_actor c) (omega arith) (omega arith) (omega (arith, room.actors))

-- the words of a guest processor's line, with those of its tables
abbrev cpu_words : ℕ → ℕ → ℕ → ℕ → List (List ℕ) → List (List ℕ)
cpu_words number guest vmpl npt tables = decimal number ∷ codes "cpu" ∷ decimal guest ∷ codes "vmpl" ∷ decimal vmpl ∷ codes "npt" ∷ decimal npt ∷ tables

abbrev said_cpu : ℕ → ℕ → ℕ → ℕ → List (List ℕ) → List (List ℕ)
said_cpu number guest vmpl npt tables = codes "actor" ∷ cpu_words number guest vmpl npt tables

-- its guest is declared
declared_again : (c : Scenario) (guest vmpl npt : ℕ) (paging : Paging) → IsCpu (frames_of c) (length c.guests) guest vmpl npt paging → is_declared c.guests guest ≡ true
declared_again c guest vmpl npt paging is = let some = is.guest_some in let most = is.guest_most in grind (arith, nat_tests, some, most)

-- a guest processor without tables
flat_again : (c : Scenario) (guest vmpl npt : ℕ) → HasRoom c → IsCpu (frames_of c) (length c.guests) guest vmpl npt Flat
    → cpu_row c (said_cpu (next_actor c) guest vmpl npt (codes "flat" ∷ [])) ≡ Ok (Cpu guest vmpl npt Flat)
unfolding cpu_row fixed
flat_again c guest vmpl npt room is =
    rw (
      number_again c room,
      number_decimal guest (omega (arith, is.guest_most, room.guests)),
      below_decimal 4 vmpl is.vmpl_below (omega (arith, is.vmpl_below)),
      below_decimal (frames_of c) npt is.npt_below (omega (arith, is.npt_below, room.frames)),
      declared_again c guest vmpl npt Flat is,
    ) refl

-- a guest processor with tables
tables_again : (c : Scenario) (guest vmpl npt root : ℕ) (levels : List ℕ) (five : Bool) → HasRoom c → IsCpu (frames_of c) (length c.guests) guest vmpl npt (tables_at five root)
    → root < 2 ^ 36 → has_five_levels c.version levels ≡ Ok five
    → tables_row c (said_cpu (next_actor c) guest vmpl npt (levels ∷ decimal root ∷ [])) ≡ Ok (Cpu guest vmpl npt (tables_at five root))
unfolding tables_row fixed
tables_again c guest vmpl npt root levels five room is small read =
    rw (
      number_again c room,
      number_decimal guest (omega (arith, is.guest_most, room.guests)),
      below_decimal 4 vmpl is.vmpl_below (omega (arith, is.vmpl_below)),
      below_decimal (frames_of c) npt is.npt_below (omega (arith, is.npt_below, room.frames)),
      read,
      below_decimal (2 ^ 36) root small (omega (arith, small)),
      declared_again c guest vmpl npt (tables_at five root) is,
    ) refl

four_levels : (version : ℕ) → has_five_levels version (codes "gcr3") ≡ Ok false
unfolding has_five_levels
four_levels version = refl

five_levels : (version : ℕ) → version ≡ 2 → has_five_levels version (codes "la57") ≡ Ok true
unfolding has_five_levels
five_levels version is = rw is refl

-- a hypervisor processor, and a firmware actor
host_again : (c : Scenario) → HasRoom c → role_row c (codes "actor" ∷ decimal (next_actor c) ∷ codes "host" ∷ []) ≡ Ok Host
unfolding role_row role_word
host_again c room = rw (number_again c room) refl

firmware_again : (c : Scenario) → HasRoom c → role_row c (codes "actor" ∷ decimal (next_actor c) ∷ codes "fw" ∷ []) ≡ Ok Firmware
unfolding role_row role_word
firmware_again c room = rw (number_again c room) refl

-- a scenario with one more actor, which has no items yet
abbrev with_idle : Scenario → Role → Made
with_idle c role = reading (with_actors c (c.actors ++ idle role ∷ []))

-- an actor whose row is read is added
role_added : (c : Scenario) (row : Result Role Reason) (role : Role) → HasRoom c → row ≡ Ok role → add_actor c row ≡ Ok (with_idle c role)
unfolding add_actor
role_added c row role room read =
    let room_left = room.actors in
    let fits : nat_le (length c.actors + 1) 32 ≡ true = grind (arith, nat_tests, room_left) in
    rw (read, fits) refl

flat_added : (c : Scenario) (guest vmpl npt : ℕ) → HasRoom c → IsCpu (frames_of c) (length c.guests) guest vmpl npt Flat
    → add_words c (said_cpu (next_actor c) guest vmpl npt (codes "flat" ∷ [])) ≡ Ok (with_idle c (Cpu guest vmpl npt Flat))
unfolding add_words
flat_added c guest vmpl npt room is =
    rw room.stands (role_added c (cpu_row c (said_cpu (next_actor c) guest vmpl npt (codes "flat" ∷ []))) (Cpu guest vmpl npt Flat) room (flat_again c guest vmpl npt room is))

tables_added : (c : Scenario) (guest vmpl npt root : ℕ) (levels : List ℕ) (five : Bool) → HasRoom c → IsCpu (frames_of c) (length c.guests) guest vmpl npt (tables_at five root)
    → root < 2 ^ 36 → has_five_levels c.version levels ≡ Ok five
    → add_words c (said_cpu (next_actor c) guest vmpl npt (levels ∷ decimal root ∷ [])) ≡ Ok (with_idle c (Cpu guest vmpl npt (tables_at five root)))
unfolding add_words
tables_added c guest vmpl npt root levels five room is small read =
    rw room.stands (role_added c (tables_row c (said_cpu (next_actor c) guest vmpl npt (levels ∷ decimal root ∷ []))) (Cpu guest vmpl npt (tables_at five root)) room
    (tables_again c guest vmpl npt root levels five room is small read))

host_added : (c : Scenario) → HasRoom c → add_words c (codes "actor" ∷ decimal (next_actor c) ∷ codes "host" ∷ []) ≡ Ok (with_idle c Host)
unfolding add_words
host_added c room = rw room.stands (role_added c (role_row c (codes "actor" ∷ decimal (next_actor c) ∷ codes "host" ∷ [])) Host room (host_again c room))

firmware_added : (c : Scenario) → HasRoom c → add_words c (codes "actor" ∷ decimal (next_actor c) ∷ codes "fw" ∷ []) ≡ Ok (with_idle c Firmware)
unfolding add_words
firmware_added c room = rw room.stands (role_added c (role_row c (codes "actor" ∷ decimal (next_actor c) ∷ codes "fw" ∷ [])) Firmware room (firmware_again c room))

-- the words of actors' lines are words
number_is_word : (c : Scenario) → HasRoom c → IsWord (decimal (next_actor c))
number_is_word c room = decimal_word (next_actor c) (omega (arith, room.actors))

cpu_words_are : (c : Scenario) (guest vmpl npt : ℕ) (paging : Paging) (tables : List (List ℕ)) → HasRoom c → IsCpu (frames_of c) (length c.guests) guest vmpl npt paging → AllByRecursion IsWord tables
    → AllByRecursion IsWord (cpu_words (next_actor c) guest vmpl npt tables)
cpu_words_are c guest vmpl npt paging tables room is are = (
  number_is_word c room,
  (
    refl,
    (
      decimal_word guest (omega (arith, is.guest_most, room.guests)),
      (
        refl,
        (
          decimal_word vmpl (omega (arith, is.vmpl_below)),
          (
            refl,
            (decimal_word npt (omega (arith, is.npt_below, room.frames)), are),
          ),
        ),
      ),
    ),
  ),
)

-- a line of an actor fits as its words do
actor_said : (c : Scenario) (ws : List (List ℕ)) (role : Role) → AllByRecursion IsWord ws → nat_le (length (codes "actor" ∷ ws)) 17 ≡ true → add_words c (codes "actor" ∷ ws) ≡ Ok (with_idle c role)
    → fit (reading c) (joined (codes "actor" ∷ ws)) ≡ Ok (with_idle c role)
actor_said c ws role are few fits = said_fits c (codes "actor") ws (with_idle c role) refl are few (named (joined (codes "actor" ∷ ws)) refl) fits

-- the line of a guest processor with tables is read again
tables_fit : (c : Scenario) (guest vmpl npt root : ℕ) (levels : List ℕ) (five : Bool) → HasRoom c → IsCpu (frames_of c) (length c.guests) guest vmpl npt (tables_at five root)
    → root < 2 ^ 36 → IsWord levels → has_five_levels c.version levels ≡ Ok five
    → fit (reading c) (joined (said_cpu (next_actor c) guest vmpl npt (levels ∷ decimal root ∷ []))) ≡ Ok (with_idle c (Cpu guest vmpl npt (tables_at five root)))
tables_fit c guest vmpl npt root levels five room is small is_word read =
    let tables : List (List ℕ) = levels ∷ decimal root ∷ [] in
    actor_said c (cpu_words (next_actor c) guest vmpl npt tables) (Cpu guest vmpl npt (tables_at five root))
    (cpu_words_are c guest vmpl npt (tables_at five root) tables room is (is_word, (decimal_word root (omega (arith, small)), tt))) refl
    (tables_added c guest vmpl npt root levels five room is small read)

-- the line of an actor is read again
actor_fits : (c : Scenario) (role : Role) → HasRoom c → IsRole (frames_of c) (length c.guests) role → IsRoleOf c.version role → fit (reading c) (actor_line (next_actor c) role) ≡ Ok (with_idle c role)
unfolding actor_line paging_words
actor_fits c (Cpu guest vmpl npt Flat) room is spelled =
    let tables : List (List ℕ) = codes "flat" ∷ [] in
    actor_said c (cpu_words (next_actor c) guest vmpl npt tables) (Cpu guest vmpl npt Flat) (cpu_words_are c guest vmpl npt Flat tables room is (refl, tt)) refl (flat_added c guest vmpl npt room is)
actor_fits c (Cpu guest vmpl npt (Four root)) room is spelled = tables_fit c guest vmpl npt root (codes "gcr3") false room is is.root_below refl (four_levels c.version)
actor_fits c (Cpu guest vmpl npt (Five root)) room is spelled = tables_fit c guest vmpl npt root (codes "la57") true room is is.root_below refl (five_levels c.version spelled)
actor_fits c Host room is spelled = actor_said c (decimal (next_actor c) ∷ codes "host" ∷ []) Host (number_is_word c room, (refl, tt)) refl (host_added c room)
actor_fits c Firmware room is spelled = actor_said c (decimal (next_actor c) ∷ codes "fw" ∷ []) Firmware (number_is_word c room, (refl, tt)) refl (firmware_added c room)

-- a front of actors has no more attempts than all of them
front_few : (front rest : List Actor) → actors_attempts front ≤ actors_attempts (front ++ rest)
unfolding actors_attempts
front_few [] rest = omega arith
front_few (actor ∷ front) rest = omega (arith, front_few front rest)

-- actors behind those that are read
actors_behind : (c : Scenario) (done actors : List Actor) → before_orders c ≡ true → has_no c.order ≡ true → frames_of c ≤ 2 ^ 32 → length c.guests ≤ 8 → length done + length actors ≤ 32
    → AllByRecursion (IsActor (frames_of c) (length c.guests)) actors → AllByRecursion (IsSpelledActor c.version) actors → actors_attempts (done ++ actors) ≤ 8192
    → Makes (reading (with_actors c done)) (actor_lines (length done + 1) actors) (reading (with_actors c (done ++ actors)))
unfolding Makes actor_lines
actors_behind c done [] stands late small guests room are spelled few = ap (λ (all : List Actor). reading (with_actors c all)) (sym (append-nil done))
actors_behind c done (actor ∷ actors) stands late small guests room are spelled few =
    let made : List Actor → Made = λ all. reading (with_actors c all) in
    let next : List Actor = done ++ actor ∷ [] in
    let same : next ++ actors ≡ done ++ actor ∷ actors = append_assoc done (actor ∷ []) actors in
    let most : actors_attempts (next ++ actors) ≤ 8192 = subst (λ (all : List Actor). actors_attempts all ≤ 8192) (sym same) few in
    let longer : length next ≡ length done + 1 = length-append done (actor ∷ []) in
    let has_room : HasRoom (with_actors c done) = record { stands = stands; frames = small; guests = guests; actors = omega (arith, room) } in
    let rest : Makes (made next) (actor_lines (length next + 1) actors) (made (next ++ actors)) =
    actors_behind c next actors stands late small guests (omega (arith, room, longer)) are.1 spelled.1 most in
    let numbered : Makes (made next) (actor_lines (length done + 1 + 1) actors) (made (next ++ actors)) =
    subst (λ (n : ℕ). Makes (made next) (actor_lines (n + 1) actors) (made (next ++ actors))) longer rest in
    more_make (made done) (made (done ++ idle actor.role ∷ [])) (made (done ++ actor ∷ actors)) (actor_line (length done + 1) actor.role) (item_lines actor.script ++ actor_lines (length done + 1 + 1) actors)
    (actor_fits (with_actors c done) actor.role has_room are.0.role spelled.0.0)
    (makes_append (made (done ++ idle actor.role ∷ [])) (made next) (made (done ++ actor ∷ actors)) (item_lines actor.script) (actor_lines (length done + 1 + 1) actors)
    (items_make c done actor.role [] actor.script late are.0.script spelled.0.1 (omega (arith, most, front_few next actors)))
    (subst (λ (all : List Actor). Makes (made next) (actor_lines (length done + 1 + 1) actors) (made all)) same numbered))

-- the lines of actors, behind a scenario without orders
pub actors_make : (c : Scenario) (actors : List Actor) → before_orders c ≡ true → frames_of c ≤ 2 ^ 32 → length c.guests ≤ 8 → length c.actors + length actors ≤ 32
    → AllByRecursion (IsActor (frames_of c) (length c.guests)) actors → AllByRecursion (IsSpelledActor c.version) actors → attempts_of (record c { actors = c.actors ++ actors }) ≤ 8192
    → Makes (reading c) (actor_lines (length c.actors + 1) actors) (reading (record c { actors = c.actors ++ actors }))
unfolding attempts_of
actors_make c actors stands small guests room are spelled few =
    let late : has_no c.order ≡ true = grind (arith, nat_tests, stands) in
    actors_behind c c.actors actors stands late small guests room are spelled few
