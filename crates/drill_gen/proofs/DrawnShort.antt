-- The text of the scenario of each number isn't longer than a text may be: it has 4,163 short lines.
use Rattle.std.proofs.Common.{◌≡◌, ℕ, zero, suc, ◌+◌, ◌*◌, ◌^◌, ◌<◌, ◌≤◌, List, [], ◌∷◌, ◌++◌, length, map, replicate, refl, arith}
use Rattle.std.proofs.lemmas.List.{length-replicate}
use Rattle.std.specs.List.{AllByRecursion, range_with_len}
use Rattle.std.specs.Prelude.{codes, decimal}
use Rattle.rand_pcg.specs.Lcg.{Lcg}
use Rattle.snp_model.specs.declared.scenario.Actor.{Actor}
use Rattle.snp_model.specs.declared.scenario.PageSpec.{PageSpec}
use Rattle.snp_model.specs.declared.scenario.Role.{Role}
use Rattle.snp_model.specs.declared.scenario.Role.TheVariants.{Host, Firmware}
use Rattle.snp_model.specs.declared.scenario.Scenario.{Scenario}
use Rattle.snp_model.specs.declared.scenario.WordSpec.{WordSpec}
use Rattle.snp_model.specs.EventText.{hex_bytes, size_text}
use Rattle.snp_model.specs.Generated.{generator_of, mapping, item_for, once, script_for, actors_for, processor, roles, guest_spec, page_spec, table_word, leaf_word, pages_for, words_for, scenario_with, drawn_scenario, generated}
use Rattle.snp_model.specs.Reading.{most_bytes}
use Rattle.snp_model.specs.ScenarioText.{opening_text, guest_line, guest_lines, validity_text, page_line, page_lines, word_line, word_lines, paging_words, actor_line, item_lines, actor_lines, order_lines, order_lines_of, head_lines, scenario_lines, scenario_text}
use Rattle.snp_model.specs.Spelling.{item_text}
use Rattle.snp_model.proofs.PairLaws.{each_append}
use Rattle.drill_gen.proofs.GeneratedSound.{each_from}
use Rattle.drill_gen.proofs.ShortItems.{once_short, item_short}
use Rattle.drill_gen.proofs.ShortLines.{IsShortWord, IsShortLine, AreShort, number_short, small_short, line_short, none_short, more_short, both_short}

-- a script has a line for each of its items
script_short : (role : Role) (count : ℕ) (g : Lcg) → AreShort (item_lines (script_for role count g).0) count
unfolding script_for item_lines
script_short role zero g = none_short
script_short role (suc count) g =
    let item = item_for role g in
    more_short (item_text (once item.0)) (item_lines (script_for role count item.1).0) count (once_short item.0 (item_short role g)) (script_short role count item.1)

-- the line of an actor, whatever its number
abbrev IsShortRole : Role → Type 0
IsShortRole role = (number : ℕ) → number < 2 ^ 32 → IsShortLine (actor_line number role)

-- the line of a guest's processor
processor_short : (guest : ℕ) → guest ≤ 2 → IsShortRole (processor guest)
unfolding actor_line paging_words
processor_short guest few number below =
    line_short (codes "actor" ∷ decimal number ∷ codes "cpu" ∷ decimal guest ∷ codes "vmpl" ∷ decimal 0 ∷ codes "npt" ∷ decimal (16 * guest) ∷ codes "flat" ∷ [])
    (omega arith, (small_short number below, (omega arith, (small_short guest (omega arith), (omega arith, (small_short 0 (omega arith), (omega arith, (small_short (16 * guest) (omega arith), (omega arith, tt)))))))))
    (omega arith)

-- the line of a hypervisor's processor
host_short : IsShortRole Host
unfolding actor_line
host_short number below = line_short (codes "actor" ∷ decimal number ∷ codes "host" ∷ []) (omega arith, (small_short number below, (omega arith, tt))) (omega arith)

-- the line of the firmware
firmware_short : IsShortRole Firmware
unfolding actor_line
firmware_short number below = line_short (codes "actor" ∷ decimal number ∷ codes "fw" ∷ []) (omega arith, (small_short number below, (omega arith, tt))) (omega arith)

-- the lines of all eight
roles_short : AllByRecursion IsShortRole roles
unfolding roles
roles_short =
    let first = processor_short 1 (omega arith) in
    let second = processor_short 2 (omega arith) in
    (first, (first, (second, (second, (host_short, (host_short, (firmware_short, (firmware_short, tt))))))))

-- actors are numbered with 32 bits
roles_few : 1 + length roles < 2 ^ 32
unfolding roles
roles_few = omega arith

-- lines of one actor and of the others
one_more : (lines : List (List ℕ)) (count n : ℕ) → AreShort lines (suc (count + n * suc count)) → AreShort lines (suc n * suc count)
one_more lines count n are = grind (arith, are)

-- each actor has a line, and its script behind it
actors_short : (rs : List Role) (count number : ℕ) (g : Lcg) → number + length rs < 2 ^ 32 → AllByRecursion IsShortRole rs
    → AreShort (actor_lines number (actors_for rs count g).0) (length rs * suc count)
unfolding actors_for actor_lines
actors_short [] count number g below are =
    let none = none_short in
    omega arith
actors_short (role ∷ rest) count number g below are =
    let script = script_for role count g in
    let items = item_lines script.0 in
    let others = actor_lines (number + 1) (actors_for rest count script.1).0 in
    one_more (actor_line number role ∷ (items ++ others)) count (length rest)
    (more_short (actor_line number role) (items ++ others) (count + length rest * suc count) (are.0 number (omega arith))
    (both_short items others count (length rest * suc count) (script_short role count g) (actors_short rest count (number + 1) script.1 (omega arith) are.1)))

-- two digits for each byte
hex_length : (bytes : List ℕ) → length (hex_bytes bytes) ≡ 2 * length bytes
unfolding hex_bytes
hex_length [] = refl
hex_length (byte ∷ bytes) =
    let rest = hex_length bytes in
    omega arith

-- a key of 32 bytes has 64 digits
key_short : (byte : ℕ) → IsShortWord (hex_bytes (replicate 32 byte))
key_short byte =
    let digits = hex_length (replicate 32 byte) in
    let bytes = length-replicate 32 byte in
    omega arith

-- the line of a guest
guest_short : (number guest : ℕ) → number < 2 ^ 32 → guest < 2 ^ 32 → IsShortLine (guest_line number (guest_spec guest))
unfolding guest_line guest_spec opening_text
guest_short number guest number_is guest_is =
    let key = replicate 32 (17 * guest) in
    line_short (codes "guest" ∷ decimal number ∷ codes "opened" ∷ codes "asid" ∷ decimal guest ∷ codes "iv" ∷ decimal 0 ∷ codes "key" ∷ hex_bytes key ∷ [])
    (omega arith, (small_short number number_is, (omega arith, (omega arith, (small_short guest guest_is, (omega arith, (small_short 0 (omega arith), (omega arith, (key_short (17 * guest), tt))))))))) (omega arith)

-- the lines of both guests
guests_short : AreShort (guest_lines 1 (guest_spec 1 ∷ guest_spec 2 ∷ [])) 2
unfolding guest_lines
guests_short =
    more_short _ _ 1 (guest_short 1 1 (omega arith) (omega arith)) (more_short _ _ 0 (guest_short 2 2 (omega arith) (omega arith)) none_short)

-- the line of a page
abbrev IsShortPage : PageSpec → Type 0
IsShortPage page = IsShortLine (page_line page)

-- each page that is drawn
page_short : (guest gpn : ℕ) → guest ≤ 2 → gpn < 8 → IsShortPage (page_spec guest gpn)
unfolding page_line page_spec size_text validity_text
page_short guest gpn guest_is gpn_is =
    let none = small_short 0 (omega arith) in
    line_short (codes "page" ∷ decimal (64 * guest + gpn) ∷ codes "of" ∷ decimal guest ∷ codes "at" ∷ decimal gpn ∷ codes "4k" ∷ codes "valid" ∷ decimal 0 ∷ decimal 0 ∷ decimal 0 ∷ [])
    (omega arith, (small_short (64 * guest + gpn) (omega arith), (omega arith, (small_short guest (omega arith), (omega arith, (small_short gpn (omega arith), (omega arith, (omega arith, (none, (none, (none, tt))))))))))) (omega arith)

-- the pages of a guest
guest_pages_short : (guest : ℕ) → guest ≤ 2 → AllByRecursion IsShortPage (pages_for guest)
unfolding pages_for
guest_pages_short guest guest_is = each_from IsShortPage (page_spec guest) 0 8 (λ k from below. page_short guest k guest_is (omega arith))

-- pages have a line each
page_lines_short : (pages : List PageSpec) → AllByRecursion IsShortPage pages → AreShort (page_lines pages) (length pages)
unfolding page_lines
page_lines_short [] are = none_short
page_lines_short (page ∷ pages) are = more_short (page_line page) (page_lines pages) (length pages) are.0 (page_lines_short pages are.1)

-- the line of a word
abbrev IsShortSpec : WordSpec → Type 0
IsShortSpec word = IsShortLine (word_line word)

-- the word of a table above the last one
table_word_short : (guest level : ℕ) → guest ≤ 2 → level < 3 → IsShortSpec (table_word guest level)
unfolding word_line table_word
table_word_short guest level guest_is level_is =
    line_short (codes "word" ∷ decimal (16 * guest + level) ∷ decimal 0 ∷ decimal (mapping (16 * guest + level + 1)) ∷ [])
    (omega arith, (small_short (16 * guest + level) (omega arith), (small_short 0 (omega arith), (number_short (mapping (16 * guest + level + 1)) (omega arith), tt)))) (omega arith)

-- the word of a last table
leaf_word_short : (guest gpn : ℕ) → guest ≤ 2 → gpn < 16 → IsShortSpec (leaf_word guest gpn)
unfolding word_line leaf_word
leaf_word_short guest gpn guest_is gpn_is =
    line_short (codes "word" ∷ decimal (16 * guest + 3) ∷ decimal gpn ∷ decimal (mapping (64 * guest + gpn)) ∷ [])
    (omega arith, (small_short (16 * guest + 3) (omega arith), (small_short gpn (omega arith), (number_short (mapping (64 * guest + gpn)) (omega arith), tt)))) (omega arith)

-- the words of a guest's tables
guest_words_short : (guest : ℕ) → guest ≤ 2 → AllByRecursion IsShortSpec (words_for guest)
unfolding words_for
guest_words_short guest guest_is =
    each_append IsShortSpec (map (table_word guest) (range_with_len 0 3)) (map (leaf_word guest) (range_with_len 0 16))
    (each_from IsShortSpec (table_word guest) 0 3 (λ k from below. table_word_short guest k guest_is (omega arith)))
    (each_from IsShortSpec (leaf_word guest) 0 16 (λ k from below. leaf_word_short guest k guest_is (omega arith)))

-- words have a line each
word_lines_short : (words : List WordSpec) → AllByRecursion IsShortSpec words → AreShort (word_lines words) (length words)
unfolding word_lines
word_lines_short [] are = none_short
word_lines_short (word ∷ words) are = more_short (word_line word) (word_lines words) (length words) are.0 (word_lines_short words are.1)

-- the lines of all pages
pages_short : AreShort (page_lines (pages_for 1 ++ pages_for 2)) 16
unfolding pages_for
pages_short =
    page_lines_short (pages_for 1 ++ pages_for 2)
    (each_append IsShortPage (pages_for 1) (pages_for 2) (guest_pages_short 1 (omega arith)) (guest_pages_short 2 (omega arith)))

-- the lines of all words
words_short : AreShort (word_lines (words_for 1 ++ words_for 2)) 38
unfolding words_for
words_short =
    word_lines_short (words_for 1 ++ words_for 2)
    (each_append IsShortSpec (words_for 1) (words_for 2) (guest_words_short 1 (omega arith)) (guest_words_short 2 (omega arith)))

-- the first two lines
head_short : AreShort (head_lines 1 2) 2
unfolding head_lines
head_short =
    let first = line_short (codes "snp" ∷ decimal 1 ∷ []) (omega arith, (small_short 1 (omega arith), tt)) (omega arith) in
    let second = line_short (codes "regions" ∷ decimal 2 ∷ []) (omega arith, (small_short 2 (omega arith), tt)) (omega arith) in
    more_short _ _ 1 first (more_short _ _ 0 second none_short)

-- all lines: 2 of the head, 2 of guests, 16 of pages, 38 of words, 4,104 of actors with their scripts, and the last
with_actors_short : (actors : List Actor) → AreShort (actor_lines 1 actors) 4104 → AreShort (scenario_lines (scenario_with actors)) 4163
unfolding scenario_lines scenario_with order_lines order_lines_of
with_actors_short actors are =
    let last : AreShort (codes "end" ∷ []) 1 = more_short _ _ 0 (omega arith) none_short in
    both_short _ _ 2 4161 head_short
    (both_short _ _ 2 4159 guests_short
    (both_short _ _ 16 4143 pages_short
    (both_short _ _ 38 4105 words_short
    (both_short _ _ 4104 1 are last))))

-- eight actors of at most 512 items each
eight_scripts : (lines : List (List ℕ)) (count : ℕ) → 8 * suc count ≤ 4104 → AreShort lines (length roles * suc count) → AreShort lines 4104
unfolding roles
eight_scripts lines count few are = omega arith

-- the lines of a scenario of so many items a script
drawn_lines_short : (g : Lcg) (count : ℕ) → 8 * suc count ≤ 4104 → AreShort (scenario_lines (scenario_with (actors_for roles count g).0)) 4163
drawn_lines_short g count few =
    with_actors_short (actors_for roles count g).0 (eight_scripts _ count few (actors_short roles count 1 g roles_few roles_short))

-- so many lines make no text that is too long
few_enough : (c : Scenario) → AreShort (scenario_lines c) 4163 → length (scenario_text c) ≤ most_bytes
unfolding scenario_text
few_enough c are = omega arith

-- the text of the scenario of a number isn't longer than a text may be
pub drawn_short : (number : ℕ) → length (scenario_text (generated number)) ≤ most_bytes
unfolding drawn_scenario
drawn_short number = few_enough (scenario_with (actors_for roles 512 (generator_of number)).0) (drawn_lines_short (generator_of number) 512 (omega arith))
