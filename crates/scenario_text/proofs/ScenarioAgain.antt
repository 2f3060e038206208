-- What is written of a scenario is read again as that scenario.
use Rattle.std.proofs.Common.{◌≡◌, ◌≢◌, ℕ, zero, suc, ◌<◌, ◌≤◌, true, [], ◌∷◌, length, refl, arith}
use Rattle.std.specs.Prelude.{codes, not, ◌==◌}
use Rattle.std.proofs.lemmas.Bool.Decides.{nat_tests}
use Rattle.snp_model.specs.declared.scenario.Scenario.{Scenario}
use Rattle.snp_model.specs.Attempts.{attempts_of}
use Rattle.snp_model.specs.Reading.{nothing, reading, closed, Makes, Reads, most_bytes, order_of}
use Rattle.snp_model.specs.ScenarioLines.{first_scenario}
use Rattle.snp_model.specs.ScenarioText.{guest_lines, page_lines, word_lines, actor_lines, order_lines, head_lines, scenario_lines, scenario_text}
use Rattle.snp_model.specs.Sound.{IsSound}
use Rattle.snp_model.proofs.AttemptLaws.{length-turns_spell}
use Rattle.snp_model.specs.Spelled.{IsSpelled}
use Rattle.scenario_text.proofs.ActorsAgain.{actors_make}
use Rattle.scenario_text.proofs.GuestsAgain.{guests_make}
use Rattle.scenario_text.proofs.MakesAgain.{makes_append}
use Rattle.scenario_text.proofs.OrdersAgain.{end_makes, head_makes, orders_make}
use Rattle.scenario_text.proofs.PagesAgain.{pages_make}
use Rattle.scenario_text.proofs.TextAgain.{plain_lines, scenario_read, text_is}
use Rattle.scenario_text.proofs.WordsAgain.{words_make}

-- the scenario as far as its lines are read: its first two, and those of its guests, pages, words and actors
abbrev with_memory : Scenario → Scenario
with_memory c = record (first_scenario c.version) { regions = c.regions }

abbrev with_guests : Scenario → Scenario
with_guests c = record (with_memory c) { guests = c.guests }

abbrev with_pages : Scenario → Scenario
with_pages c = record (with_guests c) { pages = c.pages }

abbrev with_words : Scenario → Scenario
with_words c = record (with_pages c) { words = c.words }

abbrev with_actors : Scenario → Scenario
with_actors c = record (with_words c) { actors = c.actors }

-- there is memory
some_memory : (n : ℕ) → 0 < n → n ≢ 0
some_memory n some none = absurd (omega (arith, some, none))

memory_is : (n : ℕ) → 0 < n → not (n == 0) ≡ true
memory_is zero some = absurd (omega (arith, some))
memory_is (suc n) some = grind (arith, nat_tests)

guests_next : (c : Scenario) → IsSound c → IsSpelled c → Makes (reading (with_memory c)) (guest_lines 1 c.guests) (reading (with_guests c))
guests_next c sound spelled =
    guests_make (with_memory c) c.guests (rw (memory_is c.regions sound.regions_some) refl) (let few = sound.guests_most in omega (arith, few)) sound.guests spelled.keys sound.asids_differ

pages_next : (c : Scenario) → IsSound c → IsSpelled c → Makes (reading (with_guests c)) (page_lines c.pages) (reading (with_pages c))
pages_next c sound spelled =
    let few = sound.regions_most in
    pages_make (with_guests c) c.pages (rw (memory_is c.regions sound.regions_some) refl) (omega (arith, few)) sound.guests_most sound.pages spelled.opened sound.frames_differ sound.gpns_differ

words_next : (c : Scenario) → IsSound c → Makes (reading (with_pages c)) (word_lines c.words) (reading (with_words c))
words_next c sound =
    let few = sound.regions_most in
    words_make (with_pages c) c.words (rw (memory_is c.regions sound.regions_some) refl) (omega (arith, few)) sound.words

actors_next : (c : Scenario) → IsSound c → IsSpelled c → Makes (reading (with_words c)) (actor_lines 1 c.actors) (reading (with_actors c))
unfolding attempts_of
actors_next c sound spelled =
    let few = sound.regions_most in
    actors_make (with_words c) c.actors (rw (memory_is c.regions sound.regions_some) refl) (omega (arith, few)) sound.guests_most (let some = sound.actors_most in omega (arith, some)) sound.actors spelled.actors sound.attempts_most

orders_next : (c : Scenario) → IsSound c → Makes (reading (with_actors c)) (order_lines c.order) (reading c)
unfolding order_of
orders_next c sound =
    let few = sound.order_most in
    let many = length-turns_spell c.order in
    orders_make (with_actors c) c.order (some_memory c.regions sound.regions_some) refl sound.order (omega (arith, few, many))

-- the lines of a scenario make it
pub spelled_makes : (c : Scenario) → IsSound c → IsSpelled c → Makes nothing (scenario_lines c) (closed c)
unfolding scenario_lines
spelled_makes c sound spelled =
    let orders = makes_append (reading (with_actors c)) (reading c) (closed c) (order_lines c.order) (codes "end" ∷ []) (orders_next c sound) (end_makes c (some_memory c.regions sound.regions_some)) in
    let actors = makes_append (reading (with_words c)) (reading (with_actors c)) (closed c) (actor_lines 1 c.actors) _ (actors_next c sound spelled) orders in
    let words = makes_append (reading (with_pages c)) (reading (with_words c)) (closed c) (word_lines c.words) _ (words_next c sound) actors in
    let pages = makes_append (reading (with_guests c)) (reading (with_pages c)) (closed c) (page_lines c.pages) _ (pages_next c sound spelled) words in
    let guests = makes_append (reading (with_memory c)) (reading (with_guests c)) (closed c) (guest_lines 1 c.guests) _ (guests_next c sound spelled) pages in
    makes_append nothing (reading (with_memory c)) (closed c) (head_lines c.version c.regions) _
    (head_makes c.version c.regions sound.version_some sound.version_most sound.regions_some sound.regions_most) guests

-- its text says it
pub spelled_reads : (c : Scenario) → IsSound c → IsSpelled c → length (scenario_text c) ≤ most_bytes → Reads (scenario_text c) c
unfolding scenario_text
spelled_reads c sound spelled short =
    let makes = spelled_makes c sound spelled in
    record { lines = scenario_lines c; whole = text_is (scenario_lines c) (plain_lines nothing (scenario_lines c) (closed c) (scenario_read c) makes) short; makes = makes }
