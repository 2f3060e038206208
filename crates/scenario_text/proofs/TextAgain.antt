-- Lines without a line feed, each with one behind it, are read as these lines; and no line of a scenario has one.
use Rattle.std.proofs.Common.{◌≡◌, ℕ, zero, suc, ◌+◌, ◌≤◌, true, false, cond, List, [], ◌∷◌, ◌++◌, length, refl, ◌∙◌, ap, arith}
use Rattle.std.specs.Prelude.{Ok, Err, codes, ◌==◌}
use Rattle.std.specs.List.{AllByRecursion, list_all}
use Rattle.std.proofs.lemmas.Bool.{and_parts}
use Rattle.std.proofs.lemmas.Bool.Decides.{nat_tests}
use Rattle.std.proofs.lemmas.List.Splits.{slice_split_at}
use Rattle.snp_model.specs.declared.item.Line.{Line}
use Rattle.snp_model.specs.declared.scenario.Actor.{Actor}
use Rattle.snp_model.specs.declared.scenario.GuestSpec.{GuestSpec}
use Rattle.snp_model.specs.declared.scenario.PageSpec.{PageSpec}
use Rattle.snp_model.specs.declared.scenario.Role.{Role}
use Rattle.snp_model.specs.declared.scenario.Role.TheVariants.{Cpu, Host, Firmware}
use Rattle.snp_model.specs.declared.scenario.Scenario.{Scenario}
use Rattle.snp_model.specs.declared.scenario.Turn.{Turn}
use Rattle.snp_model.specs.declared.scenario.WordSpec.{WordSpec}
use Rattle.snp_model.specs.Lines.{parts_at, words_of, is_plain, is_printable}
use Rattle.snp_model.specs.Reading.{Made, nothing, reading, closed, Makes, IsText, fit, fit_line, fit_words, is_passed_over, most_bytes}
use Rattle.snp_model.specs.ScenarioText.{text_of, guest_line, guest_lines, page_line, page_lines, word_line, word_lines, actor_line, actor_lines, item_lines, order_lines, order_lines_of, head_lines, scenario_lines}
use Rattle.snp_model.proofs.LineLaws.{select}
use Rattle.snp_model.proofs.PairLaws.{each_append}
use Rattle.script_text.proofs.PartsLaws.{HasNo, all_apart}
use Rattle.scenario_text.proofs.ItemsAgain.{line_begins}
use Rattle.scenario_text.proofs.NamedLines.{is_unnamed, named}

-- a line without a line feed; 10 is the line feed
abbrev pub HasNoFeed : List ℕ → Type 0
HasNoFeed line = HasNo 10 line

text_parts : (lines : List (List ℕ)) → AllByRecursion HasNoFeed lines → parts_at 10 (text_of lines) ≡ lines ++ [] ∷ []
unfolding text_of
text_parts [] none = refl
text_parts (line ∷ lines) none =
    slice_split_at (λ b. b == 10) line 10 (text_of lines) none.0 refl ∙ ap (λ (others : List (List ℕ)). line ∷ others) (text_parts lines none.1)

-- the text of these lines
pub text_is : (lines : List (List ℕ)) → AllByRecursion HasNoFeed lines → length (text_of lines) ≤ most_bytes → IsText (text_of lines) lines []
text_is lines none short = record { short = short; parts = text_parts lines none }

-- printable bytes are no line feed
no_feed : (line : List ℕ) → list_all is_printable line ≡ true → HasNoFeed line
no_feed line all = all_apart is_printable 10 (λ b printable. grind (arith, nat_tests, printable)) line all

-- a line that isn't passed over
abbrev pub IsRead : List ℕ → Type 0
IsRead line = is_unnamed line ≡ false

-- a line that is read is plain
plain_line : (made : Made) (line : List ℕ) (next : Made) → IsRead line → fit_line made line ≡ Ok next → HasNoFeed line
unfolding fit_line
plain_line made line next read fits =
    select (is_passed_over line) (Ok made) (cond (is_plain line) (fit_words made (words_of line)) (Err _)) next (HasNoFeed line)
    (λ over is. let here = named line read in absurd (cc))
    (λ here is. select (is_plain line) (fit_words made (words_of line)) (Err _) next (HasNoFeed line)
    (λ plain h. no_feed line (and_parts (list_all is_printable line) _ plain).0)
    (λ other h. absurd (cc)) is)
    fits

plain_fit : (made : Made) (line : List ℕ) (next : Made) → IsRead line → fit made line ≡ Ok next → HasNoFeed line
unfolding fit
plain_fit nothing line next read fits = plain_line nothing line next read fits
plain_fit (reading c) line next read fits = plain_line (reading c) line next read fits
plain_fit (closed c) line next read fits = absurd (cc)

-- lines that fit have no line feed
pub plain_lines : (made : Made) (lines : List (List ℕ)) (next : Made) → AllByRecursion IsRead lines → Makes made lines next → AllByRecursion HasNoFeed lines
unfolding Makes
plain_lines made [] next read makes = tt
plain_lines made (line ∷ lines) next read makes = (plain_fit made line makes.0 read.0 makes.1, plain_lines makes.0 lines next read.1 makes.2)

-- no line of a scenario is passed over: each begins with a letter
role_read : (number : ℕ) (role : Role) → IsRead (actor_line number role)
unfolding actor_line
role_read number (Cpu guest vmpl npt paging) = refl
role_read number Host = refl
role_read number Firmware = refl

guests_read : (number : ℕ) (guests : List GuestSpec) → AllByRecursion IsRead (guest_lines number guests)
unfolding guest_lines guest_line
guests_read number [] = tt
guests_read number (guest ∷ guests) = (refl, guests_read (number + 1) guests)

pages_read : (pages : List PageSpec) → AllByRecursion IsRead (page_lines pages)
unfolding page_lines page_line
pages_read [] = tt
pages_read (page ∷ pages) = (refl, pages_read pages)

words_read : (words : List WordSpec) → AllByRecursion IsRead (word_lines words)
unfolding word_lines word_line
words_read [] = tt
words_read (word ∷ words) = (refl, words_read words)

items_read : (lines : List Line) → AllByRecursion IsRead (item_lines lines)
unfolding item_lines
items_read [] = tt
items_read (line ∷ lines) = ((line_begins line).0, items_read lines)

orders_read : (room : ℕ) (turns : List Turn) → AllByRecursion IsRead (order_lines_of room turns)
unfolding order_lines_of
orders_read zero turns = tt
orders_read (suc room) [] = tt
orders_read (suc room) (turn ∷ turns) = (refl, orders_read room _)

actors_read : (number : ℕ) (actors : List Actor) → AllByRecursion IsRead (actor_lines number actors)
unfolding actor_lines
actors_read number [] = tt
actors_read number (actor ∷ actors) =
    (role_read number actor.role, each_append IsRead (item_lines actor.script) (actor_lines (number + 1) actors) (items_read actor.script) (actors_read (number + 1) actors))

-- the lines of a scenario
pub scenario_read : (c : Scenario) → AllByRecursion IsRead (scenario_lines c)
unfolding scenario_lines head_lines order_lines
scenario_read c =
    let orders = each_append IsRead (order_lines_of (length c.order) c.order) (codes "end" ∷ []) (orders_read (length c.order) c.order) (refl, tt) in
    let actors = each_append IsRead (actor_lines 1 c.actors) _ (actors_read 1 c.actors) orders in
    let words = each_append IsRead (word_lines c.words) _ (words_read c.words) actors in
    let pages = each_append IsRead (page_lines c.pages) _ (pages_read c.pages) words in
    (refl, (refl, each_append IsRead (guest_lines 1 c.guests) _ (guests_read 1 c.guests) pages))
