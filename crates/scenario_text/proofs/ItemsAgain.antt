-- The lines that are written of a script are read again as its items, which the last actor is given.
use Rattle.std.proofs.Common.{◌≡◌, ℕ, ◌+◌, ◌-◌, ◌≤◌, Bool, true, false, cond, List, [], ◌∷◌, ◌++◌, length, take, slice_get, refl, sym, ◌∙◌, ap, subst, append_assoc, append-nil, length-append, arith}
use Rattle.std.specs.Prelude.{Some, Result, Ok, Err, bytes_eq, codes, nat_le, not, ◌==◌, ◌&&◌, ◌||◌}
use Rattle.std.specs.List.{AllByRecursion}
use Rattle.std.proofs.lemmas.Bool.{or_parts}
use Rattle.std.proofs.lemmas.Bool.Decides.{nat_tests}
use Rattle.std.proofs.Math.Seq.{take-append_seam}
use Rattle.snp_model.specs.declared.command.Command.{Command}
use Rattle.snp_model.specs.declared.command.Command.TheVariants as commands
use Rattle.snp_model.specs.declared.item.Item.{Item}
use Rattle.snp_model.specs.declared.item.Item.TheVariants as items
use Rattle.snp_model.specs.declared.item.Line.{Line}
use Rattle.snp_model.specs.declared.item.Op.{Op}
use Rattle.snp_model.specs.declared.item.Op.TheVariants.{Load, Store, Swap, Compare, Xor}
use Rattle.snp_model.specs.declared.item.SkipTest.{SkipTest}
use Rattle.snp_model.specs.declared.item.SkipTest.TheVariants.{Good, Bad, Value}
use Rattle.snp_model.specs.declared.reading.Reason.{Reason}
use Rattle.snp_model.specs.declared.reading.Reason.TheVariants.{Form}
use Rattle.snp_model.specs.declared.scenario.Actor.{Actor}
use Rattle.snp_model.specs.declared.scenario.Role.{Role}
use Rattle.snp_model.specs.declared.scenario.Scenario.{Scenario}
use Rattle.snp_model.specs.Attempts.{actors_attempts, attempts_of, script_attempts}
use Rattle.snp_model.specs.Bounds.{IsLineOf}
use Rattle.snp_model.specs.ItemLines.{item_line, item_words}
use Rattle.snp_model.specs.Lines.{is_plain, word, words_of}
use Rattle.snp_model.specs.Reading.{Made, reading, closed, Makes, add_actor, add_guest, add_item, add_line, add_order, add_page, add_regions, add_word, add_words, fit, fit_line}
use Rattle.snp_model.specs.ScenarioLines.{before_actors, before_orders, before_pages, before_words, cpu_row, frames_of, has_no, role_row, tables_row, with_line}
use Rattle.snp_model.specs.ScenarioText.{item_lines}
use Rattle.snp_model.specs.Spelling.{access_words, behind, command_words, item_said, item_text, joined, retry_words, skip_words, update_words}
use Rattle.snp_model.proofs.LineLaws.{select}
use Rattle.script_text.proofs.WrittenLaws.{written_again}
use Rattle.snp_model.specs.Spelled.{IsSpelledLine}
use Rattle.scenario_text.proofs.MakesAgain.{more_make}
use Rattle.scenario_text.proofs.NamedLines.{is_unnamed, named}

-- whether a word is the first of a line that is none of an item
abbrev pub begins_entry : List ℕ → Bool
begins_entry w =
    bytes_eq w (codes "regions") || (bytes_eq w (codes "guest") || (bytes_eq w (codes "page") || (bytes_eq w (codes "word") || (bytes_eq w (codes "actor") || (bytes_eq w (codes "order") || bytes_eq w (codes "end"))))))

-- a line that is no comment, and begins as none of the entries does
abbrev pub IsItemText : List ℕ → Type 0
IsItemText bytes = (is_unnamed bytes ≡ false) × (begins_entry (word (words_of bytes) 0) ≡ false)

access_begins : (address : ℕ) (op : Op) (more : List ℕ) → IsItemText (joined (access_words address op) ++ more)
unfolding access_words
access_begins address Load more = (refl, refl)
access_begins address (Store value) more = (refl, refl)
access_begins address (Swap value) more = (refl, refl)
access_begins address (Compare expected next) more = (refl, refl)
access_begins address (Xor value) more = (refl, refl)

command_begins : (command : Command) (more : List ℕ) → IsItemText (joined (command_words command) ++ more)
unfolding command_words
command_begins (commands.GctxCreate guest frame) more = (refl, refl)
command_begins (commands.Activate guest asid) more = (refl, refl)
command_begins (commands.LaunchStart guest) more = (refl, refl)
command_begins (commands.LaunchUpdate guest frame page_type imi perms) more = (refl, refl)
command_begins (commands.LaunchFinish guest) more = (refl, refl)
command_begins (commands.MdInit frame) more = (refl, refl)
command_begins (commands.PageMove guest source target) more = (refl, refl)
command_begins (commands.SwapOut guest source target metadata entry) more = (refl, refl)
command_begins (commands.SwapIn guest source target metadata entry) more = (refl, refl)
command_begins (commands.Reclaim frame) more = (refl, refl)
command_begins (commands.MdOut guest source target metadata entry) more = (refl, refl)
command_begins (commands.MdIn guest source target metadata entry) more = (refl, refl)
command_begins (commands.MdRootOut guest source target) more = (refl, refl)
command_begins (commands.MdRootIn guest source target) more = (refl, refl)

skip_begins : (count : ℕ) (test : SkipTest) (more : List ℕ) → IsItemText (joined (skip_words count test) ++ more)
unfolding skip_words
skip_begins count Good more = (refl, refl)
skip_begins count Bad more = (refl, refl)
skip_begins count (Value value) more = (refl, refl)

item_begins : (item : Item) (more : List ℕ) → IsItemText (joined (item_said item) ++ more)
unfolding item_said update_words
item_begins (items.Access address op) more = access_begins address op more
item_begins (items.Pvalidate address size validate) more = (refl, refl)
item_begins (items.Rmpadjust address size target mask vmsa) more = (refl, refl)
item_begins (items.Rmpupdate update) more = (refl, refl)
item_begins (items.Psmash frame) more = (refl, refl)
item_begins (items.Firmware command) more = command_begins command more
item_begins (items.Skip count test) more = skip_begins count test more

pub line_begins : (line : Line) → IsItemText (item_text line)
unfolding item_text
line_begins line = item_begins line.item (behind (retry_words line.retries))

-- a row that a line isn't of is passed over
passed : {A : Type 0} (counted named stands : Bool) (row next : A) → named ≡ false → cond ((counted && named) && stands) row next ≡ next
passed true named stands row next other = rw other refl
passed false named stands row next other = refl

-- a line that begins as no entry does says an item
says_item : (c : Scenario) (ws : List (List ℕ)) → begins_entry (word ws 0) ≡ false → add_words c ws ≡ add_item c ws
unfolding add_words
says_item c ws other =
    let name : List ℕ = word ws 0 in
    let no_regions = or_parts (bytes_eq name (codes "regions")) _ other in
    let no_guest = or_parts (bytes_eq name (codes "guest")) _ no_regions.1 in
    let no_page = or_parts (bytes_eq name (codes "page")) _ no_guest.1 in
    let no_word = or_parts (bytes_eq name (codes "word")) _ no_page.1 in
    let no_actor = or_parts (bytes_eq name (codes "actor")) _ no_word.1 in
    let last = or_parts (bytes_eq name (codes "order")) (bytes_eq name (codes "end")) no_actor.1 in
    passed (length ws == 2) (bytes_eq name (codes "regions")) (c.regions == 0) (add_regions c ws) _ no_regions.0
    ∙ passed (length ws == 9) (bytes_eq name (codes "guest")) (before_pages c) (add_guest c ws) _ no_guest.0
    ∙ passed (length ws == 11) (bytes_eq name (codes "page")) (before_words c) (add_page c ws) _ no_page.0
    ∙ passed (length ws == 4) (bytes_eq name (codes "word")) (before_actors c) (add_word c ws) _ no_word.0
    ∙ passed (length ws == 9) (bytes_eq name (codes "actor")) (before_orders c) (add_actor c (cpu_row c ws)) _ no_actor.0
    ∙ passed (length ws == 10) (bytes_eq name (codes "actor")) (before_orders c) (add_actor c (tables_row c ws)) _ no_actor.0
    ∙ passed (length ws == 3) (bytes_eq name (codes "actor")) (before_orders c) (add_actor c (role_row c ws)) _ no_actor.0
    ∙ passed (nat_le 2 (length ws)) (bytes_eq name (codes "order")) (not (c.regions == 0)) (add_order c ws) _ last.0
    ∙ passed (length ws == 1) (bytes_eq name (codes "end")) (not (c.regions == 0)) (Ok (closed c)) (add_item c ws) last.1

-- a scenario with these actors in place of its own
abbrev pub with_actors : Scenario → List Actor → Scenario
with_actors c actors = record c { actors = actors }

-- an actor with this script
abbrev pub acting : Role → List Line → Actor
acting role script = record { role = role; script = script }

-- the last of a list, and those before it
last_place : {A : Type 0} (xs : List A) (last : A) → length (xs ++ last ∷ []) - 1 ≡ length xs
last_place xs last = let e : length (xs ++ last ∷ []) ≡ length xs + 1 = length-append xs (last ∷ []) in omega (arith, e)

got_last : {A : Type 0} (xs : List A) (last : A) → slice_get (xs ++ last ∷ []) (length xs) ≡ Some last
got_last [] last = refl
got_last (x ∷ xs) last = got_last xs last

last_got : {A : Type 0} (xs : List A) (last : A) → slice_get (xs ++ last ∷ []) (length (xs ++ last ∷ []) - 1) ≡ Some last
last_got xs last = rw (last_place xs last) (got_last xs last)

-- the last actor is given a line
last_given : (done : List Actor) (role : Role) (script : List Line) (line : Line)
    → with_line (done ++ acting role script ∷ []) line (acting role script) ≡ done ++ acting role (script ++ line ∷ []) ∷ []
last_given done role script line =
    ap (λ (n : ℕ). take n (done ++ acting role script ∷ []) ++ acting role (script ++ line ∷ []) ∷ []) (last_place done (acting role script))
    ∙ ap (λ (before : List Actor). before ++ acting role (script ++ line ∷ []) ∷ []) (take-append_seam done (acting role script ∷ []))

-- the words of an item give it to the last actor
item_given : (c : Scenario) (done : List Actor) (role : Role) (script : List Line) (line : Line) (ws : List (List ℕ)) → has_no c.order ≡ true → item_words role (frames_of c) ws ≡ Ok line
    → actors_attempts (done ++ acting role (script ++ line ∷ []) ∷ []) ≤ 8192
    → add_item (with_actors c (done ++ acting role script ∷ [])) ws ≡ Ok (reading (with_actors c (done ++ acting role (script ++ line ∷ []) ∷ [])))
unfolding add_item add_line attempts_of
item_given c done role script line ws stands said few =
    let fits : nat_le (actors_attempts (done ++ acting role (script ++ line ∷ []) ∷ [])) 8192 ≡ true = grind (arith, nat_tests, few) in
    rw (stands, last_got done (acting role script), said, last_given done role script line, fits) refl

-- the line of an item is read again
item_fits : (c : Scenario) (done : List Actor) (role : Role) (script : List Line) (line : Line) → has_no c.order ≡ true → IsLineOf (frames_of c) role line → IsSpelledLine line
    → actors_attempts (done ++ acting role (script ++ line ∷ []) ∷ []) ≤ 8192
    → fit (reading (with_actors c (done ++ acting role script ∷ []))) (item_text line) ≡ Ok (reading (with_actors c (done ++ acting role (script ++ line ∷ []) ∷ [])))
unfolding fit fit_line item_line
item_fits c done role script line stands is spelled few =
    let text : List ℕ = item_text line in
    let ws : List (List ℕ) = words_of text in
    let begins = line_begins line in
    let refused : Result Line Reason = Err Form in
    let said : (is_plain text ≡ true) × (item_words role (frames_of c) ws ≡ Ok line) =
    select (is_plain text) (item_words role (frames_of c) ws) refused line ((is_plain text ≡ true) × (item_words role (frames_of c) ws ≡ Ok line)) (λ plain read. (plain, read)) (λ odd none. absurd (cc))
    (written_again (frames_of c) role line is spelled.0 spelled.1) in
    rw (named text begins.0, said.0) (says_item (with_actors c (done ++ acting role script ∷ [])) ws begins.1 ∙ item_given c done role script line ws stands said.1 few)

-- a script has no fewer attempts than its front
front_few : (front rest : List Line) → script_attempts front ≤ script_attempts (front ++ rest)
unfolding script_attempts
front_few [] rest = omega arith
front_few (line ∷ lines) rest = omega (arith, front_few lines rest)

last_few : (done : List Actor) (role : Role) (front rest : List Line) → actors_attempts (done ++ acting role front ∷ []) ≤ actors_attempts (done ++ acting role (front ++ rest) ∷ [])
unfolding actors_attempts
last_few [] role front rest = omega (arith, front_few front rest)
last_few (actor ∷ done) role front rest = omega (arith, last_few done role front rest)

-- items behind those that are read
pub items_make : (c : Scenario) (done : List Actor) (role : Role) (script lines : List Line) → has_no c.order ≡ true → AllByRecursion (IsLineOf (frames_of c) role) lines → AllByRecursion IsSpelledLine lines
    → actors_attempts (done ++ acting role (script ++ lines) ∷ []) ≤ 8192
    → Makes (reading (with_actors c (done ++ acting role script ∷ []))) (item_lines lines) (reading (with_actors c (done ++ acting role (script ++ lines) ∷ [])))
unfolding Makes item_lines
items_make c done role script [] stands are spelled few = ap (λ (ls : List Line). reading (with_actors c (done ++ acting role ls ∷ []))) (sym (append-nil script))
items_make c done role script (line ∷ lines) stands are spelled few =
    let whole : List Line → Made = λ ls. reading (with_actors c (done ++ acting role ls ∷ [])) in
    let next : List Line = script ++ line ∷ [] in
    let same : next ++ lines ≡ script ++ line ∷ lines = append_assoc script (line ∷ []) lines in
    let most : actors_attempts (done ++ acting role (next ++ lines) ∷ []) ≤ 8192 = subst (λ (ls : List Line). actors_attempts (done ++ acting role ls ∷ []) ≤ 8192) (sym same) few in
    more_make (whole script) (whole next) (whole (script ++ line ∷ lines)) (item_text line) (item_lines lines)
    (item_fits c done role script line stands are.0 spelled.0 (omega (arith, most, last_few done role next lines)))
    (subst (λ (ls : List Line). Makes (whole next) (item_lines lines) (whole ls)) same (items_make c done role next lines stands are.1 spelled.1 most))
