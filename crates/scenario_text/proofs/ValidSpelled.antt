-- A scenario that lines can make is one whose text is read again: each line keeps what is asked of it.
use Rattle.std.proofs.Common.{◌≡◌, ℕ, ◌-◌, ◌^◌, Bool, true, false, List, [], ◌∷◌, ◌++◌, length, map, Result, Ok, Err, Option, Some, None, refl, sym, ap, ◌∙◌, subst, arith}
use Rattle.std.proofs.lemmas.Bool.{and_parts}
use Rattle.std.proofs.lemmas.Bool.Decides.{nat_tests}
use Rattle.std.proofs.lemmas.List.FromFn.{length-map-range_with_len}
use Rattle.std.specs.Prelude.{codes, bytes_eq, not, ◌==◌, ◌&&◌, nat_le, slice_get, take}
use Rattle.std.specs.List.{AllByRecursion, list_all, list_any, range_with_len}
use Rattle.snp_model.specs.declared.item.Line.{Line}
use Rattle.snp_model.specs.declared.reading.Reason.{Reason}
use Rattle.snp_model.specs.declared.reading.Reason.TheVariants.{Form, Guest, Repeat}
use Rattle.snp_model.specs.declared.reading.Quantity.{Quantity}
use Rattle.snp_model.specs.declared.reading.Quantity.TheVariants as quantities
use Rattle.snp_model.specs.declared.scenario.Actor.{Actor}
use Rattle.snp_model.specs.declared.scenario.GuestSpec.{GuestSpec}
use Rattle.snp_model.specs.declared.scenario.PageSpec.{PageSpec}
use Rattle.snp_model.specs.declared.scenario.Role.{Role}
use Rattle.snp_model.specs.declared.scenario.Scenario.{Scenario}
use Rattle.snp_model.specs.ItemLines.{item_words, size_word}
use Rattle.snp_model.specs.Limits.{most}
use Rattle.snp_model.specs.Lines.{below, fixed, is_hex_digit, is_plain, is_row, multiple, number, ranged, require, word, words_of}
use Rattle.snp_model.specs.Reading.{Made, nothing, reading, closed, Fault, refused, by_rule, within, is_passed_over, add_regions, add_guest, add_page, add_word, add_actor, add_line, add_item_of, add_item, add_order, add_words, fit, fit_line, fit_words, Makes, Valid}
use Rattle.snp_model.specs.ScenarioLines.{frames_of, has_no, before_orders, before_actors, before_words, before_pages, first_scenario, version_row, regions_row, next_number, opening, key_byte, key_of, has_asid, guest_row, is_declared, is_opened, page_unit, validity, collide, apart, page_row, word_row, idle, cpu_row, has_five_levels, tables_at, tables_row, role_word, role_row, with_line, is_order_row, order_row}
use Rattle.snp_model.proofs.LineLaws.{guard_ok, require_ok}
use Rattle.snp_model.proofs.PairLaws.{each_append}
use Rattle.snp_model.proofs.SoundLaws.{all_take, at_end}
use Rattle.snp_model.specs.Spelled.{HasWholeKey, IsOfOpened, IsPagingOf, IsRoleOf, IsSpelledLine, IsSpelledActor, IsSpelled}
use Rattle.scenario_text.proofs.GivesLaws.{Gives, done, none, step, next, choose, ruled}
use Rattle.scenario_text.proofs.ItemSpelled.{item_spelled}

-- what is asked of what is made so far
abbrev IsMadeSpelled : Made → Type 0
IsMadeSpelled nothing = Unit {0}
IsMadeSpelled (reading c) = IsSpelled c
IsMadeSpelled (closed c) = IsSpelled c

abbrev Keeps : Result Made Fault → Type 0
Keeps made = Gives IsMadeSpelled made

-- a key has 32 bytes
key_whole : (w : List ℕ) → Gives (λ (key : List ℕ). length key ≡ 32) (key_of w)
unfolding key_of
key_whole w key h =
    let one = guard_ok ((length w == 64) && list_all is_hex_digit w) (map (key_byte w) (range_with_len 0 32)) key _ h in
    ap (λ (bytes : List ℕ). length bytes) (sym one.1) ∙ length-map-range_with_len (key_byte w) 0 32

guest_keyed : (c : Scenario) (ws : List (List ℕ)) → Gives HasWholeKey (guest_row c ws)
unfolding guest_row
guest_keyed c ws =
    next HasWholeKey (next_number (length c.guests) (word ws 1)) _ (λ _ _.
    step HasWholeKey (opening (word ws 2)) _ (λ opened _.
    next HasWholeKey (fixed (word ws 3) (codes "asid")) _ (λ _ _.
    step HasWholeKey (ranged 1 1023 (word ws 4)) _ (λ asid _.
    next HasWholeKey (fixed (word ws 5) (codes "iv")) _ (λ _ _.
    step HasWholeKey (number (word ws 6)) _ (λ iv _.
    next HasWholeKey (fixed (word ws 7) (codes "key")) _ (λ _ _.
    step HasWholeKey (key_of (word ws 8)) _ (λ key is.
    next HasWholeKey (require (not (list_any (has_asid asid) c.guests)) Repeat) _ (λ _ _.
    done HasWholeKey (let guest : GuestSpec = record { opened = opened; asid = asid; iv = iv; key = key } in guest) (key_whole (word ws 8) key is))))))))))

-- a page's guest is opened
page_opened : (c : Scenario) (ws : List (List ℕ)) → Gives (IsOfOpened c.guests) (page_row c ws)
unfolding page_row apart
page_opened c ws =
    let P = IsOfOpened c.guests in
    let unit = page_unit (word ws 6) in
    step P (below (frames_of c) (word ws 1)) _ (λ first_frame _.
    step P (multiple unit first_frame) _ (λ frame _.
    next P (fixed (word ws 2) (codes "of")) _ (λ _ _.
    step P (number (word ws 3)) _ (λ guest _.
    next P (fixed (word ws 4) (codes "at")) _ (λ _ _.
    step P (below (2 ^ 36) (word ws 5)) _ (λ first_gpn _.
    step P (multiple unit first_gpn) _ (λ gpn _.
    step P (size_word (word ws 6)) _ (λ size _.
    step P (validity (word ws 7)) _ (λ valid _.
    step P (below 16 (word ws 8)) _ (λ first _.
    step P (below 16 (word ws 9)) _ (λ second _.
    step P (below 16 (word ws 10)) _ (λ third _.
    next P (require (is_opened c.guests guest) Guest) _ (λ one is.
    let page : PageSpec = record { frame = frame; guest = guest; gpn = gpn; size = size; valid = valid; perms = first ∷ second ∷ third ∷ [] } in
    let lone : Result PageSpec Reason = Ok page in
    let repeated : Result PageSpec Reason = Err Repeat in
    choose P (list_any (collide page) c.pages) repeated lone (λ _. none P Repeat) (done P page (require_ok (is_opened c.guests guest) Guest one is)))))))))))))))

-- guest tables have five levels in version 2 alone
five_levels : (version : ℕ) (w : List ℕ) → Gives (λ (five : Bool). (root : ℕ) → IsPagingOf version (tables_at five root)) (has_five_levels version w)
unfolding has_five_levels
five_levels version w =
    let P : Bool → Type 0 = λ five. (root : ℕ) → IsPagingOf version (tables_at five root) in
    let is_five = bytes_eq w (codes "la57") in
    choose P (bytes_eq w (codes "gcr3")) _ _ (λ _. done P false (λ root. tt))
    (choose P (is_five && (version == 2)) _ _ (λ both. done P true (λ root. let second = (and_parts is_five (version == 2) both).1 in grind (arith, nat_tests, second))) (none P Form))

cpu_of_version : (c : Scenario) (ws : List (List ℕ)) → Gives (IsRoleOf c.version) (cpu_row c ws)
unfolding cpu_row
cpu_of_version c ws =
    let P = IsRoleOf c.version in
    next P (next_number (length c.actors) (word ws 1)) _ (λ _ _.
    next P (fixed (word ws 2) (codes "cpu")) _ (λ _ _.
    step P (number (word ws 3)) _ (λ guest _.
    next P (fixed (word ws 4) (codes "vmpl")) _ (λ _ _.
    step P (below 4 (word ws 5)) _ (λ _ _.
    next P (fixed (word ws 6) (codes "npt")) _ (λ _ _.
    step P (below (frames_of c) (word ws 7)) _ (λ _ _.
    next P (fixed (word ws 8) (codes "flat")) _ (λ _ _.
    next P (require (is_declared c.guests guest) Guest) _ (λ _ _.
    done P _ tt)))))))))

tables_of_version : (c : Scenario) (ws : List (List ℕ)) → Gives (IsRoleOf c.version) (tables_row c ws)
unfolding tables_row
tables_of_version c ws =
    let P = IsRoleOf c.version in
    next P (next_number (length c.actors) (word ws 1)) _ (λ _ _.
    next P (fixed (word ws 2) (codes "cpu")) _ (λ _ _.
    step P (number (word ws 3)) _ (λ guest _.
    next P (fixed (word ws 4) (codes "vmpl")) _ (λ _ _.
    step P (below 4 (word ws 5)) _ (λ _ _.
    next P (fixed (word ws 6) (codes "npt")) _ (λ _ _.
    step P (below (frames_of c) (word ws 7)) _ (λ _ _.
    step P (has_five_levels c.version (word ws 8)) _ (λ five is.
    step P (below (2 ^ 36) (word ws 9)) _ (λ root _.
    next P (require (is_declared c.guests guest) Guest) _ (λ _ _.
    done P _ (five_levels c.version (word ws 8) five is root)))))))))))

role_of_version : (c : Scenario) (ws : List (List ℕ)) → Gives (IsRoleOf c.version) (role_row c ws)
unfolding role_row role_word
role_of_version c ws =
    let P = IsRoleOf c.version in
    next P (next_number (length c.actors) (word ws 1)) _ (λ _ _.
    choose P (bytes_eq (word ws 2) (codes "host")) _ _ (λ _. done P _ tt)
    (choose P (bytes_eq (word ws 2) (codes "fw")) _ _ (λ _. done P _ tt) (none P Form)))

-- what stays within its limit
kept_within : (quantity : Quantity) (count : ℕ) (c : Scenario) → IsSpelled c → Keeps (within quantity count c)
kept_within quantity count c is = choose IsMadeSpelled (nat_le count (most quantity)) _ _ (λ _. done IsMadeSpelled (reading c) is) (none IsMadeSpelled _)

-- each line keeps what is asked
regions_keep : (c : Scenario) (ws : List (List ℕ)) → IsSpelled c → Keeps (add_regions c ws)
unfolding add_regions
regions_keep c ws is =
    step IsMadeSpelled (by_rule (regions_row ws)) _ (λ regions _.
    kept_within quantities.Regions _ (record c { regions = regions }) (record { keys = is.keys; opened = is.opened; actors = is.actors }))

-- a guest is only added where there are no pages
no_pages : (pages : List PageSpec) (P : PageSpec → Type 0) → has_no pages ≡ true → AllByRecursion P pages
no_pages [] P h = tt
no_pages (page ∷ pages) P h = absurd (grind (arith, nat_tests, h))

guests_keep : (c : Scenario) (ws : List (List ℕ)) → has_no c.pages ≡ true → IsSpelled c → Keeps (add_guest c ws)
unfolding add_guest
guests_keep c ws none_yet is =
    step IsMadeSpelled (by_rule (guest_row c ws)) _ (λ guest made.
    let key = ruled HasWholeKey (guest_row c ws) (guest_keyed c ws) guest made in
    let guests : List GuestSpec = c.guests ++ guest ∷ [] in
    kept_within quantities.Guests _ (record c { guests = guests })
    (record { keys = each_append HasWholeKey c.guests (guest ∷ []) is.keys (key, tt); opened = no_pages c.pages (IsOfOpened guests) none_yet; actors = is.actors }))

pages_keep : (c : Scenario) (ws : List (List ℕ)) → IsSpelled c → Keeps (add_page c ws)
unfolding add_page
pages_keep c ws is =
    let P = IsOfOpened c.guests in
    step IsMadeSpelled (by_rule (page_row c ws)) _ (λ page made.
    let opened = ruled P (page_row c ws) (page_opened c ws) page made in
    done IsMadeSpelled (reading (record c { pages = c.pages ++ page ∷ [] }))
    (record { keys = is.keys; opened = each_append P c.pages (page ∷ []) is.opened (opened, tt); actors = is.actors }))

words_keep : (c : Scenario) (ws : List (List ℕ)) → IsSpelled c → Keeps (add_word c ws)
unfolding add_word
words_keep c ws is =
    step IsMadeSpelled (by_rule (word_row c ws)) _ (λ word _.
    done IsMadeSpelled (reading (record c { words = c.words ++ word ∷ [] })) (record { keys = is.keys; opened = is.opened; actors = is.actors }))

actors_keep : (c : Scenario) (row : Result Role Reason) → Gives (IsRoleOf c.version) row → IsSpelled c → Keeps (add_actor c row)
unfolding add_actor
actors_keep c row are is =
    step IsMadeSpelled (by_rule row) _ (λ role made.
    let of_version = ruled (IsRoleOf c.version) row are role made in
    kept_within quantities.Actors _ (record c { actors = c.actors ++ idle role ∷ [] })
    (record { keys = is.keys; opened = is.opened; actors = each_append (IsSpelledActor c.version) c.actors (idle role ∷ []) is.actors ((of_version, tt), tt) }))

-- one more item for the last actor
lines_keep : (c : Scenario) (last : Actor) (line : Line) → slice_get c.actors (length c.actors - 1) ≡ Some last → IsSpelledLine line → IsSpelled c → Keeps (add_line c last line)
unfolding add_line
lines_keep c last line stands one is =
    let P = IsSpelledActor c.version in
    let before = length c.actors - 1 in
    let old = at_end P c.actors before last is.actors stands in
    let more : Actor = record last { script = last.script ++ line ∷ [] } in
    let script = each_append IsSpelledLine last.script (line ∷ []) old.1 (one, tt) in
    kept_within quantities.Attempts _ (record c { actors = with_line c.actors line last })
    (record { keys = is.keys; opened = is.opened; actors = each_append P (take before c.actors) (more ∷ []) (all_take P c.actors before is.actors) ((old.0, script), tt) })

items_keep : (c : Scenario) (ws : List (List ℕ)) (last : Option Actor) → slice_get c.actors (length c.actors - 1) ≡ last → IsSpelled c → Keeps (add_item_of c ws last)
items_keep c ws None stands is = none IsMadeSpelled (refused Form)
items_keep c ws (Some last) stands is =
    let row = item_words last.role (frames_of c) ws in
    step IsMadeSpelled (by_rule row) _ (λ line made.
    lines_keep c last line stands (ruled IsSpelledLine row (item_spelled last.role (frames_of c) ws) line made) is)

item_keeps : (c : Scenario) (ws : List (List ℕ)) → IsSpelled c → Keeps (add_item c ws)
unfolding add_item
item_keeps c ws is =
    choose IsMadeSpelled (has_no c.order) _ _ (λ _. items_keep c ws (slice_get c.actors (length c.actors - 1)) refl is) (none IsMadeSpelled (refused Form))

orders_keep : (c : Scenario) (ws : List (List ℕ)) → IsSpelled c → Keeps (add_order c ws)
unfolding add_order
orders_keep c ws is =
    step IsMadeSpelled (by_rule (order_row ws)) _ (λ turns _.
    kept_within quantities.Order _ (record c { order = c.order ++ turns }) (record { keys = is.keys; opened = is.opened; actors = is.actors }))

words_fit : (c : Scenario) (ws : List (List ℕ)) → IsSpelled c → Keeps (add_words c ws)
unfolding add_words
words_fit c ws is =
    choose IsMadeSpelled (is_row ws (codes "regions") 2 && (c.regions == 0)) _ _ (λ _. regions_keep c ws is)
    (choose IsMadeSpelled (is_row ws (codes "guest") 9 && before_pages c) _ _ (λ may. guests_keep c ws (and_parts (before_words c) (has_no c.pages) (and_parts (is_row ws (codes "guest") 9) (before_pages c) may).1).1 is)
    (choose IsMadeSpelled (is_row ws (codes "page") 11 && before_words c) _ _ (λ _. pages_keep c ws is)
    (choose IsMadeSpelled (is_row ws (codes "word") 4 && before_actors c) _ _ (λ _. words_keep c ws is)
    (choose IsMadeSpelled (is_row ws (codes "actor") 9 && before_orders c) _ _ (λ _. actors_keep c (cpu_row c ws) (cpu_of_version c ws) is)
    (choose IsMadeSpelled (is_row ws (codes "actor") 10 && before_orders c) _ _ (λ _. actors_keep c (tables_row c ws) (tables_of_version c ws) is)
    (choose IsMadeSpelled (is_row ws (codes "actor") 3 && before_orders c) _ _ (λ _. actors_keep c (role_row c ws) (role_of_version c ws) is)
    (choose IsMadeSpelled (is_order_row ws && not (c.regions == 0)) _ _ (λ _. orders_keep c ws is)
    (choose IsMadeSpelled (is_row ws (codes "end") 1 && not (c.regions == 0)) _ _ (λ _. done IsMadeSpelled (closed c) is)
    (item_keeps c ws is)))))))))

words_keep_made : (made : Made) (ws : List (List ℕ)) → IsMadeSpelled made → Keeps (fit_words made ws)
words_keep_made nothing ws is =
    step IsMadeSpelled (by_rule (version_row ws)) _ (λ version _.
    done IsMadeSpelled (reading (first_scenario version)) (record { keys = tt; opened = tt; actors = tt }))
words_keep_made (reading c) ws is = words_fit c ws is
words_keep_made (closed c) ws is = none IsMadeSpelled _

line_keeps : (made : Made) (line : List ℕ) → IsMadeSpelled made → Keeps (fit_line made line)
unfolding fit_line
line_keeps made line is =
    choose IsMadeSpelled (is_passed_over line) _ _ (λ _. done IsMadeSpelled made is)
    (choose IsMadeSpelled (is_plain line) _ _ (λ _. words_keep_made made (words_of line) is) (none IsMadeSpelled (refused Form)))

fit_keeps : (made : Made) (line : List ℕ) → IsMadeSpelled made → Keeps (fit made line)
unfolding fit
fit_keeps nothing line is = line_keeps nothing line is
fit_keeps (reading c) line is = line_keeps (reading c) line is
fit_keeps (closed c) line is = none IsMadeSpelled _

makes_keep : (made : Made) (lines : List (List ℕ)) (last : Made) → IsMadeSpelled made → Makes made lines last → IsMadeSpelled last
unfolding Makes
makes_keep made [] last is makes = subst IsMadeSpelled makes is
makes_keep made (line ∷ lines) last is makes = makes_keep makes.0 lines last (fit_keeps made line is makes.0 makes.1) makes.2

-- what some lines can make is read again
pub valid_spelled : (c : Scenario) → Valid c → IsSpelled c
valid_spelled c valid = makes_keep nothing valid.0 (closed c) tt valid.1
