-- The lines that are written of a scenario's guests are read again as these guests.
use Rattle.std.proofs.Common.{◌≡◌, ℕ, ◌+◌, ◌^◌, ◌<◌, ◌≤◌, Bool, true, false, List, [], ◌∷◌, ◌++◌, length, refl, sym, ◌∙◌, ap, subst, append_assoc, append-nil, arith, length-append}
use Rattle.std.specs.Prelude.{Ok, codes, decimal, nat_le}
use Rattle.std.specs.List.{AllByRecursion, list_any}
use Rattle.std.proofs.lemmas.Bool.Decides.{nat_tests}
use Rattle.snp_model.specs.declared.scenario.GuestSpec.{GuestSpec}
use Rattle.snp_model.specs.declared.scenario.Scenario.{Scenario}
use Rattle.snp_model.specs.EventText.{hex_bytes}
use Rattle.snp_model.specs.Lines.{fixed}
use Rattle.snp_model.specs.Reading.{Makes, add_guest, add_words, fit, reading}
use Rattle.snp_model.specs.ScenarioLines.{before_pages, guest_row, has_asid, next_number, opening}
use Rattle.snp_model.specs.ScenarioText.{guest_line, guest_lines, opening_text}
use Rattle.snp_model.specs.Sound.{AsidsDiffer, IsGuest, Pairwise}
use Rattle.snp_model.specs.Spelling.{joined}
use Rattle.script_text.proofs.HexWords.{bytes_spelled}
use Rattle.script_text.proofs.ItemAgain.{ranged_decimal}
use Rattle.script_text.proofs.SpellingLaws.{IsWord, decimal_word, number_decimal}
use Rattle.snp_model.specs.Spelled.{HasWholeKey}
use Rattle.scenario_text.proofs.EarlierLaws.{each_earlier, none_passes}
use Rattle.scenario_text.proofs.KeyAgain.{key_again}
use Rattle.scenario_text.proofs.NamedLines.{named}
use Rattle.scenario_text.proofs.MakesAgain.{more_make, said_fits}

-- a next number
pub next_again : (count number : ℕ) → number ≡ count + 1 → number < 2 ^ 64 → next_number count (decimal number) ≡ Ok number
unfolding next_number
next_again count number is small = ranged_decimal (count + 1) (count + 1) number (omega arith) (omega arith) small

-- whether a guest is opened
opening_again : (opened : Bool) → opening (opening_text opened) ≡ Ok opened
unfolding opening opening_text
opening_again true = refl
opening_again false = refl

opening_word : (opened : Bool) → IsWord (opening_text opened)
unfolding opening_text
opening_word true = refl
opening_word false = refl

-- no guest has the ASID of another guest if all differ from it
asid_free : (guest : GuestSpec) (guests : List GuestSpec) → AllByRecursion (λ (other : GuestSpec). AsidsDiffer other guest) guests → list_any (has_asid guest.asid) guests ≡ false
asid_free guest guests differ =
    none_passes (has_asid guest.asid) (λ (other : GuestSpec). AsidsDiffer other guest) guests (λ other differs. grind (arith, nat_tests, differs)) differ

-- the words of a guest's line behind the first
abbrev guest_words : ℕ → GuestSpec → List (List ℕ)
guest_words number guest =
    decimal number ∷ opening_text guest.opened ∷ codes "asid" ∷ decimal guest.asid ∷ codes "iv" ∷ decimal guest.iv ∷ codes "key" ∷ hex_bytes guest.key ∷ []

-- they say the guest
guest_again : (c : Scenario) (number : ℕ) (guest : GuestSpec) → number ≡ length c.guests + 1 → number ≤ 8 → IsGuest guest → HasWholeKey guest → list_any (has_asid guest.asid) c.guests ≡ false
    → guest_row c (codes "guest" ∷ guest_words number guest) ≡ Ok guest
unfolding guest_row fixed
guest_again c number guest next few is whole free =
    rw (next_again (length c.guests) number next (omega arith), opening_again guest.opened, ranged_decimal 1 1023 guest.asid (omega (arith, is.asid_some)) (omega (arith, is.asid_below)) (omega (arith, is.asid_below)), number_decimal guest.iv is.iv, key_again guest.key whole is.key, free) refl

-- which row it is
guest_taken : (c : Scenario) (number : ℕ) (guest : GuestSpec) → before_pages c ≡ true → add_words c (codes "guest" ∷ guest_words number guest) ≡ add_guest c (codes "guest" ∷ guest_words number guest)
unfolding add_words
guest_taken c number guest stands = rw stands refl

abbrev with_guests : Scenario → List GuestSpec → Scenario
with_guests c guests = record c { guests = guests }

-- and add it
guest_added : (c : Scenario) (number : ℕ) (guest : GuestSpec) → number ≡ length c.guests + 1 → number ≤ 8 → guest_row c (codes "guest" ∷ guest_words number guest) ≡ Ok guest
    → add_guest c (codes "guest" ∷ guest_words number guest) ≡ Ok (reading (with_guests c (c.guests ++ guest ∷ [])))
unfolding add_guest
guest_added c number guest next few row = let within : nat_le (length c.guests + 1) 8 ≡ true = grind (arith, nat_tests, next, few) in rw (row, within) refl

-- so the line fits
guest_fits : (c : Scenario) (number : ℕ) (guest : GuestSpec) → before_pages c ≡ true → number ≡ length c.guests + 1 → number ≤ 8 → IsGuest guest → HasWholeKey guest
    → AllByRecursion (λ (other : GuestSpec). AsidsDiffer other guest) c.guests → fit (reading c) (guest_line number guest) ≡ Ok (reading (with_guests c (c.guests ++ guest ∷ [])))
unfolding guest_line
guest_fits c number guest stands next few is whole differ =
    let row = guest_again c number guest next few is whole (asid_free guest c.guests differ) in
    said_fits c (codes "guest") (guest_words number guest) (reading (with_guests c (c.guests ++ guest ∷ []))) refl
    (decimal_word number (omega arith), (opening_word guest.opened, (refl, (decimal_word guest.asid (omega (arith, is.asid_below)), (refl, (decimal_word guest.iv is.iv, (refl, (bytes_spelled guest.key is.key, tt)))))))) refl (named (joined (codes "guest" ∷ guest_words number guest)) refl)
    (guest_taken c number guest stands ∙ guest_added c number guest next few row)

-- the guests behind those that are read already
guests_from : (c : Scenario) (number : ℕ) (guests all : List GuestSpec) → number ≡ length c.guests + 1 → c.guests ++ guests ≡ all → before_pages c ≡ true → length all ≤ 8
    → AllByRecursion IsGuest guests → AllByRecursion HasWholeKey guests → Pairwise AsidsDiffer all → Makes (reading c) (guest_lines number guests) (reading (with_guests c all))
unfolding Makes guest_lines
guests_from c number [] all next whole stands few are keys differ = ap (λ (guests : List GuestSpec). reading (with_guests c guests)) (sym (append-nil c.guests) ∙ whole)
guests_from c number (guest ∷ guests) all next whole stands few are keys differ =
    let one : List GuestSpec = guest ∷ [] in
    let more : Scenario = with_guests c (c.guests ++ one) in
    let count : length c.guests + length (guest ∷ guests) ≡ length all = sym (length-append c.guests (guest ∷ guests)) ∙ ap length whole in
    let apart = each_earlier AsidsDiffer c.guests guest guests (subst (Pairwise AsidsDiffer) (sym whole) differ) in
    let fits = guest_fits c number guest stands next (omega (arith, count)) are.0 keys.0 apart in
    more_make (reading c) (reading more) (reading (with_guests c all)) (guest_line number guest) (guest_lines (number + 1) guests) fits
    (guests_from more (number + 1) guests all (omega (arith, next, length-append c.guests one)) (append_assoc c.guests one guests ∙ whole) stands few are.1 keys.1 differ)

-- the lines of guests
pub guests_make : (c : Scenario) (guests : List GuestSpec) → before_pages c ≡ true → length c.guests + length guests ≤ 8 → AllByRecursion IsGuest guests → AllByRecursion HasWholeKey guests
    → Pairwise AsidsDiffer (c.guests ++ guests) → Makes (reading c) (guest_lines (length c.guests + 1) guests) (reading (record c { guests = c.guests ++ guests }))
guests_make c guests stands few are keys differ =
    guests_from c (length c.guests + 1) guests (c.guests ++ guests) refl refl stands (omega (arith, length-append c.guests guests)) are keys differ
