-- A journal whose actors and outcomes are kept apart from its events.
use Rattle.std.proofs.Common.{◌≡◌, ℕ, zero, suc, ◌+◌, ◌-◌, ◌^◌, ◌<◌, ◌≤◌, Bool, true, false, ◌&&◌, nat_le, List, [], ◌∷◌, ◌++◌, length, get_or, slice_get, Option, Some, None, refl, sym, ap, ◌∙◌, subst, arith, length-append}
use Rattle.std.proofs.lemmas.Bool.Decides.{nat_tests}
use Rattle.std.proofs.lemmas.List.{get_or_append_left}
use Rattle.std.proofs.lemmas.List.Folds.{list_all-append}
use Rattle.std.proofs.lemmas.Option.{slice_get-get_or}
use Rattle.snp_model.specs.declared.event.Event.{Event}
use Rattle.snp_model.specs.declared.event.Outcome.{Outcome}
use Rattle.snp_model.specs.Journal.{actors_of}
use Rattle.run_journal.specs.declared.short.Mark.{Mark}
use Rattle.run_journal.specs.declared.short.Short.{Short}
use Rattle.run_journal.specs.Outcomes.{outcomes_of}
use Rattle.run_journal.specs.Shorts.{whole_deed, outcome_at, entry_of, entries_of, are_within, AreShorts, Keeps}

-- a place is 0 or not
pub at_none : (outcomes : List Outcome) (end : ℕ) → end ≡ 0 → None ≡ outcome_at outcomes end
at_none outcomes end e = ap (outcome_at outcomes) (sym e)

pub at_some : (outcomes : List Outcome) (end : ℕ) (outcome : Outcome) → 0 < end → end ≤ length outcomes → outcome ≡ get_or outcomes (end - 1) outcome → Some outcome ≡ outcome_at outcomes end
at_some outcomes zero outcome some within is = absurd (omega arith)
at_some outcomes (suc place) outcome some within is =
    let e : suc place - 1 ≡ place = omega arith in
    ap (λ (o : Outcome). Some o) (is ∙ ap (λ (k : ℕ). get_or outcomes k outcome) e) ∙ sym (slice_get-get_or outcomes place outcome (omega arith))

-- none is kept
pub keeps_none : (outcomes : List Outcome) → Keeps outcomes outcomes None 0
keeps_none outcomes = record { grows = omega arith; little = omega arith; inside = omega arith; value = refl; stays = λ place h. refl }

at_stays : (outcomes : List Outcome) (outcome : Outcome) (place : ℕ) → place ≤ length outcomes → outcome_at (outcomes ++ outcome ∷ []) place ≡ outcome_at outcomes place
at_stays outcomes outcome zero h = refl
at_stays outcomes outcome (suc place) h =
    slice_get-get_or (outcomes ++ outcome ∷ []) place outcome (omega (arith, length-append outcomes (outcome ∷ [])))
    ∙ ap (λ (o : Outcome). Some o) (get_or_append_left outcomes (outcome ∷ []) outcome place (omega arith))
    ∙ sym (slice_get-get_or outcomes place outcome (omega arith))

at_last : (outcomes : List Outcome) (outcome : Outcome) → slice_get (outcomes ++ outcome ∷ []) (length outcomes) ≡ Some outcome
at_last [] outcome = refl
at_last (o ∷ outcomes) outcome = at_last outcomes outcome

-- one is
pub keeps_some : (outcomes now : List Outcome) (outcome : Outcome) (end : ℕ) → now ≡ outcomes ++ outcome ∷ [] → end ≡ length outcomes + 1 → Keeps outcomes now (Some outcome) end
keeps_some outcomes now outcome end adds place =
    let longer : length now ≡ length outcomes + 1 = ap length adds ∙ length-append outcomes (outcome ∷ []) in
    let next : end ≡ suc (length outcomes) = omega arith in
    record {
      grows = omega arith;
      little = omega arith;
      inside = omega arith;
      value = (λ i. outcome_at (adds i) (next i)) ∙ at_last outcomes outcome;
      stays = λ k h. ap (λ (os : List Outcome). outcome_at os k) adds ∙ at_stays outcomes outcome k h;
    }

and_l : (a b : Bool) → a && b ≡ true → a ≡ true
and_l true b e = refl
and_l false b e = e

and_r : (a b : Bool) → a && b ≡ true → b ≡ true
and_r true b e = e
and_r false b e = absurd (cc)

le_of : (a b : ℕ) → nat_le a b ≡ true → a ≤ b
le_of a b e = grind (arith, nat_tests)

of_le : (a b : ℕ) → a ≤ b → nat_le a b ≡ true
of_le a b h = grind (arith, nat_tests)

-- the events so far stay as they are
entries_stay : (before now : List Outcome) (outcome : Option Outcome) (end : ℕ) (marks : List Mark) (shorts : List Short) → Keeps before now outcome end → are_within (length before) marks ≡ true → entries_of now marks shorts ≡ entries_of before marks shorts
entries_stay before now outcome end [] shorts keeps within = refl
entries_stay before now outcome end (mark ∷ marks) [] keeps within = refl
entries_stay before now outcome end (mark ∷ marks) (short ∷ shorts) keeps within =
    let head : entry_of now mark short ≡ entry_of before mark short =
    ap (λ (o : Option Outcome). let e : Event = record { item = short.item; attempt = short.attempt; deed = whole_deed short.deed; outcome = o } in (mark.actor, e)) (keeps.stays mark.end (le_of _ _ (and_l _ _ within))) in
    ap (λ (e : ℕ × Event). e ∷ entries_of now marks shorts) head ∙ ap (λ (es : List (ℕ × Event)). entry_of before mark short ∷ es) (entries_stay before now outcome end marks shorts keeps (and_r _ _ within))

entries_join : (outcomes : List Outcome) (marks : List Mark) (shorts : List Short) (mark : Mark) (short : Short) → length marks ≡ length shorts
    → entries_of outcomes (marks ++ mark ∷ []) (shorts ++ short ∷ []) ≡ entries_of outcomes marks shorts ++ entry_of outcomes mark short ∷ []
entries_join outcomes [] [] mark short same = refl
entries_join outcomes [] (s ∷ shorts) mark short same = absurd (omega arith)
entries_join outcomes (m ∷ marks) [] mark short same = absurd (omega arith)
entries_join outcomes (m ∷ marks) (s ∷ shorts) mark short same = ap (λ (es : List (ℕ × Event)). entry_of outcomes m s ∷ es) (entries_join outcomes marks shorts mark short (omega arith))

-- and one is added
pub entries_more : (before now : List Outcome) (event : Event) (end actor : ℕ) (marks : List Mark) (shorts : List Short) (mark : Mark) (short : Short) → Keeps before now event.outcome end → are_within (length before) marks ≡ true → length marks ≡ length shorts
    → mark ≡ record { actor = actor; end = end } → short.item ≡ event.item → short.attempt ≡ event.attempt → whole_deed short.deed ≡ event.deed
    → entries_of now (marks ++ mark ∷ []) (shorts ++ short ∷ []) ≡ entries_of before marks shorts ++ (actor, event) ∷ []
entries_more before now event end actor marks shorts mark short keeps within same whose items attempts deeds =
    let one : entry_of now mark short ≡ (actor, event) =
    (λ i. entry_of now (whose i) short) ∙ (λ i. let e : Event = record { item = items i; attempt = attempts i; deed = deeds i; outcome = keeps.value i } in (actor, e)) in
    entries_join now marks shorts mark short same
    ∙ ap (λ (es : List (ℕ × Event)). es ++ entry_of now mark short ∷ []) (entries_stay before now event.outcome end marks shorts keeps within)
    ∙ ap (λ (e : ℕ × Event). entries_of before marks shorts ++ e ∷ []) one

within_wider : (few many : ℕ) (marks : List Mark) → are_within few marks ≡ true → few ≤ many → are_within many marks ≡ true
within_wider few many [] within h = refl
within_wider few many (mark ∷ marks) within h =
    let below = le_of mark.end few (and_l _ _ within) in
    ap (λ (b : Bool). b && are_within many marks) (of_le mark.end many (omega arith)) ∙ within_wider few many marks (and_r _ _ within) h

pub within_more : (few many : ℕ) (marks : List Mark) (mark : Mark) → are_within few marks ≡ true → few ≤ many → mark.end ≤ many → are_within many (marks ++ mark ∷ []) ≡ true
within_more few many marks mark within h e =
    list_all-append (λ (m : Mark). nat_le m.end many) marks (mark ∷ [])
    ∙ ap (λ (b : Bool). b && are_within many (mark ∷ [])) (within_wider few many marks within h)
    ∙ ap (λ (b : Bool). b && true) (of_le mark.end many e)

pub within_at : (count k : ℕ) (marks : List Mark) (mark : Mark) → are_within count marks ≡ true → k < length marks → mark ≡ get_or marks k mark → mark.end ≤ count
within_at count k [] mark within h is = absurd (omega arith)
within_at count zero (m ∷ marks) mark within h is = let b : m.end ≤ count = le_of _ _ (and_l _ _ within) in subst (λ (x : Mark). x.end ≤ count) (sym is) b
within_at count (suc k) (m ∷ marks) mark within h is = within_at count k marks mark (and_r _ _ within) (omega arith) is

-- no events
pub shorts_none : (mark_room room outcome_room : ℕ) → room ≤ 2 ^ 32 - 1 → room ≤ mark_room → room ≤ outcome_room → AreShorts [] mark_room [] room [] outcome_room
shorts_none mark_room room outcome_room small mark_rooms rooms = record { whose = refl; few = omega arith; fewer = omega arith; mark_rooms = mark_rooms; rooms = rooms; small = small; within = refl }

-- each has its actor
pub entry_at : (outcomes : List Outcome) (marks : List Mark) (shorts : List Short) (k : ℕ) (mark : Mark) (short : Short) → length marks ≡ length shorts → k < length shorts → mark ≡ get_or marks k mark → short ≡ get_or shorts k short
    → slice_get (entries_of outcomes marks shorts) k ≡ Some (entry_of outcomes mark short)
entry_at outcomes marks [] k mark short same h whose is = absurd (omega arith)
entry_at outcomes [] (s ∷ shorts) k mark short same h whose is = absurd (omega arith)
entry_at outcomes (m ∷ marks) (s ∷ shorts) zero mark short same h whose is = λ i. Some (entry_of outcomes (sym whose i) (sym is i))
entry_at outcomes (m ∷ marks) (s ∷ shorts) (suc k) mark short same h whose is = entry_at outcomes marks shorts k mark short (omega arith) (omega arith) whose is

pub actor_at : (outcomes : List Outcome) (marks : List Mark) (shorts : List Short) (k : ℕ) (mark : Mark) → length marks ≡ length shorts → k < length marks → mark ≡ get_or marks k mark → slice_get (actors_of (entries_of outcomes marks shorts)) k ≡ Some mark.actor
unfolding actors_of
actor_at outcomes [] shorts k mark same h whose = absurd (omega arith)
actor_at outcomes (m ∷ marks) [] k mark same h whose = absurd (omega arith)
actor_at outcomes (m ∷ marks) (s ∷ shorts) zero mark same h whose = ap (λ (x : Mark). Some x.actor) (sym whose)
actor_at outcomes (m ∷ marks) (s ∷ shorts) (suc k) mark same h whose = actor_at outcomes marks shorts k mark (omega arith) (omega arith) whose

pub outcome_found : (outcomes : List Outcome) (marks : List Mark) (shorts : List Short) (k : ℕ) (mark : Mark) → length marks ≡ length shorts → k < length marks → mark ≡ get_or marks k mark
    → slice_get (outcomes_of (entries_of outcomes marks shorts)) k ≡ Some (outcome_at outcomes mark.end)
unfolding outcomes_of
outcome_found outcomes [] shorts k mark same h whose = absurd (omega arith)
outcome_found outcomes (m ∷ marks) [] k mark same h whose = absurd (omega arith)
outcome_found outcomes (m ∷ marks) (s ∷ shorts) zero mark same h whose = ap (λ (x : Mark). let o : Option (Option Outcome) = Some (outcome_at outcomes x.end) in o) (sym whose)
outcome_found outcomes (m ∷ marks) (s ∷ shorts) (suc k) mark same h whose = outcome_found outcomes marks shorts k mark (omega arith) (omega arith) whose

pub length_entries : (outcomes : List Outcome) (marks : List Mark) (shorts : List Short) → length marks ≡ length shorts → length (entries_of outcomes marks shorts) ≡ length shorts
length_entries outcomes [] shorts same = same
length_entries outcomes (m ∷ marks) [] same = absurd (omega arith)
length_entries outcomes (m ∷ marks) (s ∷ shorts) same = ap suc (length_entries outcomes marks shorts (omega arith))

-- one event more
pub shorts_more : (marks marks_now : List Mark) (mark_room now_mark_room : ℕ) (shorts now : List Short) (room now_room : ℕ) (before after : List Outcome) (outcome_room now_outcome_room : ℕ) (outcome : Option Outcome) (end : ℕ) (mark : Mark) (short : Short)
    → AreShorts marks mark_room shorts room before outcome_room → Keeps before after outcome end → marks_now ≡ marks ++ mark ∷ [] → now ≡ shorts ++ short ∷ [] → now_mark_room ≡ mark_room → now_room ≡ room → now_outcome_room ≡ outcome_room
    → mark.end ≡ end → length shorts < room
    → AreShorts marks_now now_mark_room now now_room after now_outcome_room
shorts_more marks marks_now mark_room now_mark_room shorts now room now_room before after outcome_room now_outcome_room outcome end mark short are keeps marked adds same_mark same same_outcome ends some =
    let longer : length now ≡ length shorts + 1 = ap length adds ∙ length-append shorts (short ∷ []) in
    let longer_marks : length marks_now ≡ length marks + 1 = ap length marked ∙ length-append marks (mark ∷ []) in
    let whose = are.whose in
    let few = are.few in
    let fewer = are.fewer in
    let mark_rooms = are.mark_rooms in
    let rooms = are.rooms in
    let small = are.small in
    let little = keeps.little in
    let inside = keeps.inside in
    let P : List Mark → Type 0 = λ xs. are_within (length after) xs ≡ true in
    record {
      whose = omega arith;
      few = omega arith;
      fewer = omega arith;
      mark_rooms = omega arith;
      rooms = omega arith;
      small = omega arith;
      within = subst P (sym marked) (within_more (length before) (length after) marks mark are.within keeps.grows (omega arith));
    }
