-- The text of a report whose events are heard one by one is audited with yes.
use Rattle.std.proofs.Common.{◌≡◌, ℕ, ◌+◌, ◌^◌, ◌<◌, ◌≤◌, true, List, [], ◌∷◌, ◌++◌, length, drop, None, Ok, refl, sym, ap, ◌∙◌, subst, append_assoc, arith}
use Rattle.std.specs.List.{AllByRecursion, list_all}
use Rattle.std.proofs.lemmas.Slice.Eq.{bytes_eq-Decides}
use Rattle.snp_model.specs.declared.event.Event.{Event}
use Rattle.snp_model.specs.declared.report.GuestLine.{GuestLine}
use Rattle.snp_model.specs.declared.scenario.Scenario.{Scenario}
use Rattle.snp_model.specs.Journal.{actors_of}
use Rattle.snp_model.specs.Lines.{is_printable, parts_at}
use Rattle.snp_model.specs.Report.{end_text, event_lines, guest_lines, guest_text, head_text, line, order_lines, report_text, runs_of}
use Rattle.snp_model.proofs.ReadingLaws.{some_part}
use Rattle.report_text.specs.EventLines.{read_of}
use Rattle.report_text.proofs.Lines.{length-actors}
use Rattle.report_audit.specs.Again.{AreGuestsFrom, IsEntry, IsWritten, hear_events, opening_ledger}
use Rattle.report_audit.specs.Audit.{Heard, Ledger, nothing, events, ending, closed, audit_of, end_of, hear, hear_parts}
use Rattle.report_audit.specs.Ending.{order_line}
use Rattle.report_audit.proofs.EventsAgain.{events_go, events_have}
use Rattle.report_audit.proofs.FoldLaws.{folded_runs}
use Rattle.report_audit.proofs.GuestsAgain.{guests_go, guest_plain, end_heard, end_plain, head_plain}
use Rattle.report_audit.proofs.LinesAgain.{Goes, goes_on, no_event, one_line, parts_line, turns}
use Rattle.report_audit.proofs.OrderAgain.{IsRun, order_first, order_plain, orders_go, runs_small}

-- the first line of a text, which is none of an event
record IsEnding (text : List ℕ) : Type 0 where
  first : List ℕ
  rest : List ℕ
  is : text ≡ line first ++ rest
  plain : list_all is_printable first ≡ true
  none : read_of first ≡ None

abbrev ending_lines : ℕ → List (ℕ × ℕ) → List GuestLine → List ℕ
ending_lines count runs guests = order_lines runs ++ (guest_lines guests ++ line (end_text count))

order_letter : (run : ℕ × ℕ) (runs : List (ℕ × ℕ)) → read_of (order_line (run ∷ runs)) ≡ None
unfolding order_line
order_letter run runs = no_event 111 _ refl refl

guest_letter : (guest : GuestLine) → read_of (guest_text guest) ≡ None
unfolding guest_text
guest_letter guest = no_event 103 _ refl refl

end_letter : (count : ℕ) → read_of (end_text count) ≡ None
unfolding end_text
end_letter count = no_event 101 _ refl refl

is_ending : (count : ℕ) (runs : List (ℕ × ℕ)) (guests : List GuestLine) → count < 2 ^ 64 → AllByRecursion IsRun runs → AreGuestsFrom 1 guests → IsEnding (ending_lines count runs guests)
unfolding order_lines guest_lines
is_ending count [] [] small all are = record { first = end_text count; rest = []; is = sym (nil_behind (line (end_text count))); plain = end_plain count small; none = end_letter count }
  where
    nil_behind : (bytes : List ℕ) → bytes ++ [] ≡ bytes
    nil_behind [] = refl
    nil_behind (b ∷ bytes) = ap (λ (bs : List ℕ). b ∷ bs) (nil_behind bytes)
is_ending count [] (guest ∷ guests) small all are =
    let number : guest.guest ≡ 1 = are.0 in
    record {
      first = guest_text guest;
      rest = guest_lines guests ++ line (end_text count);
      is = append_assoc (line (guest_text guest)) (guest_lines guests) (line (end_text count));
      plain = guest_plain guest (omega (arith, number)) are.2;
      none = guest_letter guest;
    }
is_ending count (run ∷ runs) guests small all are =
    let others = guest_lines guests ++ line (end_text count) in
    record {
      first = order_line (run ∷ runs);
      rest = order_lines (drop 15 runs) ++ others;
      is = ap (λ (t : List ℕ). t ++ others) (order_first run runs) ∙ append_assoc (line (order_line (run ∷ runs))) (order_lines (drop 15 runs)) others;
      plain = order_plain (run ∷ runs) all;
      none = order_letter run runs;
    }

-- such a text is heard behind events as in the ending
two_parts : (c : Scenario) (n : ℕ) (a b : Heard) (first part : List ℕ) (parts : List (List ℕ)) → hear c a first ≡ hear c b first → hear_parts c n a (first ∷ part ∷ parts) ≡ hear_parts c n b (first ∷ part ∷ parts)
unfolding hear_parts
two_parts c n a b first part parts same = rw same refl

turns_at : (c : Scenario) (n : ℕ) (ledger : Ledger) (text : List ℕ) → IsEnding text → hear_parts c n (events ledger) (parts_at 10 text) ≡ hear_parts c n (ending ledger.count ledger.runs 0) (parts_at 10 text)
turns_at c n ledger text is =
    let s = some_part 10 is.rest in
    let split : parts_at 10 text ≡ is.first ∷ s.part ∷ s.parts = ap (parts_at 10) is.is ∙ parts_line is.first is.rest is.plain ∙ ap (λ (ps : List (List ℕ)). is.first ∷ ps) s.is in
    let P : List (List ℕ) → Type 0 = λ ps. hear_parts c n (events ledger) ps ≡ hear_parts c n (ending ledger.count ledger.runs 0) ps in
    subst P (sym split) (two_parts c n (events ledger) (ending ledger.count ledger.runs 0) is.first s.part s.parts (turns c ledger is.first is.none))

-- the whole ending
closes : (c : Scenario) (n count : ℕ) → hear_parts c n (closed count) (parts_at 10 []) ≡ Ok count
unfolding hear_parts end_of
closes c n count = refl

ending_go : (c : Scenario) (count : ℕ) (runs : List (ℕ × ℕ)) (guests : List GuestLine) → count < 2 ^ 64 → AllByRecursion IsRun runs → AreGuestsFrom 1 guests → length guests ≡ length c.guests → length guests ≤ 8
    → Goes c (ending count runs 0) (ending_lines count runs guests) (closed count) []
ending_go c count runs guests small all are declared few =
    let last = line (end_text count) in
    let others = guest_lines guests ++ last in
    let done = length c.guests in
    let orders = orders_go c count 0 (length runs) runs others (omega arith) all in
    let lines = guests_go c count 0 guests last (omega (arith, declared)) (omega (arith, few)) are in
    let end : Goes c (ending count [] done) last (closed count) [] =
    subst (λ (t : List ℕ). Goes c (ending count [] done) t (closed count) []) (nil_behind last) (one_line c (ending count [] done) (closed count) (end_text count) [] (end_plain count small) (end_heard c count)) in
    goes_on c (ending count runs 0) (ending count [] 0) (closed count) (order_lines runs ++ others) others [] orders
    (goes_on c (ending count [] 0) (ending count [] done) (closed count) others last [] lines end)
  where
    nil_behind : (bytes : List ℕ) → bytes ++ [] ≡ bytes
    nil_behind [] = refl
    nil_behind (b ∷ bytes) = ap (λ (bs : List ℕ). b ∷ bs) (nil_behind bytes)

-- the first line
head_heard : (c : Scenario) → hear c nothing (head_text c.version) ≡ Ok (events (opening_ledger c))
unfolding hear
head_heard c = rw ((bytes_eq-Decides (head_text c.version) (head_text c.version)).1 refl) refl

entry_actors : (entries : List (ℕ × Event)) → AllByRecursion IsEntry entries → AllByRecursion (λ a. a < 2 ^ 32) (actors_of entries)
unfolding actors_of
entry_actors [] fits = tt
entry_actors (entry ∷ entries) fits = (fits.0.0, entry_actors entries fits.1)

none_more : (n : ℕ) → 0 + n ≡ n
none_more n = omega arith

-- the text behind the first line
body : (c : Scenario) (entries : List (ℕ × Event)) (guests : List GuestLine) (last : Ledger) → IsWritten c entries guests → hear_events c (opening_ledger c) entries ≡ Ok last → (n : ℕ)
    → hear_parts c n (events (opening_ledger c)) (parts_at 10 (event_lines 0 entries ++ ending_lines (length entries) (runs_of (actors_of entries)) guests)) ≡ Ok (length entries)
body c entries guests last is heard n =
    let count = length entries in
    let few = is.few in
    let runs = runs_of (actors_of entries) in
    let text = ending_lines count runs guests in
    let have = events_have c (opening_ledger c) last entries heard in
    let counted : last.count ≡ count = have.counted ∙ none_more count in
    let kept : last.runs ≡ runs = have.runs ∙ folded_runs (actors_of entries) in
    let many = length-actors entries in
    let small = runs_small (actors_of entries) (omega (arith, few, many)) (entry_actors entries is.fits) in
    let front = events_go c 0 (opening_ledger c) last entries text refl (omega (arith, few)) is.fits heard n in
    let turn = turns_at c front.0 last text (is_ending count runs guests (omega (arith, few)) small is.guests_are) in
    let back = ending_go c count runs guests (omega (arith, few)) small is.guests_are is.declared is.few_guests front.0 in
    let same : hear_parts c front.0 (ending last.count last.runs 0) (parts_at 10 text) ≡ hear_parts c front.0 (ending count runs 0) (parts_at 10 text) =
    ap (λ (k : ℕ). hear_parts c front.0 (ending k last.runs 0) (parts_at 10 text)) counted ∙ ap (λ (rs : List (ℕ × ℕ)). hear_parts c front.0 (ending count rs 0) (parts_at 10 text)) kept in
    front.1 ∙ turn ∙ same ∙ back.1 ∙ closes c back.0 count

whole : (c : Scenario) (entries : List (ℕ × Event)) (guests : List GuestLine) → report_text c.version entries guests ≡ line (head_text c.version) ++ (event_lines 0 entries ++ ending_lines (length entries) (runs_of (actors_of entries)) guests)
unfolding report_text
whole c entries guests = refl

pub report_heard : (c : Scenario) (first : ℕ) (entries : List (ℕ × Event)) (guests : List GuestLine) (last : Ledger) → IsWritten c entries guests → hear_events c (opening_ledger c) entries ≡ Ok last
    → audit_of c first (report_text c.version entries guests) ≡ Ok (length entries)
unfolding audit_of
report_heard c first entries guests last is heard =
    let text = event_lines 0 entries ++ ending_lines (length entries) (runs_of (actors_of entries)) guests in
    let top = one_line c nothing (events (opening_ledger c)) (head_text c.version) text (head_plain c.version is.version) (head_heard c) first in
    ap (λ (t : List ℕ). hear_parts c first nothing (parts_at 10 t)) (whole c entries guests) ∙ top.1 ∙ body c entries guests last is heard top.0
