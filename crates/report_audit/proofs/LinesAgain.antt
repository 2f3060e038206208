-- Lines of a text, one after the other, and which of them are no event.
use Rattle.std.proofs.Common.{◌≡◌, ℕ, ◌+◌, ◌^◌, ◌<◌, Bool, true, false, cond, List, [], ◌∷◌, ◌++◌, None, Ok, Err, refl, ap, ◌∙◌, append_assoc, arith}
use Rattle.std.specs.Prelude.{nat_le, ◌==◌, ◌&&◌, length}
use Rattle.std.specs.List.{list_all}
use Rattle.std.proofs.lemmas.Bool.{and_parts, eq-eqb}
use Rattle.std.proofs.lemmas.Bool.Decides.{nat_tests}
use Rattle.std.proofs.lemmas.List.Splits.{slice_split_at, slice_split-cons_no}
use Rattle.snp_model.specs.declared.event.Event.{Event}
use Rattle.snp_model.specs.declared.reading.Reason.TheVariants.{Number, Form}
use Rattle.snp_model.specs.declared.scenario.Scenario.{Scenario}
use Rattle.snp_model.specs.EventText.{event_text}
use Rattle.snp_model.specs.Lines as lines
use Rattle.snp_model.specs.Lines.{is_decimal, is_decimal_digit, is_plain, is_printable, parts_at, word, words_of, decimal_of}
use Rattle.snp_model.specs.Report.{line}
use Rattle.snp_model.proofs.ReadingLaws.{some_part}
use Rattle.script_text.proofs.PartsLaws.{all_apart}
use Rattle.report_text.specs.EventLines.{confirmed, decimal_below, event_of, line_event, read_of}
use Rattle.report_text.specs.EventNumbers.{IsEvent}
use Rattle.report_text.proofs.EventAgain.{event_again, read_again_of}
use Rattle.report_audit.specs.Audit.{Heard, Ledger, events, ending, hear, hear_event, hear_parts}
use Rattle.report_audit.proofs.TextLaws.{step_line}

-- from this text on, with this heard, an audit comes to another text and another heard
abbrev pub Goes : Scenario → Heard → List ℕ → Heard → List ℕ → Type 0
Goes c heard text next rest = (n : ℕ) → (m : ℕ) × (hear_parts c n heard (parts_at 10 text) ≡ hear_parts c m next (parts_at 10 rest))

pub stays_there : (c : Scenario) (heard : Heard) (text : List ℕ) → Goes c heard text heard text
stays_there c heard text = λ n. (n, refl)

pub goes_on : (c : Scenario) (a b d : Heard) (s t u : List ℕ) → Goes c a s b t → Goes c b t d u → Goes c a s d u
goes_on c a b d s t u first second = λ n. let one = first n in let two = second one.0 in (two.0, one.1 ∙ two.1)

-- a line is a part of its own
pub parts_line : (text rest : List ℕ) → list_all is_printable text ≡ true → parts_at 10 (line text ++ rest) ≡ text ∷ parts_at 10 rest
parts_line text rest plain =
    ap (parts_at 10) (append_assoc text (10 ∷ []) rest)
    ∙ slice_split_at (λ b. b == 10) text 10 rest (all_apart is_printable 10 (λ b printable. grind (arith, nat_tests, printable)) text plain) refl

pub one_line : (c : Scenario) (heard next : Heard) (text rest : List ℕ) → list_all is_printable text ≡ true → hear c heard text ≡ Ok next → Goes c heard (line text ++ rest) next rest
one_line c heard next text rest plain is = λ n. (n + 1, ap (hear_parts c n heard) (parts_line text rest plain) ∙ step_line c n heard next text rest is)

-- a line that is read as an event is printable
read_plain_by : (text : List ℕ) (read : ℕ × ℕ × Event) (b : Bool) → (is_plain text && nat_le 4 (length (words_of text))) ≡ b → cond b (event_of (words_of text)) (Err Form) ≡ Ok read → list_all is_printable text ≡ true
read_plain_by text read true is e = (and_parts (list_all is_printable text) _ (and_parts (is_plain text) _ is).0).0
read_plain_by text read false is e = cc

read_plain : (text : List ℕ) (read : ℕ × ℕ × Event) → line_event text ≡ Ok read → list_all is_printable text ≡ true
unfolding line_event
read_plain text read e = read_plain_by text read _ refl e

pub event_plain : (k actor : ℕ) (event : Event) → k < 2 ^ 32 → actor < 2 ^ 32 → IsEvent event → list_all is_printable (event_text k actor event) ≡ true
event_plain k actor event number actor_number types =
    read_plain (event_text k actor event) (k, actor, event) (event_again (event_text k actor event) k actor event (record { number = number; actor_number = actor_number; types = types; text = refl }))

-- the next event, by its line
pub event_hear : (c : Scenario) (ledger next : Ledger) (actor : ℕ) (event : Event) → ledger.count < 2 ^ 32 → actor < 2 ^ 32 → IsEvent event → hear_event c ledger actor event ≡ Ok next
    → hear c (events ledger) (event_text ledger.count actor event) ≡ Ok (events next)
unfolding hear
event_hear c ledger next actor event number actor_number types e =
    rw (
      read_again_of (event_text ledger.count actor event) ledger.count actor event (record { number = number; actor_number = actor_number; types = types; text = refl }),
      eq-eqb ledger.count ledger.count refl,
      e,
    )
    refl

-- a line whose first byte is a letter is no event
record FirstWord (b : ℕ) (rest : List ℕ) : Type 0 where
  more : List ℕ
  is : word (words_of (b ∷ rest)) 0 ≡ b ∷ more

first_word : (b : ℕ) (rest : List ℕ) → (b == 32) ≡ false → FirstWord b rest
first_word b rest apart =
    let s = some_part 32 rest in
    record { more = s.part; is = ap (λ (ws : List (List ℕ)). word ws 0) (slice_split-cons_no (λ x. x == 32) b rest apart) ∙ rw s.is refl }

no_digits : (b : ℕ) (more : List ℕ) → is_decimal_digit b ≡ false → is_decimal (b ∷ more) ≡ false
no_digits b more other = grind (arith, nat_tests, other)

no_decimal : (b : ℕ) (more : List ℕ) → is_decimal_digit b ≡ false → lines.decimal (b ∷ more) ≡ Err Number
unfolding lines.decimal decimal_of
no_decimal b more other = rw (no_digits b more other) refl

no_number : (ws : List (List ℕ)) (w : List ℕ) → word ws 0 ≡ w → lines.decimal w ≡ Err Number → event_of ws ≡ Err Number
unfolding event_of decimal_below
no_number ws w is none = rw (is, none) refl

refused_both : (text : List ℕ) (b : Bool) → confirmed text (cond b (Err Number) (Err Form)) ≡ None
refused_both text true = refl
refused_both text false = refl

pub no_event : (b : ℕ) (rest : List ℕ) → (b == 32) ≡ false → is_decimal_digit b ≡ false → read_of (b ∷ rest) ≡ None
unfolding read_of line_event
no_event b rest apart other =
    let f = first_word b rest apart in
    let none = no_number (words_of (b ∷ rest)) (b ∷ f.more) f.is (no_decimal b f.more other) in
    rw none (refused_both (b ∷ rest) (is_plain (b ∷ rest) && nat_le 4 (length (words_of (b ∷ rest)))))

-- so it begins the ending
pub turns : (c : Scenario) (ledger : Ledger) (text : List ℕ) → read_of text ≡ None → hear c (events ledger) text ≡ hear c (ending ledger.count ledger.runs 0) text
unfolding hear
turns c ledger text none = rw none refl
