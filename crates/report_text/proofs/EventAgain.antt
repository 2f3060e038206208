-- The line of an event that is written is read again as that event.
use Rattle.std.proofs.Common.{◌≡◌, ℕ, suc, ◌+◌, ◌^◌, ◌<◌, ◌≤◌, Bool, true, false, cond, List, ◌∷◌, ◌++◌, length, drop, refl, ◌∙◌, arith, length-append}
use Rattle.std.specs.Prelude.{Option, Some, None, Result, Ok, Err, bytes_eq, codes, decimal, nat_le, nat_lt, ◌==◌, IfSome}
use Rattle.std.specs.List.{AllByRecursion}
use Rattle.std.proofs.Math.Seq.{drop-append_seam}
use Rattle.std.proofs.lemmas.Bool.Decides.{nat_tests}
use Rattle.std.proofs.lemmas.Slice.Eq.{bytes_eq-Decides}
use Rattle.snp_model.specs.declared.reading.Reason.{Reason}
use Rattle.snp_model.specs.declared.event.Deed.{Deed}
use Rattle.snp_model.specs.declared.event.Deed.TheVariants.{Begin, Nested, Table, Access, Host, Lock, LockContext, Compute, Commit, CommitContext, Control}
use Rattle.snp_model.specs.declared.event.Outcome.{Outcome}
use Rattle.snp_model.specs.declared.event.Outcome.TheVariants.{Loaded, Opaque, Stored, Swapped, Compared, Gp, Pf, Npf, Vc, Offline, Status, Carry, StatusInUse, Firmware, FirmwareInUse, BadTag, Next, Skipped}
use Rattle.snp_model.specs.declared.event.Event.{Event}
use Rattle.snp_model.specs.EventText.{event_text}
use Rattle.snp_model.specs.Lines as lines
use Rattle.snp_model.specs.Spelling.{joined}
use Rattle.snp_model.proofs.PairLaws.{each_append}
use Rattle.script_text.proofs.AgainLaws.{size_again, size_spelled}
use Rattle.script_text.proofs.HexWords.{bytes_spelled, hex_spelled}
use Rattle.script_text.proofs.SpellingLaws.{IsWord, decimal_again, decimal_word, line_plain, words_again}
use Rattle.report_text.specs.EventLines.{bare_deed_of, bare_outcome, carry_outcome, confirmed, commit_context_of, commit_of, compared_outcome, counted_outcome, deed_of, ending_of, event_of, firmware_in_use, host_of, line_event, lock_context_of, lock_of, long_outcome, named_outcome, nested_of, one_of, outcome_of, read_of, status_in_use, table_of, access_of, tags_outcome, valued_outcome}
use Rattle.report_text.specs.EventNumbers.{IsDeed, IsEvent, IsLineOf, IsOutcome}
use Rattle.report_text.proofs.CutLaws.{attempt_again, decimal_below_again, frame_again, gpn_again, around_spelled, hex_around_spelled, read_again, read_spelled}
use Rattle.report_text.proofs.EventWords.{around, chosen_word, deed_said, ending_said, event_joined, event_said, outcome_said}
use Rattle.report_text.proofs.HexLaws.{hex_again}
use Rattle.report_text.proofs.TagLaws.{tag_again}

-- as many words as are asked, with others behind them
one : (more : ℕ) → nat_le 1 (suc more) ≡ true
one more = grind (arith, nat_tests)

two : (more : ℕ) → nat_le 2 (suc (suc more)) ≡ true
two more = grind (arith, nat_tests)

three : (more : ℕ) → nat_le 3 (suc (suc (suc more))) ≡ true
three more = grind (arith, nat_tests)

four : (more : ℕ) → nat_le 4 (suc (suc (suc (suc more)))) ≡ true
four more = grind (arith, nat_tests)

-- a deed is read again, whatever words are behind it
deed_again : (deed : Deed) (rest : List (List ℕ)) → IsDeed deed → deed_of (deed_said deed ++ rest) ≡ Ok (deed, length (deed_said deed))
unfolding deed_of bare_deed_of nested_of table_of access_of host_of lock_of lock_context_of commit_of commit_context_of one_of
deed_again Begin rest is = rw (one (length rest)) refl
deed_again (Nested frame index value) rest is = rw (three (length rest), frame_again frame index is.0 is.1, hex_again value is.2) refl
deed_again (Table gpn index frame value) rest is =
    rw (four (length rest), gpn_again gpn index is.0 is.1, decimal_below_again (2 ^ 32) frame is.2 (omega (arith, is.2)), read_again value is.3) refl
deed_again (Access gpn index frame true) rest is = rw (four (length rest), gpn_again gpn index is.0 is.1, decimal_below_again (2 ^ 32) frame is.2 (omega (arith, is.2))) refl
deed_again (Access gpn index frame false) rest is = rw (four (length rest), gpn_again gpn index is.0 is.1, decimal_below_again (2 ^ 32) frame is.2 (omega (arith, is.2))) refl
deed_again (Host frame index) rest is = rw (two (length rest), frame_again frame index is.0 is.1) refl
deed_again (Lock frame) rest is = rw (two (length rest), decimal_again frame is) refl
deed_again (LockContext guest) rest is = rw (two (length rest), decimal_below_again (2 ^ 8) guest is (omega (arith, is))) refl
deed_again Compute rest is = rw (one (length rest)) refl
deed_again (Commit frame gpn size) rest is =
    rw (four (length rest), decimal_below_again (2 ^ 32) frame is.0 (omega (arith, is.0)), hex_again gpn is.1, size_again size) refl
deed_again (CommitContext guest) rest is = rw (two (length rest), decimal_below_again (2 ^ 8) guest is (omega (arith, is))) refl
deed_again Control rest is = rw (one (length rest)) refl

-- so is an outcome
outcome_again : (outcome : Outcome) → IsOutcome outcome → outcome_of (outcome_said outcome) ≡ Ok outcome
unfolding outcome_of bare_outcome named_outcome counted_outcome valued_outcome compared_outcome long_outcome carry_outcome status_in_use firmware_in_use tags_outcome one_of lines.fixed
outcome_again (Loaded value) is = rw (hex_again value is) refl
outcome_again Opaque is = refl
outcome_again Stored is = refl
outcome_again (Swapped value) is = rw (hex_again value is) refl
outcome_again (Compared found true) is = rw (hex_again found is) refl
outcome_again (Compared found false) is = rw (hex_again found is) refl
outcome_again Gp is = refl
outcome_again Offline is = refl
outcome_again (Pf code) is = rw (hex_again code is) refl
outcome_again (Npf code) is = rw (hex_again code is) refl
outcome_again (Vc code) is = rw (hex_again code is) refl
outcome_again (Status status) is = rw (decimal_below_again (2 ^ 8) status is (omega (arith, is))) refl
outcome_again (Carry true) is = refl
outcome_again (Carry false) is = refl
outcome_again (StatusInUse holder) is = rw (decimal_below_again (2 ^ 32) holder is (omega (arith, is))) refl
outcome_again (Firmware status) is =
    let small : nat_lt status (2 ^ 16) ≡ true = grind (arith, nat_tests, is) in
    rw (hex_again status (omega (arith, is)), small) refl
outcome_again (FirmwareInUse holder) is = rw (decimal_below_again (2 ^ 32) holder is (omega (arith, is))) refl
outcome_again (BadTag found kept) is = rw (tag_again found is.0, tag_again kept is.1) refl
outcome_again Next is = refl
outcome_again (Skipped count) is = rw (decimal_below_again (2 ^ 32) count is (omega (arith, is))) refl

-- it has at least one word and at most six
outcome_few : (outcome : Outcome) → (0 < length (outcome_said outcome)) × (length (outcome_said outcome) ≤ 6)
outcome_few (Loaded value) = (omega arith, omega arith)
outcome_few Opaque = (omega arith, omega arith)
outcome_few Stored = (omega arith, omega arith)
outcome_few (Swapped value) = (omega arith, omega arith)
outcome_few (Compared found written) = (omega arith, omega arith)
outcome_few Gp = (omega arith, omega arith)
outcome_few Offline = (omega arith, omega arith)
outcome_few (Pf code) = (omega arith, omega arith)
outcome_few (Npf code) = (omega arith, omega arith)
outcome_few (Vc code) = (omega arith, omega arith)
outcome_few (Status status) = (omega arith, omega arith)
outcome_few (Carry carry) = (omega arith, omega arith)
outcome_few (StatusInUse holder) = (omega arith, omega arith)
outcome_few (Firmware status) = (omega arith, omega arith)
outcome_few (FirmwareInUse holder) = (omega arith, omega arith)
outcome_few (BadTag found kept) = (omega arith, omega arith)
outcome_few Next = (omega arith, omega arith)
outcome_few (Skipped count) = (omega arith, omega arith)

ending_again : (outcome : Option Outcome) → IfSome outcome IsOutcome → ending_of (ending_said outcome) ≡ Ok outcome
unfolding ending_of
ending_again None is = refl
ending_again (Some outcome) is =
    let some = (outcome_few outcome).0 in
    let none : (length (outcome_said outcome) == 0) ≡ false = grind (arith, nat_tests, some) in
    rw (none, outcome_again outcome is) refl

ending_few : (outcome : Option Outcome) → length (ending_said outcome) ≤ 6
ending_few None = omega arith
ending_few (Some outcome) = (outcome_few outcome).1

deed_few : (deed : Deed) → (0 < length (deed_said deed)) × (length (deed_said deed) ≤ 4)
deed_few Begin = (omega arith, omega arith)
deed_few (Nested frame index value) = (omega arith, omega arith)
deed_few (Table gpn index frame value) = (omega arith, omega arith)
deed_few (Access gpn index frame private) = (omega arith, omega arith)
deed_few (Host frame index) = (omega arith, omega arith)
deed_few (Lock frame) = (omega arith, omega arith)
deed_few (LockContext guest) = (omega arith, omega arith)
deed_few Compute = (omega arith, omega arith)
deed_few (Commit frame gpn size) = (omega arith, omega arith)
deed_few (CommitContext guest) = (omega arith, omega arith)
deed_few Control = (omega arith, omega arith)

-- the words of an event are words
chosen_spelled : (b : Bool) (first second : List ℕ) → IsWord first → IsWord second → IsWord (chosen_word b first second)
chosen_spelled true first second f s = f
chosen_spelled false first second f s = s

deed_spelled : (deed : Deed) → IsDeed deed → AllByRecursion IsWord (deed_said deed)
deed_spelled Begin is = (refl, tt)
deed_spelled (Nested frame index value) is = (refl, (around_spelled 58 frame index refl (omega (arith, is.0)) (omega (arith, is.1)), (hex_spelled value is.2, tt)))
deed_spelled (Table gpn index frame value) is =
    (refl, (hex_around_spelled 58 gpn index refl is.0 (omega (arith, is.1)), (decimal_word frame (omega (arith, is.2)), (read_spelled value is.3, tt))))
deed_spelled (Access gpn index frame private) is =
    (refl, (hex_around_spelled 58 gpn index refl is.0 (omega (arith, is.1)), (decimal_word frame (omega (arith, is.2)), (chosen_spelled private (codes "p") (codes "s") refl refl, tt))))
deed_spelled (Host frame index) is = (refl, (around_spelled 58 frame index refl (omega (arith, is.0)) (omega (arith, is.1)), tt))
deed_spelled (Lock frame) is = (refl, (decimal_word frame is, tt))
deed_spelled (LockContext guest) is = (refl, (decimal_word guest (omega (arith, is)), tt))
deed_spelled Compute is = (refl, tt)
deed_spelled (Commit frame gpn size) is = (refl, (decimal_word frame (omega (arith, is.0)), (hex_spelled gpn is.1, (size_spelled size, tt))))
deed_spelled (CommitContext guest) is = (refl, (decimal_word guest (omega (arith, is)), tt))
deed_spelled Control is = (refl, tt)

outcome_spelled : (outcome : Outcome) → IsOutcome outcome → AllByRecursion IsWord (outcome_said outcome)
outcome_spelled (Loaded value) is = (refl, (hex_spelled value is, tt))
outcome_spelled Opaque is = (refl, tt)
outcome_spelled Stored is = (refl, tt)
outcome_spelled (Swapped value) is = (refl, (hex_spelled value is, tt))
outcome_spelled (Compared found written) is = (refl, (hex_spelled found is, (chosen_spelled written (codes "yes") (codes "no") refl refl, tt)))
outcome_spelled Gp is = (refl, tt)
outcome_spelled Offline is = (refl, tt)
outcome_spelled (Pf code) is = (refl, (hex_spelled code is, tt))
outcome_spelled (Npf code) is = (refl, (hex_spelled code is, tt))
outcome_spelled (Vc code) is = (refl, (hex_spelled code is, tt))
outcome_spelled (Status status) is = (refl, (decimal_word status (omega (arith, is)), tt))
outcome_spelled (Carry carry) is = (refl, (refl, (refl, (chosen_spelled carry (codes "1") (codes "0") refl refl, tt))))
outcome_spelled (StatusInUse holder) is = (refl, (refl, (refl, (decimal_word holder (omega (arith, is)), tt))))
outcome_spelled (Firmware status) is = (refl, (hex_spelled status (omega (arith, is)), tt))
outcome_spelled (FirmwareInUse holder) is = (refl, (refl, (refl, (decimal_word holder (omega (arith, is)), tt))))
outcome_spelled (BadTag found kept) is = (refl, (refl, (refl, (bytes_spelled found is.0.1, (refl, (bytes_spelled kept is.1.1, tt))))))
outcome_spelled Next is = (refl, tt)
outcome_spelled (Skipped count) is = (refl, (decimal_word count (omega (arith, is)), tt))

ending_spelled : (outcome : Option Outcome) → IfSome outcome IsOutcome → AllByRecursion IsWord (ending_said outcome)
ending_spelled None is = tt
ending_spelled (Some outcome) is = outcome_spelled outcome is

event_spelled : (actor : ℕ) (event : Event) → actor < 2 ^ 32 → IsEvent event → AllByRecursion IsWord (event_said actor event)
event_spelled actor event a is = (
  decimal_word actor (omega (arith, a)),
  (
    around_spelled 46 event.item event.attempt refl (omega (arith, is.item)) (omega (arith, is.attempt)),
    each_append IsWord (deed_said event.deed) (ending_said event.outcome) (deed_spelled event.deed is.deed) (ending_spelled event.outcome is.outcome),
  ),
)

-- the words behind the deed
behind_deed : (a b c : List ℕ) (deed : Deed) (ending : List (List ℕ)) → drop (3 + length (deed_said deed)) (a ∷ b ∷ c ∷ (deed_said deed ++ ending)) ≡ ending
behind_deed a b c deed ending =
    let three : 3 + length (deed_said deed) ≡ suc (suc (suc (length (deed_said deed)))) = omega arith in
    rw three (drop-append_seam (deed_said deed) ending)

-- the words of an event
words_said : (k actor : ℕ) (event : Event) → k < 2 ^ 32 → actor < 2 ^ 32 → IsEvent event → event_of (decimal k ∷ event_said actor event) ≡ Ok (k, actor, event)
unfolding event_of
words_said k actor event n a is =
    let ending = ending_said event.outcome in
    rw (decimal_below_again (2 ^ 32) k n (omega (arith, n)), decimal_below_again (2 ^ 32) actor a (omega (arith, a)), attempt_again event.item event.attempt is.item is.attempt)
    (rw (deed_again event.deed ending is.deed) (rw (behind_deed (decimal k) (decimal actor) (around 46 (decimal event.item) (decimal event.attempt)) event.deed ending, ending_again event.outcome is.outcome) refl))

-- what is written of an event is read as that event
pub event_again : (line : List ℕ) (k actor : ℕ) (event : Event) → IsLineOf line k actor event → line_event line ≡ Ok (k, actor, event)
unfolding line_event
event_again line k actor event is =
    let w : List ℕ = decimal k in
    let ws = event_said actor event in
    let text : line ≡ joined (w ∷ ws) = is.text ∙ event_joined k actor event in
    let word : IsWord w = decimal_word k (omega (arith, is.number)) in
    let are = event_spelled actor event is.actor_number is.types in
    let long = length-append (deed_said event.deed) (ending_said event.outcome) in
    let some = (deed_few event.deed).0 in
    let most = (deed_few event.deed).1 in
    let ending = ending_few event.outcome in
    let few : nat_le (length (w ∷ ws)) 17 ≡ true = grind (arith, nat_tests, long, most, ending) in
    let many : nat_le 4 (length (w ∷ ws)) ≡ true = grind (arith, nat_tests, long, some) in
    rw (text, line_plain w ws word are few, words_again w ws word are, many) (words_said k actor event is.number is.actor_number is.types)

pub read_again_of : (line : List ℕ) (k actor : ℕ) (event : Event) → IsLineOf line k actor event → read_of line ≡ Some (k, actor, event)
unfolding read_of
read_again_of line k actor event is =
    rw (event_again line k actor event is, (bytes_eq-Decides line (event_text k actor event)).1 is.text) refl

-- and nothing else is read
confirmed_every : (line : List ℕ) (read : Result (ℕ × ℕ × Event) Reason) → IfSome (confirmed line read) (λ event. line ≡ event_text event.0 event.1 event.2)
confirmed_every line (Ok read) = by (bytes_eq line (event_text read.0 read.1 read.2)) refl
  where
    by : (same : Bool) → bytes_eq line (event_text read.0 read.1 read.2) ≡ same → IfSome (cond same (Some read) None) (λ event. line ≡ event_text event.0 event.1 event.2)
    by true e = (bytes_eq-Decides line (event_text read.0 read.1 read.2)).0 e
    by false e = tt
confirmed_every line (Err reason) = tt

pub read_every : (line : List ℕ) → IfSome (read_of line) (λ event. line ≡ event_text event.0 event.1 event.2)
unfolding read_of
read_every line = confirmed_every line (line_event line)
