-- Events that are heard one by one are heard by their lines.
use Rattle.std.proofs.Common.{◌≡◌, ℕ, ◌+◌, ◌^◌, ◌<◌, List, [], ◌∷◌, ◌++◌, length, Result, Ok, Err, refl, sym, ap, ◌∙◌, subst, append_assoc, arith}
use Rattle.std.specs.List.{AllByRecursion}
use Rattle.snp_model.specs.declared.event.Event.{Event}
use Rattle.snp_model.specs.declared.scenario.Scenario.{Scenario}
use Rattle.snp_model.specs.EventText.{event_text}
use Rattle.snp_model.specs.Journal.{actors_of}
use Rattle.snp_model.specs.Lines.{◌>>=◌}
use Rattle.snp_model.specs.Report.{event_lines, line}
use Rattle.report_audit.specs.Again.{IsEntry, hear_events}
use Rattle.report_audit.specs.Audit.{Complaint, Ledger, events, hear, hear_event}
use Rattle.report_audit.specs.Ending.{runs_with}
use Rattle.report_audit.specs.Folds.{runs_folded}
use Rattle.report_audit.proofs.LinesAgain.{Goes, stays_there, goes_on, one_line, event_hear, event_plain}
use Rattle.report_audit.proofs.SoundLaws.{event_heard}

-- one event, and those behind it
step_go : (c : Scenario) (k : ℕ) (ledger last : Ledger) (entry : ℕ × Event) (entries : List (ℕ × Event)) (rest : List ℕ) (r : Result Ledger Complaint)
    → ledger.count ≡ k → k < 2 ^ 32 → IsEntry entry → hear_event c ledger entry.0 entry.1 ≡ r → (r >>= (λ next. hear_events c next entries)) ≡ Ok last
    → ((next : Ledger) → next.count ≡ k + 1 → hear_events c next entries ≡ Ok last → Goes c (events next) (event_lines (k + 1) entries ++ rest) (events last) rest)
    → Goes c (events ledger) ((line (event_text k entry.0 entry.1) ++ event_lines (k + 1) entries) ++ rest) (events last) rest
step_go c k ledger last entry entries rest (Ok next) is small fits e more later =
    let text = event_text k entry.0 entry.1 in
    let others = event_lines (k + 1) entries ++ rest in
    let heard = event_heard c ledger next entry.0 entry.1 e in
    let own = event_hear c ledger next entry.0 entry.1 (omega (arith, is, small)) fits.0 fits.1 e in
    let here = ap (λ (j : ℕ). hear c (events ledger) (event_text j entry.0 entry.1)) (sym is) ∙ own in
    let first : Goes c (events ledger) (line text ++ others) (events next) others = one_line c (events ledger) (events next) text others (event_plain k entry.0 entry.1 small fits.0 fits.1) here in
    let all : Goes c (events ledger) (line text ++ others) (events last) rest =
    goes_on c (events ledger) (events next) (events last) (line text ++ others) others rest first (later next (heard.counted ∙ ap (λ (j : ℕ). j + 1) is) more) in
    subst (λ (t : List ℕ). Goes c (events ledger) t (events last) rest) (sym (append_assoc (line text) (event_lines (k + 1) entries) rest)) all
step_go c k ledger last entry entries rest (Err complaint) is small fits e more later = cc

pub events_go : (c : Scenario) (k : ℕ) (ledger last : Ledger) (entries : List (ℕ × Event)) (rest : List ℕ) → ledger.count ≡ k → k + length entries < 2 ^ 32 → AllByRecursion IsEntry entries
    → hear_events c ledger entries ≡ Ok last → Goes c (events ledger) (event_lines k entries ++ rest) (events last) rest
unfolding event_lines hear_events
events_go c k ledger last [] rest is few fits e =
    let same : ledger ≡ last = cc in
    subst (λ (l : Ledger). Goes c (events ledger) rest (events l) rest) same (stays_there c (events ledger) rest)
events_go c k ledger last (entry ∷ entries) rest is few fits e =
    step_go c k ledger last entry entries rest (hear_event c ledger entry.0 entry.1) is (omega (arith, few)) fits.0 refl e
    (λ next counted more. events_go c (k + 1) next last entries rest counted (omega (arith, few)) fits.1 more)

-- what a ledger then has
pub record HasHeard (ledger last : Ledger) (entries : List (ℕ × Event)) : Type 0 where
  pub counted : last.count ≡ ledger.count + length entries
  pub runs : last.runs ≡ runs_folded ledger.runs (actors_of entries)

one_run : (runs new : List (ℕ × ℕ)) (entry : ℕ × Event) (entries : List (ℕ × Event)) → new ≡ runs_with runs entry.0 → runs_folded new (actors_of entries) ≡ runs_folded runs (actors_of (entry ∷ entries))
unfolding runs_folded actors_of
one_run runs new entry entries is = ap (λ (rs : List (ℕ × ℕ)). runs_folded rs (actors_of entries)) is

no_runs : (runs : List (ℕ × ℕ)) → runs_folded runs (actors_of []) ≡ runs
unfolding runs_folded actors_of
no_runs runs = refl

step_has : (c : Scenario) (ledger last : Ledger) (entry : ℕ × Event) (entries : List (ℕ × Event)) (r : Result Ledger Complaint) → hear_event c ledger entry.0 entry.1 ≡ r → (r >>= (λ next. hear_events c next entries)) ≡ Ok last
    → ((next : Ledger) → hear_events c next entries ≡ Ok last → HasHeard next last entries) → HasHeard ledger last (entry ∷ entries)
step_has c ledger last entry entries (Ok next) e more later =
    let has = later next more in
    let heard = event_heard c ledger next entry.0 entry.1 e in
    let a = has.counted in
    let b = heard.counted in
    record { counted = omega (arith, a, b); runs = has.runs ∙ one_run ledger.runs next.runs entry entries heard.run }
step_has c ledger last entry entries (Err complaint) e more later = cc

pub events_have : (c : Scenario) (ledger last : Ledger) (entries : List (ℕ × Event)) → hear_events c ledger entries ≡ Ok last → HasHeard ledger last entries
unfolding hear_events
events_have c ledger last [] e =
    let same : last ≡ ledger = cc in
    record { counted = ap (λ (l : Ledger). l.count) same ∙ omega arith; runs = ap (λ (l : Ledger). l.runs) same ∙ sym (no_runs ledger.runs) }
events_have c ledger last (entry ∷ entries) e = step_has c ledger last entry entries (hear_event c ledger entry.0 entry.1) refl e (λ next more. events_have c next last entries more)
