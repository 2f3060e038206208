-- What stays of what was written where nothing is added to it.
use Rattle.std.proofs.Common.{◌≡◌, ℕ, ◌<◌, ◌≤◌, Bool, List, [], ◌∷◌, ◌++◌, length, Option, Some, None, IfSome, sym, subst, refl, inl, inr, append-nil, arith}
use Rattle.snp_model.specs.declared.scenario.Scenario.{Scenario}
use Rattle.snp_model.specs.Drill.{drill_text}
use Rattle.snp_model.specs.Ending.{report_of}
use Rattle.snp_model.specs.Generated.{generated}
use Rattle.snp_model.specs.MeasureText.{digest_line}
use Rattle.snp_model.specs.Measurement.{measure}
use Rattle.snp_model.specs.Outside.{Adds, AddsPrefix, Rose}
use Rattle.snp_model.specs.Reading.{order_of}
use Rattle.snp_model.specs.Report.{report_text}
use Rattle.snp_model.specs.ScenarioText.{scenario_text}
use Rattle.snp_model.proofs.Adding.{adds_twice}
use Rattle.snp_top.specs.declared.words.Asked.{Asked}
use Rattle.snp_top.specs.declared.words.Asked.TheVariants as asks
use Rattle.snp_top.specs.declared.words.Drawn.{Drawn}
use Rattle.snp_top.specs.declared.words.Drawn.TheVariants as draws
use Rattle.snp_top.specs.Batch.{WritesLine}
use Rattle.snp_top.specs.Drills.{SaysDrawn}
use Rattle.snp_top.specs.Exits.{Outputs}
use Rattle.snp_top.specs.Fleets.{Kept}
use Rattle.snp_top.specs.Replays.{SaysOne}
use Rattle.snp_top.specs.Runs.{IsReported, ReportsKept}

pub adds_kept : (old mid now : Option (List ℕ)) (bytes : List ℕ) → Adds old mid bytes → Adds mid now [] → Adds old now bytes
adds_kept old mid now bytes adds nothing = subst (Adds old now) (append-nil bytes) (adds_twice old mid now bytes [] adds nothing)

pub prefix_kept : (old mid now : Option (List ℕ)) (bytes : List ℕ) → AddsPrefix old mid bytes → Adds mid now [] → AddsPrefix old now bytes
prefix_kept old mid now bytes adds nothing =
    record { rest = adds.rest; left = record { front = adds.left.front; adds = adds_kept old mid now adds.left.front adds.left.adds nothing; parts = adds.left.parts } }

-- a whole is a front of itself
pub whole_cut : (old now : Option (List ℕ)) (bytes : List ℕ) → Adds old now bytes → AddsPrefix old now bytes
whole_cut old now bytes adds = record { rest = []; left = record { front = bytes; adds = adds; parts = sym (append-nil bytes) } }

pub rose_kept : (before mid after : ℕ) → Rose before mid → mid ≤ after → Rose before after
rose_kept before mid after rose later = (omega arith, omega arith)

pub rose_behind : (before mid after : ℕ) → before ≤ mid → Rose mid after → Rose before after
rose_behind before mid after later rose = (omega arith, omega arith)

pub line_kept : (old mid now : Option (List ℕ)) (before between after : ℕ) (line : List ℕ) → WritesLine old mid before between line → Adds mid now [] → between ≤ after → WritesLine old now before after line
line_kept old mid now before between after line (inl adds) nothing later = inl (adds_kept old mid now line adds nothing)
line_kept old mid now before between after line (inr cut) nothing later = inr (prefix_kept old mid now line cut.0 nothing, rose_kept before between after cut.1 later)

-- a line without a byte adds nothing
empty_front : (front rest : List ℕ) → [] ≡ front ++ rest → front ≡ []
empty_front [] rest parts = refl
empty_front (b ∷ front) rest parts = absurd (cc)

pub line_nothing : (old now : Option (List ℕ)) (before after : ℕ) → WritesLine old now before after [] → Adds old now []
line_nothing old now before after (inl adds) = adds
line_nothing old now before after (inr cut) = subst (Adds old now) (empty_front cut.0.left.front cut.0.rest cut.0.left.parts) cut.0.left.adds

-- what is so of a report's bytes may be told of it otherwise
pub reported_as : (to_ends : Bool) (c : Scenario) (P Q : List ℕ → Type 0) → ((bytes : List ℕ) → P bytes → Q bytes) → IsReported to_ends c P → IsReported to_ends c Q
reported_as to_ends c P Q gives reported = record {
  schedule = reported.schedule;
  chosen = reported.chosen;
  defined = reported.defined;
  ordered = reported.ordered;
  legal = reported.legal;
  spelled = reported.spelled;
  written = gives (report_of c reported.schedule) reported.written;
}

-- so may what is so of any output
drawn_as : (what : Drawn) (number : ℕ) (P Q : List ℕ → Type 0) → ((bytes : List ℕ) → P bytes → Q bytes) → SaysDrawn what number P → SaysDrawn what number Q
drawn_as draws.Gen number P Q gives says = gives (scenario_text (generated number)) says
drawn_as draws.Drill number P Q gives says = (says.0, says.1, gives (drill_text number says.0) says.2)

pub outputs_as : (asked : Option Asked) (left now : Option (List ℕ)) (P Q : List ℕ → Type 0) → ((bytes : List ℕ) → P bytes → Q bytes) → Outputs asked left now P → Outputs asked left now Q
outputs_as None left now P Q gives out = absurd out
outputs_as (Some asks.Replay) None now P Q gives out = tt
outputs_as (Some asks.Replay) (Some text) now P Q gives out = (out.0, (out.1.0, out.1.1, (out.1.2.0, gives (report_of out.1.0 (order_of out.1.0)) out.1.2.1)))
outputs_as (Some asks.Run) None now P Q gives out = tt
outputs_as (Some asks.Run) (Some text) now P Q gives out = (out.0, (out.1.0, out.1.1, reported_as _ out.1.0 P Q gives out.1.2))
outputs_as (Some asks.Measure) None now P Q gives out = tt
outputs_as (Some asks.Measure) (Some text) now P Q gives out = (out.0, (out.1.0, out.1.1, gives (digest_line (measure out.1.0)) out.1.2))
outputs_as (Some (asks.Drawn number what)) left now P Q gives out = drawn_as what number P Q gives out

-- so may what is so of the report of what a fleet keeps
kept_as : (c : Scenario) (opens : Option Scenario) (kept : Option Kept) (P Q : List ℕ → Type 0) → ((bytes : List ℕ) → P bytes → Q bytes) → ReportsKept c opens kept P → ReportsKept c opens kept Q
kept_as c None kept P Q gives reports = absurd reports
kept_as c (Some opens) None P Q gives reports = absurd reports
kept_as c (Some opens) (Some kept) P Q gives reports = (
  reports.0,
  record {
    whole = reports.1.whole;
    written = gives (report_text c.version kept.list kept.guests) reports.1.written;
    reported = record {
      schedule = reports.1.reported.schedule;
      chosen = reports.1.reported.chosen;
      defined = reports.1.reported.defined;
      ordered = reports.1.reported.ordered;
      legal = reports.1.reported.legal;
      spelled = reports.1.reported.spelled;
      written = gives (report_of c reports.1.reported.schedule) reports.1.reported.written;
    };
    same = reports.1.same;
  },
)

-- what a fleet keeps and what is so of its report
abbrev pub Fleets : Option (List ℕ) → Option Scenario → Option Kept → (List ℕ → Type 0) → Type 0
Fleets left opens kept Writes = IfSome left (SaysOne (λ c. 0 < length c.actors → ReportsKept c opens kept Writes))

fleet_as : (left : Option (List ℕ)) (opens : Option Scenario) (kept : Option Kept) (P Q : List ℕ → Type 0) → ((bytes : List ℕ) → P bytes → Q bytes) → Fleets left opens kept P → Fleets left opens kept Q
fleet_as None opens kept P Q gives reports = tt
fleet_as (Some text) opens kept P Q gives reports = (reports.0, reports.1, λ some. kept_as reports.0 opens kept P Q gives (reports.2 some))

pub fleet_kept : (left : Option (List ℕ)) (opens : Option Scenario) (kept : Option Kept) (old mid now : Option (List ℕ)) → Fleets left opens kept (Adds old mid) → Adds mid now [] → Fleets left opens kept (Adds old now)
fleet_kept left opens kept old mid now reports nothing = fleet_as left opens kept (Adds old mid) (Adds old now) (λ bytes adds. adds_kept old mid now bytes adds nothing) reports

pub cut_fleet_kept : (left : Option (List ℕ)) (opens : Option Scenario) (kept : Option Kept) (old mid now : Option (List ℕ)) → Fleets left opens kept (AddsPrefix old mid) → Adds mid now [] → Fleets left opens kept (AddsPrefix old now)
cut_fleet_kept left opens kept old mid now reports nothing = fleet_as left opens kept (AddsPrefix old mid) (AddsPrefix old now) (λ bytes adds. prefix_kept old mid now bytes adds nothing) reports

pub fleet_cut : (left : Option (List ℕ)) (opens : Option Scenario) (kept : Option Kept) (old mid now : Option (List ℕ)) → Fleets left opens kept (Adds old mid) → Adds mid now [] → Fleets left opens kept (AddsPrefix old now)
fleet_cut left opens kept old mid now reports nothing = fleet_as left opens kept (Adds old mid) (AddsPrefix old now) (λ bytes adds. whole_cut old now bytes (adds_kept old mid now bytes adds nothing)) reports
