-- What is told of the words, the exit status, the source and the sink of a command by what it exits with: one law a clause.
use Rattle.std.proofs.Common.{◌≡◌, ◌≢◌, ℕ, ◌≤◌, ◌<◌, ◌⊎◌, true, false, List, length, Some, IfSome, ap, ◌∙◌}
use Rattle.std.specs.Prelude.{◌↔◌, codes}
use Rattle.snp_model.specs.declared.reading.Quantity.{Quantity}
use Rattle.snp_model.specs.declared.reading.Quantity.TheVariants.{Bytes}
use Rattle.snp_model.specs.declared.reading.Reason.{Reason}
use Rattle.snp_model.specs.declared.scenario.Scenario.{Scenario}
use Rattle.snp_model.specs.CommandLine.{drill_number, gen_number, is_measure, is_replay}
use Rattle.snp_model.specs.Limits.{most}
use Rattle.snp_model.specs.MeasureText.{RefusesPages, SaysPages}
use Rattle.snp_model.specs.Measurement.{LaunchedPage}
use Rattle.snp_model.specs.Opening.{opening}
use Rattle.snp_model.specs.Outside.{AddsPrefix, Rose}
use Rattle.snp_model.specs.Reading.{Passes, Reads, Refuses, order_of}
use Rattle.snp_model.specs.Run.{IsDefined}
use Rattle.snp_top.specs.Batch.{Outside, SaysBadTurn, SaysLimit, SaysRefusal, Wrote}
use Rattle.snp_top.specs.Drills.{CutsDrill, CutsScenario, WritesDrill, WritesScenario}
use Rattle.snp_top.specs.Exits.{Exits}
use Rattle.snp_top.specs.Input.{TakesAtMost}
use Rattle.snp_top.specs.Measures.{SaysCutDigest, SaysPageRefusal, WritesDigest}
use Rattle.snp_top.specs.Replays.{ReadsText, SaysOne}
use Rattle.snp_top.specs.Runs.{IsReported, are_commands, is_run, reads_scenario}
use Rattle.snp_top.specs.Schedule.{IsFirstBad}
use Rattle.snp_top.specs.Words.{AsksFor, asks_run, command_of}
use Rattle.snp_top.proofs.ExitLaws.{exit_bad_turn, exit_known, exit_limit, exit_memory_line, exit_nothing, exit_page_refusal, exit_read_failed, exit_read_line, exit_read_stopped, exit_refusal, exit_too_long, exit_turn_asked, exit_where_nothing, exit_words_line, exit_write_failed}
use Rattle.snp_top.proofs.StatusLaws.{bad_turn_where, cut_reported, drawn_ends, drawn_exits, exits_as, measure_ends, page_refused_where, passed_where, refused_where, replay_ends, run_ends, too_long_where}
use Rattle.snp_top.proofs.WordLaws.{drawn_asked, drill_asked, gen_asked, measure_asked, none_asks, none_is, not_measure, reads_scenario_asked, replay_asked, run_asked, run_is}

pub digest_written : (words : List (List ℕ)) {k : ℕ} {before now : Outside} → Exits (command_of words) k before now → k ≡ 0 → is_measure words ≡ true → WritesDigest before.left now.left before.written now.written
digest_written words {k} {before} {now} exits = λ zero measures. (exits_as (measure_asked words measures) exits).done zero

pub scenario_drawn : (words : List (List ℕ)) {k : ℕ} {before now : Outside} → Exits (command_of words) k before now → (number : ℕ) → k ≡ 0 → gen_number words ≡ Some number → WritesScenario number before.written now.written
scenario_drawn words {k} {before} {now} exits = λ number zero gen. (exits_as (gen_asked words number gen) exits).done zero

pub drill_written : (words : List (List ℕ)) {k : ℕ} {before now : Outside} → Exits (command_of words) k before now → (number : ℕ) → k ≡ 0 → drill_number words ≡ Some number → WritesDrill number before.written now.written
drill_written words {k} {before} {now} exits = λ number zero drill. (exits_as (drill_asked words number drill) exits).done zero

pub drawn_statuses : (words : List (List ℕ)) {k : ℕ} {before now : Outside} → Exits (command_of words) k before now → (number : ℕ) → AsksFor number words → (k ≡ 0) ⊎ ((k ≡ 6) ⊎ (k ≡ 7))
drawn_statuses words {k} {before} {now} exits = λ number asks. drawn_exits (exits_as (drawn_asked words number asks).1 exits)

pub statuses : (words : List (List ℕ)) {k : ℕ} {before now : Outside} → Exits (command_of words) k before now → (k ≤ 8) × (k ≢ 1)
statuses words {k} {before} {now} exits = exit_known exits

pub words_refused : (words : List (List ℕ)) {k : ℕ} {before now : Outside} → Exits (command_of words) k before now → (k ≡ 2) ↔ (are_commands words ≡ false)
words_refused words {k} {before} {now} exits = (λ two. none_is words (exit_nothing exits two), λ none. exit_where_nothing exits (none_asks words none))

pub words_line : (words : List (List ℕ)) {k : ℕ} {before now : Outside} → Exits (command_of words) k before now → k ≡ 2 → Wrote before now (codes "error words\n")
words_line words {k} {before} {now} exits = exit_words_line exits

pub read_failed : (words : List (List ℕ)) {k : ℕ} {before now : Outside} → Exits (command_of words) k before now → k ≡ 5 → Rose before.read_faults now.read_faults
read_failed words {k} {before} {now} exits = exit_read_failed exits

pub read_stopped : (words : List (List ℕ)) {k : ℕ} {before now : Outside} → Exits (command_of words) k before now → k ≡ 5 → TakesAtMost (most Bytes) before.left now.left
read_stopped words {k} {before} {now} exits = exit_read_stopped exits

pub read_line : (words : List (List ℕ)) {k : ℕ} {before now : Outside} → Exits (command_of words) k before now → k ≡ 5 → Wrote before now (codes "error read\n")
read_line words {k} {before} {now} exits = exit_read_line exits

pub scenario_refused : (words : List (List ℕ)) {k : ℕ} {before now : Outside} → Exits (command_of words) k before now → k ≡ 3 → reads_scenario words ≡ true → SaysRefusal before.left now.left before.written now.written before.write_faults now.write_faults
scenario_refused words {k} {before} {now} exits = λ three reads. exit_refusal exits three (reads_scenario_asked words reads)

pub scenario_refused_where : (words : List (List ℕ)) {k : ℕ} {before now : Outside} → Exits (command_of words) k before now → (text : List ℕ) (line : ℕ) (reason : Reason) → reads_scenario words ≡ true → before.left ≡ Some text → Refuses text line reason → (k ≡ 3) ⊎ ((k ≡ 5) ⊎ (k ≡ 7))
scenario_refused_where words {k} {before} {now} exits = λ text line reason reads left refuses. refused_where exits (reads_scenario_asked words reads) text line reason left refuses

pub pages_refused : (words : List (List ℕ)) {k : ℕ} {before now : Outside} → Exits (command_of words) k before now → k ≡ 3 → is_measure words ≡ true → SaysPageRefusal before.left now.left before.written now.written before.write_faults now.write_faults
pages_refused words {k} {before} {now} exits = λ three measures. exit_page_refusal (exits_as (measure_asked words measures) exits) three

pub pages_refused_where : (words : List (List ℕ)) {k : ℕ} {before now : Outside} → Exits (command_of words) k before now → (text : List ℕ) (line : ℕ) (reason : Reason) → is_measure words ≡ true → before.left ≡ Some text → RefusesPages text line reason → (k ≡ 3) ⊎ ((k ≡ 5) ⊎ (k ≡ 7))
pages_refused_where words {k} {before} {now} exits = λ text line reason measures left refuses. page_refused_where (exits_as (measure_asked words measures) exits) text line reason left refuses

pub limit_passed : (words : List (List ℕ)) {k : ℕ} {before now : Outside} → Exits (command_of words) k before now → k ≡ 4 → SaysLimit before.left now.left before.written now.written before.write_faults now.write_faults
limit_passed words {k} {before} {now} exits = exit_limit exits

pub limit_passed_where : (words : List (List ℕ)) {k : ℕ} {before now : Outside} → Exits (command_of words) k before now → (text : List ℕ) (quantity : Quantity) (count : ℕ) → reads_scenario words ≡ true → before.left ≡ Some text → Passes text quantity count → (k ≡ 4) ⊎ ((k ≡ 5) ⊎ (k ≡ 7))
limit_passed_where words {k} {before} {now} exits = λ text quantity count reads left passes. passed_where exits (reads_scenario_asked words reads) text quantity count left passes

pub pages_too_long : (words : List (List ℕ)) {k : ℕ} {before now : Outside} → Exits (command_of words) k before now → k ≡ 4 → is_measure words ≡ true → IfSome before.left (λ text. most Bytes < length text)
pages_too_long words {k} {before} {now} exits = λ four measures. exit_too_long (exits_as (measure_asked words measures) exits) four

pub pages_too_long_where : (words : List (List ℕ)) {k : ℕ} {before now : Outside} → Exits (command_of words) k before now → (text : List ℕ) → is_measure words ≡ true → before.left ≡ Some text → most Bytes < length text → (k ≡ 4) ⊎ ((k ≡ 5) ⊎ (k ≡ 7))
pages_too_long_where words {k} {before} {now} exits = λ text measures left long. too_long_where (exits_as (measure_asked words measures) exits) text left long

pub schedule_refused : (words : List (List ℕ)) {k : ℕ} {before now : Outside} → Exits (command_of words) k before now → k ≡ 8 → SaysBadTurn before.left now.left before.written now.written before.write_faults now.write_faults
schedule_refused words {k} {before} {now} exits = exit_bad_turn exits

pub run_has_no_schedule : (words : List (List ℕ)) {k : ℕ} {before now : Outside} → Exits (command_of words) k before now → k ≡ 8 → is_run words ≡ false
run_has_no_schedule words {k} {before} {now} exits = λ eight. run_is words ∙ ap asks_run (exit_turn_asked exits eight)

pub pages_have_no_schedule : (words : List (List ℕ)) {k : ℕ} {before now : Outside} → Exits (command_of words) k before now → k ≡ 8 → is_measure words ≡ false
pages_have_no_schedule words {k} {before} {now} exits = λ eight. not_measure words (exit_turn_asked exits eight)

pub schedule_refused_where : (words : List (List ℕ)) {k : ℕ} {before now : Outside} → Exits (command_of words) k before now → (text : List ℕ) (c : Scenario) (entry actor : ℕ) → is_replay words ≡ true → before.left ≡ Some text → Reads text c → IsFirstBad (opening c) (order_of c) entry actor → (k ≡ 8) ⊎ ((k ≡ 5) ⊎ (k ≡ 7))
schedule_refused_where words {k} {before} {now} exits = λ text c entry actor replays left reads bad. bad_turn_where (exits_as (replay_asked words replays) exits) text c entry actor left reads bad

pub write_failed : (words : List (List ℕ)) {k : ℕ} {before now : Outside} → Exits (command_of words) k before now → k ≡ 6 → Rose before.write_faults now.write_faults
write_failed words {k} {before} {now} exits = exit_write_failed exits

pub report_cut : (words : List (List ℕ)) {k : ℕ} {before now : Outside} → Exits (command_of words) k before now → k ≡ 6 → reads_scenario words ≡ true → ReadsText before.left now.left (SaysOne (λ c. IsReported (is_run words) c (AddsPrefix before.written now.written)))
report_cut words {k} {before} {now} exits = λ six reads. cut_reported (is_run words) (run_is words) exits six (reads_scenario_asked words reads)

pub digest_cut : (words : List (List ℕ)) {k : ℕ} {before now : Outside} → Exits (command_of words) k before now → k ≡ 6 → is_measure words ≡ true → SaysCutDigest before.left now.left before.written now.written
digest_cut words {k} {before} {now} exits = λ six measures. ((exits_as (measure_asked words measures) exits).cut six).0

pub scenario_cut : (words : List (List ℕ)) {k : ℕ} {before now : Outside} → Exits (command_of words) k before now → (number : ℕ) → k ≡ 6 → gen_number words ≡ Some number → CutsScenario number before.written now.written
scenario_cut words {k} {before} {now} exits = λ number six gen. ((exits_as (gen_asked words number gen) exits).cut six).0

pub drill_cut : (words : List (List ℕ)) {k : ℕ} {before now : Outside} → Exits (command_of words) k before now → (number : ℕ) → k ≡ 6 → drill_number words ≡ Some number → CutsDrill number before.written now.written
drill_cut words {k} {before} {now} exits = λ number six drill. ((exits_as (drill_asked words number drill) exits).cut six).0

pub memory_line : (words : List (List ℕ)) {k : ℕ} {before now : Outside} → Exits (command_of words) k before now → k ≡ 7 → Wrote before now (codes "error memory\n")
memory_line words {k} {before} {now} exits = exit_memory_line exits

pub replay_complete : (words : List (List ℕ)) {k : ℕ} {before now : Outside} → Exits (command_of words) k before now → (text : List ℕ) (c : Scenario) → is_replay words ≡ true → before.left ≡ Some text → Reads text c → IsDefined c (order_of c) → (Rose before.read_faults now.read_faults → ⊥) → (Rose before.write_faults now.write_faults → ⊥) → (k ≡ 0) ⊎ (k ≡ 7)
replay_complete words {k} {before} {now} exits = λ text c replays left reads defined no_read no_write. replay_ends (exits_as (replay_asked words replays) exits) text c left reads defined no_read no_write

pub run_complete : (words : List (List ℕ)) {k : ℕ} {before now : Outside} → Exits (command_of words) k before now → (text : List ℕ) (c : Scenario) → is_run words ≡ true → before.left ≡ Some text → Reads text c → (Rose before.read_faults now.read_faults → ⊥) → (Rose before.write_faults now.write_faults → ⊥) → (k ≡ 0) ⊎ (k ≡ 7)
run_complete words {k} {before} {now} exits = λ text c runs left reads no_read no_write. run_ends (exits_as (run_asked words runs) exits) text c left reads no_read no_write

pub digest_complete : (words : List (List ℕ)) {k : ℕ} {before now : Outside} → Exits (command_of words) k before now → (text : List ℕ) (pages : List LaunchedPage) → is_measure words ≡ true → before.left ≡ Some text → SaysPages text pages → (Rose before.read_faults now.read_faults → ⊥) → (Rose before.write_faults now.write_faults → ⊥) → (k ≡ 0) ⊎ (k ≡ 7)
digest_complete words {k} {before} {now} exits = λ text pages measures left says no_read no_write. measure_ends (exits_as (measure_asked words measures) exits) text pages left says no_read no_write

pub drawn_complete : (words : List (List ℕ)) {k : ℕ} {before now : Outside} → Exits (command_of words) k before now → (number : ℕ) → AsksFor number words → (Rose before.write_faults now.write_faults → ⊥) → (k ≡ 0) ⊎ (k ≡ 7)
drawn_complete words {k} {before} {now} exits = λ number asks no_write. drawn_ends (exits_as (drawn_asked words number asks).1 exits) no_write
