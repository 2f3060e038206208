use Rattle.std.proofs.Common.{ℕ, List, map, string_bytes, ◌≡◌, true, false, Option, Some, refl, sym, ap, ◌∙◌}
use Rattle.std.proofs.lemmas.Bool.{false≢true}
use Rattle.snp_top.specs.declared.words.Asked.{Asked}
use Rattle.snp_top.specs.declared.words.Asked.TheVariants as asks
use Rattle.snp_top.specs.Batch.{Outside}
use Rattle.snp_top.specs.Exits.{Exits}
use Rattle.snp_top.specs.Runs.{is_run}
use Rattle.snp_top.specs.Words.{asks_run, asks_text, command_of, without_threads}
use Rattle.snp_top.proofs.ExitLaws.{concluded}
use Rattle.snp_top.proofs.StatusLaws.{done_read, done_reported, exits_as, fleet_done, fleet_stopped}
use Rattle.snp_top.proofs.WordLaws.{reads_not, reads_scenario_asked, reads_text_asked, run_alone, run_is, run_not}
use Rattle.snp_top.proofs.program.snp_main.Goals as goal

pub returns-then-is_run : goal.returns-then-is_run
returns-then-is_run g c =
    let words : List (List ℕ) = map string_bytes c.args.words.now.items in
    let before : Outside = record { left = g.S.Source.left c.args.source.now; read_faults = g.S.Source.faults c.args.source.now; written = g.K.Sink.written c.args.sink.now; write_faults = g.K.Sink.faults c.args.sink.now } in
    let now : Outside = record { left = g.S.Source.left c.carry_out_run-outcome.new.source; read_faults = g.S.Source.faults c.carry_out_run-outcome.new.source; written = g.K.Sink.written c.conclude.new.sink; write_faults = g.K.Sink.faults c.conclude.new.sink } in
    let asked : Option Asked = c.read_words-asked.result in
    let same : asked ≡ command_of words = c.read_words-asked.ensures in
    let came = c.carry_out_run-outcome.ensures in
    let ended = c.conclude.ensures in
    let runs : command_of words ≡ Some asks.Run = sym same ∙ run_alone asked (sym c.is_run.ensures ∙ c.if-is_run.true) in
    let exits : Exits (command_of words) c.conclude.result before now =
    exits_as (sym runs) (concluded (Some asks.Run) c.carry_out_run-outcome.result c.conclude.result before _ _ _ _ _ _ came.came ended.status ended.line ended.later came.taken came.later) in
    record {
      exits = exits;
      source_read = λ zero reads. done_read exits zero (reads_text_asked words reads);
      reported = λ zero reads. done_reported (is_run words) (run_is words) exits zero (reads_scenario_asked words reads);
      fleet_keeps = λ zero is. fleet_done c.carry_out_run-outcome.result c.conclude.result _ _ _ _ _ _ _ _ ended.status ended.line came.fleet_keeps zero;
      fleet_untouched = λ is. absurd (false≢true (sym is ∙ run_is words ∙ ap asks_run runs));
      source_unread = λ none. absurd (false≢true (sym (reads_not words none) ∙ ap asks_text runs));
      fleet_cut = λ six is. fleet_stopped c.carry_out_run-outcome.result c.conclude.result _ _ _ _ _ _ _ _ ended.status ended.line came.fleet_cut six;
    }

pub returns-else-is_run : goal.returns-else-is_run
returns-else-is_run g c =
    let words : List (List ℕ) = map string_bytes c.args.words.now.items in
    let before : Outside = record { left = g.S.Source.left c.args.source.now; read_faults = g.S.Source.faults c.args.source.now; written = g.K.Sink.written c.args.sink.now; write_faults = g.K.Sink.faults c.args.sink.now } in
    let now : Outside = record { left = g.S.Source.left c.carry_out-outcome.new.source; read_faults = g.S.Source.faults c.carry_out-outcome.new.source; written = g.K.Sink.written c.conclude-else-is_run.new.sink; write_faults = g.K.Sink.faults c.conclude-else-is_run.new.sink } in
    let asked : Option Asked = c.read_words-asked.result in
    let same : asked ≡ command_of words = c.read_words-asked.ensures in
    let came = c.carry_out-outcome.ensures in
    let ended = c.conclude-else-is_run.ensures in
    let not_run : asks_run asked ≡ false = sym c.is_run.ensures ∙ c.if-is_run.false in
    let exits : Exits (command_of words) c.conclude-else-is_run.result before now =
    exits_as (run_not asked not_run ∙ same) (concluded (without_threads asked) c.carry_out-outcome.result c.conclude-else-is_run.result before _ _ _ _ _ _ came.came ended.status ended.line ended.later came.taken came.later) in
    record {
      exits = exits;
      source_read = λ zero reads. done_read exits zero (reads_text_asked words reads);
      reported = λ zero reads. done_reported (is_run words) (run_is words) exits zero (reads_scenario_asked words reads);
      fleet_keeps = λ zero is. absurd (false≢true (sym not_run ∙ ap asks_run same ∙ sym (run_is words) ∙ is));
      fleet_untouched = λ is. refl;
      source_unread = λ none. came.unread (ap asks_text (run_not asked not_run ∙ same) ∙ reads_not words none);
      fleet_cut = λ six is. absurd (false≢true (sym not_run ∙ ap asks_run same ∙ sym (run_is words) ∙ is));
    }
