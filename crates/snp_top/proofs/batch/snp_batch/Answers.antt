use Rattle.std.proofs.Common.{ℕ, List, map, string_bytes, ◌≡◌, true, Option, Some, ap, ◌∙◌, subst}
use Rattle.snp_model.specs.CommandLine.{is_replay}
use Rattle.snp_top.specs.declared.words.Asked.{Asked}
use Rattle.snp_top.specs.declared.words.Asked.TheVariants as asks
use Rattle.snp_top.specs.Batch.{Outside}
use Rattle.snp_top.specs.Exits.{Exits}
use Rattle.snp_top.specs.Words.{asks_text, command_of, without_threads}
use Rattle.snp_top.proofs.ExitLaws.{concluded}
use Rattle.snp_top.proofs.StatusLaws.{done_legal, done_ordered, done_read, done_report, done_run, exits_as}
use Rattle.snp_top.proofs.WordLaws.{batch_asked, replay_asked, takes_asked, takes_not}
use Rattle.snp_top.proofs.batch.snp_batch.Goals as goal

pub returns : goal.returns
returns g c =
    let words : List (List ℕ) = map string_bytes c.args.words.now.items in
    let before : Outside = record { left = g.S.Source.left c.args.source.now; read_faults = g.S.Source.faults c.args.source.now; written = g.K.Sink.written c.args.sink.now; write_faults = g.K.Sink.faults c.args.sink.now } in
    let now : Outside = record { left = g.S.Source.left c.carry_out-outcome.new.source; read_faults = g.S.Source.faults c.carry_out-outcome.new.source; written = g.K.Sink.written c.conclude.new.sink; write_faults = g.K.Sink.faults c.conclude.new.sink } in
    let same : c.read_words-asked.result ≡ command_of words = c.read_words-asked.ensures in
    let came = c.carry_out-outcome.ensures in
    let ended = c.conclude.ensures in
    let exits : Exits (without_threads (command_of words)) c.conclude.result before now =
    subst (λ (o : Option Asked). Exits (without_threads o) c.conclude.result before now) same
    (concluded (without_threads c.read_words-asked.result) c.carry_out-outcome.result c.conclude.result before _ _ _ _ _ _ came.came ended.status ended.line ended.later came.taken came.later) in
    let replay : is_replay words ≡ true → Exits (Some asks.Replay) c.conclude.result before now = λ replays. exits_as (batch_asked words (replay_asked words replays)) exits in
    record {
      exits = exits;
      source_read = λ zero takes. done_read exits zero (takes_asked words takes);
      scenario_read = λ zero replays. done_run (replay replays) zero;
      report_written = λ zero replays. done_report (replay replays) zero;
      items_in_order = λ zero replays. done_ordered (replay replays) zero;
      guest_memory_legal = λ zero replays. done_legal (replay replays) zero;
      source_unread = λ none. came.unread (ap (λ (o : Option Asked). asks_text (without_threads o)) same ∙ takes_not words none);
    }
