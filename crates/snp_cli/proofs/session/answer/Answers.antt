use Rattle.std.proofs.Common.{ℕ, List, map, string_bytes, inl, inr}
use Rattle.snp_top.specs.Runs.{is_run}
use Rattle.snp_top.specs.Words.{command_of}
use Rattle.snp_top.proofs.KeptLaws.{cut_fleet_kept, fleet_cut, fleet_kept}
use Rattle.snp_top.proofs.StatusLaws.{done_reported}
use Rattle.snp_top.proofs.WordLaws.{reads_scenario_asked, run_is}
use Rattle.snp_cli.proofs.FlushLaws.{IsUnflushed, cut_status, exits_flushed, exits_unflushed, never_done}
use Rattle.snp_cli.proofs.session.answer.Goals as goal

pub returns-in-Ok : goal.returns-in-Ok
returns-in-Ok g c =
    let words : List (List ℕ) = map string_bytes c.args.words.now.items in
    let main = c.snp_main-status.ensures in
    let flushed = c.in-Ok.ensures.written in
    let exits = exits_flushed (command_of words) c.snp_main-status.result _ _ _ _ _ _ _ main.exits flushed c.in-Ok.ensures.later in
    record {
      exits = exits;
      source_read = main.source_read;
      reported = λ zero reads. done_reported (is_run words) (run_is words) exits zero (reads_scenario_asked words reads);
      fleet_keeps = λ zero asked. fleet_kept _ _ _ _ _ _ (main.fleet_keeps zero asked) flushed;
      fleet_cut = λ six asked. cut_fleet_kept _ _ _ _ _ _ (main.fleet_cut six asked) flushed;
      fleet_untouched = main.fleet_untouched;
      source_unread = main.source_unread;
    }

pub returns-in-Err : goal.returns-in-Err
returns-in-Err g c =
    let words : List (List ℕ) = map string_bytes c.args.words.now.items in
    let main = c.snp_main-status.ensures in
    let flushed = c.in-Err.ensures.written in
    let is : IsUnflushed c.snp_main-status.result c.unflushed.result = record { done = c.unflushed.ensures.done; other = c.unflushed.ensures.other } in
    record {
      exits = exits_unflushed (command_of words) c.snp_main-status.result c.unflushed.result _ _ _ _ _ _ _ main.exits flushed c.in-Err.ensures.failed is;
      source_read = λ zero reads. absurd (never_done _ _ is zero);
      reported = λ zero reads. absurd (never_done _ _ is zero);
      fleet_keeps = λ zero asked. absurd (never_done _ _ is zero);
      fleet_cut = λ six asked. elim (cut_status _ _ is six) [
        | inl zero ↦ fleet_cut _ _ _ _ _ _ (main.fleet_keeps zero asked) flushed
        | inr same ↦ cut_fleet_kept _ _ _ _ _ _ (main.fleet_cut same asked) flushed
      ];
      fleet_untouched = main.fleet_untouched;
      source_unread = main.source_unread;
    }
