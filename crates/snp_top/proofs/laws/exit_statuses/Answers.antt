use Rattle.snp_top.proofs.ProgramLaws as laws
use Rattle.snp_top.proofs.laws.exit_statuses.Goals as goal

pub returns : goal.returns
returns c = record {
  statuses = λ words status before now exits. laws.statuses words exits;
  words_refused = λ words status before now exits. laws.words_refused words exits;
  words_line = λ words status before now exits. laws.words_line words exits;
  scenario_refused = λ words status before now exits. laws.scenario_refused words exits;
  pages_refused = λ words status before now exits. laws.pages_refused words exits;
  limit_passed = λ words status before now exits. laws.limit_passed words exits;
  pages_too_long = λ words status before now exits. laws.pages_too_long words exits;
  read_failed = λ words status before now exits. laws.read_failed words exits;
  read_stopped = λ words status before now exits. laws.read_stopped words exits;
  read_line = λ words status before now exits. laws.read_line words exits;
  write_failed = λ words status before now exits. laws.write_failed words exits;
  memory_line = λ words status before now exits. laws.memory_line words exits;
  schedule_refused = λ words status before now exits. laws.schedule_refused words exits;
  run_has_no_schedule = λ words status before now exits. laws.run_has_no_schedule words exits;
  pages_have_no_schedule = λ words status before now exits. laws.pages_have_no_schedule words exits;
  drawn_statuses = λ words status before now exits. laws.drawn_statuses words exits;
}
