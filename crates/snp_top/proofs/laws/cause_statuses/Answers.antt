use Rattle.snp_top.proofs.ProgramLaws as laws
use Rattle.snp_top.proofs.laws.cause_statuses.Goals as goal

pub returns : goal.returns
returns c = record {
  scenario_refused_where = λ words status before now exits. laws.scenario_refused_where words exits;
  pages_refused_where = λ words status before now exits. laws.pages_refused_where words exits;
  limit_passed_where = λ words status before now exits. laws.limit_passed_where words exits;
  pages_too_long_where = λ words status before now exits. laws.pages_too_long_where words exits;
  schedule_refused_where = λ words status before now exits. laws.schedule_refused_where words exits;
}
