use Rattle.snp_top.proofs.ProgramLaws as laws
use Rattle.snp_top.proofs.laws.command_outputs.Goals as goal

pub returns : goal.returns
returns c = record {
  digest_written = λ words status before now exits. laws.digest_written words exits;
  scenario_drawn = λ words status before now exits. laws.scenario_drawn words exits;
  drill_written = λ words status before now exits. laws.drill_written words exits;
  report_cut = λ words status before now exits. laws.report_cut words exits;
  digest_cut = λ words status before now exits. laws.digest_cut words exits;
  scenario_cut = λ words status before now exits. laws.scenario_cut words exits;
  drill_cut = λ words status before now exits. laws.drill_cut words exits;
}
