use Rattle.snp_top.proofs.ProgramLaws as laws
use Rattle.snp_top.proofs.laws.complete_commands.Goals as goal

pub returns : goal.returns
returns c = record {
  replay_complete = λ words status before now exits. laws.replay_complete words exits;
  run_complete = λ words status before now exits. laws.run_complete words exits;
  digest_complete = λ words status before now exits. laws.digest_complete words exits;
  drawn_complete = λ words status before now exits. laws.drawn_complete words exits;
}
