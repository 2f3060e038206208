use Rattle.std.proofs.Common.{Some, refl}
use Rattle.snp_top.specs.declared.words.Asked.TheVariants as asks
use Rattle.snp_top.proofs.CommandLaws.{comes_run}
use Rattle.snp_top.proofs.ExitLaws.{stops_there}
use Rattle.snp_top.proofs.program.carry_out_run.Goals as goal

pub returns-in-Ok-clause-came : goal.returns-in-Ok-clause-came
returns-in-Ok-clause-came g c = comes_run c.run.result c.in-Ok.scenario _ _ c.in-Ok.ensures.said c.run.ensures.answer

pub returns-in-Err-clause-came : goal.returns-in-Err-clause-came
returns-in-Err-clause-came g c = stops_there (Some asks.Run) c.in-Err.fault _ _ (c.in-Err.ensures.no_turn, c.in-Err.ensures.cause) (refl, refl)
