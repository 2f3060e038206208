use Rattle.std.proofs.Common.{Some, refl}
use Rattle.snp_top.specs.declared.words.Asked.TheVariants as asks
use Rattle.snp_top.proofs.ExitLaws.{stops_there}
use Rattle.snp_top.proofs.measuring.carry_out_measure.Goals as goal

pub returns-in-Err-clause-came : goal.returns-in-Err-clause-came
returns-in-Err-clause-came g c = stops_there (Some asks.Measure) c.in-Err.fault _ _ c.in-Err.ensures.cause (refl, refl)
