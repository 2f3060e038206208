use Rattle.snp_top.proofs.MeasureLaws.{input_measured}
use Rattle.snp_top.proofs.measuring.read_digest.Goals as goal

pub returns-in-Err-clause-cause : goal.returns-in-Err-clause-cause
returns-in-Err-clause-cause g c = input_measured _ _ _ _ c.in-Err.fault c.in-Err.ensures.cause
