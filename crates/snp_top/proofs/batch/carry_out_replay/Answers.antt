use Rattle.std.proofs.Common.{Some, refl, arith}
use Rattle.snp_top.specs.declared.words.Asked.TheVariants as asks
use Rattle.snp_top.proofs.BatchLaws.{comes_report}
use Rattle.snp_top.proofs.ExitLaws.{stops_there}
use Rattle.snp_top.proofs.batch.carry_out_replay.Goals as goal

pub report-requires : goal.report-requires
report-requires g c =
    let version = c.in-Ok.ensures.version in
    let short = c.in-Ok.ensures.short in
    record { version = version; short = omega arith }

pub returns-in-Ok-clause-came : goal.returns-in-Ok-clause-came
returns-in-Ok-clause-came g c = comes_report c.report.result _ _ c.in-Ok.played c.in-Ok.ensures.answer c.report.ensures.written

pub returns-in-Err-clause-came : goal.returns-in-Err-clause-came
returns-in-Err-clause-came g c = stops_there (Some asks.Replay) c.in-Err.fault _ _ c.in-Err.ensures.answer (refl, refl)
