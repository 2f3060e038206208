use Rattle.snp_top.proofs.CauseLaws.{input_cause, input_no_turn, made_cause, made_no_turn}
use Rattle.snp_top.proofs.replay.read.Goals as goal

pub returns-in-Err-clause-cause : goal.returns-in-Err-clause-cause
returns-in-Err-clause-cause g c = input_cause _ _ _ _ c.in-Err.fault c.in-Err.ensures.cause

pub returns-in-Err-clause-no_turn : goal.returns-in-Err-clause-no_turn
returns-in-Err-clause-no_turn g c = input_no_turn _ _ _ _ c.in-Err.fault c.in-Err.ensures.cause

pub returns-clause-cause : goal.returns-clause-cause
returns-clause-cause g c = made_cause _ _ _ _ c.in-Ok.text.items c.as_slice.result.now c.in-Err-read_scenario.fault c.from.result c.from.ensures c.in-Ok.ensures.all c.as_slice.ensures.value c.in-Ok.ensures.short c.in-Err-read_scenario.ensures

pub returns-clause-no_turn : goal.returns-clause-no_turn
returns-clause-no_turn g c = made_no_turn c.in-Err-read_scenario.fault c.from.result c.from.ensures
