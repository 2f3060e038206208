use Rattle.snp_model.specs.Outside.{Adds, AddsPrefix}
use Rattle.snp_model.proofs.SoundLaws.{valid_is_sound}
use Rattle.snp_top.proofs.WholeLaws.{whole_kept, whole_reported, whole_short}
use Rattle.snp_top.proofs.run.report_ended.Goals as goal

pub write_report-requires-clause-version : goal.write_report-requires-clause-version
write_report-requires-clause-version g c =
    let sound = valid_is_sound c.args.scenario.now c.requires.valid in
    (sound.version_some, sound.version_most)

pub write_report-requires-clause-short : goal.write_report-requires-clause-short
write_report-requires-clause-short g c = whole_short c.args.scenario.now _ c.requires.valid c.requires.whole

pub returns-in-Ok-clause-answer : goal.returns-in-Ok-clause-answer
returns-in-Ok-clause-answer g c = whole_reported c.args.scenario.now _ (Adds _ _) c.requires.valid c.requires.whole c.in-Ok.ensures.text

pub returns-in-Err-clause-answer : goal.returns-in-Err-clause-answer
returns-in-Err-clause-answer g c = (whole_reported c.args.scenario.now _ (AddsPrefix _ _) c.requires.valid c.requires.whole c.in-Err.ensures.text, c.in-Err.ensures.cause)

pub returns-in-Ok-clause-kept : goal.returns-in-Ok-clause-kept
returns-in-Ok-clause-kept g c = whole_kept c.args.scenario.now _ (Adds _ _) c.requires.valid c.requires.whole c.in-Ok.ensures.text

pub returns-in-Err-clause-cut : goal.returns-in-Err-clause-cut
returns-in-Err-clause-cut g c = whole_kept c.args.scenario.now _ (AddsPrefix _ _) c.requires.valid c.requires.whole c.in-Err.ensures.text
