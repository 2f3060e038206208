use Rattle.std.proofs.Common.{rules}
use Rattle.std.proofs.lemmas.List.FromFn.{fill_by_all}
use Rattle.snp_model.specs.ScenarioLines.{key_byte}
use Rattle.report_text.proofs.pieces.tag_bytes.Goals as goal

pub returns : goal.returns
returns c = fill_by_all (key_byte c.args.word.now) c.loop-k.tag 16 0 c.loop-k.invariant.0 (search rules)
