use Rattle.std.proofs.Common.{◌-◌, ◌≤◌, vec_len}
use Rattle.snp_model.specs.Outside.{Takes}
use Rattle.snp_top.proofs.input.read_text.Given as goal

abbrev pub invariant-pieces : goal.invariant-pieces
invariant-pieces g l = record {
  later : g.S.Source.faults l.initial.source ≤ g.S.Source.faults l.source;
  taken : Takes (g.S.Source.left l.initial.source) (g.S.Source.left l.source) l.text.items;
  short : vec_len l.text ≤ 4_194_305;
}

abbrev pub decreases-pieces : goal.decreases-pieces
decreases-pieces g l = 4_194_305 - vec_len l.text
