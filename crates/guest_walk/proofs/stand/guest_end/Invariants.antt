use Rattle.std.proofs.Common.{◌≡◌, ◌<◌, ◌≤◌, ◌^◌, drop}
use Rattle.snp_model.specs.declared.walk.GuestEnd.TheVariants.{Read}
use Rattle.snp_model.specs.GuestWalk.{guest_index, guest_walk_from, guest_end}
use Rattle.guest_walk.proofs.stand.guest_end.Given as goal

abbrev pub invariant-words : goal.invariant-words
invariant-words l = record {
  low : 1 ≤ l.level;
  high : l.level ≤ 5;
  inside : l.table < 2 ^ 36;
  stands : guest_end l.path l.words ≡ guest_walk_from l.path l.level (Read l.table (guest_index l.path.address l.level)) (drop l.word-index l.words);
}
