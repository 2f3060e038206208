use Rattle.guest_walk.proofs.GuestReadsLaws.{guest_walk_is, only_guest_walk, guest_reads-push, guest_leaf_permits}
use Rattle.guest_walk.proofs.law.guest_walk_laws.Goals as goal

pub returns : goal.returns
returns c = record {
  any_words = guest_walk_is;
  only_these = only_guest_walk;
  one_more = guest_reads-push;
  leaf = guest_leaf_permits;
}
