use Rattle.snp_model.proofs.SoundLaws.{valid_is_sound}
use Rattle.guest_memory.proofs.OpeningLaws.{all_placed, are_within}
use Rattle.guest_memory.proofs.memory.GuestMemory.build.Goals as goal

pub open_all-requires-clause-pages : goal.open_all-requires-clause-pages
open_all-requires-clause-pages c = rw (c.as_slice.ensures) (all_placed c.args.scenario.now (valid_is_sound c.args.scenario.now c.requires))

pub open_all-requires-clause-words : goal.open_all-requires-clause-words
open_all-requires-clause-words c = rw (c.as_slice-2.ensures) (are_within _ c.args.scenario.now.words (valid_is_sound c.args.scenario.now c.requires).words)
