use Rattle.std.proofs.Common.{◌≡◌, ℕ, ◌+◌, ◌*◌, ◌<◌, length, get_or}
use Rattle.snp_model.specs.RegionWords.{page_at}
use Rattle.meta_page.proofs.page.slot.Given as goal

abbrev pub invariant-loop-i : goal.invariant-loop-i
invariant-loop-i l =
    (length l.words ≡ 8) × ((k : ℕ) → k < l.i → get_or l.words k 0 ≡ get_or (page_at l.memory l.page) (8 * l.number + k) 0)
