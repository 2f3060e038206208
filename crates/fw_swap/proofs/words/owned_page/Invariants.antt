use Rattle.std.proofs.Common.{◌≡◌, ℕ, ◌<◌, true}
use Rattle.snp_model.specs.Metadata.{entry_at, is_owned}
use Rattle.snp_model.specs.RegionWords.{page_at}
use Rattle.fw_swap.proofs.words.owned_page.Given as goal

abbrev pub invariant-loop-number : goal.invariant-loop-number
invariant-loop-number l = (k : ℕ) → k < l.number → is_owned l.asid (entry_at (page_at l.memory l.page) k) ≡ true
