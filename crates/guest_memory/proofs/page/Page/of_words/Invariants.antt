use Rattle.std.proofs.Common.{◌≡◌, ◌<◌, ℕ, length, get_or, Some, None}
use Rattle.guest_memory.proofs.page.Page.of_words.Given as goal

abbrev pub invariant-loop-i : goal.invariant-loop-i
invariant-loop-i l = record {
  length_is : length l.known ≡ 512;
  known : (k : ℕ) → k < l.i → get_or l.known k None ≡ Some (get_or l.words k 0);
}
