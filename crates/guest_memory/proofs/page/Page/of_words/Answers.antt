use Rattle.std.proofs.Common.{◌∙◌, rules}
use Rattle.guest_memory.proofs.PagesLaws.{all_known}
use Rattle.guest_memory.proofs.page.Page.of_words.Goals as goal

pub returns : goal.returns
returns c =
    let keeps = c.loop-i.invariant in
    let ends = c.loop-i-test.false in
    c.in_ok-words.ensures.ok ∙ all_known c.loop-i.known c.args.words.now (search rules) (λ k below. keeps.known k (search rules))
