use Rattle.std.proofs.Common.{◌≡◌, List, ℕ, ap, ◌∙◌, arith}
use Rattle.snp_model.specs.RegionWords.{word_at}
use Rattle.phys_memory.proofs.PageLaws.{word_out}
use Rattle.phys_memory.proofs.region.Region.load.Goals as goal

pub returns-else-page-len : goal.returns-else-page-len
returns-else-page-len c = record {
  value = word_out c.self.inside.pages.items c.args.page c.args.index (omega arith) c.requires.page_below c.requires.index_below ∙ ap (λ (ps : List (List ℕ)). word_at ps c.args.page c.args.index) c.self.view_is;
}
