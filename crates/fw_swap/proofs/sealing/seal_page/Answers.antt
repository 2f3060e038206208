use Rattle.std.proofs.Common.{rules}
use Rattle.snp_model.specs.Metadata.{page_entry}
use Rattle.fw_swap.proofs.sealing.seal_page.Goals as goal

pub returns : goal.returns
unfolding page_entry
returns c = search rules
