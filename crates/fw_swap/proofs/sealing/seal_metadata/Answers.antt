use Rattle.std.proofs.Common.{rules}
use Rattle.snp_model.specs.Metadata.{metadata_entry}
use Rattle.fw_swap.proofs.sealing.seal_metadata.Goals as goal

pub returns : goal.returns
unfolding metadata_entry
returns c = search rules
