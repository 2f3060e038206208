use Rattle.machine_core.proofs.ComputeLaws.{sealed_made}
use Rattle.machine_core.proofs.compute.seal.Goals as goal

pub returns-in-GuestPage : goal.returns-in-GuestPage
returns-in-GuestPage c = sealed_made c.args.what _ c.args.context.now.context c.args.entry.now c.args.words.now c.seal_page.new.words c.seal_page.result c.in-GuestPage.is c.seal_page.ensures.entry c.seal_page.ensures.ciphertext

pub returns-in-MetadataPage : goal.returns-in-MetadataPage
returns-in-MetadataPage c = sealed_made c.args.what _ c.args.context.now.context c.args.entry.now c.args.words.now c.seal_metadata.new.words c.seal_metadata.result c.in-MetadataPage.is c.seal_metadata.ensures.entry c.seal_metadata.ensures.ciphertext
