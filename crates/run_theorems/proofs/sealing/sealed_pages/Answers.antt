use Rattle.snp_model.specs.Metadata.{metadata_entry, page_entry}
use Rattle.run_theorems.proofs.SealedPages.{sealed_opens}
use Rattle.run_theorems.proofs.sealing.sealed_pages.Goals as goal

pub returns-clause-page : goal.returns-clause-page
returns-clause-page c = λ context facts words keys are. sealed_opens context (page_entry context facts) words keys are

pub returns-clause-metadata : goal.returns-clause-metadata
returns-clause-metadata c = λ context words keys are. sealed_opens context (metadata_entry context) words keys are
