use Rattle.std.proofs.Common.{◌≡◌, ℕ, List, length, arith, length-append}
use Rattle.sha2.proofs.Facts512.{length-sha384}
use Rattle.snp_model.specs.Measurement.{page_info, page_contents}
use Rattle.launch_digest.proofs.digest.length_of_page_info.Goals as goal

-- the field CONTENTS has 48 bytes
length-page_contents : (page_type : ℕ) (words : List ℕ) → length (page_contents page_type words) ≡ 48
unfolding page_contents
length-page_contents page_type words = grind (arith, length-sha384)

pub returns : goal.returns
unfolding page_info
returns c = λ digest page is_48. grind (arith, length-append {A = ℕ}, length-page_contents)
