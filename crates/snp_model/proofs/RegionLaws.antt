-- What a written word leaves of a region's words.
use Rattle.std.proofs.Common.{◌≡◌, ℕ, List, [], ap, ◌∙◌, set}
use Rattle.std.proofs.lemmas.List.{set-get_or}
use Rattle.snp_model.specs.RegionWords.{page_at, word_at, word_set}

-- writing the word that is there changes nothing
pub word_set_same : (pages : List (List ℕ)) (page index : ℕ) → word_set pages page index (word_at pages page index) ≡ pages
word_set_same pages page index =
    ap (λ words. set pages page words) (set-get_or (page_at pages page) index 0) ∙ set-get_or pages page []
