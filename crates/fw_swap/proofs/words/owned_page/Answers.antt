use Rattle.std.proofs.Common.{◌≡◌, ◌∙◌, ℕ, ◌∷◌, false, sym, ap, arith, below_more}
use Rattle.snp_model.specs.Measurement.{page_bytes}
use Rattle.snp_model.specs.Metadata.{entry_at, entry_from, is_owned}
use Rattle.snp_model.specs.RegionWords.{page_at}
use Rattle.snp_model.proofs.MetadataLaws.{owned_all, owned_at, owned_not}
use Rattle.fw_swap.proofs.words.owned_page.Goals as goal

-- the first entry that another owns
foreign : (c : goal.Then-not-is_owned) → is_owned c.args.asid (entry_at (page_at c.args.memory.now c.args.page) c.loop-number.number) ≡ false
foreign c =
    sym (owned_at (page_at c.args.memory.now c.args.page) c.args.asid c.loop-number.number c.is_owned.result (c.whole.ensures.words_count c.args.page c.requires) (omega arith)
    (λ rest. c.is_owned.ensures rest ∙ ap (λ (first : ℕ). is_owned c.args.asid (entry_from (page_bytes (first ∷ rest)))) c.load.ensures.value))
    ∙ c.if-not-is_owned.true

pub returns-then-not-is_owned : goal.returns-then-not-is_owned
returns-then-not-is_owned c = sym (owned_not (page_at c.args.memory.now c.args.page) c.args.asid c.loop-number.number (omega arith) (foreign c))

pub loop-number-preserved : goal.loop-number-preserved
loop-number-preserved c =
    below_more _ _ c.loop-number.invariant
    (sym (owned_at (page_at c.args.memory.now c.args.page) c.args.asid c.loop-number.number c.is_owned.result (c.whole.ensures.words_count c.args.page c.requires) (omega arith)
    (λ rest. c.is_owned.ensures rest ∙ ap (λ (first : ℕ). is_owned c.args.asid (entry_from (page_bytes (first ∷ rest)))) c.load.ensures.value))
    ∙ c.if-not-is_owned.false)

pub returns : goal.returns
returns c = sym (owned_all (page_at c.args.memory.now c.args.page) c.args.asid (λ number below. c.loop-number.invariant number (omega arith)))
