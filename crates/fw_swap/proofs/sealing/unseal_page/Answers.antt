use Rattle.std.proofs.Common.{◌≡◌, ◌≢◌, ◌∙◌, Err, ap, sym}
use Rattle.std.proofs.lemmas.Bool.{false≢true}
use Rattle.snp_model.specs.declared.event.FwRefusal.TheVariants.{BadTag}
use Rattle.snp_model.specs.Metadata.{found_tag, opened_words}
use Rattle.fw_swap.proofs.SealingLaws.{found_by, opened_by, opened_ok, opened_not}
use Rattle.fw_swap.proofs.sealing.unseal_page.Goals as goal

same_tag : (c : goal.After-write_words) → found_tag c.args.context.now.context.key c.args.entry.now c.args.words.now ≡ c.args.entry.now.tag
same_tag c =
    sym (found_by c.args.context.now.context.key _ _ _ c.args.words.now _ c.args.entry.now c.key.ensures c.iv_of.ensures c.aad_of.ensures c.write_bytes.ensures)
    ∙ c.in-Ok.ensures.same_tag

plaintext : (c : goal.After-write_words) → c.write_words.new.words ≡ opened_words c.args.context.now.context.key c.args.entry.now c.args.words.now
plaintext c =
    opened_by c.args.context.now.context.key _ _ _ c.args.words.now _ _ c.args.entry.now c.key.ensures c.iv_of.ensures c.write_bytes.ensures c.in-Ok.ensures.plaintext c.write_words.ensures

pub returns-in-Ok-clause-opened : goal.returns-in-Ok-clause-opened
returns-in-Ok-clause-opened c = λ _. opened_ok c.args.context.now.context c.args.entry.now c.args.words.now c.write_words.new.words (same_tag c) (plaintext c)

pub returns-in-Ok-clause-same_tag : goal.returns-in-Ok-clause-same_tag
returns-in-Ok-clause-same_tag c = same_tag c

pub returns-in-Ok-clause-plaintext : goal.returns-in-Ok-clause-plaintext
returns-in-Ok-clause-plaintext c = plaintext c

-- the tag that is found
found : (c : goal.After-bad_tag) → c.in-Err.differs.found ≡ found_tag c.args.context.now.context.key c.args.entry.now c.args.words.now
found c =
    c.in-Err.ensures.tags.0
    ∙ found_by c.args.context.now.context.key _ _ _ c.args.words.now _ c.args.entry.now c.key.ensures c.iv_of.ensures c.aad_of.ensures c.write_bytes.ensures

-- it isn't the one that was kept
differ : (c : goal.After-bad_tag) → found_tag c.args.context.now.context.key c.args.entry.now c.args.words.now ≢ c.args.entry.now.tag
differ c = λ same. false≢true (c.in-Err.ensures.accepts (sym c.in-Err.ensures.tags.0 ∙ found c ∙ same))

refusal_is : (c : goal.After-bad_tag) → c.bad_tag.result ≡ BadTag (found_tag c.args.context.now.context.key c.args.entry.now c.args.words.now) c.args.entry.now.tag
refusal_is c = c.bad_tag.ensures ∙ (λ i. BadTag (found c i) (c.in-Err.ensures.tags.1 i))

pub returns-in-Err-clause-accepts : goal.returns-in-Err-clause-accepts
returns-in-Err-clause-accepts c = λ same. absurd (differ c same)

pub returns-in-Err-clause-tags : goal.returns-in-Err-clause-tags
returns-in-Err-clause-tags c = refusal_is c

pub returns-in-Err-clause-refused : goal.returns-in-Err-clause-refused
returns-in-Err-clause-refused c = λ refusal is.
    let same : c.bad_tag.result ≡ refusal = cc in
    opened_not c.args.context.now.context c.args.entry.now c.args.words.now (differ c) ∙ ap Err (sym (refusal_is c) ∙ same)
