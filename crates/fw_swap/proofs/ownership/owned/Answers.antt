use Rattle.std.proofs.Common.{◌≡◌, ◌∙◌, false, sym, arith, below_more, rules}
use Rattle.std.proofs.lemmas.Bool.{false≢true}
use Rattle.snp_model.specs.Metadata.{entry_at, is_owned}
use Rattle.snp_model.proofs.MetadataLaws.{entry_owned, owned_all, owned_at, owned_entry, owned_not}
use Rattle.fw_swap.proofs.ownership.owned.Goals as goal

-- the first entry that another owns
foreign : (c : goal.Then-not-is_owned) → is_owned c.args.asid (entry_at c.args.words.now c.loop-number.number) ≡ false
foreign c = sym (owned_at c.args.words.now c.args.asid c.loop-number.number c.is_owned.result (search rules) (omega arith) c.is_owned.ensures) ∙ c.if-not-is_owned.true

pub returns-then-not-is_owned-clause-owned : goal.returns-then-not-is_owned-clause-owned
returns-then-not-is_owned-clause-owned c = sym (owned_not c.args.words.now c.args.asid c.loop-number.number (omega arith) (foreign c))

pub returns-then-not-is_owned-clause-each : goal.returns-then-not-is_owned-clause-each
returns-then-not-is_owned-clause-each c = (
  λ impossible. absurd (false≢true impossible),
  λ each. absurd (false≢true (sym (foreign c) ∙ entry_owned c.args.asid (entry_at c.args.words.now c.loop-number.number) (each c.loop-number.number (omega arith)))),
)

pub loop-number-preserved : goal.loop-number-preserved
loop-number-preserved c =
    below_more _ _ c.loop-number.invariant
    (sym (owned_at c.args.words.now c.args.asid c.loop-number.number c.is_owned.result (search rules) (omega arith) c.is_owned.ensures) ∙ c.if-not-is_owned.false)

pub returns-clause-owned : goal.returns-clause-owned
returns-clause-owned c = sym (owned_all c.args.words.now c.args.asid (λ number below. c.loop-number.invariant number (omega arith)))

pub returns-clause-each : goal.returns-clause-each
returns-clause-each c = (
  λ _ number below. owned_entry c.args.asid (entry_at c.args.words.now number) (c.loop-number.invariant number (omega arith)),
  λ _. search rules,
)
