use Rattle.std.proofs.Common.{rules, arith, sym, subst, ap, ◌∙◌}
use Rattle.std.specs.Prelude.{IsSome}
use Rattle.atomic_table.specs.Table.{rest}
use Rattle.entry_cells.proofs.EntryLaws.{some_is}
use Rattle.entry_cells.specs.Rule.{Lies}
use Rattle.entry_cells.specs.Views.{with_none_out}
use Rattle.entry_cells.proofs.StepLaws.{take_word, shut, same_slot, carried_one}
use Rattle.entry_cells.proofs.steps.take_word.Goals as goal

pub compare_exchange-found-requires : goal.compare_exchange-found-requires
compare_exchange-found-requires g c = let q = c.requires.seat in (search rules, omega (arith, q.many_words, c.requires.exists), take_word _ _ _ _ _ _ _ _ _ _ _ _ _ q.many_slots q.live q.nothing_out (c.requires.actor ∙ sym c.from.ensures) c.requires.exists c.requires.lacks)

pub exchange-requires : goal.exchange-requires
exchange-requires g c = let q = c.requires.seat in let comes = c.compare_exchange-found.ensures.2.0 c.if-found-ne0.false _ _ q.many_slots q.live in
    (c.compare_exchange-found.ensures.0 ∙ q.same, (_, carried_one _ _ _ comes.6.1))

pub unwrap-lodged-requires : goal.unwrap-lodged-requires
unwrap-lodged-requires g c = let q = c.requires.seat in let comes = c.compare_exchange-found.ensures.2.0 c.if-found-ne0.false _ _ q.many_slots q.live in
    subst IsSome (same_slot _ _ _ _ _ _ _ comes.6.1 c.exchange.ensures.2) (search rules)

pub load-requires : goal.load-requires
load-requires g c = let q = c.requires.seat in let comes = c.compare_exchange-found.ensures.2.0 c.if-found-ne0.false _ _ q.many_slots q.live in let is = c.exchange.ensures.3 in (
  c.exchange.ensures.0 ∙ c.compare_exchange-found.ensures.0 ∙ q.same,
  omega (arith, q.many_words, c.requires.exists),
  shut _ _ _ _ _ _ _ _ _ _ _ _ (ap (λ m. m.0.opening) is ∙ ap (λ v. v.opening) comes.1 ∙ q.live) (ap (λ m. m.0.out) is ∙ ap (λ v. v.out) comes.1) (carried_one _ _ _ (ap (λ m. m.1) is)) c.requires.exists,
)

pub returns-clause-taken : goal.returns-clause-taken
returns-clause-taken g c = let q = c.requires.seat in let comes = c.compare_exchange-found.ensures.2.0 c.if-found-ne0.false _ _ q.many_slots q.live in let is = c.exchange.ensures.3 in let shuts = c.load.ensures.2 in let unwrapped = c.unwrap-lodged.ensures in record {
  log = comes.0;
  view = ap (λ m. m.0) shuts ∙ ap (λ m. with_none_out m.0) is ∙ ap (λ v. with_none_out v) comes.1;
  no_slot = ap (λ m. m.1) shuts ∙ ap (λ m. rest m.1) is ∙ ap (λ m. rest m) comes.6.1 ∙ q.no_slot;
  legal_log = comes.2;
  grows = comes.3;
  own = comes.4;
  holds = comes.5;
  lies = subst (λ y. Lies g.T.Kept.stands g.J.Journal.opening g.J.Journal.list c.args.board.now.key.cells (g.J.Journal.opening c.args.board.now.key.journal.value) comes.0 c.args.at y) (some_is _ _ (same_slot _ _ _ _ _ _ _ comes.6.1 c.exchange.ensures.2 ∙ unwrapped)) comes.6.2;
}
