use Rattle.std.proofs.Common.{arith, ap, ◌∙◌}
use Rattle.entry_cells.proofs.StepLaws.{opened, give_word, fits_at, given_at, carried_one, pair_is}
use Rattle.atomic_table.specs.Table.{rest}
use Rattle.entry_cells.proofs.steps.give_word.Goals as goal

pub load-requires : goal.load-requires
load-requires g c = let q = c.requires.seat in (q.same, omega (arith, q.many_words, c.requires.exists), opened _ _ _ _ _ _ _ _ _ _ _ _ q.live q.nothing_out c.requires.holds c.requires.exists)

pub swap-requires : goal.swap-requires
swap-requires g c = let q = c.requires.seat in let is = c.exchange.ensures.3 in let opens = c.load.ensures.2 in let e = ap (λ m. m.0) is ∙ ap (λ m. m.0) opens in (
  c.exchange.ensures.0 ∙ c.load.ensures.0 ∙ q.same,
  omega (arith, q.many_words, c.requires.exists),
  give_word _ _ _ _ _ _ _ _ g.T.Kept.untouched_stands _ _ _ _ c.args.lodged (ap (λ v. v.opening) e ∙ q.live) (ap (λ v. v.out) e) (carried_one _ _ _ (ap (λ m. m.1) is))
      (fits_at g.T.Kept.legal g.T.Kept.stands g.T.Kept.touches g.J.Journal.opening g.J.Journal.list c.args.board.now.key.cells c.args.board.now.key.actors (g.J.Journal.opening c.args.board.now.key.journal.value) c.args.seat.now.me.0 _ c.args.at c.args.lodged e c.requires.fits),
)

pub returns-clause-given : goal.returns-clause-given
returns-clause-given g c = let q = c.requires.seat in let is = c.exchange.ensures.3 in let opens = c.load.ensures.2 in let e = ap (λ m. m.0) is ∙ ap (λ m. m.0) opens in
    c.swap.ensures.2 c.args.lodged (carried_one _ _ _ (ap (λ m. m.1) is)) ∙ pair_is _ _ _ _ (given_at g.T.Kept.legal g.T.Kept.stands g.T.Kept.touches g.J.Journal.opening g.J.Journal.list c.args.board.now.key.cells c.args.board.now.key.actors (g.J.Journal.opening c.args.board.now.key.journal.value) c.args.seat.now.me.0 _ c.args.at c.args.lodged e)
    (ap (λ m. rest m.1) is ∙ ap (λ m. rest m.1) opens ∙ q.no_slot)
