use Rattle.std.proofs.Common.{ℕ, List, get_or, Option, None, sym, ap, ◌∙◌}
use Rattle.rmp_table.specs.declared.locks.FrameLock.{FrameLock}
use Rattle.rmp_table.specs.Locks.{holder_among, holder_by}
use Rattle.rmp_table.proofs.LockLaws.{holders_at}
use Rattle.rmp_table.proofs.locks.Locks.holder.Goals as goal

pub returns-in-Some : goal.returns-in-Some
returns-in-Some c =
    ap (λ (o : Option ℕ). holder_by o c.self.inside.single.items c.args.slot) (sym c.in-Some.is)
    ∙ sym (holders_at c.self.inside.every c.self.inside.single.items c.args.slot c.requires)
    ∙ ap (λ (hs : List (Option ℕ)). get_or hs c.args.slot None) c.self.view_is

pub returns-in-None : goal.returns-in-None
returns-in-None c =
    c.holder_among.ensures
    ∙ ap (λ (ls : List FrameLock). holder_among ls c.args.slot) c.deref.ensures.value
    ∙ ap (λ (o : Option ℕ). holder_by o c.self.inside.single.items c.args.slot) (sym c.in-None.is)
    ∙ sym (holders_at c.self.inside.every c.self.inside.single.items c.args.slot c.requires)
    ∙ ap (λ (hs : List (Option ℕ)). get_or hs c.args.slot None) c.self.view_is
