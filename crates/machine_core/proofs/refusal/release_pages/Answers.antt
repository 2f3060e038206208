use Rattle.std.proofs.Common.{◌∙◌, arith}
use Rattle.machine_core.specs.declared.taken_lock.TakenLock.{TakenLock}
use Rattle.machine_core.proofs.ReleaseLaws.{let_go_all, let_go_next, lock_frame_has}
use Rattle.machine_core.proofs.refusal.release_pages.Goals as goal

no_lock : TakenLock
no_lock = record { frame = 0; base = 0; count = 0 }

pub release-requires : goal.release-requires
unfolding no_lock
release-requires g c = record { has = lock_frame_has c.args.locks.now c.locks.lock-index no_lock (g.P.Parts.stock c.locks.parts) c.locks-test.true c.locks.invariant.has }

pub locks-preserved : goal.locks-preserved
unfolding no_lock
locks-preserved g c = record {
  has = g.met.P.Parts.kept_has _ _ c.release.ensures.kept _ c.locks.invariant.has;
  pages = c.release.ensures.pages ∙ c.locks.invariant.pages;
  contexts = c.release.ensures.contexts ∙ c.locks.invariant.contexts;
  locks = let_go_next c.args.number c.args.locks.now c.locks.lock-index no_lock _ _ c.locks-test.true c.release.ensures.locks ∙ c.locks.invariant.locks;
  kept = g.met.P.Parts.kept_twice _ _ _ c.locks.invariant.kept c.release.ensures.kept;
}

pub returns-clause-locks : goal.returns-clause-locks
returns-clause-locks g c = let_go_all c.args.number c.args.locks.now c.locks.lock-index _ _ (omega (arith, c.locks-test.false)) c.locks.invariant.locks
