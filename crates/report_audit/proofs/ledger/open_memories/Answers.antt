use Rattle.std.proofs.Common.{List, length, ap, arith}
use Rattle.snp_model.specs.declared.scenario.GuestSpec.{GuestSpec}
use Rattle.report_audit.proofs.OrderLaws.{memories_more}
use Rattle.report_audit.proofs.ledger.open_memories.Goals as goal

pub guests-preserved : goal.guests-preserved
guests-preserved c =
    let within = c.guests-test.true in
    let few = c.guests.invariant.0 in
    let same = ap (λ (xs : List GuestSpec). length xs) c.as_slice-guest-items.ensures in (
      omega (arith, within, few, same),
      memories_more c.args.scenario.now c.guests.number c.args.scenario.now.guests c.guests._guest-index c.guests.memories.items c.in_ok-build.field-0 c.push.new.self.items _ (omega (arith, within, same)) c.in_ok-push.ensures.items c.in_ok-build.ensures c.guests.invariant.1,
    )
