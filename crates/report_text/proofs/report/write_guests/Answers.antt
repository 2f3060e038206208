use Rattle.std.proofs.Common.{List, ap, ◌∙◌, arith}
use Rattle.std.proofs.lemmas.List.{drop_all}
use Rattle.std.proofs.lemmas.Result.{err_from_is_err_and}
use Rattle.snp_model.specs.declared.report.GuestLine.{GuestLine}
use Rattle.snp_model.specs.Report.{guest_lines}
use Rattle.snp_model.proofs.Adding.{left_after, left_done, prefix_after}
use Rattle.outside_port.proofs.HoldingLaws.{holds_after, holds_done}
use Rattle.report_text.proofs.Lines.{guest_at, no_guests}
use Rattle.report_text.proofs.report.write_guests.Goals as goal

pub returns-in_err-write_guest-clause-text : goal.returns-in_err-write_guest-clause-text
returns-in_err-write_guest-clause-text g c =
    let p = err_from_is_err_and c.from_residual.result c.from_residual.ensures.1 in
    rw p.1 (prefix_after _ _ _ _ _ _ _ c.loop-guest.invariant.left c.in_err-write_guest.ensures.text (guest_at _ _ c.loop-guest.guest-index _ c.deref-guest-items.ensures.value c.loop-guest-test.true))

pub loop-guest-preserved : goal.loop-guest-preserved
loop-guest-preserved g c = record {
  later = omega arith;
  left = left_after _ _ _ _ _ _ _ c.loop-guest.invariant.left c.in_ok-write_guest.ensures.text (guest_at _ _ c.loop-guest.guest-index _ c.deref-guest-items.ensures.value c.loop-guest-test.true);
  held = holds_after _ _ _ _ _ _ _ c.loop-guest.invariant.held c.in_ok-write_guest.ensures.held (guest_at _ _ c.loop-guest.guest-index _ c.deref-guest-items.ensures.value c.loop-guest-test.true);
}

pub returns-clause-text : goal.returns-clause-text
returns-clause-text g c = left_done _ _ _ _ (ap (λ (guests : List GuestLine). guest_lines guests) (drop_all c.loop-guest.guest-index c.args.guests.now.items (omega arith)) ∙ no_guests) c.loop-guest.invariant.left

pub returns-clause-held : goal.returns-clause-held
returns-clause-held g c = holds_done _ _ _ _ (ap (λ (guests : List GuestLine). guest_lines guests) (drop_all c.loop-guest.guest-index c.args.guests.now.items (omega arith)) ∙ no_guests) c.loop-guest.invariant.held
