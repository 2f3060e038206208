use Rattle.std.proofs.Common.{refl}
use Rattle.std.proofs.lemmas.Result.{err_from_is_err_and}
use Rattle.snp_model.proofs.Adding.{left_at_first, left_after, prefix_after, writes_last}
use Rattle.outside_port.proofs.HoldingLaws.{holds_at_first, holds_after, holds_last}
use Rattle.report_text.proofs.Lines.{report_is}
use Rattle.report_text.proofs.report.write_report.Goals as goal

pub returns-in_err-write_head-clause-text : goal.returns-in_err-write_head-clause-text
returns-in_err-write_head-clause-text g c =
    let p = err_from_is_err_and c.from_residual.result c.from_residual.ensures.1 in
    rw p.1 (prefix_after _ _ _ _ _ _ _ (left_at_first _ _) c.in_err-write_head.ensures.text (report_is c.args.version c.args.journal.now.list c.args.guests.now.items))

pub returns-in_err-write_events-clause-text : goal.returns-in_err-write_events-clause-text
returns-in_err-write_events-clause-text g c =
    let p = err_from_is_err_and c.from_residual-in_err-write_events.result c.from_residual-in_err-write_events.ensures.1 in
    let events = left_after _ _ _ _ _ _ _ (left_at_first _ _) c.in_ok-write_head.ensures.text (report_is c.args.version c.args.journal.now.list c.args.guests.now.items) in
    rw p.1 (prefix_after _ _ _ _ _ _ _ events c.in_err-write_events.ensures.text refl)

pub returns-in_err-write_order-clause-text : goal.returns-in_err-write_order-clause-text
returns-in_err-write_order-clause-text g c =
    let p = err_from_is_err_and c.from_residual-in_err-write_order.result c.from_residual-in_err-write_order.ensures.1 in
    let events = left_after _ _ _ _ _ _ _ (left_at_first _ _) c.in_ok-write_head.ensures.text (report_is c.args.version c.args.journal.now.list c.args.guests.now.items) in
    let order = left_after _ _ _ _ _ _ _ events c.in_ok-write_events.ensures.text refl in
    rw p.1 (prefix_after _ _ _ _ _ _ _ order c.in_err-write_order.ensures.text refl)

pub returns-in_err-write_guests-clause-text : goal.returns-in_err-write_guests-clause-text
returns-in_err-write_guests-clause-text g c =
    let p = err_from_is_err_and c.from_residual-in_err-write_guests.result c.from_residual-in_err-write_guests.ensures.1 in
    let events = left_after _ _ _ _ _ _ _ (left_at_first _ _) c.in_ok-write_head.ensures.text (report_is c.args.version c.args.journal.now.list c.args.guests.now.items) in
    let order = left_after _ _ _ _ _ _ _ events c.in_ok-write_events.ensures.text refl in
    let guests = left_after _ _ _ _ _ _ _ order c.in_ok-write_order.ensures.text refl in
    rw p.1 (prefix_after _ _ _ _ _ _ _ guests c.in_err-write_guests.ensures.text refl)

pub returns-clause-text : goal.returns-clause-text
returns-clause-text g c =
    let events = left_after _ _ _ _ _ _ _ (left_at_first _ _) c.in_ok-write_head.ensures.text (report_is c.args.version c.args.journal.now.list c.args.guests.now.items) in
    let order = left_after _ _ _ _ _ _ _ events c.in_ok-write_events.ensures.text refl in
    let guests = left_after _ _ _ _ _ _ _ order c.in_ok-write_order.ensures.text refl in
    let end = left_after _ _ _ _ _ _ _ guests c.in_ok-write_guests.ensures.text refl in
    writes_last _ _ _ _ _ _ end (rw c.len.ensures at c.write_end.ensures.text)

pub returns-clause-held : goal.returns-clause-held
returns-clause-held g c =
    let events = holds_after _ _ _ _ _ _ _ (holds_at_first _ _) c.in_ok-write_head.ensures.held (report_is c.args.version c.args.journal.now.list c.args.guests.now.items) in
    let order = holds_after _ _ _ _ _ _ _ events c.in_ok-write_events.ensures.held refl in
    let guests = holds_after _ _ _ _ _ _ _ order c.in_ok-write_order.ensures.held refl in
    let end = holds_after _ _ _ _ _ _ _ guests c.in_ok-write_guests.ensures.held refl in
    holds_last _ _ (g.K.Sink.holds c.write_end.new.sink) _ _ _ end (rw c.len.ensures at c.write_end.ensures.held)
