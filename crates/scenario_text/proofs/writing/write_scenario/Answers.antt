use Rattle.std.proofs.Common.{refl}
use Rattle.std.proofs.lemmas.Result.{err_from_is_err_and}
use Rattle.snp_model.proofs.Adding.{left_at_first, left_after, prefix_after, writes_last}
use Rattle.scenario_text.proofs.WrittenLines.{parts_of_text}
use Rattle.scenario_text.proofs.writing.write_scenario.Goals as goal

pub returns-in_err-write_head-clause-text : goal.returns-in_err-write_head-clause-text
returns-in_err-write_head-clause-text g c =
    let p = err_from_is_err_and c.from_residual.result c.from_residual.ensures.1 in
    rw p.1 (prefix_after _ _ _ _ _ _ _ (left_at_first _ _) c.in_err-write_head.ensures.text (parts_of_text c.args.scenario.now))

pub returns-in_err-write_guests-clause-text : goal.returns-in_err-write_guests-clause-text
returns-in_err-write_guests-clause-text g c =
    let p = err_from_is_err_and c.from_residual-in_err-write_guests.result c.from_residual-in_err-write_guests.ensures.1 in
    let head = left_after _ _ _ _ _ _ _ (left_at_first _ _) c.in_ok-write_head.ensures.text (parts_of_text c.args.scenario.now) in
    rw p.1 (prefix_after _ _ _ _ _ _ _ head (rw c.as_slice.ensures at c.in_err-write_guests.ensures.text) refl)

pub returns-in_err-write_pages-clause-text : goal.returns-in_err-write_pages-clause-text
returns-in_err-write_pages-clause-text g c =
    let p = err_from_is_err_and c.from_residual-in_err-write_pages.result c.from_residual-in_err-write_pages.ensures.1 in
    let head = left_after _ _ _ _ _ _ _ (left_at_first _ _) c.in_ok-write_head.ensures.text (parts_of_text c.args.scenario.now) in
    let guests = left_after _ _ _ _ _ _ _ head (rw c.as_slice.ensures at c.in_ok-write_guests.ensures.text) refl in
    rw p.1 (prefix_after _ _ _ _ _ _ _ guests (rw c.as_slice-2.ensures at c.in_err-write_pages.ensures.text) refl)

pub returns-in_err-write_words-clause-text : goal.returns-in_err-write_words-clause-text
returns-in_err-write_words-clause-text g c =
    let p = err_from_is_err_and c.from_residual-in_err-write_words.result c.from_residual-in_err-write_words.ensures.1 in
    let head = left_after _ _ _ _ _ _ _ (left_at_first _ _) c.in_ok-write_head.ensures.text (parts_of_text c.args.scenario.now) in
    let guests = left_after _ _ _ _ _ _ _ head (rw c.as_slice.ensures at c.in_ok-write_guests.ensures.text) refl in
    let pages = left_after _ _ _ _ _ _ _ guests (rw c.as_slice-2.ensures at c.in_ok-write_pages.ensures.text) refl in
    rw p.1 (prefix_after _ _ _ _ _ _ _ pages (rw c.as_slice-3.ensures at c.in_err-write_words.ensures.text) refl)

pub returns-in_err-write_actors-clause-text : goal.returns-in_err-write_actors-clause-text
returns-in_err-write_actors-clause-text g c =
    let p = err_from_is_err_and c.from_residual-in_err-write_actors.result c.from_residual-in_err-write_actors.ensures.1 in
    let head = left_after _ _ _ _ _ _ _ (left_at_first _ _) c.in_ok-write_head.ensures.text (parts_of_text c.args.scenario.now) in
    let guests = left_after _ _ _ _ _ _ _ head (rw c.as_slice.ensures at c.in_ok-write_guests.ensures.text) refl in
    let pages = left_after _ _ _ _ _ _ _ guests (rw c.as_slice-2.ensures at c.in_ok-write_pages.ensures.text) refl in
    let words = left_after _ _ _ _ _ _ _ pages (rw c.as_slice-3.ensures at c.in_ok-write_words.ensures.text) refl in
    rw p.1 (prefix_after _ _ _ _ _ _ _ words (rw c.as_slice-4.ensures at c.in_err-write_actors.ensures.text) refl)

pub returns-in_err-write_order-clause-text : goal.returns-in_err-write_order-clause-text
returns-in_err-write_order-clause-text g c =
    let p = err_from_is_err_and c.from_residual-in_err-write_order.result c.from_residual-in_err-write_order.ensures.1 in
    let head = left_after _ _ _ _ _ _ _ (left_at_first _ _) c.in_ok-write_head.ensures.text (parts_of_text c.args.scenario.now) in
    let guests = left_after _ _ _ _ _ _ _ head (rw c.as_slice.ensures at c.in_ok-write_guests.ensures.text) refl in
    let pages = left_after _ _ _ _ _ _ _ guests (rw c.as_slice-2.ensures at c.in_ok-write_pages.ensures.text) refl in
    let words = left_after _ _ _ _ _ _ _ pages (rw c.as_slice-3.ensures at c.in_ok-write_words.ensures.text) refl in
    let actors = left_after _ _ _ _ _ _ _ words (rw c.as_slice-4.ensures at c.in_ok-write_actors.ensures.text) refl in
    rw p.1 (prefix_after _ _ _ _ _ _ _ actors (rw c.as_slice-5.ensures at c.in_err-write_order.ensures.text) refl)

pub returns-clause-text : goal.returns-clause-text
returns-clause-text g c =
    let head = left_after _ _ _ _ _ _ _ (left_at_first _ _) c.in_ok-write_head.ensures.text (parts_of_text c.args.scenario.now) in
    let guests = left_after _ _ _ _ _ _ _ head (rw c.as_slice.ensures at c.in_ok-write_guests.ensures.text) refl in
    let pages = left_after _ _ _ _ _ _ _ guests (rw c.as_slice-2.ensures at c.in_ok-write_pages.ensures.text) refl in
    let words = left_after _ _ _ _ _ _ _ pages (rw c.as_slice-3.ensures at c.in_ok-write_words.ensures.text) refl in
    let actors = left_after _ _ _ _ _ _ _ words (rw c.as_slice-4.ensures at c.in_ok-write_actors.ensures.text) refl in
    let order = left_after _ _ _ _ _ _ _ actors (rw c.as_slice-5.ensures at c.in_ok-write_order.ensures.text) refl in
    writes_last _ _ _ _ _ _ order c.write_all.ensures.text
