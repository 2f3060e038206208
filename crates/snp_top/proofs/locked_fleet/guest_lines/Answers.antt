use Rattle.std.proofs.Common.{◌+◌, ◌≤◌, ◌<◌, [], ◌∷◌, length, sym, subst, ap, ◌∙◌, arith, ℕ}
use Rattle.std.proofs.lemmas.List.{length-append}
use Rattle.machine_board.specs.Boards.{board_state}
use Rattle.snp_model.specs.Ending.{lines_of}
use Rattle.snp_top.proofs.ReplayLaws.{lines_pushed}
use Rattle.snp_top.proofs.locked_fleet.guest_lines.Goals as goal

pub guests-preserved : goal.guests-preserved
guests-preserved c =
    let m = board_state c.args.board.now in
    let within : c.guests.k < length m.guests = let test = c.guests-test.true in let count = c.guests-count.ensures in omega arith in
    record {
      lines = lines_pushed m.contents.contexts m.guests c.guests.k c.guests.guests.items c.push_reserved.new.self.items (lines_of m) c.guest_line.result within c.guests.invariant.lines c.guest_line.ensures c.push_reserved.ensures.items;
      counted = ap length c.push_reserved.ensures.items ∙ length-append c.guests.guests.items (c.guest_line.result ∷ []) ∙ ap (λ (n : ℕ). n + 1) c.guests.invariant.counted;
      room = subst (λ (n : ℕ). length m.guests ≤ n) (sym c.push_reserved.ensures.capacity) c.guests.invariant.room;
    }
