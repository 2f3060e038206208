use Rattle.std.proofs.Common.{◌∙◌, sym, ap}
use Rattle.snp_model.specs.Aes.{add_round_key, shift_rows, sub_bytes}
use Rattle.aes_block.specs.Columns.{words_of}
use Rattle.aes_block.proofs.RoundLaws.{no_round, one_more_round}
use Rattle.aes_block.proofs.rounds.enciphered.Goals as goal

pub returns : goal.returns
returns c =
    let w = words_of c.args.schedule.now in
    let b = c.args.block.now in
    let s0 = c.first_state-state.ensures ∙ sym (no_round w b) in
    let s1 = one_more_round w b 0 _ _ s0 c.middle_round-state.ensures in
    let s2 = one_more_round w b 1 _ _ s1 c.middle_round-state-2.ensures in
    let s3 = one_more_round w b 2 _ _ s2 c.middle_round-state-3.ensures in
    let s4 = one_more_round w b 3 _ _ s3 c.middle_round-state-4.ensures in
    let s5 = one_more_round w b 4 _ _ s4 c.middle_round-state-5.ensures in
    let s6 = one_more_round w b 5 _ _ s5 c.middle_round-state-6.ensures in
    let s7 = one_more_round w b 6 _ _ s6 c.middle_round-state-7.ensures in
    let s8 = one_more_round w b 7 _ _ s7 c.middle_round-state-8.ensures in
    let s9 = one_more_round w b 8 _ _ s8 c.middle_round-state-9.ensures in
    let s10 = one_more_round w b 9 _ _ s9 c.middle_round-state-10.ensures in
    let s11 = one_more_round w b 10 _ _ s10 c.middle_round-state-11.ensures in
    let s12 = one_more_round w b 11 _ _ s11 c.middle_round-state-12.ensures in
    let s13 = one_more_round w b 12 _ _ s12 c.middle_round-state-13.ensures in
    c.block_of.ensures ∙ c.last_round.ensures ∙ ap (λ s. add_round_key (shift_rows (sub_bytes s)) w 14) s13
