use Rattle.snp_top.proofs.ExitLaws.{exit_where_nothing, exit_words_line}
use Rattle.snp_top.proofs.WordLaws.{asked_drill, batch_unread, drawn_unread, none_unread, asked_gen, asked_measure, asked_replay, asked_run, drill_asked, gen_asked, measure_asked, no_threads_run, none_asks, none_is, replay_asked, run_asked, threads_not}
use Rattle.std.proofs.Common.{refl}
use Rattle.snp_top.proofs.laws.asking_words.Goals as goal

pub returns : goal.returns
returns c = record {
  replay_words = λ words. (replay_asked words, asked_replay words);
  run_words = λ words. (run_asked words, asked_run words);
  measure_words = λ words. (measure_asked words, asked_measure words);
  gen_words = λ words number. (gen_asked words number, asked_gen words number);
  drill_words = λ words number. (drill_asked words number, asked_drill words number);
  no_words = λ words. (none_asks words, none_is words);
  drawn_unread = λ words number asked. drawn_unread words number asked;
  none_unread = λ words none. none_unread words none;
  batch_unread = λ words none. batch_unread words none;
  without_run = λ words is. no_threads_run words is;
  others = λ words is. threads_not words is;
  nothing_asked = λ status before now exits. (exit_where_nothing exits refl, exit_words_line exits (exit_where_nothing exits refl));
}
