use Rattle.theory.proofs.Benches.{bench_law, verdict_law, call_answered}
use Rattle.theory.proofs.OneAnswer.{one_answer}
use Rattle.theory.proofs.runs_of_calls_keep_their_word.Goals as goal

pub returns : goal.returns
returns c =
    record {
      law = λ g ok calls answers b run. (bench_law g ok run, λ s l. verdict_law g ok run s l);
      once = λ g ok calls answers b run call v w c d. one_answer g (bench_law g ok run).playable;
      answered = λ g ok calls answers b run. call_answered g b (bench_law g ok run).playable;
    }
