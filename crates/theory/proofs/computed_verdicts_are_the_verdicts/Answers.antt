use Rattle.theory.proofs.Computed.{sure_lists, sure_rank_some, sure_rank_none, sure_set_holds, outer_lists, rounds_holds, almost_lists, almost_rank_some, almost_rank_none, almost_set_holds, replies_hold}
use Rattle.theory.proofs.computed_verdicts_are_the_verdicts.Goals as goal

pub returns : goal.returns
returns c = record {
  sure = λ x ok. sure_lists ok;
  sure_rank = λ x ok s. (λ r. sure_rank_some ok r s, sure_rank_none ok s);
  sure_moves = λ x ok. sure_set_holds ok;
  outer = λ x ok. outer_lists ok;
  rounds = λ x ok. rounds_holds ok;
  almost = λ x ok. almost_lists ok;
  almost_rank = λ x ok s. (λ r. almost_rank_some ok r s, almost_rank_none ok s);
  almost_moves = λ x ok. almost_set_holds ok;
  reply = λ x ok. replies_hold ok;
}
