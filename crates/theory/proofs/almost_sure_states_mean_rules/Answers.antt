use Rattle.theory.proofs.Almost.{almost_means, ranked_almost, almost_bound, almost_rank_one, almost_decided, almost_move_some, sure_almost}
use Rattle.theory.proofs.Rounds.{rounds_exist, rounds_unique, rounds_le}
use Rattle.theory.proofs.almost_sure_states_mean_rules.Goals as goal

pub returns : goal.returns
returns c =
    record {
      rounds = λ x ok. (rounds_exist x ok, rounds_unique x, λ j h. rounds_le ok j h);
      decided = almost_decided;
      bound = λ x ok r s h. (ranked_almost x r s h, almost_bound x ok r s h, λ q k. almost_rank_one x ok q r s k h);
      means = almost_means;
      sure = sure_almost;
      moves = almost_move_some;
    }
