use Rattle.theory.proofs.Sure.{sure_decided, sure_bound, sure_means, never_forced, sure_move_some, sure_move_lower, reply_some}
use Rattle.theory.proofs.sure_ranks_mean_strategies.Goals as goal

pub returns : goal.returns
returns c = record {
  decided = sure_decided;
  bound = sure_bound;
  means = sure_means;
  never = never_forced;
  some_move = sure_move_some;
  lower = sure_move_lower;
  reply = reply_some;
}
