use Rattle.theory.proofs.Known.{known}
use Rattle.known.proofs.OneMove.{one_move}
use Rattle.known.proofs.OneState.{one_state_cases}
use Rattle.known.proofs.known_cases.Goals as goal

pub returns : goal.returns
returns c = record { games = known; only_move = one_move; records = one_state_cases }
