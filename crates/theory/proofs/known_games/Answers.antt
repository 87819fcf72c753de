use Rattle.theory.proofs.Known.{known}
use Rattle.theory.proofs.known_games.Goals as goal

pub returns : goal.returns
returns c = known
