use Rattle.solver.specs.Entries.{blank}
use Rattle.solver.proofs.Filled.{get_or_filled}
use Rattle.solver.proofs.entries.Entries.blank.Goals as goal

pub returns : goal.returns
returns c s = get_or_filled 256 s blank
