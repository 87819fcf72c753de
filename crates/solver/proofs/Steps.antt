-- Steps to the next level.
use Rattle.std.proofs.Common.{ℕ, List, Some, None, Option}
use Rattle.theory.specs.Positions.{Position}
use Rattle.theory.specs.Ranking.{step_of, layers_of}
use Rattle.theory.proofs.Ranking.{Inside, Layered, layers_layered}
use Rattle.solver.specs.Steps.{AllStates}

pub states_inside : (x : Position) (set : Option (List (Option ℕ))) → AllStates x set → Inside x set
states_inside x None h = tt
states_inside x (Some ranks) h = h

pub states_layered : (x : Position) (set : Option (List (Option ℕ))) → AllStates x set → Layered x.game.size (step_of x set) (layers_of x set)
states_layered x set h = layers_layered x set (states_inside x set h)
