-- When what a bench holds is right.
use Rattle.std.specs.Prelude.{◌≡◌, ℕ, ◌<◌, Bool, true, List}
use Rattle.game.specs.Games.{Game}
use Rattle.game.specs.declared.mode.Mode.{Mode}
use Rattle.theory.specs.Positions.{Playable}
use Rattle.theory.specs.Ranking.{RankSays, MovesSay}
use Rattle.solver.specs.Entries.{verdict_in, position_of, rank_of, moves_of}
use Rattle.solver.specs.declared.entries.Entry.{Entry}

-- Only moves of the game are kept, and each player keeps one at each state; the verdicts of a solved bench are those of its position.
pub record Sound (g : Game) (entries : List Entry) (solved : Bool) : Type 0 where
  pub playable : Playable (position_of g entries)
  pub ranks : solved ≡ true → (mode : Mode) (s : ℕ) → s < g.size → RankSays (position_of g entries) mode s (rank_of (verdict_in entries mode s))
  pub moves : solved ≡ true → (mode : Mode) (s : ℕ) → s < g.size → MovesSay (position_of g entries) mode s (moves_of (verdict_in entries mode s))
