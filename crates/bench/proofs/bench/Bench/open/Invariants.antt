use Rattle.std.proofs.Common.{◌≡◌, ℕ, ◌<◌, false}
use Rattle.game.specs.declared.player.Player.{Player}
use Rattle.solver.specs.Entries.{kept_in, target_in}
use Rattle.bench.proofs.bench.Bench.open.Given as goal

-- the states so far keep all moves of the game, and no state is in the target
abbrev pub invariant-loop-state : goal.invariant-loop-state
invariant-loop-state g l =
    ((p : Player) (s : ℕ) → s < l.state → kept_in l.entries.at p s ≡ (g.S.Source.game l.source).choices p s)
    × ((s : ℕ) → target_in l.entries.at s ≡ false)
