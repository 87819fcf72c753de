-- The position that a source and entries stand for, where `game` says which game a source means.
use Rattle.game.specs.Games.{Game}
use Rattle.theory.specs.Positions.{Position}
use Rattle.solver.specs.Entries.{position_of}
use Rattle.solver.specs.declared.position.Position.{Position as Sourced}

abbrev pub meant : {S : Type 0} → (S → Game) → Sourced S → Position
meant game x = position_of (game x.source.now) x.entries.now.at
