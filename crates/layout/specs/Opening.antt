-- What opening a table on bytes does, and the game that a table shows before its first opening.
use Rattle.std.specs.Prelude.{ℕ, cond, ◌&&◌, List, [], ◌∷◌, ◌==◌}
use Rattle.game.specs.Games.{Game, Same}
use Rattle.game.specs.Refusals.{Told}
use Rattle.layout.specs.Writing.{Records}
use Rattle.layout.specs.Faults.{BadRecord}

-- The bytes are the record of the game that is shown then, and of no other.
pub record Opened (bs : List ℕ) (shows : Game) : Type 0 where
  pub record_of_it : Records bs shows
  pub no_other : (g : Game) → Records bs g → Same g shows

-- The bytes are no game's record, or are too long, and the fault told is the one that stands first.
pub record NotOpened (bs : List ℕ) (t : Told) : Type 0 where
  pub first_fault : BadRecord bs t
  pub no_record : (g : Game) → Records bs g → ⊥

-- the game with one state and move 0 for both players
abbrev pub one_state : Game
one_state =
    record {
      size = 1;
      choices = λ p s. cond (s == 0) 1 0;
      support = λ s a b. cond (s == 0 && a == 0 && b == 0) (0 ∷ []) [];
    }
