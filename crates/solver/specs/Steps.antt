-- Sets of states, told by ranks: those that have one.
use Rattle.std.specs.Prelude.{◌≡◌, ℕ, true, List, Some, None, Option, slice_index}
use Rattle.game.specs.Below.{bit}
use Rattle.theory.specs.Laws.{Exactly}
use Rattle.theory.specs.Positions.{Position, State}
use Rattle.theory.specs.Ranking.{Within}
use Rattle.theory.specs.Verdicts.{Stay}

-- the moves at each state of the set are those that stay in it
abbrev pub StaysIn : Position → List (Option ℕ) → List ℕ → Type 0
StaysIn x ranks stay = (s : ℕ) → Within ranks 255 s → (a : ℕ) → Exactly (bit (slice_index stay s) a ≡ true) (Stay x (Within ranks 255) s a)

-- the members of the set are states of the game
abbrev pub HasStates : Position → List (Option ℕ) → Type 0
HasStates x ranks = (s : ℕ) → Within ranks 255 s → State x s

-- the same where there is a set
abbrev pub AllStates : Position → Option (List (Option ℕ)) → Type 0
AllStates x None = Unit {0}
AllStates x (Some ranks) = HasStates x ranks
