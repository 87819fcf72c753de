-- The product of a game with a monitor.
use Rattle.std.specs.Prelude.{ℕ, ◌+◌, ◌*◌, ◌/◌, ◌%◌, ◌<◌, List, map, length, slice_index}
use Rattle.game.specs.Games.{Game}

-- the state of the monitor after q, where a game of n states goes on to t
abbrev pub next : List ℕ → ℕ → ℕ → ℕ → ℕ
next table n q t = slice_index table (q * n + t)

-- next states of a game of n states, each with the next state of a monitor of m states that leaves q
abbrev pub paired : List ℕ → ℕ → ℕ → ℕ → List ℕ → List ℕ
paired table n m q = map (λ t. t * m + next table n q t)

-- The states are s * m + q, of a state s of the game and a state q of the monitor. The moves are those at s, and a next
-- state t of s becomes t * m + next q t.
abbrev pub product : Game → ℕ → List ℕ → Game
product g m table = record {
  size = g.size * m;
  choices = λ p x. g.choices p (x / m);
  support = λ x a b. paired table g.size m (x % m) (g.support (x / m) a b);
}

-- every entry is a state of the monitor
abbrev pub Entries : ℕ → List ℕ → Type 0
Entries m table = (k : ℕ) → k < length table → slice_index table k < m
