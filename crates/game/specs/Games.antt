-- What a game is.
use Rattle.std.specs.Prelude.{◌≡◌, ℕ, suc, ◌<◌, ◌≤◌, true, List, [], ◌∷◌, length}
use Rattle.game.specs.declared.player.Player.{Player}
use Rattle.game.specs.declared.player.Player.TheVariants.{One, Two}
use Rattle.game.specs.Below.{bit}

-- A game has the states 0 to size - 1. The choices of a player at a state are a set of moves, one bit for each move;
-- the support of a state, a move of player 1 and a move of player 2 lists the possible next states.
pub record Game : Type 0 where
  pub size : ℕ
  pub choices : Player → ℕ → ℕ
  pub support : ℕ → ℕ → ℕ → List ℕ

-- an ascending list of numbers from m up, all below n
abbrev pub Ascends : ℕ → ℕ → List ℕ → Type 0
Ascends m n [] = Unit {0}
Ascends m n (x ∷ xs) = (m ≤ x) × (x < n) × Ascends (suc x) n xs

-- player 1 has the move a at s, and player 2 the move b
abbrev pub Chosen : Game → ℕ → ℕ → ℕ → Type 0
Chosen g s a b = (bit (g.choices One s) a ≡ true) × (bit (g.choices Two s) b ≡ true)

pub record WellFormed (g : Game) : Type 0 where
  pub some_state : 1 ≤ g.size
  pub few_states : g.size ≤ 256
  -- at each state each player has a move, out of 0 to 7
  pub some_move : (p : Player) (s : ℕ) → s < g.size → 1 ≤ g.choices p s
  pub few_moves : (p : Player) (s : ℕ) → g.choices p s < 256
  pub no_move : (p : Player) (s : ℕ) → g.size ≤ s → g.choices p s ≡ 0
  -- a support is a nonempty set of states, listed in ascending order
  pub some_next : (s a b : ℕ) → Chosen g s a b → 1 ≤ length (g.support s a b)
  pub ascends : (s a b : ℕ) → Ascends 0 g.size (g.support s a b)
  pub no_next : (s a b : ℕ) → (Chosen g s a b → ⊥) → g.support s a b ≡ []

-- two games that every question tells the same of
pub record Same (g h : Game) : Type 0 where
  pub size : g.size ≡ h.size
  pub choices : (p : Player) (s : ℕ) → g.choices p s ≡ h.choices p s
  pub support : (s a b : ℕ) → g.support s a b ≡ h.support s a b
