-- A position: a game, the moves that the players keep, and the target. Supports enter by membership alone.
use Rattle.std.specs.Prelude.{◌≡◌, ℕ, ◌<◌, ◌≤◌, Bool, true}
use Rattle.game.specs.Below.{bit, elem}
use Rattle.game.specs.Games.{Game, WellFormed}
use Rattle.game.specs.declared.player.Player.{Player}

pub record Position : Type 0 where
  pub game : Game
  -- the kept moves of a player at a state, one bit for each move
  pub kept : Player → ℕ → ℕ
  pub target : ℕ → Bool

module _ (x : Position) where
  -- s is a state of the game
  abbrev pub State : ℕ → Type 0
  State s = s < x.game.size

  -- the player keeps the move m at s
  abbrev pub Keeps : Player → ℕ → ℕ → Type 0
  Keeps p s m = bit (x.kept p s) m ≡ true

  -- the moves a of player 1 and b of player 2 can lead from s to t
  abbrev pub Leads : ℕ → ℕ → ℕ → ℕ → Type 0
  Leads s a b t = elem t (x.game.support s a b) ≡ true

  -- s is a state in the target
  abbrev pub Target : ℕ → Type 0
  Target s = State s × (x.target s ≡ true)

-- The game is well-formed, only moves that it has are kept, and each player keeps one at each state.
pub record Playable (x : Position) : Type 0 where
  pub valid : WellFormed x.game
  pub kept_had : (p : Player) (s m : ℕ) → Keeps x p s m → bit (x.game.choices p s) m ≡ true
  pub some_kept : (p : Player) (s : ℕ) → State x s → 1 ≤ x.kept p s
  pub few_kept : (p : Player) (s : ℕ) → x.kept p s < 256
