-- Small games of which every verdict is known.
use Rattle.std.specs.Prelude.{◌≡◌, ℕ, ◌+◌, ◌*◌, Bool, true, false, cond, ◌&&◌, List, [], ◌∷◌, length, Some, None, Option, ◌==◌, nat_eq, slice_index}
use Rattle.game.specs.Below.{below, bit, elem}
use Rattle.game.specs.Games.{Game}
use Rattle.game.specs.declared.player.Player.{Player}
use Rattle.game.specs.declared.player.Player.TheVariants.{One, Two}
use Rattle.theory.specs.Positions.{Position, Playable}
use Rattle.theory.specs.Verdicts.{Reply}
use Rattle.theory.specs.Computed.{sure_rank, sure_set, almost_rank, almost_set, told}

-- A game with the move sets listed for its states, the same for both players. A state is possible next where both moves are there and it
-- passes the test.
abbrev pub game_of : List ℕ → (ℕ → ℕ → ℕ → ℕ → Bool) → Game
game_of sets leads = record {
  size = length sets;
  choices = λ _ s. slice_index sets s;
  support = λ s a b. below (λ t. bit (slice_index sets s) a && (bit (slice_index sets s) b && leads s a b t)) (length sets);
}

-- the position in which all moves are kept
abbrev pub all_kept : Game → (ℕ → Bool) → Position
all_kept g target = record { game = g; kept = g.choices; target = target }

-- Hide, safe, wet and home are 0 to 3. At 0 the moves (0, 0), (0, 1), (1, 0) and (1, 1) lead to 0, 1, 3 and 2.
abbrev pub hide_next : ℕ → ℕ → ℕ → ℕ
hide_next s a b = cond (s == 0) (slice_index (0 ∷ 1 ∷ 3 ∷ 2 ∷ []) (2 * a + b)) (slice_index (0 ∷ 3 ∷ 2 ∷ 3 ∷ []) s)

abbrev pub hide_game : Game
hide_game = game_of (3 ∷ 1 ∷ 1 ∷ 1 ∷ []) (λ s a b t. nat_eq t (hide_next s a b))

abbrev pub hide : Position
hide = all_kept hide_game (λ s. nat_eq s 3)

-- move 1 of player 2 is barred at 0
abbrev pub barred_sets : Player → List ℕ
barred_sets One = 3 ∷ 1 ∷ 1 ∷ 1 ∷ []
barred_sets Two = 1 ∷ 1 ∷ 1 ∷ 1 ∷ []

abbrev pub hide_barred : Position
hide_barred = record { game = hide_game; kept = λ p s. slice_index (barred_sets p) s; target = λ s. (s == 3) }

-- no state is a target, and every state is
abbrev pub hide_nowhere : Position
hide_nowhere = all_kept hide_game (λ _. false)

abbrev pub hide_anywhere : Position
hide_anywhere = all_kept hide_game (λ _. true)

-- equal moves at 0 lead to 1, and unequal ones to 0
abbrev pub pennies : Position
pennies = all_kept (game_of (3 ∷ 1 ∷ []) (λ s a b t. nat_eq t (cond (s == 0) (cond (a == b) 1 0) 1))) (λ s. nat_eq s 1)

-- the one move at 0 can lead to 0 and to 1
abbrev pub chance : Position
chance = all_kept (game_of (1 ∷ 1 ∷ []) (λ s a b t. elem t (cond (s == 0) (0 ∷ 1 ∷ []) (1 ∷ [])))) (λ s. nat_eq s 1)

-- the supports of the moves (0, 0), (0, 1), (1, 0) and (1, 1) at a state, and of the moves at a state where both players have move 0 alone
abbrev pub Supports : Game → ℕ → List ℕ → List ℕ → List ℕ → List ℕ → Type 0
Supports g s xs ys zs ws = (g.support s 0 0 ≡ xs) × (g.support s 0 1 ≡ ys) × (g.support s 1 0 ≡ zs) × (g.support s 1 1 ≡ ws)

abbrev pub Alone : Game → ℕ → List ℕ → Type 0
Alone g s xs = (g.choices One s ≡ 1) × (g.choices Two s ≡ 1) × (g.support s 0 0 ≡ xs)

-- the rank of a state and the set of moves handed out there, in mode sure and in mode almost
abbrev pub InSure : Position → ℕ → Option ℕ → ℕ → Type 0
InSure x s rank set = (sure_rank x s ≡ rank) × (sure_set x s ≡ set)

abbrev pub InAlmost : Position → ℕ → Option ℕ → ℕ → Type 0
InAlmost x s rank set = (almost_rank x s ≡ rank) × (almost_set x s ≡ set)

abbrev pub InBoth : Position → ℕ → Option ℕ → ℕ → Type 0
InBoth x s rank set = InSure x s rank set × InAlmost x s rank set

-- Each position is playable and has these supports, and these are the numbers of sure states, of almost-sure states and of outer rounds,
-- and the verdicts at its states.
pub record Known : Type 0 where
  pub playable : Playable hide × Playable hide_barred × Playable hide_nowhere × Playable hide_anywhere × Playable pennies × Playable chance
  pub hide_supports : Supports hide_game 0 (0 ∷ []) (1 ∷ []) (3 ∷ []) (2 ∷ []) × Alone hide_game 1 (3 ∷ []) × Alone hide_game 2 (2 ∷ []) × Alone hide_game 3 (3 ∷ [])
  pub pennies_supports : Supports pennies.game 0 (1 ∷ []) (0 ∷ []) (0 ∷ []) (1 ∷ []) × Alone pennies.game 1 (1 ∷ [])
  pub chance_supports : Alone chance.game 0 (0 ∷ 1 ∷ []) × Alone chance.game 1 (1 ∷ [])
  pub hide_told : told hide ≡ (2, 2, 2)
  pub hide_states : InBoth hide 0 None 0 × InBoth hide 1 (Some 1) 1 × InBoth hide 2 None 0 × InBoth hide 3 (Some 0) 0
  pub barred_told : told hide_barred ≡ (3, 3, 1)
  pub barred_first : InSure hide_barred 0 (Some 1) 2 × InAlmost hide_barred 0 (Some 1) 3
  pub nowhere_told : told hide_nowhere ≡ (0, 0, 1)
  pub anywhere_told : told hide_anywhere ≡ (4, 4, 0)
  pub pennies_told : told pennies ≡ (1, 2, 0)
  pub pennies_states : InSure pennies 0 None 0 × InAlmost pennies 0 (Some 1) 3 × InBoth pennies 1 (Some 0) 0
  pub chance_told : told chance ≡ (1, 2, 0)
  pub chance_first : InSure chance 0 None 0 × InAlmost chance 0 (Some 1) 1
  -- the one reply to move 1 at 0 is move 1, which leads to 2
  pub hide_reply : Reply hide 0 1 1 2
  pub hide_one_reply : (b t : ℕ) → Reply hide 0 1 b t → (b ≡ 1) × (t ≡ 2)
