-- Lists of ranks, and what they say of layers: place s of such a list holds the rank of state s, if it has one.
use Rattle.std.specs.Prelude.{◌≡◌, ℕ, ◌≤◌, Bool, true, false, List, Some, None, Option, nat_le, slice_index_or}
use Rattle.game.specs.Below.{bit}
use Rattle.game.specs.declared.mode.Mode.{Mode}
use Rattle.theory.specs.Layers.{Enters}
use Rattle.theory.specs.Positions.{Position}
use Rattle.theory.specs.Verdicts.{Forced, Sure, Touches, Level}
use Rattle.theory.specs.Benches.{Rank, Handed}

-- the rank of s, none past the end of the list
abbrev pub rank_at : List (Option ℕ) → ℕ → Option ℕ
rank_at ranks s = slice_index_or ranks s None

-- whether there is a rank, and it is at most k
abbrev pub up_to : ℕ → Option ℕ → Bool
up_to k None = false
up_to k (Some r) = nat_le r k

-- the states with a rank up to k
abbrev pub Within : List (Option ℕ) → ℕ → ℕ → Type 0
Within ranks k s = up_to k (rank_at ranks s) ≡ true

-- The layers that ranks are told of: those of sure ranks, or the levels of the set of all states that have a rank in a given list.
-- A rank is a byte, so a state with a rank has one up to 255.
abbrev pub step_of : Position → Option (List (Option ℕ)) → (ℕ → Type 0) → ℕ → Type 0
step_of x None = Forced x
step_of x (Some outer) = Touches x (Within outer 255)

abbrev pub layers_of : Position → Option (List (Option ℕ)) → ℕ → ℕ → Type 0
layers_of x None = Sure x
layers_of x (Some outer) = Level x (Within outer 255)

-- what the rank of s says of the layers up to k: it enters there at its rank, or is in none of them
abbrev pub RankUpto : (ℕ → ℕ → Type 0) → ℕ → ℕ → Option ℕ → Type 0
RankUpto layers k s None = layers k s → ⊥
RankUpto layers k s (Some r) = (r ≤ k) × Enters layers r s

-- what it says of all layers
abbrev pub RankFull : (ℕ → ℕ → Type 0) → ℕ → Option ℕ → Type 0
RankFull layers s None = (k : ℕ) → layers k s → ⊥
RankFull layers s (Some r) = Enters layers r s

-- what a verdict on s says: its rank in the mode, or that it has none
abbrev pub RankSays : Position → Mode → ℕ → Option ℕ → Type 0
RankSays x mode s None = (r : ℕ) → Rank x mode r s → ⊥
RankSays x mode s (Some r) = Rank x mode r s

-- a set of moves is the one handed out at s
abbrev pub MovesSay : Position → Mode → ℕ → ℕ → Type 0
MovesSay x mode s c = (a : ℕ) → (bit c a ≡ true → Handed x mode s a) × (Handed x mode s a → bit c a ≡ true)
