-- Layers of states, grown from a start set one step at a time.
use Rattle.std.specs.Prelude.{ℕ, zero, suc, ◌<◌, ◌⊎◌}

-- Layer 0 is the start set; a state enters layer k + 1 when the step takes it from the layers up to k.
-- `Upto start step k s` says that s is in a layer up to k.
abbrev pub Upto : (ℕ → Type 0) → ((ℕ → Type 0) → ℕ → Type 0) → ℕ → ℕ → Type 0
Upto start step zero s = start s
Upto start step (suc k) s = Upto start step k s ⊎ step (Upto start step k) s

-- s enters at k: it is in a layer up to k, and in none up to a lower number
abbrev pub Enters : (ℕ → ℕ → Type 0) → ℕ → ℕ → Type 0
Enters upto k s = upto k s × ((j : ℕ) → j < k → upto j s → ⊥)

-- k is the least number with P
abbrev pub Least : (ℕ → Type 0) → ℕ → Type 0
Least P k = P k × ((j : ℕ) → j < k → P j → ⊥)
