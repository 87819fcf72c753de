-- Which states can come next after which.
use Rattle.std.specs.Prelude.{◌≡◌, ℕ, ◌+◌, ◌<◌, Bool, true, false, List, [], slice_index_or}
use Rattle.game.specs.declared.player.Player.TheVariants.{One, Two}
use Rattle.theory.specs.Positions.{Position, Keeps, Leads}

-- whether s is noted among the states before t
abbrev pub link : List (List Bool) → ℕ → ℕ → Bool
link before s t = slice_index_or (slice_index_or before t []) s false

-- each successor under kept moves is noted
abbrev pub Linked : Position → List (List Bool) → Type 0
Linked x before = (s a b t : ℕ) → Keeps x One s a → Keeps x Two s b → Leads x s a b t → link before s t ≡ true

-- no state without a mark enters at k + 1
abbrev pub Spares : (ℕ → ℕ → Type 0) → ℕ → List Bool → Type 0
Spares layers k marks = (s : ℕ) → s < 256 → slice_index_or marks s false ≡ false → layers (k + 1) s → layers k s
