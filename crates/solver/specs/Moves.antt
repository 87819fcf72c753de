-- Where a set of moves can lead.
use Rattle.std.specs.Prelude.{◌≡◌, ℕ, suc, true, List, Some, Option}
use Rattle.game.specs.Below.{bit}
use Rattle.game.specs.declared.player.Player.TheVariants.{Two}
use Rattle.theory.specs.Positions.{Position, Keeps, Leads}
use Rattle.theory.specs.Ranking.{rank_at, Within}
use Rattle.theory.specs.Verdicts.{Stay}

-- whatever player 2 replies at s, some move of the set can lead into X
abbrev pub CanLead : Position → ℕ → (ℕ → Type 0) → ℕ → Type 0
CanLead x moves X s = (b : ℕ) → Keeps x Two s b → (a : ℕ) × (bit moves a ≡ true) × ((t : ℕ) × Leads x s a b t × X t)

-- the rank of s is above 0, and the move a leads into lower ranks, whatever player 2 replies
abbrev pub LowerMove : Position → List (Option ℕ) → ℕ → ℕ → Type 0
LowerMove x ranks s a = (r : ℕ) × (rank_at ranks s ≡ Some (suc r)) × Stay x (Within ranks r) s a
