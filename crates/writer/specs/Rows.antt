-- The bytes of a row for one move of player 1.
use Rattle.std.specs.Prelude.{ℕ, List}
use Rattle.std.specs.List.{flat_map}
use Rattle.game.specs.Below.{below, bit}
use Rattle.game.specs.Games.{Game}
use Rattle.game.specs.declared.player.Player.TheVariants.{Two}
use Rattle.layout.specs.Writing.{set_bytes}

-- the support of two moves
unfoldable pub support_bytes : Game → ℕ → ℕ → ℕ → List ℕ
support_bytes g s a b = set_bytes (g.support s a b)

-- the supports of the move a, for each b upward
unfoldable pub replies : Game → ℕ → ℕ → List ℕ
replies g s a = flat_map (support_bytes g s a) (below (bit (g.choices Two s)) 8)
