-- The bytes of a set, given by the bytes of its 32 groups.
use Rattle.std.specs.Prelude.{◌≡◌, ℕ, ◌+◌, ◌*◌, ◌<◌, Bool, List, ◌∷◌, map, length, nat_lt, slice_index}
use Rattle.game.specs.Below.{below, byte}
use Rattle.layout.specs.Writing.{group}

-- the bytes of the 32 groups of a list of states
abbrev pub Gathers : List ℕ → List ℕ → Type 0
Gathers gs xs = (length gs ≡ 32) × ((g : ℕ) → g < 32 → slice_index gs g ≡ group xs g)

-- whether group g has a state
abbrev pub full : List ℕ → ℕ → Bool
full gs g = nat_lt 0 (slice_index gs g)

-- byte j of the group map: bit i stands for group 8 j + i
abbrev pub in_map : List ℕ → ℕ → ℕ → Bool
in_map gs j i = full gs (8 * j + i)

unfoldable pub map_of : List ℕ → ℕ → ℕ
map_of gs j = byte (in_map gs j)

-- the bytes of the groups below n that have a state
unfoldable pub groups_in : List ℕ → ℕ → List ℕ
groups_in gs n = map (λ g. slice_index gs g) (below (full gs) n)

-- the group map, and then the groups that have a state
unfoldable pub packed : List ℕ → List ℕ
packed gs = map_of gs 0 ∷ map_of gs 1 ∷ map_of gs 2 ∷ map_of gs 3 ∷ groups_in gs 32
