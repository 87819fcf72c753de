-- The bytes of a set of states, of a row and of a record.
use Rattle.std.specs.Prelude.{◌≡◌, ℕ, ◌+◌, ◌-◌, ◌*◌, ◌≤◌, Bool, true, List, ◌∷◌, map, length, nat_lt}
use Rattle.std.specs.List.{flat_map}
use Rattle.game.specs.Below.{below, bit, byte, elem}
use Rattle.game.specs.Games.{Game, WellFormed}
use Rattle.game.specs.declared.player.Player.TheVariants.{One, Two}

-- the byte of group g: bit i stands for state 8 g + i
unfoldable pub group : List ℕ → ℕ → ℕ
group xs g = byte (λ i. elem (8 * g + i) xs)

-- whether group g has a state of the set
abbrev pub filled : List ℕ → ℕ → Bool
filled xs g = nat_lt 0 (group xs g)

-- byte j of the group map: bit i stands for group 8 j + i
unfoldable pub map_byte : List ℕ → ℕ → ℕ
map_byte xs j = byte (λ i. filled xs (8 * j + i))

-- a set: the four bytes of the group map, and then one byte for each group that the map has, lowest first
unfoldable pub set_bytes : List ℕ → List ℕ
set_bytes xs = map_byte xs 0 ∷ map_byte xs 1 ∷ map_byte xs 2 ∷ map_byte xs 3 ∷ map (group xs) (below (filled xs) 32)

-- a row: the two move sets, and then the supports, for each a upward and within it each b upward
unfoldable pub row_bytes : Game → ℕ → List ℕ
row_bytes g s =
    g.choices One s ∷ g.choices Two s ∷ flat_map (λ a. flat_map (λ b. set_bytes (g.support s a b)) (below (bit (g.choices Two s)) 8)) (below (bit (g.choices One s)) 8)

-- a table record: the number of states less one, and then the rows
unfoldable pub record_of : Game → List ℕ
record_of g = (g.size - 1) ∷ flat_map (row_bytes g) (below (λ _. true) g.size)

-- the bytes are the record of the game, and short enough to be opened
pub record Records (bs : List ℕ) (g : Game) : Type 0 where
  pub game : WellFormed g
  pub bytes : record_of g ≡ bs
  pub short : length bs ≤ 60000
