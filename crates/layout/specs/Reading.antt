-- What stands where in the bytes of a record, and the game that they show.
use Rattle.std.specs.Prelude.{◌≡◌, ℕ, zero, suc, ◌+◌, ◌*◌, ◌/◌, ◌%◌, ◌<◌, ◌≤◌, Bool, true, cond, ◌&&◌, List, [], length, nat_lt, slice_index}
use Rattle.game.specs.Below.{below, rank, bit}
use Rattle.game.specs.Games.{Game}
use Rattle.game.specs.declared.player.Player.{Player}
use Rattle.game.specs.declared.player.Player.TheVariants.{One, Two}

-- the byte at a place
abbrev pub at : List ℕ → ℕ → ℕ
at bs p = slice_index bs p

-- Of the set that begins at p: whether its map has group g, the place of that group's byte, and the place after the set.
unfoldable pub map_bit : List ℕ → ℕ → ℕ → Bool
map_bit bs p g = bit (at bs (p + g / 8)) (g % 8)

unfoldable pub group_place : List ℕ → ℕ → ℕ → ℕ
group_place bs p g = p + 4 + rank (map_bit bs p) g

unfoldable pub set_end : List ℕ → ℕ → ℕ
unfolding group_place
set_end bs p = group_place bs p 32

-- whether the set that begins at p has state s, and its states
unfoldable pub in_set : List ℕ → ℕ → ℕ → Bool
in_set bs p s = map_bit bs p (s / 8) && bit (at bs (group_place bs p (s / 8))) (s % 8)

unfoldable pub set_at : List ℕ → ℕ → List ℕ
set_at bs p = below (in_set bs p) 256

-- the place after k sets, one behind the other, of which the first begins at p
unfoldable pub sets_end : List ℕ → ℕ → ℕ → ℕ
sets_end bs p zero = p
sets_end bs p (suc k) = set_end bs (sets_end bs p k)

-- how many moves a move set has
unfoldable pub moves_in : ℕ → ℕ
moves_in c = rank (bit c) 8

-- how many supports the row that begins at p has, and the place after it
unfoldable pub row_sets : List ℕ → ℕ → ℕ
row_sets bs p = moves_in (at bs p) * moves_in (at bs (p + 1))

unfoldable pub row_end : List ℕ → ℕ → ℕ
row_end bs p = sets_end bs (p + 2) (row_sets bs p)

-- the place of the row of state s
unfoldable pub row_place : List ℕ → ℕ → ℕ
row_place bs zero = 1
row_place bs (suc s) = row_end bs (row_place bs s)

abbrev pub states_in : List ℕ → ℕ
states_in bs = at bs 0 + 1

abbrev pub offset : Player → ℕ
offset One = 0
offset Two = 1

unfoldable pub moves_at : List ℕ → Player → ℕ → ℕ
moves_at bs p s = cond (nat_lt s (states_in bs)) (at bs (row_place bs s + offset p)) 0

-- which of the supports of a row is that of the moves a and b, where the players have the move sets c and d
unfoldable pub support_index : ℕ → ℕ → ℕ → ℕ → ℕ
support_index c d a b = rank (bit c) a * moves_in d + rank (bit d) b

unfoldable pub support_place : List ℕ → ℕ → ℕ → ℕ → ℕ
support_place bs s a b = sets_end bs (row_place bs s + 2) (support_index (moves_at bs One s) (moves_at bs Two s) a b)

unfoldable pub support_at : List ℕ → ℕ → ℕ → ℕ → List ℕ
support_at bs s a b = cond (bit (moves_at bs One s) a && bit (moves_at bs Two s) b) (set_at bs (support_place bs s a b)) []

-- the game that the bytes show
abbrev pub shown : List ℕ → Game
shown bs = record { size = states_in bs; choices = moves_at bs; support = support_at bs }

-- Nothing is wrong with the byte of group g, in a set that begins at p, in a game with n states.
abbrev pub GoodGroup : ℕ → List ℕ → ℕ → ℕ → Type 0
GoodGroup n bs p g = (group_place bs p g < length bs) × (1 ≤ at bs (group_place bs p g)) × ((i : ℕ) → i < 8 → bit (at bs (group_place bs p g)) i ≡ true → 8 * g + i < n)

-- Nothing is wrong with the set that begins at p.
abbrev pub GoodSet : ℕ → List ℕ → ℕ → Type 0
GoodSet n bs p = (p + 4 ≤ length bs) × ((g : ℕ) → g < 32 → map_bit bs p g ≡ true → GoodGroup n bs p g)

-- A support is a set with a member.
abbrev pub GoodSupport : ℕ → List ℕ → ℕ → Type 0
GoodSupport n bs p = GoodSet n bs p × (1 ≤ rank (map_bit bs p) 32)

-- Nothing is wrong with the row that begins at p.
abbrev pub GoodRow : ℕ → List ℕ → ℕ → Type 0
GoodRow n bs p = (p + 2 ≤ length bs) × (1 ≤ at bs p) × (1 ≤ at bs (p + 1)) × ((k : ℕ) → k < row_sets bs p → GoodSupport n bs (sets_end bs (p + 2) k))

-- Nothing is wrong with the record.
abbrev pub GoodRecord : List ℕ → Type 0
GoodRecord bs = (length bs ≤ 60000) × (1 ≤ length bs) × ((s : ℕ) → s < states_in bs → GoodRow (states_in bs) bs (row_place bs s)) × (row_place bs (states_in bs) ≡ length bs)

-- every byte is below 256
abbrev pub Bytes : List ℕ → Type 0
Bytes bs = (k : ℕ) → k < length bs → at bs k < 256
