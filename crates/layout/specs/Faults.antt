-- The fault that stands first in reading order: a field is at fault, and nothing is wrong before it.
use Rattle.std.specs.Prelude.{◌≡◌, ℕ, ◌+◌, ◌*◌, ◌<◌, ◌≤◌, true, List, length, Some, None, Option}
use Rattle.game.specs.Below.{rank, bit}
use Rattle.game.specs.Refusals as refusals
use Rattle.game.specs.Refusals.{Told}
use Rattle.game.specs.declared.refusal.Layer.{Layer}
use Rattle.game.specs.declared.refusal.Layer.TheVariants.{Set, Row, Record}
use Rattle.layout.specs.Reading.{at, map_bit, group_place, sets_end, row_sets, row_place, states_in, GoodGroup, GoodSupport, GoodRow}

-- a fault by its number, its place, its layer and its state
abbrev pub fault : ℕ → ℕ → Layer → Option ℕ → Told
fault n p l s = refusals.at n (record { place = p; layer = l; state = s })

-- What is wrong with the byte of group g. A byte past the end, 11; a byte with no bit, 12; a bit of a state that is n or more, 14.
pub data BadGroup (n : ℕ) (bs : List ℕ) (p g : ℕ) (s : Option ℕ) (t : Told) : Type 0 where
  missing : length bs ≤ group_place bs p g → t ≡ fault 11 (length bs) Set s → BadGroup n bs p g s t
  zero_byte : group_place bs p g < length bs → at bs (group_place bs p g) ≡ 0 → t ≡ fault 12 (group_place bs p g) Set s → BadGroup n bs p g s t
  outside : group_place bs p g < length bs → (i : ℕ) → i < 8 → bit (at bs (group_place bs p g)) i ≡ true → n ≤ 8 * g + i → t ≡ fault 14 (group_place bs p g) Set s → BadGroup n bs p g s t

-- What is wrong with the set that begins at p, which may be empty: its map is cut off, or a group is the first at fault.
pub data BadSet (n : ℕ) (bs : List ℕ) (p : ℕ) (s : Option ℕ) (t : Told) : Type 0 where
  short_map : length bs < p + 4 → t ≡ fault 11 (length bs) Set s → BadSet n bs p s t
  bad_group : p + 4 ≤ length bs → (g : ℕ) → g < 32 → map_bit bs p g ≡ true → ((h : ℕ) → h < g → map_bit bs p h ≡ true → GoodGroup n bs p h) → BadGroup n bs p g s t → BadSet n bs p s t

-- What is wrong with the support that begins at p: what is wrong with it as a set, or it is empty.
pub data BadSupport (n : ℕ) (bs : List ℕ) (p : ℕ) (s : Option ℕ) (t : Told) : Type 0 where
  bad_set : BadSet n bs p s t → BadSupport n bs p s t
  no_member : p + 4 ≤ length bs → rank (map_bit bs p) 32 ≡ 0 → t ≡ fault 13 p Set s → BadSupport n bs p s t

-- What is wrong with the row of state s that begins at p: a move byte is cut off or zero, or a support is the first at fault.
pub data BadRow (n : ℕ) (bs : List ℕ) (p s : ℕ) (t : Told) : Type 0 where
  no_first : length bs ≤ p → t ≡ fault 11 (length bs) Row (Some s) → BadRow n bs p s t
  zero_first : p < length bs → at bs p ≡ 0 → t ≡ fault 15 p Row (Some s) → BadRow n bs p s t
  no_second : length bs ≡ p + 1 → 1 ≤ at bs p → t ≡ fault 11 (length bs) Row (Some s) → BadRow n bs p s t
  zero_second : p + 2 ≤ length bs → 1 ≤ at bs p → at bs (p + 1) ≡ 0 → t ≡ fault 15 (p + 1) Row (Some s) → BadRow n bs p s t
  bad_support : p + 2 ≤ length bs → 1 ≤ at bs p → 1 ≤ at bs (p + 1) → (k : ℕ) → k < row_sets bs p → ((j : ℕ) → j < k → GoodSupport n bs (sets_end bs (p + 2) j)) → BadSupport n bs (sets_end bs (p + 2) k) (Some s) t → BadRow n bs p s t

-- What is wrong with the record: it is too long, has no first byte, a row is the first at fault, or bytes remain behind the last row.
pub data BadRecord (bs : List ℕ) (t : Told) : Type 0 where
  too_long : 60000 < length bs → t ≡ fault 17 0 Record None → BadRecord bs t
  no_count : length bs ≡ 0 → t ≡ fault 11 0 Record None → BadRecord bs t
  bad_row : length bs ≤ 60000 → 1 ≤ length bs → (s : ℕ) → s < states_in bs → ((r : ℕ) → r < s → GoodRow (states_in bs) bs (row_place bs r)) → BadRow (states_in bs) bs (row_place bs s) s t → BadRecord bs t
  remain : length bs ≤ 60000 → 1 ≤ length bs → ((r : ℕ) → r < states_in bs → GoodRow (states_in bs) bs (row_place bs r)) → row_place bs (states_in bs) < length bs → t ≡ fault 16 (row_place bs (states_in bs)) Record None → BadRecord bs t
