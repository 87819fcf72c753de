-- The bytes of a set, given by the bytes of its 32 groups.
use Rattle.std.proofs.Common.{◌≡◌, ℕ, ◌+◌, ◌*◌, ◌<◌, ◌≤◌, ltb, List, [], ◌∷◌, ◌++◌, map, length, get_or, take, refl, ap, ◌∙◌, arith}
use lib.ListN.{length-map}
use Rattle.std.proofs.lemmas.List.{length_push}
use Rattle.std.proofs.lemmas.Bool.{lt-ltb, le-ltb}
use Rattle.game.specs.Below.{below}
use Rattle.game.proofs.Below.{below_same, map_yes, map_no, map_same, rank_le, rank_lt}
use Rattle.layout.specs.Writing.{group, filled, map_byte, set_bytes}
use Rattle.game.proofs.Digits.{weigh_same}
use Rattle.layout.proofs.Sets.{get_or_four, length_set_bytes}
use Rattle.writer.specs.Sets.{Gathers, full, in_map, map_of, groups_in, packed}

-- the groups that have a state, one group on
pub groups_yes : (gs : List ℕ) (n : ℕ) → 0 < get_or gs n 0 → groups_in gs (n + 1) ≡ groups_in gs n ++ get_or gs n 0 ∷ []
unfolding groups_in
groups_yes gs n h = map_yes (λ g. get_or gs g 0) (full gs) n (lt-ltb 0 (get_or gs n 0) h)

pub groups_no : (gs : List ℕ) (n : ℕ) → get_or gs n 0 ≤ 0 → groups_in gs (n + 1) ≡ groups_in gs n
unfolding groups_in
groups_no gs n h = map_no (λ g. get_or gs g 0) (full gs) n (le-ltb 0 (get_or gs n 0) h)

pub length_groups_yes : (gs : List ℕ) (n : ℕ) → 0 < get_or gs n 0 → length (groups_in gs (n + 1)) ≡ length (groups_in gs n) + 1
length_groups_yes gs n h = ap length (groups_yes gs n h) ∙ length_push (groups_in gs n) (get_or gs n 0)

-- the groups of a list of states give its bytes
module _ (gs xs : List ℕ) (same : Gathers gs xs) where
  full_is : (g : ℕ) → g < 32 → full gs g ≡ filled xs g
  full_is g h = ap (ltb 0) (same.1 g h)

  map_is : (j : ℕ) → j < 4 → map_of gs j ≡ map_byte xs j
  unfolding map_of map_byte
  map_is j h = weigh_same (in_map gs j) (λ i. filled xs (8 * j + i)) 8 (λ i l. full_is (8 * j + i) (omega arith))

  groups_is : groups_in gs 32 ≡ map (group xs) (below (filled xs) 32)
  unfolding groups_in
  groups_is =
      map_same (λ g. get_or gs g 0) (group xs) (full gs) 32 same.1 ∙ ap (map (group xs)) (below_same (full gs) (filled xs) 32 full_is)

  pub packed_is : packed gs ≡ set_bytes xs
  unfolding packed set_bytes
  packed_is =
      let a : map_of gs 0 ≡ map_byte xs 0 = map_is 0 (omega arith) in
      let b : map_of gs 1 ≡ map_byte xs 1 = map_is 1 (omega arith) in
      let c : map_of gs 2 ≡ map_byte xs 2 = map_is 2 (omega arith) in
      let d : map_of gs 3 ≡ map_byte xs 3 = map_is 3 (omega arith) in
      let e = groups_is in
      cc

-- the number of bytes so far, and of all
pub length_packed : (gs : List ℕ) → length (packed gs) ≡ 4 + length (groups_in gs 32)
unfolding packed
length_packed gs = omega arith

pub groups_le : (gs : List ℕ) (n : ℕ) → length (groups_in gs n) ≤ n
unfolding groups_in
groups_le gs n = rw length-map (rank_le (full gs) n)

-- the first four bytes are the map
pub packed_at : (gs : List ℕ) (j : ℕ) → j < 4 → get_or (packed gs) j 0 ≡ map_of gs j
unfolding packed
packed_at gs j h = get_or_four (map_of gs) (groups_in gs 32) j h

pub packed_split : (gs : List ℕ) → take 4 (packed gs) ++ groups_in gs 32 ≡ packed gs
unfolding packed
packed_split gs = refl

-- a group that is still to be written has room
pub groups_room : (gs : List ℕ) (n : ℕ) → n < 32 → 0 < get_or gs n 0 → 4 + length (groups_in gs n) < length (packed gs)
unfolding groups_in packed
groups_room gs n h some = simp length-map (omega (arith, rank_lt (full gs) n 32 h (lt-ltb 0 (get_or gs n 0) some)))

pub groups_none : (gs : List ℕ) → groups_in gs 0 ≡ []
unfolding groups_in below
groups_none gs = refl

pub set_small : (xs : List ℕ) → length (set_bytes xs) ≤ 36
set_small xs = omega (arith, length_set_bytes xs, rank_le (filled xs) 32)
