-- The members of a set in a record, group by group.
use Rattle.std.proofs.Common.{◌≡◌, ℕ, ◌+◌, ◌*◌, ◌/◌, ◌%◌, ◌<◌, true, ◌&&◌, List, arith}
use Rattle.game.specs.Below.{bit}
use Rattle.game.proofs.Below.{rank_lt}
use Rattle.layout.specs.Reading.{at, map_bit, group_place, set_end, in_set}

-- the byte of a group that the map has lies before the end of the set
pub group_before_end : (bs : List ℕ) (p g : ℕ) → g < 32 → map_bit bs p g ≡ true → group_place bs p g < set_end bs p
unfolding group_place set_end
group_before_end bs p g l e = omega (arith, rank_lt (map_bit bs p) g 32 l e)

-- state 8 g + k is in the set if the map has group g, and bit k of the group's byte stands
pub in_group : (bs : List ℕ) (p g k : ℕ) → k < 8 → in_set bs p (8 * g + k) ≡ (map_bit bs p g && bit (at bs (group_place bs p g)) k)
unfolding in_set
in_group bs p g k l =
    let d : (8 * g + k) / 8 ≡ g = omega arith in
    let m : (8 * g + k) % 8 ≡ k = omega arith in
    rw (d, m)
