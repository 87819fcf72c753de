-- What stands at a place where the bytes of a set stand.
use Rattle.std.proofs.Common.{◌≡◌, ℕ, ◌+◌, ◌*◌, ◌/◌, ◌%◌, ◌<◌, ◌≤◌, true, List, length, sym, ap, ◌∙◌, arith}
use Rattle.std.proofs.lemmas.Bool.{ltb-true}
use Rattle.std.proofs.lemmas.Bool.Decides.{nat_tests}
use Rattle.game.specs.Below.{rank, bit, elem}
use Rattle.game.specs.Games.{Ascends}
use Rattle.game.proofs.Below.{below_same, rank_same, rank_lt, ascends_more, bit_zero}
use Rattle.game.proofs.Members.{elem_within, below_elem}
use Rattle.layout.specs.Writing.{group, filled, set_bytes}
use Rattle.layout.specs.Reading.{at, map_bit, group_place, set_end, in_set, set_at, GoodGroup, GoodSet, GoodSupport}
use Rattle.layout.proofs.Sets.{group_bit, state_bit, map_byte_bit, some_group, length_set_bytes, set_bytes_map, set_bytes_group}
use Rattle.layout.proofs.Stands.{Stands, stands_at, stands_fits}

-- The bytes of the set xs stand at p.
module _ (bs : List ℕ) (p : ℕ) (xs : List ℕ) (st : Stands (set_bytes xs) p bs) where
  map_bit_written : (g : ℕ) → g < 32 → map_bit bs p g ≡ filled xs g
  unfolding map_bit
  map_bit_written g h =
      grind (arith, stands_at (set_bytes xs) p bs (g / 8) st, length_set_bytes xs, set_bytes_map xs (g / 8), map_byte_bit xs g)

  rank_written : (g : ℕ) → g ≤ 32 → rank (map_bit bs p) g ≡ rank (filled xs) g
  rank_written g h = rank_same (map_bit bs p) (filled xs) g (λ k l. map_bit_written k (omega arith))

  group_written : (g : ℕ) → g < 32 → filled xs g ≡ true → at bs (group_place bs p g) ≡ group xs g
  unfolding group_place
  group_written g h e =
      grind (arith, rank_written g, stands_at (set_bytes xs) p bs (4 + rank (filled xs) g) st, length_set_bytes xs, rank_lt (filled xs) g 32 h e, set_bytes_group xs g h e)

  set_end_written : set_end bs p ≡ p + length (set_bytes xs)
  unfolding set_end
  set_end_written = omega (arith, rank_written 32 (omega arith), length_set_bytes xs)

  in_set_written : (s : ℕ) → s < 256 → in_set bs p s ≡ elem s xs
  unfolding in_set
  in_set_written s h =
      let g : ℕ = s / 8 in
      grind (arith, nat_tests, map_bit_written g (omega arith), group_written g (omega arith), state_bit xs s, bit_zero (s % 8))

  set_at_written : (n : ℕ) → n ≤ 256 → Ascends 0 n xs → set_at bs p ≡ xs
  unfolding set_at
  set_at_written n l h = below_same (in_set bs p) (λ s. elem s xs) 256 in_set_written ∙ below_elem 0 256 xs (ascends_more 0 n 256 xs l h)

  fits : p + length (set_bytes xs) ≤ length bs
  fits = stands_fits (set_bytes xs) p bs st (omega (arith, length_set_bytes xs))

  good_group_written : (n : ℕ) → Ascends 0 n xs → (g : ℕ) → g < 32 → map_bit bs p g ≡ true → GoodGroup n bs p g
  unfolding group_place
  good_group_written n h g l b =
      let e : filled xs g ≡ true = sym (map_bit_written g l) ∙ b in
      let byte : at bs (group_place bs p g) ≡ group xs g = group_written g l e in (
        omega (arith, fits, length_set_bytes xs, rank_written g (omega arith), rank_lt (filled xs) g 32 l e),
        omega (arith, byte, ltb-true 0 (group xs g) e),
        λ i a c. (elem_within (8 * g + i) 0 n xs h (sym (group_bit xs g i a) ∙ ap (λ d. bit d i) (sym byte) ∙ c)).1,
      )

pub set_written : (n : ℕ) (bs : List ℕ) (p : ℕ) (xs : List ℕ) → n ≤ 256 → Ascends 0 n xs → Stands (set_bytes xs) p bs → GoodSet n bs p × (set_end bs p ≡ p + length (set_bytes xs)) × (set_at bs p ≡ xs)
set_written n bs p xs l h st =
    ((omega (arith, fits bs p xs st, length_set_bytes xs), good_group_written bs p xs st n h), set_end_written bs p xs st, set_at_written bs p xs st n l h)

pub support_written : (n : ℕ) (bs : List ℕ) (p : ℕ) (xs : List ℕ) → n ≤ 256 → Ascends 0 n xs → 1 ≤ length xs → Stands (set_bytes xs) p bs → GoodSupport n bs p × (set_end bs p ≡ p + length (set_bytes xs)) × (set_at bs p ≡ xs)
support_written n bs p xs l h m st =
    let w = set_written n bs p xs l h st in
    ((w.0, omega (arith, rank_written bs p xs st 32 (omega arith), some_group n xs l h m)), w.1, w.2)
