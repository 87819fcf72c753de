-- A set with nothing wrong is written back as its bytes.
use Rattle.std.proofs.Common.{◌≡◌, ℕ, zero, suc, ◌+◌, ◌-◌, ◌*◌, ◌/◌, ◌%◌, ◌<◌, ◌≤◌, true, false, ◌&&◌, List, [], ◌∷◌, ◌++◌, map, length, get_or, drop, sym, refl, ap, ◌∙◌, ap₂, ⊎_elim, le_refl, add-zero, add-one, arith, take-add}
use Rattle.std.specs.List.{between}
use Rattle.std.proofs.lemmas.List.{drop-drop, drop_more}
use Rattle.std.proofs.lemmas.List.Edits.{between_none, between_more}
use Rattle.std.proofs.lemmas.Bool.{cases_Bool, and_parts, and_from}
use Rattle.std.proofs.lemmas.Bool.Decides.{nat_tests}
use Rattle.game.specs.Below.{below, bit, elem}
use Rattle.game.specs.Games.{Ascends}
use Rattle.game.proofs.Below.{below_zero, below_same, map_yes, map_no, below_at, rank_lt, ascends_within}
use Rattle.game.proofs.Digits.{weigh_bit, weigh_none, weigh_found, weigh_is}
use Rattle.layout.specs.Writing.{group, filled, map_byte, set_bytes}
use Rattle.layout.specs.Reading.{at, map_bit, group_place, set_end, in_set, set_at, GoodSet, GoodSupport, Bytes}
use Rattle.layout.proofs.Members.{in_group}
use Rattle.layout.proofs.Places.{at_small, group_place_first, group_place_yes, group_place_no}
use Rattle.layout.proofs.Sets.{elem_below}

-- ---- parts of a list

-- one element more at the front
between_cons : (xs : List ℕ) (i k j : ℕ) → i + 1 ≡ k → i < j → i < length xs → between i j xs ≡ get_or xs i 0 ∷ between k j xs
between_cons xs i k j e h l =
    let s : j - i ≡ suc (j - k) = omega arith in
    rw (drop_more xs i 0 l, s, e)

pub between_two : (xs : List ℕ) (i k l j : ℕ) → i + 1 ≡ k → k + 1 ≡ l → l ≤ j → l ≤ length xs → between i j xs ≡ get_or xs i 0 ∷ get_or xs k 0 ∷ between l j xs
between_two xs i k l j e f h m =
    grind (arith, between_cons xs i k j e, between_cons xs k l j f)

between_four : (xs : List ℕ) (p j : ℕ) → p + 4 ≤ j → p + 4 ≤ length xs
    → between p j xs ≡ get_or xs p 0 ∷ get_or xs (p + 1) 0 ∷ get_or xs (p + 2) 0 ∷ get_or xs (p + 3) 0 ∷ between (p + 4) j xs
between_four xs p j h l =
    grind (arith, between_two xs p (p + 1) (p + 2) j refl, between_two xs (p + 2) (p + 3) (p + 4) j)

-- two parts, one behind the other
pub between_join : (xs : List ℕ) (i j k : ℕ) → i ≤ j → j ≤ k → between i j xs ++ between j k xs ≡ between i k xs
between_join xs i j k h l =
    grind (arith, take-add (j - i) (k - j) (drop i xs), drop-drop (j - i) i xs)

-- ---- the groups of a set

-- byte j of the map has group 8 j + i as bit i says
map_bit_is : (bs : List ℕ) (p j i : ℕ) → i < 8 → map_bit bs p (8 * j + i) ≡ bit (at bs (p + j)) i
unfolding map_bit
map_bit_is bs p j i l =
    let q : (8 * j + i) / 8 ≡ j = omega arith in
    let r : (8 * j + i) % 8 ≡ i = omega arith in
    rw (q, r)

elem_set : (bs : List ℕ) (p g i : ℕ) → g < 32 → i < 8 → elem (8 * g + i) (set_at bs p) ≡ (map_bit bs p g && bit (at bs (group_place bs p g)) i)
unfolding set_at
elem_set bs p g i h l = elem_below (in_set bs p) 256 (8 * g + i) (omega arith) ∙ in_group bs p g i l

group_yes : (bs : List ℕ) (p g : ℕ) → Bytes bs → g < 32 → map_bit bs p g ≡ true → group (set_at bs p) g ≡ at bs (group_place bs p g)
unfolding group
group_yes bs p g small h e = weigh_is _ (at bs (group_place bs p g)) 8 (at_small bs small (group_place bs p g)) (λ i l. elem_set bs p g i h l ∙ rw e)

group_no : (bs : List ℕ) (p g : ℕ) → g < 32 → map_bit bs p g ≡ false → group (set_at bs p) g ≡ 0
unfolding group
group_no bs p g h e = weigh_none _ 8 (λ i l. elem_set bs p g i h l ∙ rw e)

module _ (n : ℕ) (bs : List ℕ) (p : ℕ) (small : Bytes bs) (good : GoodSet n bs p) where
  filled_is : (g : ℕ) → g < 32 → filled (set_at bs p) g ≡ map_bit bs p g
  filled_is g h = grind (arith, nat_tests, group_yes bs p g small h, group_no bs p g h, good.1 g h)

  map_byte_is : (j : ℕ) → j < 4 → map_byte (set_at bs p) j ≡ at bs (p + j)
  unfolding map_byte
  map_byte_is j h = weigh_is _ (at bs (p + j)) 8 (at_small bs small (p + j)) (λ i l. filled_is (8 * j + i) (omega arith) ∙ map_bit_is bs p j i l)

  -- the bytes of the groups below g
  groups_are : (g : ℕ) → g ≤ 32
      → (p + 4 ≤ group_place bs p g) × (group_place bs p g ≤ length bs) × (map (group (set_at bs p)) (below (map_bit bs p) g) ≡ between (p + 4) (group_place bs p g) bs)
  groups_are zero h =
      let z = group_place_first bs p in
      (omega arith, omega arith, ap (map (group (set_at bs p))) (below_zero (map_bit bs p)) ∙ rw z (sym (between_none bs (p + 4))))
  groups_are (suc g) h =
      let ih = groups_are g (omega arith) in
      rw (← (add-one g)) (
      ⊎_elim
      (λ e. let here = good.1 g h e in rw (group_place_yes bs p g e) (
        omega arith,
        omega arith,
        map_yes (group (set_at bs p)) (map_bit bs p) g e
            ∙ ap₂ (λ xs x. xs ++ x ∷ []) ih.2 (group_yes bs p g small h e)
            ∙ sym (between_more bs (p + 4) (group_place bs p g) 0 ih.0 here.0),
      ))
      (λ e. rw (group_place_no bs p g e, map_no (group (set_at bs p)) (map_bit bs p) g e) ih)
      (cases_Bool (map_bit bs p g)))

  set_bytes_are : set_bytes (set_at bs p) ≡ between p (group_place bs p 32) bs
  unfolding set_bytes
  set_bytes_are =
      let groups = groups_are 32 (le_refl 32) in
      rw (
        map_byte_is 0 (omega arith),
        map_byte_is 1 (omega arith),
        map_byte_is 2 (omega arith),
        map_byte_is 3 (omega arith),
        below_same (filled (set_at bs p)) (map_bit bs p) 32 filled_is,
        groups.2,
        add-zero p,
      ) (sym (between_four bs p (group_place bs p 32) groups.0 good.0))

  member_lt : (s : ℕ) → s < 256 → in_set bs p s ≡ true → s < n
  unfolding in_set
  member_lt s h e =
      let parts = and_parts (map_bit bs p (s / 8)) (bit (at bs (group_place bs p (s / 8))) (s % 8)) e in
      omega (arith, (good.1 (s / 8) (omega arith) parts.0).2 (s % 8) (omega arith) parts.1)

pub set_shows : (n : ℕ) (bs : List ℕ) (p : ℕ) → Bytes bs → GoodSet n bs p
    → (set_end bs p ≤ length bs) × (between p (set_end bs p) bs ≡ set_bytes (set_at bs p)) × Ascends 0 n (set_at bs p)
unfolding set_end set_at
set_shows n bs p small good = (
  (groups_are n bs p small good 32 (le_refl 32)).1,
  sym (set_bytes_are n bs p small good),
  ascends_within (in_set bs p) 256 n (member_lt n bs p small good),
)

pub support_some : (n : ℕ) (bs : List ℕ) (p : ℕ) → Bytes bs → GoodSupport n bs p → 1 ≤ length (set_at bs p)
unfolding set_at
support_some n bs p small good =
    let found = below_at (map_bit bs p) 32 0 0 good.1 in
    let g : ℕ = get_or (below (map_bit bs p) 32) 0 0 in
    let c : ℕ = at bs (group_place bs p g) in
    let some : 1 ≤ c = (good.0.1 g found.0 found.1).1 in
    let found_bit = weigh_found (bit c) 8 (rw (weigh_bit c 8 (at_small bs small (group_place bs p g))) some) in
    let i : ℕ = found_bit.0 in
    let has : in_set bs p (8 * g + i) ≡ true = in_group bs p g i found_bit.1 ∙ and_from _ _ found.1 found_bit.2 in
    omega (arith, rank_lt (in_set bs p) (8 * g + i) 256 (omega arith) has)
