-- The standing bits of a byte, and the groups of a set.
use Rattle.std.proofs.Common.{◌≡◌, ℕ, zero, suc, ◌+◌, ◌-◌, ◌*◌, ◌/◌, ◌%◌, ◌^◌, ◌<◌, ◌≤◌, Bool, true, false, cond, eqb, ◌&&◌, List, [], ◌∷◌, ◌++◌, map, length, take, drop, get_or, Some, None, Option, Bor, MatchBool, MatchOption, unwrap_or, sym, refl, ap, ◌∙◌, subst, ap₂, ⊎_elim, add-one, zero-add, arith}
use Rattle.std.specs.Int.{bit_at}
use Rattle.std.specs.List.{range_with_len, filter, slice_get, sum_by, AllWithin, HoldsAt}
use Rattle.std.proofs.lemmas.Bool.{cases_Bool, cases_lt}
use Rattle.std.proofs.lemmas.List.{length-append, length-map, length-drop, get_or-append-add, get_or-drop, get_or-map, map-id, take_more}
use Rattle.std.proofs.lemmas.List.FromFn.{length-range_with_len, get_or-range_with_len, filter_of_map_range_with_len_more, sum_by-map-range_with_len_more}
use Rattle.std.proofs.lemmas.List.Sums.{sum_by_push}
use Rattle.std.proofs.lemmas.Nat.Bits.{bit_at_cat_low, bit_at_cat_high}
use Rattle.std.proofs.lemmas.Option.{unwrap_or-slice_get}
use Rattle.game.specs.Below.{below, rank, bit, elem}
use Rattle.game.proofs.Below.{below_same, below_none, below_add, get_or_below_more, rank_zero, rank_yes, rank_no, bit_zero}
use Rattle.layout.specs.Reading.{at, map_bit, group_place, in_set, moves_in}
use Rattle.layout.specs.Targets.{states_of}
use Rattle.layout.proofs.Members.{in_group}
use Rattle.layout.proofs.Sets.{elem_below, elem_past}
use Rattle.layout.proofs.Places.{group_place_first, group_place_yes, group_place_no}

-- the numbers below n that pass a test, as a chain of iterators finds them
pub filter-range : (p : ℕ → Bool) (n : ℕ) → filter p (range_with_len 0 n) ≡ below p n
unfolding below
filter-range p zero = refl
filter-range p (suc n) =
    ap (λ m. filter p (range_with_len 0 m)) (sym (add-one n))
    ∙ ap (filter p) (sym (map-id (range_with_len 0 (n + 1))))
    ∙ filter_of_map_range_with_len_more p (λ k. k) 0 n n (omega arith)
    ∙ ap (λ xs. xs ++ cond (p n) (n ∷ []) []) (ap (filter p) (map-id (range_with_len 0 n)) ∙ filter-range p n)

-- what `any` finds among the numbers below n
pub any_below : (n : ℕ) (Yes No : ℕ → Type 0) (r : Bool) → MatchBool r ((k : ℕ) × (k < length (range_with_len 0 n)) × HoldsAt Yes (range_with_len 0 n) k) (AllWithin No (range_with_len 0 n) 0 (length (range_with_len 0 n))) → MatchBool r ((i : ℕ) × (i < n) × Yes i) ((i : ℕ) → i < n → No i)
any_below n Yes No true (k, l, h) = let l : k < n = omega (arith, length-range_with_len 0 n) in (k, l, subst Yes (get_or-range_with_len 0 n k 0 l ∙ zero-add k) (h 0))
any_below n Yes No false h = λ i l. subst No (get_or-range_with_len 0 n i 0 l ∙ zero-add i) (h i 0 (omega arith) (omega (arith, length-range_with_len 0 n)))

-- an element, or 0
pub element_or : (xs : List ℕ) (k : ℕ) (o : Option ℕ) (r : ℕ) → o ≡ slice_get xs k → MatchOption o (r ≡ 0) (λ x. r ≡ x) → r ≡ get_or xs k 0
element_or xs k None r e m = m ∙ ap (λ o. unwrap_or o 0) e ∙ unwrap_or-slice_get xs k 0
element_or xs k (Some x) r e m = m ∙ ap (λ o. unwrap_or o 0) e ∙ unwrap_or-slice_get xs k 0

-- the bits of a group map, as a number of four bytes
module _ (bs : List ℕ) (p g : ℕ) (small : (k : ℕ) → at bs k < 256) where
  there : (q i : ℕ) → q ≡ p + g / 8 → i ≡ g % 8 → bit_at (at bs q) i ≡ bit_at (at bs (p + g / 8)) (g % 8)
  there q i e f = ap₂ (λ q i. bit_at (at bs q) i) e f

  low : (a k b : ℕ) → g < k → bit_at (a * 2 ^ k + b) g ≡ bit_at b g
  low a k b l = bit_at_cat_low a k b g l

  pub map_bits : (n : ℕ) → n ≡ at bs p + at bs (p + 1) * 256 + at bs (p + 2) * 65536 + at bs (p + 3) * 16777216 → g < 32 → bit n g ≡ map_bit bs p g
  unfolding map_bit
  map_bits n is l =
      let one : ℕ = at bs (p + 1) * 2 ^ 8 + at bs p in
      let two : ℕ = at bs (p + 2) * 2 ^ 16 + one in
      let same : n ≡ at bs (p + 3) * 2 ^ 24 + two = omega (arith, is) in
      ap (λ n. eqb n 1)
      (ap (λ m. bit_at m g) same
      ∙ ⊎_elim
      (λ l. low (at bs (p + 3)) 24 two (omega arith) ∙ low (at bs (p + 2)) 16 one (omega arith) ∙ low (at bs (p + 1)) 8 (at bs p) l ∙ there p g (omega arith) (omega arith))
      (λ a.
      ⊎_elim
      (λ l. low (at bs (p + 3)) 24 two (omega arith) ∙ low (at bs (p + 2)) 16 one l ∙ bit_at_cat_high _ 8 _ g (small p) a ∙ there (p + 1) (g - 8) (omega arith) (omega arith))
      (λ a.
      ⊎_elim
      (λ l. low (at bs (p + 3)) 24 two l ∙ bit_at_cat_high _ 16 _ g (omega (arith, small p, small (p + 1))) a ∙ there (p + 2) (g - 16) (omega arith) (omega arith))
      (λ a. bit_at_cat_high _ 24 _ g (omega (arith, small p, small (p + 1), small (p + 2))) a ∙ there (p + 3) (g - 24) (omega arith) (omega arith))
      (cases_lt g 24))
      (cases_lt g 16))
      (cases_lt g 8))

-- how many numbers pass, in two parts, and group by group
rank_add : (q : ℕ → Bool) (m n : ℕ) → rank q (m + n) ≡ rank q m + rank (λ k. q (m + k)) n
rank_add q m n = ap length (below_add q m n) ∙ length-append (below q m) _ ∙ ap (λ k. rank q m + k) (length-map _ _)

pub sum_groups : (q : ℕ → Bool) (n : ℕ) → sum_by (λ g. rank (λ i. q (8 * g + i)) 8) (range_with_len 0 n) ≡ rank q (8 * n)
sum_groups q zero = sym (rank_zero q)
sum_groups q (suc n) =
    let h : ℕ → ℕ = λ g. rank (λ i. q (8 * g + i)) 8 in
    let next : 8 * suc n ≡ 8 * n + 8 = omega arith in
    ap (λ m. sum_by h (range_with_len 0 m)) (sym (add-one n))
    ∙ ap (sum_by h) (sym (map-id (range_with_len 0 (n + 1))))
    ∙ sum_by-map-range_with_len_more h (λ k. k) 0 n n (omega arith)
    ∙ ap (λ s. s + h n) (ap (sum_by h) (map-id (range_with_len 0 n)) ∙ sum_groups q n)
    ∙ sym (ap (rank q) next ∙ rank_add q (8 * n) 8)

-- A byte whose bits say which of the states of group g pass a test.
module _ (q : ℕ → Bool) (g c : ℕ) (h : (i : ℕ) → i < 8 → bit c i ≡ q (8 * g + i)) where
  members_more : below q (8 * (g + 1)) ≡ below q (8 * g) ++ map (λ k. 8 * g + k) (below (bit c) 8)
  members_more =
      ap (below q) {y = 8 * g + 8} (omega arith)
      ∙ below_add q (8 * g) 8
      ∙ ap (λ l. below q (8 * g) ++ map (λ k. 8 * g + k) l) (below_same _ _ 8 (λ k l. sym (h k l)))

  pub count_more : rank q (8 * (g + 1)) ≡ rank q (8 * g) + moves_in c
  unfolding moves_in
  count_more = ap length members_more ∙ length-append (below q (8 * g)) _ ∙ ap (λ n. rank q (8 * g) + n) (length-map _ _)

  -- number i of the group's states that pass
  pub member_more : (i k : ℕ) → g < 32 → i < moves_in c → k ≡ i + rank q (8 * g) → get_or (below q 256) k 0 ≡ 8 * g + get_or (below (bit c) 8) i 0
  unfolding moves_in
  member_more i k l e here =
      let xs = below q (8 * g) in
      let ys = below (bit c) 8 in
      let sum : k ≡ length xs + i = omega arith in
      get_or_below_more q (8 * (g + 1)) 256 k 0 (omega arith) (omega (arith, count_more))
      ∙ ap (λ l. get_or l k 0) members_more
      ∙ ap (λ j. get_or (xs ++ map (λ t. 8 * g + t) ys) j 0) sum
      ∙ get_or-append-add xs (map (λ t. 8 * g + t) ys) i 0
      ∙ get_or-map (λ t. 8 * g + t) ys i 0 0 e

no_moves : moves_in 0 ≡ 0
unfolding moves_in
no_moves = ap length (below_none (bit 0) 8 (λ k l. bit_zero k))

-- Of the set that begins at p: the bits of the byte of a group that its map has, and how many members the groups so far have.
module _ (bs : List ℕ) (p n : ℕ) where
  abbrev pub byte : ℕ
  byte = get_or bs (group_place bs p n) 0

  pub has_bits : map_bit bs p n ≡ true → (i : ℕ) → i < 8 → bit byte i ≡ in_set bs p (8 * n + i)
  has_bits e i l = sym (in_group bs p n i l ∙ ap (λ t. t && bit byte i) e)

  pub count_yes : map_bit bs p n ≡ true → rank (in_set bs p) (8 * (n + 1)) ≡ rank (in_set bs p) (8 * n) + moves_in byte
  count_yes e = count_more (in_set bs p) n byte (has_bits e)

  pub count_no : map_bit bs p n ≡ false → rank (in_set bs p) (8 * (n + 1)) ≡ rank (in_set bs p) (8 * n)
  count_no e = omega (arith, no_moves, count_more (in_set bs p) n 0 (λ i l. bit_zero i ∙ sym (in_group bs p n i l ∙ ap (λ t. t && bit byte i) e)))

  group_place_is : group_place bs p n ≡ p + 4 + rank (map_bit bs p) n
  unfolding group_place
  group_place_is = refl

-- the members of the groups below n, counted in the bytes of those groups, which stand one after the other
pub sum_bytes : (bs : List ℕ) (p n : ℕ) → group_place bs p n ≤ length bs → sum_by moves_in (take (rank (map_bit bs p) n) (drop (p + 4) bs)) ≡ rank (in_set bs p) (8 * n)
sum_bytes bs p zero inside = rw (rank_zero (map_bit bs p), rank_zero (in_set bs p)) refl
sum_bytes bs p (suc n) inside =
    let r = rank (map_bit bs p) n in
    let xs = drop (p + 4) bs in
    let inside : group_place bs p (n + 1) ≤ length bs = rw (add-one n) inside in
    rw (← (add-one n)) (
    ⊎_elim
    (λ e.
    let place = group_place_is bs p n in
    let room : r < length xs = omega (arith, length-drop (p + 4) bs, group_place_yes bs p n e) in
    let here = ap moves_in (get_or-drop (p + 4) bs r 0 ∙ ap (λ k. get_or bs k 0) (sym place)) in
    ap (λ k. sum_by moves_in (take k xs)) (rank_yes (map_bit bs p) n e)
    ∙ ap (sum_by moves_in) (take_more xs r 0 room)
    ∙ sum_by_push moves_in (take r xs) (get_or xs r 0)
    ∙ omega (arith, sum_bytes bs p n (omega (arith, group_place_yes bs p n e)), here, count_yes bs p n e))
    (λ e.
    ap (λ k. sum_by moves_in (take k xs)) (rank_no (map_bit bs p) n e)
    ∙ omega (arith, sum_bytes bs p n (omega (arith, group_place_no bs p n e)), count_no bs p n e))
    (cases_Bool (map_bit bs p n)))

-- a set whose groups lie in the bytes ends there
pub groups_end : (bs : List ℕ) (p n : ℕ) → p + 4 ≤ length bs → ((g : ℕ) → g < n → map_bit bs p g ≡ true → group_place bs p g < length bs) → group_place bs p n ≤ length bs
groups_end bs p zero h inside = omega (arith, group_place_first bs p)
groups_end bs p (suc n) h inside =
    let before = groups_end bs p n h (λ g l. inside g (omega arith)) in
    rw (← (add-one n)) (
    ⊎_elim
    (λ e. omega (arith, group_place_yes bs p n e, inside n (omega arith) e))
    (λ e. omega (arith, group_place_no bs p n e))
    (cases_Bool (map_bit bs p n)))

-- whether a set that is kept as the bytes of its groups has a state, from the byte that stands for it
pub in_groups : (groups : List ℕ) (s : ℕ) (o : Option (Bor ℕ)) (r : Bool) → length groups ≡ 32 → MatchOption o (length groups ≤ s / 8) (λ x. (s / 8 < length groups) × HoldsAt (λ y. x.now ≡ y) groups (s / 8)) → MatchOption o (r ≡ false) (λ x. r ≡ bit x.now (s % 8)) → r ≡ elem s (states_of groups)
in_groups groups s None r size past off = off ∙ sym (elem_past _ 256 s (omega arith))
in_groups groups s (Some x) r size some is = is ∙ ap (λ b. bit b (s % 8)) (some.1 0) ∙ sym (elem_below _ 256 s (omega (arith, some.0)))
