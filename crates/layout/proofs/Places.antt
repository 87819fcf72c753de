-- The bytes of a record, and one step on in a set, a row and a record.
use Rattle.std.proofs.Common.{◌≡◌, ℕ, zero, suc, ◌+◌, ◌<◌, ◌≤◌, true, false, List, length, refl, ap, ⊎_elim, le_refl, add-one, arith}
use Rattle.std.proofs.lemmas.List.{get_or_past}
use Rattle.std.proofs.lemmas.Bool.{cases_lt}
use Rattle.game.specs.Below.{rank}
use Rattle.game.proofs.Below.{rank_zero, rank_yes, rank_no}
use Rattle.layout.specs.Reading.{at, map_bit, group_place, set_end, sets_end, row_sets, row_end, row_place, Bytes}

-- each byte, also past the end, where 0 is read
pub at_small : (bs : List ℕ) → Bytes bs → (k : ℕ) → at bs k < 256
at_small bs small k = ⊎_elim (small k) (λ l. omega (arith, get_or_past bs k 0 l)) (cases_lt k (length bs))

pub group_place_first : (bs : List ℕ) (p : ℕ) → group_place bs p 0 ≡ p + 4
unfolding group_place
group_place_first bs p = omega (arith, rank_zero (map_bit bs p))

pub group_place_yes : (bs : List ℕ) (p g : ℕ) → map_bit bs p g ≡ true → group_place bs p (g + 1) ≡ group_place bs p g + 1
unfolding group_place
group_place_yes bs p g e = omega (arith, rank_yes (map_bit bs p) g e)

pub group_place_no : (bs : List ℕ) (p g : ℕ) → map_bit bs p g ≡ false → group_place bs p (g + 1) ≡ group_place bs p g
unfolding group_place
group_place_no bs p g e = omega (arith, rank_no (map_bit bs p) g e)

pub set_end_is : (bs : List ℕ) (p : ℕ) → set_end bs p ≡ group_place bs p 32
unfolding set_end group_place
set_end_is bs p = refl

pub set_end_rank : (bs : List ℕ) (p : ℕ) → set_end bs p ≡ p + 4 + rank (map_bit bs p) 32
unfolding set_end group_place
set_end_rank bs p = refl

pub set_end_le : (bs : List ℕ) (p : ℕ) → p + 4 ≤ set_end bs p
set_end_le bs p = omega (arith, set_end_rank bs p)

pub sets_end_first : (bs : List ℕ) (p : ℕ) → sets_end bs p 0 ≡ p
unfolding sets_end
sets_end_first bs p = refl

pub sets_end_more : (bs : List ℕ) (p k : ℕ) → sets_end bs p (k + 1) ≡ set_end bs (sets_end bs p k)
unfolding sets_end
sets_end_more bs p k = rw add-one

-- one set first, and then the others
pub sets_end_rest : (bs : List ℕ) (p k : ℕ) → sets_end bs p (suc k) ≡ sets_end bs (set_end bs p) k
unfolding sets_end
sets_end_rest bs p zero = refl
sets_end_rest bs p (suc k) = ap (set_end bs) (sets_end_rest bs p k)

sets_end_le : (bs : List ℕ) (p k : ℕ) → p ≤ sets_end bs p k
unfolding sets_end
sets_end_le bs p zero = le_refl p
sets_end_le bs p (suc k) = omega (arith, sets_end_le bs p k, set_end_le bs (sets_end bs p k))

pub row_end_le : (bs : List ℕ) (p : ℕ) → p + 2 ≤ row_end bs p
unfolding row_end
row_end_le bs p = sets_end_le bs (p + 2) (row_sets bs p)

pub row_place_first : (bs : List ℕ) → row_place bs 0 ≡ 1
unfolding row_place
row_place_first bs = refl

pub row_place_more : (bs : List ℕ) (s : ℕ) → row_place bs (s + 1) ≡ row_end bs (row_place bs s)
unfolding row_place
row_place_more bs s = rw add-one
