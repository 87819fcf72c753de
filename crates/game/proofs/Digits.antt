-- Laws of `weigh` and `bit`, and what the code's operations on bytes come to.
use Rattle.std.proofs.Common.{◌≡◌, ℕ, zero, suc, ◌+◌, ◌-◌, ◌*◌, ◌/◌, ◌%◌, ◌^◌, ◌<◌, ◌≤◌, Bool, true, false, cond, eqb, ltb, sym, refl, ap, ◌∙◌, ⊎_elim, add-zero, mod-lt, mod-eq_of_lt, add-one, arith, pow_pos, pow_mono, pow-add}
use lib.Count.{ones, ones_cat}
use Rattle.std.proofs.lemmas.Bool.{cases_Bool, cases_lt}
use Rattle.std.proofs.lemmas.Bool.Decides.{nat_tests}
use Rattle.std.proofs.lemmas.Nat.{shr_split, one_shl}
use Rattle.std.proofs.lemmas.Nat.Bits.{bit_at_cat_low, bit_at_cat_high, bit_at_above, bit_at-lt, same_from_bits_below}
use Rattle.game.specs.Below.{rank, bit, weigh}
use Rattle.game.proofs.Below.{rank_zero, rank_yes, rank_no, bit_past, bit_in_byte, bit_zero}

-- a weight, one bit on
pub weigh_yes : (p : ℕ → Bool) (k : ℕ) → p k ≡ true → weigh p (k + 1) ≡ 1 * 2 ^ k + weigh p k
unfolding weigh
weigh_yes p k e = rw (add-one, e) (omega arith)

pub weigh_no : (p : ℕ → Bool) (k : ℕ) → p k ≡ false → weigh p (k + 1) ≡ weigh p k
unfolding weigh
weigh_no p k e = rw (add-one, e, add-zero)

pub weigh_lt : (p : ℕ → Bool) (k : ℕ) → weigh p k < 2 ^ k
weigh_lt p zero = unfold weigh in omega arith
weigh_lt p (suc k) =
    rw (← (add-one k)) (grind (arith, weigh_lt p k, weigh_yes p k, weigh_no p k, pow-add 2 k 1))

pub weigh_byte : (p : ℕ → Bool) (k : ℕ) → k ≤ 8 → weigh p k < 256
weigh_byte p k h = omega (arith, weigh_lt p k, pow_mono {i = k} {j = 8} h)

-- the bits of a weight
pub bit_weigh : (p : ℕ → Bool) (k i : ℕ) → i < k → bit (weigh p k) i ≡ p i
bit_weigh p zero i h = absurd (omega arith)
bit_weigh p (suc k) i h =
    let w : ℕ = weigh p k in
    let small : w < 2 ^ k = weigh_lt p k in
    rw (← (add-one k)) (grind (arith, nat_tests, bit_weigh p k i, weigh_yes p k, weigh_no p k, bit_at_cat_low 1 k w i, bit_at_cat_high 1 k w i small, bit_at_above w k i small))

-- numbers below 2 ^ k with the same bits
pub same_bits : (k a b : ℕ) → a < 2 ^ k → b < 2 ^ k → ((i : ℕ) → i < k → bit a i ≡ bit b i) → a ≡ b
same_bits k a b h l same = same_from_bits_below k a b h l (λ i m. let e = same i m in grind (arith, nat_tests, bit_at-lt a i, bit_at-lt b i))

pub weigh_bit : (c k : ℕ) → c < 2 ^ k → weigh (bit c) k ≡ c
weigh_bit c k h = same_bits k (weigh (bit c) k) c (weigh_lt (bit c) k) h (bit_weigh (bit c) k)

pub weigh_same : (p q : ℕ → Bool) (k : ℕ) → ((i : ℕ) → i < k → p i ≡ q i) → weigh p k ≡ weigh q k
unfolding weigh
weigh_same p q zero h = refl
weigh_same p q (suc k) h = rw (weigh_same p q k (λ i l. h i (omega arith)), h k (omega arith))

-- one bit more passes
pub weigh_add : (p q : ℕ → Bool) (k i : ℕ) → i < k → p i ≡ false → q i ≡ true → ((j : ℕ) → (j ≡ i → ⊥) → q j ≡ p j) → weigh q k ≡ weigh p k + 2 ^ i
unfolding weigh
weigh_add p q zero i h e f same = absurd (omega arith)
weigh_add p q (suc k) i h e f same =
    ⊎_elim
    (λ l. rw (weigh_add p q k i l e f same, same k (omega arith)) (omega arith))
    (λ l. let s : k ≡ i = omega arith in rw (s, e, f, weigh_same q p i (λ j m. same j (omega arith))) (omega arith))
    (cases_lt i k)

-- a number is the weight of its bits
pub weigh_is : (p : ℕ → Bool) (c k : ℕ) → c < 2 ^ k → ((i : ℕ) → i < k → p i ≡ bit c i) → weigh p k ≡ c
weigh_is p c k h same = weigh_same p (bit c) k same ∙ weigh_bit c k h

-- no bit passes, and the weight is 0
pub weigh_none : (p : ℕ → Bool) (k : ℕ) → ((i : ℕ) → i < k → p i ≡ false) → weigh p k ≡ 0
weigh_none p k h = weigh_is p 0 k (pow_pos k) (λ i l. h i l ∙ sym (bit_zero i))

-- the weight is above 0, so some bit passes
pub weigh_found : (p : ℕ → Bool) (k : ℕ) → 1 ≤ weigh p k → (i : ℕ) × (i < k) × (p i ≡ true)
weigh_found p zero h = absurd (omega (arith, weigh_lt p zero))
weigh_found p (suc k) h =
    ⊎_elim
    (λ e. (k, omega arith, e))
    (λ e. let (i, l, f) = weigh_found p k (rw (← (add-one k), weigh_no p k e) at h) in (i, omega arith, f))
    (cases_Bool (p k))

-- a byte that is not 0 has a bit
pub byte_found : (c : ℕ) → 1 ≤ c → c < 256 → (i : ℕ) × (bit c i ≡ true)
byte_found c l h = let (i, _, e) = weigh_found (bit c) 8 (omega (arith, weigh_bit c 8 h)) in (i, e)

-- the bits of a weight, counted
ones_weigh : (p : ℕ → Bool) (k : ℕ) → ones (weigh p k) ≡ rank p k
ones_weigh p zero = unfold weigh ones in sym (rank_zero p)
ones_weigh p (suc k) =
    let one : ones 1 ≡ 1 = unfold ones in refl in
    rw (← (add-one k)) (grind (arith, ones_weigh p k, weigh_yes p k, weigh_no p k, rank_yes p k, rank_no p k, ones_cat k 1 (weigh p k) (weigh_lt p k)))

-- the standing bits below a, counted
pub ones_mod : (c a : ℕ) → ones (c % 2 ^ a) ≡ rank (bit c) a
ones_mod c a =
    ap ones (same_bits a (c % 2 ^ a) (weigh (bit c) a) (mod-lt c (pow_pos a)) (weigh_lt (bit c) a) (λ i l. sym (ap (λ n. eqb n 1) (bit_at_cat_low (c / 2 ^ a) a (c % 2 ^ a) i l)) ∙ ap (λ d. bit d i) (shr_split c a) ∙ sym (bit_weigh (bit c) a i l)))
    ∙ ones_weigh (bit c) a

-- `count_ones` of a byte
pub ones_rank : (c : ℕ) → c < 256 → ones c ≡ rank (bit c) 8
ones_rank c h = ap ones (sym (mod-eq_of_lt h)) ∙ ones_mod c 8

-- the byte of a test that only numbers below 8 pass
pub bit_byte : (p : ℕ → Bool) (i : ℕ) → (p i ≡ true → i < 8) → bit (weigh p 8) i ≡ p i
bit_byte p i small = grind (arith, bit_weigh p 8 i, bit_past (weigh p 8) 8 i (weigh_lt p 8))

-- a byte with one more bit, and with one less, as a shift and a sum or a difference give it
pub bit_added : (c i : ℕ) → c < 256 → i < 8 → bit c i ≡ false → (c + 1 * 2 ^ i % 256 < 256) × ((j : ℕ) → bit (c + 1 * 2 ^ i % 256) j ≡ cond (eqb j i) (ltb i 8) (bit c j))
bit_added c i small l off =
    let q : ℕ → Bool = λ j. cond (eqb j i) (ltb i 8) (bit c j) in
    let more = weigh_add (bit c) q 8 i l off (grind (arith, nat_tests)) (λ j ne. grind (arith, nat_tests)) in
    let sum : c + 1 * 2 ^ i % 256 ≡ weigh q 8 = omega (arith, weigh_bit c 8 small, more, one_shl i 8 l) in
    (omega (arith, sum, weigh_byte q 8 (omega arith)), λ j. ap (λ d. bit d j) sum ∙ bit_byte q j (grind (arith, nat_tests, bit_past c 8 j small)))

-- a byte is at least the weight of each of its standing bits
pub weight_le : (c i : ℕ) → c < 256 → bit c i ≡ true → 2 ^ i ≤ c
weight_le c i small on =
    let q : ℕ → Bool = λ j. cond (eqb j i) false (bit c j) in
    let l : i < 8 = bit_in_byte c i small on in
    omega (arith, weigh_bit c 8 small, weigh_add q (bit c) 8 i l (grind (arith, nat_tests)) on (λ j ne. grind (arith, nat_tests)))

pub bit_taken : (c i : ℕ) → c < 256 → bit c i ≡ true → (j : ℕ) → bit (c - 1 * 2 ^ i % 256) j ≡ cond (eqb j i) false (bit c j)
bit_taken c i small on j =
    let q : ℕ → Bool = λ j. cond (eqb j i) false (bit c j) in
    let l : i < 8 = bit_in_byte c i small on in
    let more = weigh_add q (bit c) 8 i l (grind (arith, nat_tests)) on (λ j ne. grind (arith, nat_tests)) in
    let rest : c - 1 * 2 ^ i % 256 ≡ weigh q 8 = omega (arith, weigh_bit c 8 small, more, one_shl i 8 l) in
    ap (λ d. bit d j) rest ∙ bit_byte q j (grind (arith, nat_tests, bit_past c 8 j small))
