-- Laws of `below`, `rank` and `bit`, and of ascending lists.
use Rattle.std.proofs.Common.{◌≡◌, ℕ, zero, suc, ◌+◌, ◌-◌, ◌^◌, ◌<◌, ◌≤◌, Bool, true, false, List, [], ◌∷◌, ◌++◌, map, length, get_or, refl, ap, ◌∙◌, ⊎_elim, le_refl, add-zero, add_assoc, add-one, arith, cond, ◌&&◌}
use native.Mathlib.Nat.{zero-div}
use native.Mathlib.Numerals.{lt-add-one}
use Rattle.std.proofs.lemmas.Nat.Bits.{bit_at_above}
use Rattle.std.proofs.lemmas.List.{append-nil, append_assoc, length-append, length_push, map_push, get_or_append_left, get_or_push}
use Rattle.std.proofs.lemmas.Bool.{cases_Bool, cases_lt}
use Rattle.game.specs.Below.{below, rank, bit}
use Rattle.game.specs.Games.{Ascends}

pub below_zero : (p : ℕ → Bool) → below p 0 ≡ []
unfolding below
below_zero p = refl

pub below_yes : (p : ℕ → Bool) (n : ℕ) → p n ≡ true → below p (n + 1) ≡ below p n ++ n ∷ []
unfolding below
below_yes p n e = rw (add-one, e)

pub below_no : (p : ℕ → Bool) (n : ℕ) → p n ≡ false → below p (n + 1) ≡ below p n
unfolding below
below_no p n e = rw (add-one, e, append-nil)

-- tests that agree below n
pub below_same : (p q : ℕ → Bool) (n : ℕ) → ((k : ℕ) → k < n → p k ≡ q k) → below p n ≡ below q n
unfolding below
below_same p q zero h = refl
below_same p q (suc n) h = rw (below_same p q n (λ k l. h k (omega arith)), h n (omega arith))

-- no number below n passes
pub below_none : (p : ℕ → Bool) (n : ℕ) → ((k : ℕ) → k < n → p k ≡ false) → below p n ≡ []
unfolding below
below_none p zero h = refl
below_none p (suc n) h = rw (below_none p n (λ k l. h k (omega arith)), h n (omega arith))

pub below_add : (p : ℕ → Bool) (m n : ℕ) → below p (m + n) ≡ below p m ++ map (λ k. m + k) (below (λ k. p (m + k)) n)
below_add p m zero = rw (add-zero, below_zero, append-nil)
below_add p m (suc n) =
    let q : ℕ → Bool = λ k. p (m + k) in
    rw (← (add-one n), ← (add_assoc m n 1)) (
    grind (arith, below_add p m n, below_yes p (m + n), below_no p (m + n), below_yes q n, below_no q n, map_push (λ k. m + k) (below q n) n, append_assoc (below p m) (map (λ k. m + k) (below q n)) ((m + n) ∷ [])))

-- the numbers below m stand in front of those from m on
pub below_front : (p : ℕ → Bool) (m n : ℕ) → m ≤ n → (ys : List ℕ) × (below p n ≡ below p m ++ ys)
below_front p m n h = (_, ap (below p) {y = m + (n - m)} (omega arith) ∙ below_add p m (n - m))

-- what stands at a place of the numbers below m stands there among those below n
pub get_or_below_more : (p : ℕ → Bool) (m n k d : ℕ) → m ≤ n → k < rank p m → get_or (below p n) k d ≡ get_or (below p m) k d
get_or_below_more p m n k d h l =
    let (ys, front) = below_front p m n h in
    ap (λ xs. get_or xs k d) front ∙ get_or_append_left (below p m) ys d k l

pub rank_zero : (p : ℕ → Bool) → rank p 0 ≡ 0
rank_zero p = ap length (below_zero p)

pub rank_yes : (p : ℕ → Bool) (n : ℕ) → p n ≡ true → rank p (n + 1) ≡ rank p n + 1
rank_yes p n e = ap length (below_yes p n e) ∙ length_push (below p n) n

pub rank_no : (p : ℕ → Bool) (n : ℕ) → p n ≡ false → rank p (n + 1) ≡ rank p n
rank_no p n e = ap length (below_no p n e)

pub rank_same : (p q : ℕ → Bool) (n : ℕ) → ((k : ℕ) → k < n → p k ≡ q k) → rank p n ≡ rank q n
rank_same p q n h = ap length (below_same p q n h)

rank_mono : (p : ℕ → Bool) (m n : ℕ) → m ≤ n → rank p m ≤ rank p n
rank_mono p m n h = let (ys, front) = below_front p m n h in omega (arith, ap length front, length-append (below p m) ys)

pub rank_lt : (p : ℕ → Bool) (m n : ℕ) → m < n → p m ≡ true → rank p m < rank p n
rank_lt p m n h e = let l = rank_mono p (m + 1) n (omega arith) in omega (arith, rank_yes p m e)

pub rank_le : (p : ℕ → Bool) (n : ℕ) → rank p n ≤ n
rank_le p zero = omega (arith, rank_zero p)
rank_le p (suc n) =
    rw (← (add-one n)) (grind (arith, rank_le p n, rank_yes p n, rank_no p n))

pub rank_all : (n : ℕ) → rank (λ _. true) n ≡ n
rank_all zero = rank_zero (λ _. true)
rank_all (suc n) = rw (← (add-one n)) (omega (arith, rank_yes (λ _. true) n refl, rank_all n))

-- a number that passes stands at its rank
pub get_or_below : (p : ℕ → Bool) (m n d : ℕ) → m < n → p m ≡ true → get_or (below p n) (rank p m) d ≡ m
get_or_below p m n d h e =
    get_or_below_more p (m + 1) n (rank p m) d (omega arith) (omega (arith, rank_yes p m e))
    ∙ ap (λ xs. get_or xs (rank p m) d) (below_yes p m e)
    ∙ get_or_push (below p m) m d (rank p m) refl

pub get_or_below_all : (n k d : ℕ) → k < n → get_or (below (λ _. true) n) k d ≡ k
get_or_below_all n k d h = rw (rank_all k) at (get_or_below (λ _. true) k n d h refl)

-- what stands at a place passes, is below the bound, and has the place for its rank
pub below_at : (p : ℕ → Bool) (n k d : ℕ) → k < rank p n → (get_or (below p n) k d < n) × (p (get_or (below p n) k d) ≡ true) × (rank p (get_or (below p n) k d) ≡ k)
below_at p zero k d h = absurd (omega (arith, rank_zero p))
below_at p (suc n) k d h =
    let more : k < rank p (n + 1) = rw (add-one n) h in
    ⊎_elim
    (λ l. let r = below_at p n k d l in rw (get_or_below_more p n (suc n) k d (omega arith) l) (omega arith, r.1, r.2))
    (λ l.
    let e : p n ≡ true = grind (arith, rank_no p n) in
    let s : rank p n ≡ k = omega (arith, rank_yes p n e) in
    rw (← (add-one n), below_yes p n e, get_or_push (below p n) n d k s) (lt-add-one n, e, s))
    (cases_lt k (rank p n))

-- a function of each number that passes
pub map_yes : {A : Type 0} (f : ℕ → A) (p : ℕ → Bool) (n : ℕ) → p n ≡ true → map f (below p (n + 1)) ≡ map f (below p n) ++ f n ∷ []
map_yes f p n e = ap (map f) (below_yes p n e) ∙ map_push f (below p n) n

pub map_no : {A : Type 0} (f : ℕ → A) (p : ℕ → Bool) (n : ℕ) → p n ≡ false → map f (below p (n + 1)) ≡ map f (below p n)
map_no f p n e = ap (map f) (below_no p n e)

-- functions that agree below n
pub map_same : {A : Type 0} (f g : ℕ → A) (p : ℕ → Bool) (n : ℕ) → ((k : ℕ) → k < n → f k ≡ g k) → map f (below p n) ≡ map g (below p n)
map_same f g p zero h = rw (below_zero p)
map_same f g p (suc n) h =
    let ih = map_same f g p n (λ k l. h k (omega arith)) in
    let last = h n (omega arith) in
    rw (← (add-one n)) (grind (arith, map_yes f p n, map_yes g p n, map_no f p n, map_no g p n))

-- a list that ascends below k, and k after it
ascends_push : (m k n : ℕ) (xs : List ℕ) → m ≤ k → k < n → Ascends m k xs → Ascends m n (xs ++ k ∷ [])
ascends_push m k n [] l h a = (l, h, tt)
ascends_push m k n (x ∷ xs) l h a = (a.0, omega arith, ascends_push (suc x) k n xs (omega arith) h a.2)

-- the numbers below m that pass, where each of them is below n
pub ascends_within : (p : ℕ → Bool) (m n : ℕ) → ((k : ℕ) → k < m → p k ≡ true → k < n) → Ascends 0 n (below p m)
ascends_within p zero n h = rw (below_zero p) tt
ascends_within p (suc m) n h =
    rw (← (add-one m)) (
    ⊎_elim
    (λ e. rw (below_yes p m e) (ascends_push 0 m n (below p m) (omega arith) (h m (le_refl (suc m)) e) (ascends_within p m m (λ k l _. l))))
    (λ e. rw (below_no p m e) (ascends_within p m n (λ k l. h k (omega arith))))
    (cases_Bool (p m)))

pub ascends_below : (p : ℕ → Bool) (n : ℕ) → Ascends 0 n (below p n)
ascends_below p n = ascends_within p n n (λ k l _. l)

pub ascends_more : (m n k : ℕ) (xs : List ℕ) → n ≤ k → Ascends m n xs → Ascends m k xs
ascends_more m n k [] l h = tt
ascends_more m n k (x ∷ xs) l h = (h.0, omega arith, ascends_more (suc x) n k xs l h.2)

-- what stands in an ascending list
pub ascends_at : (m n : ℕ) (xs : List ℕ) (k : ℕ) → Ascends m n xs → k < length xs → (m ≤ get_or xs k 0) × (get_or xs k 0 < n)
ascends_at m n [] k h l = absurd (omega arith)
ascends_at m n (x ∷ xs) zero h l = (h.0, h.1)
ascends_at m n (x ∷ xs) (suc k) h l = let rest = ascends_at (suc x) n xs k h.2 (omega arith) in (omega (arith, h.0), rest.1)

-- a number below 2 ^ k has no bit from k on
pub bit_past : (c k i : ℕ) → c < 2 ^ k → k ≤ i → bit c i ≡ false
bit_past c k i h l = rw (bit_at_above c k i h l)

pub bit_zero : (i : ℕ) → bit 0 i ≡ false
bit_zero i = rw zero-div

-- the bits of a number that is kept or not
pub bit_kept : (t : Bool) (c i : ℕ) → bit (cond t c 0) i ≡ (t && bit c i)
bit_kept t c i = grind (arith, bit_zero i)

-- a number that has a bit is not 0
pub bit_some : (c i : ℕ) → bit c i ≡ true → 1 ≤ c
bit_some c i e = grind (arith, bit_zero i)

-- a bit of a byte is one of eight
pub bit_in_byte : (c i : ℕ) → c < 256 → bit c i ≡ true → i < 8
bit_in_byte c i h e = grind (arith, bit_past c 8 i)
