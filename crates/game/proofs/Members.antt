-- Laws of `elem`.
use Rattle.std.proofs.Common.{◌≡◌, ℕ, zero, suc, ◌<◌, ◌≤◌, Bool, true, false, eqb, List, [], ◌∷◌, length, get_or, refl, sym, ap, ◌∙◌, ⊎_elim, arith}
use Rattle.std.proofs.lemmas.Bool.{false≢true, cases_lt, or_cases, eqb-true}
use Rattle.std.proofs.lemmas.Bool.Decides.{nat_tests}
use Rattle.game.specs.Below.{below, rank, elem}
use Rattle.game.specs.Games.{Ascends}
use Rattle.game.proofs.Below.{below_none, below_at, rank_lt, get_or_below, ascends_below, ascends_at}

-- what stands at a place of a list is a member, and each member stands at a place
pub place_elem : (xs : List ℕ) (k : ℕ) → k < length xs → elem (get_or xs k 0) xs ≡ true
unfolding elem
place_elem [] k l = absurd (omega arith)
place_elem (x ∷ xs) zero l = grind (arith, nat_tests)
place_elem (x ∷ xs) (suc k) l = grind (arith, nat_tests, place_elem xs k)

pub elem_place : (xs : List ℕ) (t : ℕ) → elem t xs ≡ true → (k : ℕ) × (k < length xs) × (get_or xs k 0 ≡ t)
unfolding elem
elem_place [] t e = absurd (false≢true e)
elem_place (x ∷ xs) t e =
    ⊎_elim
    (λ a. (zero, omega arith, sym (eqb-true t x a)))
    (λ a. let (k, l, is) = elem_place xs t a in (suc k, omega arith, is))
    (or_cases (eqb t x) (elem t xs) e)

-- the members of an ascending list lie within its bounds
pub elem_within : (s m n : ℕ) (xs : List ℕ) → Ascends m n xs → elem s xs ≡ true → (m ≤ s) × (s < n)
elem_within s m n xs h e = let (k, l, is) = elem_place xs s e in rw is at (ascends_at m n xs k h l)

elem_before : (s m n : ℕ) (xs : List ℕ) → Ascends m n xs → s < m → elem s xs ≡ false
elem_before s m n xs h l = grind (arith, elem_within s m n xs h)

-- the members of the numbers below n that pass a test
pub elem_past : (q : ℕ → Bool) (n s : ℕ) → n ≤ s → elem s (below q n) ≡ false
elem_past q n s h = grind (arith, elem_within s 0 n (below q n) (ascends_below q n))

pub elem_below : (q : ℕ → Bool) (n s : ℕ) → s < n → elem s (below q n) ≡ q s
elem_below q n s h =
    let found : elem s (below q n) ≡ true → q s ≡ true = λ a. let (k, l, is) = elem_place (below q n) s a in rw is at (below_at q n k 0 l).1 in
    grind (arith, found, place_elem (below q n) (rank q s), rank_lt q s n h, get_or_below q s n 0 h)

-- the first number of an ascending list is the first that is in it
below_first : (x n : ℕ) (xs : List ℕ) → Ascends (suc x) n xs → (k : ℕ) → x < k → below (λ s. elem s (x ∷ xs)) k ≡ x ∷ below (λ s. elem s xs) k
unfolding below elem
below_first x n xs h zero l = absurd (omega arith)
below_first x n xs h (suc k) l =
    let rest : (s : ℕ) → s ≤ x → elem s xs ≡ false = λ s a. elem_before s (suc x) n xs h (omega arith) in
    ⊎_elim
    (λ a. rw (below_first x n xs h k a) (grind (arith, nat_tests)))
    (λ b.
    let e : k ≡ x = omega arith in
    rw (
      e,
      below_none (λ s. elem s (x ∷ xs)) x (λ s a. grind (arith, nat_tests, rest s)),
      below_none (λ s. elem s xs) x (λ s a. rest s (omega arith)),
    ) (grind (arith, nat_tests, rest x)))
    (cases_lt x k)

-- an ascending list is the numbers that it has, in order
pub below_elem : (m n : ℕ) (xs : List ℕ) → Ascends m n xs → below (λ s. elem s xs) n ≡ xs
unfolding elem
below_elem m n [] h = below_none (λ _. false) n (λ _ _. refl)
below_elem m n (x ∷ xs) h = below_first x n xs h.2 n h.1 ∙ ap (λ zs. x ∷ zs) (below_elem (suc x) n xs h.2)
