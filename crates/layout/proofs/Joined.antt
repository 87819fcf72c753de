-- Laws of `joined`, over the numbers below a bound that pass a test, and over a list with a value for each pair out of two lists.
use Rattle.std.proofs.Common.{◌≡◌, ℕ, zero, suc, ◌+◌, ◌*◌, ◌/◌, ◌%◌, ◌<◌, ◌≤◌, Bool, true, false, List, [], ◌∷◌, ◌++◌, map, length, get_or, sym, refl, ap, ◌∙◌, ap₂, add-one, arith, length-append}
use lib.ListN.{length-map}
use Rattle.std.specs.List.{flat_map}
use Rattle.std.proofs.lemmas.List.{get_or_append_left, get_or-append_right, get_or-map, flat_map_more}
use Rattle.std.proofs.lemmas.Nat.{div_below, mod_below, div-add-mod'}
use Rattle.std.proofs.lemmas.List.Folds.{flat_map-map}
use Rattle.std.proofs.lemmas.Grind.{flat_map-append}
use Rattle.game.specs.Below.{below, rank}
use Rattle.game.proofs.Below.{below_zero, below_yes, below_no, below_front, rank_lt, get_or_below, below_at}

-- over the numbers below a bound that pass a test
module _ {A : Type 0} (f : ℕ → List A) (q : ℕ → Bool) where
  pub joined_none : flat_map f (below q 0) ≡ []
  joined_none = ap (flat_map f) (below_zero q)

  pub joined_yes : (n : ℕ) → q n ≡ true → flat_map f (below q (n + 1)) ≡ flat_map f (below q n) ++ f n
  joined_yes n e = ap (flat_map f) (below_yes q n e) ∙ sym (flat_map_more f [] (below q n) n)

  pub joined_no : (n : ℕ) → q n ≡ false → flat_map f (below q (n + 1)) ≡ flat_map f (below q n)
  joined_no n e = ap (flat_map f) (below_no q n e)

  -- what is joined below m stands in front of what is joined from m on
  pub joined_front : (m n : ℕ) → m ≤ n → (ys : List A) × (flat_map f (below q n) ≡ flat_map f (below q m) ++ ys)
  joined_front m n h = let (xs, front) = below_front q m n h in (flat_map f xs, ap (flat_map f) front ∙ flat_map-append f (below q m) xs)

  pub length_joined_yes : (n : ℕ) → q n ≡ true → length (flat_map f (below q (n + 1))) ≡ length (flat_map f (below q n)) + length (f n)
  length_joined_yes n e = ap length (joined_yes n e) ∙ length-append (flat_map f (below q n)) (f n)

  pub length_joined_no : (n : ℕ) → q n ≡ false → length (flat_map f (below q (n + 1))) ≡ length (flat_map f (below q n))
  length_joined_no n e = ap length (joined_no n e)

  pub length_joined_mono : (m n : ℕ) → m ≤ n → length (flat_map f (below q m)) ≤ length (flat_map f (below q n))
  length_joined_mono m n h =
      let (ys, front) = joined_front m n h in
      omega (arith, ap length front, length-append (flat_map f (below q m)) ys)

  -- pieces of at most w elements
  pub length_joined_small : (w n : ℕ) → ((k : ℕ) → length (f k) ≤ w) → length (flat_map f (below q n)) ≤ w * n
  length_joined_small w zero h = omega (arith, ap length joined_none)
  length_joined_small w (suc n) h =
      rw (← (add-one n)) (grind (arith, length_joined_small w n h, length_joined_yes n, length_joined_no n, h n))

-- the values of f, for each x upward and within it each y upward
abbrev pub pairs : {X Y A : Type 0} → (X → Y → A) → List X → List Y → List A
pairs f xs ys = flat_map (λ x. map (f x) ys) xs

pub length_pairs : {X Y A : Type 0} (f : X → Y → A) (xs : List X) (ys : List Y) → length (pairs f xs ys) ≡ length xs * length ys
length_pairs f [] ys = omega arith
length_pairs f (x ∷ xs) ys = omega (arith, length-append (map (f x) ys) (pairs f xs ys), length-map ys (f x), length_pairs f xs ys)

get_or_pairs : {X Y A : Type 0} (f : X → Y → A) (xs : List X) (ys : List Y) (i j : ℕ) (x : X) (y : Y) (a : A) → i < length xs → j < length ys → get_or (pairs f xs ys) (i * length ys + j) a ≡ f (get_or xs i x) (get_or ys j y)
get_or_pairs f [] ys i j x y a l m = absurd (omega arith)
get_or_pairs f (z ∷ xs) ys zero j x y a l m = grind (arith, get_or_append_left (map (f z) ys) (pairs f xs ys) a j, length-map ys (f z), get_or-map (f z) ys j y a m)
get_or_pairs f (z ∷ xs) ys (suc i) j x y a l m =
    grind (arith, get_or-append_right (map (f z) ys) (pairs f xs ys) (length ys) (suc i * length ys + j) a (length-map ys (f z)), get_or_pairs f xs ys i j x y a (omega arith) m)

pub joined_pairs : {X Y A B : Type 0} (g : A → List B) (f : X → Y → A) (xs : List X) (ys : List Y) → flat_map g (pairs f xs ys) ≡ flat_map (λ x. flat_map (λ y. g (f x y)) ys) xs
joined_pairs g f [] ys = refl
joined_pairs g f (x ∷ xs) ys = rw (flat_map-append g (map (f x) ys) (pairs f xs ys), flat_map-map g (f x) ys, joined_pairs g f xs ys)

-- the pairs of a number below m that passes p and a number below n that passes q
module _ {A : Type 0} (f : ℕ → ℕ → A) (p q : ℕ → Bool) (m n : ℕ) (d : A) where
  -- where the value of two numbers that pass stands
  pub pairs_found : (x y : ℕ) → x < m → y < n → p x ≡ true → q y ≡ true → get_or (pairs f (below p m) (below q n)) (rank p x * rank q n + rank q y) d ≡ f x y
  pairs_found x y h l e u =
      get_or_pairs f (below p m) (below q n) (rank p x) (rank q y) 0 0 d (rank_lt p x m h e) (rank_lt q y n l u) ∙ ap₂ f (get_or_below p x m 0 h e) (get_or_below q y n 0 l u)

  -- what stands at a place is the value of two numbers that pass, and that the place is for
  pub pairs_each : (k : ℕ) → k < rank p m * rank q n → (x : ℕ) × (y : ℕ) × (p x ≡ true) × (q y ≡ true) × (rank p x * rank q n + rank q y ≡ k) × (get_or (pairs f (below p m) (below q n)) k d ≡ f x y)
  pairs_each k h =
      let pos : 0 < rank q n = grind arith in
      let i : k / rank q n < rank p m = div_below k (rank q n) (rank p m) pos h in
      let j : k % rank q n < rank q n = mod_below k (rank q n) pos in
      let first = below_at p m (k / rank q n) 0 i in
      let second = below_at q n (k % rank q n) 0 j in
      let place : k / rank q n * rank q n + k % rank q n ≡ k = div-add-mod' k (rank q n) in (
        get_or (below p m) (k / rank q n) 0,
        get_or (below q n) (k % rank q n) 0,
        first.1,
        second.1,
        ap₂ (λ i j. i * rank q n + j) first.2 second.2 ∙ place,
        ap (λ z. get_or (pairs f (below p m) (below q n)) z d) (sym place) ∙ get_or_pairs f (below p m) (below q n) (k / rank q n) (k % rank q n) 0 0 d i j,
      )
