-- The bytes of the groups of a list of states, one member on.
use Rattle.std.proofs.Common.{◌≡◌, ℕ, zero, suc, ◌+◌, ◌*◌, ◌/◌, ◌%◌, ◌^◌, ◌<◌, ◌≤◌, true, false, ◌||◌, eqb, List, [], ◌∷◌, ◌++◌, length, get_or, take, set, replicate, sym, refl, ap, ◌∙◌, inl, inr, arith}
use Rattle.std.proofs.lemmas.List.{take_more, length_push, length-set, get_or_push, get_or-set_same, get_or-set_other, length-replicate, get_or-replicate}
use Rattle.std.proofs.lemmas.Nat.{one_shl}
use Rattle.std.proofs.lemmas.Bool.{ne_eqb, or_from, cases_eq}
use Rattle.game.specs.Games.{Ascends}
use Rattle.game.proofs.Below.{ascends_at}
use Rattle.game.specs.Below.{elem}
use Rattle.layout.specs.Writing.{group}
use Rattle.game.proofs.Digits.{weigh_lt, weigh_none, weigh_same, weigh_add}
use Rattle.layout.proofs.Sets.{elem_at}
use Rattle.writer.specs.Sets.{Gathers}

elem_push : (x : ℕ) (ys : List ℕ) → elem x (ys ++ x ∷ []) ≡ true
elem_push x ys = rw (get_or_push ys x 0 (length ys) refl) at (elem_at (ys ++ x ∷ []) (length ys) (omega (arith, length_push ys x)))

elem_other : (x t : ℕ) (ys : List ℕ) → (x ≡ t → ⊥) → elem x (ys ++ t ∷ []) ≡ elem x ys
unfolding elem
elem_other x t [] not = or_from (eqb x t) false (ne_eqb x t not) refl
elem_other x t (y ∷ ys) not = ap (λ b. eqb x y || b) (elem_other x t ys not)

-- the group of the new member
group_push : (xs : List ℕ) (t : ℕ) → elem t xs ≡ false → group (xs ++ t ∷ []) (t / 8) ≡ group xs (t / 8) + 2 ^ (t % 8)
unfolding group
group_push xs t e =
    let whole : 8 * (t / 8) + t % 8 ≡ t = omega arith in
    weigh_add (λ i. elem (8 * (t / 8) + i) xs) (λ i. elem (8 * (t / 8) + i) (xs ++ t ∷ [])) 8 (t % 8) (omega arith) (ap (λ n. elem n xs) whole ∙ e) (ap (λ n. elem n (xs ++ t ∷ [])) whole ∙ elem_push t xs) (λ j not. elem_other (8 * (t / 8) + j) t xs (λ z. not (omega arith)))

-- every other group
group_other : (xs : List ℕ) (t g : ℕ) → (g ≡ t / 8 → ⊥) → group (xs ++ t ∷ []) g ≡ group xs g
unfolding group
group_other xs t g not =
    weigh_same (λ i. elem (8 * g + i) (xs ++ t ∷ [])) (λ i. elem (8 * g + i) xs) 8 (λ i l. elem_other (8 * g + i) t xs (λ z. not (omega arith)))

-- no member stands twice
ascends_new : (m n : ℕ) (xs : List ℕ) (k : ℕ) → Ascends m n xs → k < length xs → elem (get_or xs k 0) (take k xs) ≡ false
unfolding elem
ascends_new m n [] k h l = absurd (omega arith)
ascends_new m n (x ∷ xs) zero h l = refl
ascends_new m n (x ∷ xs) (suc k) h l =
    or_from (eqb (get_or xs k 0) x) (elem (get_or xs k 0) (take k xs)) (ne_eqb (get_or xs k 0) x (λ z. omega (arith, (ascends_at (suc x) n xs k h.2 (omega arith)).0))) (ascends_new (suc x) n xs k h.2 (omega arith))

-- no member yet
pub gathers_none : Gathers (replicate 32 0) []
unfolding group elem
gathers_none =
    (length-replicate {A = ℕ} 32 0, λ g h. get_or-replicate {A = ℕ} 32 g 0 0 h ∙ sym (weigh_none (λ i. elem (8 * g + i) []) 8 (λ i l. refl)))

-- what holds as member t, which stands at k in xs, is put into group i of gs
pub record Put (xs gs : List ℕ) (k t i : ℕ) : Type 0 where
  pub place : i < 32
  pub sum : get_or gs i 0 + (1 * 2 ^ (t % 8)) % 256 < 256
  pub more : Gathers (set gs i (get_or gs i 0 + (1 * 2 ^ (t % 8)) % 256)) (take (k + 1) xs)

-- member k, which is t
module _ (n : ℕ) (xs gs : List ℕ) (k t i : ℕ) (up : Ascends 0 n xs) (few : n ≤ 256) (h : k < length xs) (is : t ≡ get_or xs k 0) (at : i ≡ t / 8) (was : Gathers gs (take k xs)) where
  member_group : i < 32
  member_group = omega (arith, (ascends_at 0 n xs k up h).1)

  more : take (k + 1) xs ≡ take k xs ++ t ∷ []
  more = rw is (take_more xs k 0 h)

  sum : get_or gs i 0 + (1 * 2 ^ (t % 8)) % 256 ≡ group (take (k + 1) xs) i
  sum =
      let new : elem t (take k xs) ≡ false = rw is (ascends_new 0 n xs k up h) in
      let here : get_or gs i 0 ≡ group (take k xs) i = was.1 i member_group in
      let bit : (1 * 2 ^ (t % 8)) % 256 ≡ 2 ^ (t % 8) = one_shl (t % 8) 8 (omega arith) in
      let grown : group (take k xs ++ t ∷ []) (t / 8) ≡ group (take k xs) (t / 8) + 2 ^ (t % 8) = group_push (take k xs) t new in
      omega (arith, ap (group (take k xs)) at, ap (group (take k xs ++ t ∷ [])) at, ap (λ ys. group ys i) more)

  sum_byte : get_or gs i 0 + (1 * 2 ^ (t % 8)) % 256 < 256
  unfolding group
  sum_byte = omega (arith, sum, weigh_lt (λ j. elem (8 * i + j) (take (k + 1) xs)) 8)

  gathers_more : Gathers (set gs i (get_or gs i 0 + (1 * 2 ^ (t % 8)) % 256)) (take (k + 1) xs)
  gathers_more = (
    length-set gs i (get_or gs i 0 + (1 * 2 ^ (t % 8)) % 256) ∙ was.0,
    λ g l. elim (cases_eq g i) [
      | inl e ↦ rw e (get_or-set_same gs i (get_or gs i 0 + (1 * 2 ^ (t % 8)) % 256) 0 (omega (arith, was.0, member_group)) ∙ sum)
      | inr not ↦ get_or-set_other gs i g (get_or gs i 0 + (1 * 2 ^ (t % 8)) % 256) 0 not ∙ (was.1 g l ∙ sym (ap (λ ys. group ys g) more ∙ group_other (take k xs) t g (λ z. not (omega arith))))
    ],
  )

  pub put : Put xs gs k t i
  put = record { place = member_group; sum = sum_byte; more = gathers_more }
