-- Members of supports by their places, and move sets that are put together one move at a time.
pub use Rattle.game.proofs.Members.{place_elem, elem_place}
pub use Rattle.game.proofs.Digits.{byte_found}
use Rattle.std.proofs.Common.{◌≡◌, ℕ, ◌+◌, ◌<◌, ◌≤◌, true, cond, eqb, ltb, List, length, get_or, sym, ◌∙◌, subst, ⊎_elim, arith}
use Rattle.std.proofs.lemmas.Bool.{cases_lt, cases_eq}
use Rattle.std.proofs.lemmas.Bool.Decides.{nat_tests}
use Rattle.game.specs.Below.{bit, elem}
use Rattle.game.proofs.Below.{bit_in_byte}
use Rattle.theory.specs.Laws.{Exactly}

-- what holds at each place holds of each member
pub all_members : (P : ℕ → Type 0) (xs : List ℕ) → ((k : ℕ) → k < length xs → P (get_or xs k 0)) → (t : ℕ) → elem t xs ≡ true → P t
all_members P xs h t e = let (k, l, is) = elem_place xs t e in subst P is (h k l)

-- what holds of each bit below a bound of at least 8 holds of each bit of a byte
pub all_bits : (P : ℕ → Type 0) (c n : ℕ) → c < 256 → 8 ≤ n → ((i : ℕ) → i < n → bit c i ≡ true → P i) → (i : ℕ) → bit c i ≡ true → P i
all_bits P c n h l all i e = all i (omega (arith, bit_in_byte c i h e)) e

-- the moves of a set are those below n with P
abbrev pub Gathers : (ℕ → Type 0) → ℕ → ℕ → Type 0
Gathers P n c = (i : ℕ) → Exactly (bit c i ≡ true) ((i < n) × P i)

-- the next move is not one
pub gathers_skip : (P : ℕ → Type 0) (n c : ℕ) → Gathers P n c → (P n → ⊥) → Gathers P (n + 1) c
gathers_skip P n c h not i = (
  (λ e. let (l, p) = (h i).0 e in (omega arith, p)),
  (λ (l, p). ⊎_elim (λ m. (h i).1 (m, p)) (λ m. absurd (not (subst P (omega arith) p))) (cases_lt i n)),
)

-- the next move is one, and is put in
pub gathers_put : (P : ℕ → Type 0) (n c d : ℕ) → Gathers P n c → n < 8 → P n → ((i : ℕ) → bit d i ≡ cond (eqb i n) (ltb n 8) (bit c i)) → Gathers P (n + 1) d
gathers_put P n c d h small p put i =
    ⊎_elim
    (λ is. (λ e. (omega arith, subst P (sym is) p), λ _. put i ∙ grind (arith, nat_tests)))
    (λ off.
    let same : bit d i ≡ bit c i = put i ∙ grind (arith, nat_tests) in (
      λ e. let (l, q) = (h i).0 (sym same ∙ e) in (omega arith, q),
      λ (l, q). same ∙ (h i).1 (omega arith, q),
    ))
    (cases_eq i n)
