-- The successors that are noted so far.
use Rattle.std.proofs.Common.{◌≡◌, ℕ, ◌+◌, ◌<◌, ◌≤◌, Bool, true, false, List, [], length, get_or, set, sym, ap, ◌∙◌, subst, ⊎_elim, get_or-set_other, get_or-set_same, below_more}
use Rattle.std.proofs.lemmas.Bool.{false≢true, cases_lt, cases_eq, both_ways}
use Rattle.game.specs.Below.{bit, elem}
use Rattle.game.specs.Games.{WellFormed}
use Rattle.game.specs.declared.player.Player.TheVariants.{One, Two}
use Rattle.game.proofs.Below.{bit_zero}
use Rattle.theory.specs.Positions.{Position, Keeps, Leads}
use Rattle.theory.proofs.Supports.{all_bits}
use Rattle.solver.specs.Links.{link, Linked}

-- what is noted stays so
abbrev pub Grows : List (List Bool) → List (List Bool) → Type 0
Grows xs ys = (s t : ℕ) → link xs s t ≡ true → link ys s t ≡ true

-- a row in place of the row of t, in which what is noted stays so
pub row_grows : (xs : List (List Bool)) (t : ℕ) (row : List Bool) → t < length xs → ((s : ℕ) → link xs s t ≡ true → get_or row s false ≡ true) → Grows xs (set xs t row)
row_grows xs t row l grows s u e =
    ⊎_elim
    (λ is. subst (λ k. link (set xs t row) s k ≡ true) (sym is) (subst (λ r. get_or r s false ≡ true) (sym (get_or-set_same xs t row [] l)) (grows s (subst (λ k. link xs s k ≡ true) is e))))
    (λ off. subst (λ r. get_or r s false ≡ true) (sym (get_or-set_other xs t u row [] off)) e)
    (cases_eq u t)

module _ (x : Position) where
  -- each successor of s under a and b is noted
  abbrev pub Noted : List (List Bool) → ℕ → ℕ → ℕ → Type 0
  Noted links s a b = (t : ℕ) → Leads x s a b t → link links s t ≡ true

  -- the same for the kept moves: of the states below n, of the moves below n at s, of the replies below n to a at s
  abbrev pub StatesNoted : List (List Bool) → ℕ → Type 0
  StatesNoted links n = (s : ℕ) → s < n → (a : ℕ) → Keeps x One s a → (b : ℕ) → Keeps x Two s b → Noted links s a b

  abbrev pub MovesNoted : List (List Bool) → ℕ → ℕ → Type 0
  MovesNoted links s n = (a : ℕ) → a < n → Keeps x One s a → (b : ℕ) → Keeps x Two s b → Noted links s a b

  abbrev pub RepliesNoted : List (List Bool) → ℕ → ℕ → ℕ → Type 0
  RepliesNoted links s a n = (b : ℕ) → b < n → Keeps x Two s b → Keeps x One s a → Noted links s a b

  pub states_grow : (links more : List (List Bool)) (n : ℕ) → Grows links more → StatesNoted links n → StatesNoted more n
  states_grow links more n grows h s l a one b two t leads = grows _ _ (h s l a one b two t leads)

  pub moves_grow : (links more : List (List Bool)) (s n : ℕ) → Grows links more → MovesNoted links s n → MovesNoted more s n
  moves_grow links more s n grows h a l one b two t leads = grows _ _ (h a l one b two t leads)

  -- the next reply: its successors are noted, or one of the two moves is not kept
  pub replies_add : (links more : List (List Bool)) (s a n : ℕ) → Grows links more → RepliesNoted links s a n → Noted more s a n → RepliesNoted more s a (n + 1)
  replies_add links more s a n grows h here =
      below_more (λ b. Keeps x Two s b → Keeps x One s a → Noted more s a b) n (λ b l two one t leads. grows _ _ (h b l two one t leads)) (λ _ _. here)

  pub replies_skip : (links : List (List Bool)) (s a n : ℕ) → RepliesNoted links s a n → (Keeps x Two s n → Keeps x One s a → ⊥) → RepliesNoted links s a (n + 1)
  replies_skip links s a n h not = below_more (λ b. Keeps x Two s b → Keeps x One s a → Noted links s a b) n h (λ two one. absurd (not two one))

  -- the next move, after all replies to it; the next state, after all moves at it
  pub moves_add : (links : List (List Bool)) (s a n : ℕ) → x.kept Two s < 256 → 8 ≤ n → RepliesNoted links s a n → MovesNoted links s a → MovesNoted links s (a + 1)
  moves_add links s a n byte all here h =
      below_more (λ a. Keeps x One s a → (b : ℕ) → Keeps x Two s b → Noted links s a b) a h
      (λ one b two. all_bits (λ b. Keeps x One s a → Noted links s a b) (x.kept Two s) n byte all here b two one)

  pub states_add : (links : List (List Bool)) (s n : ℕ) → x.kept One s < 256 → 8 ≤ n → MovesNoted links s n → StatesNoted links s → StatesNoted links (s + 1)
  states_add links s n byte all here h =
      below_more (λ s. (a : ℕ) → Keeps x One s a → (b : ℕ) → Keeps x Two s b → Noted links s a b) s h
      (all_bits (λ a. (b : ℕ) → Keeps x Two s b → Noted links s a b) (x.kept One s) n byte all here)

  -- past the states nothing leads anywhere
  no_successor : WellFormed x.game → (s a b t : ℕ) → x.game.size ≤ s → Leads x s a b t → ⊥
  unfolding elem
  no_successor valid s a b t l leads =
      let none : x.game.support s a b ≡ [] =
      valid.no_next s a b (λ (one, _). both_ways (bit (x.game.choices One s) a) (ap (λ c. bit c a) (valid.no_move One s l) ∙ bit_zero a) one) in
      false≢true (subst (λ ts. elem t ts ≡ true) none leads)

  pub all_linked : WellFormed x.game → (links : List (List Bool)) → StatesNoted links x.game.size → Linked x links
  all_linked valid links h s a b t one two leads =
      ⊎_elim (λ l. h s l a one b two t leads) (λ l. absurd (no_successor valid s a b t l leads)) (cases_lt s x.game.size)
