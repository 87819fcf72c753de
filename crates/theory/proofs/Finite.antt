-- Bounded searches and decisions, and what is finite in a position.
use Rattle.std.proofs.Common.{◌≡◌, ℕ, zero, suc, ◌<◌, ◌≤◌, Bool, true, false, ◌⊎◌, sym, refl, ◌∙◌, inl, inr, ⊎_elim, add-one, arith, below_more}
use Rattle.std.proofs.lemmas.Bool.{false≢true, both_ways, cases_Bool, cases_lt}
use Rattle.game.specs.Below.{rank, bit, elem, weigh}
use Rattle.game.specs.declared.player.Player.{Player}
use Rattle.game.specs.declared.player.Player.TheVariants.{One, Two}
use Rattle.game.proofs.Below.{rank_yes, rank_no, rank_zero, bit_zero, bit_in_byte}
use Rattle.game.proofs.Members.{elem_within, place_elem}
use Rattle.game.proofs.Digits.{byte_found, bit_byte}
use Rattle.theory.specs.Positions.{Position, Playable, State, Keeps, Leads, Target}
use Rattle.theory.specs.Layers.{Least}
use Rattle.theory.specs.Verdicts.{Into, Forced}
use Rattle.theory.specs.Laws.{Exactly}

-- a statement with its proof or its refutation
abbrev pub Decided : Type 0 → Type 0
Decided A = A ⊎ (A → ⊥)

-- the test that a decision answers
pub test : {A : Type 0} → Decided A → Bool
test (inl a) = true
test (inr n) = false

pub test_holds : {A : Type 0} (d : Decided A) → test d ≡ true → A
unfolding test
test_holds (inl a) e = a
test_holds (inr n) e = absurd (false≢true e)

pub holds_test : {A : Type 0} (d : Decided A) → A → test d ≡ true
unfolding test
holds_test (inl a) h = refl
holds_test (inr n) h = absurd (n h)

pub fails_test : {A : Type 0} (d : Decided A) → (A → ⊥) → test d ≡ false
unfolding test
fails_test (inl a) h = absurd (h a)
fails_test (inr n) h = refl

-- decisions of equivalent statements, products, sums, implications and refutations
pub decided_by : {A B : Type 0} → (A → B) → (B → A) → Decided A → Decided B
decided_by f g (inl a) = inl (f a)
decided_by f g (inr n) = inr (λ b. n (g b))

pub decided_and : {A B : Type 0} → Decided A → Decided B → Decided (A × B)
decided_and (inl a) (inl b) = inl (a, b)
decided_and (inl a) (inr n) = inr (λ p. n p.1)
decided_and (inr n) d = inr (λ p. n p.0)

pub decided_or : {A B : Type 0} → Decided A → Decided B → Decided (A ⊎ B)
decided_or (inl a) d = inl (inl a)
decided_or (inr n) (inl b) = inl (inr b)
decided_or (inr n) (inr m) = inr (⊎_elim n m)

pub decided_to : {A B : Type 0} → Decided A → Decided B → Decided (A → B)
decided_to (inl a) (inl b) = inl (λ _. b)
decided_to (inl a) (inr n) = inr (λ f. n (f a))
decided_to (inr n) d = inl (λ a. absurd (n a))

pub decided_not : {A : Type 0} → Decided A → Decided (A → ⊥)
decided_not (inl a) = inr (λ n. n a)
decided_not (inr n) = inl n

pub decided_bool : (b : Bool) → Decided (b ≡ true)
decided_bool b = ⊎_elim inl (λ e. inr (both_ways b e)) (cases_Bool b)

pub decided_lt : (m n : ℕ) → Decided (m < n)
decided_lt m n = ⊎_elim inl (λ l. inr (λ h. omega arith)) (cases_lt m n)

-- searches below n
pub all_or_some : (n : ℕ) (P Q : ℕ → Type 0) → ((k : ℕ) → k < n → P k ⊎ Q k) → ((k : ℕ) → k < n → P k) ⊎ ((k : ℕ) × (k < n) × Q k)
all_or_some zero P Q h = inl (λ k l. absurd (omega arith))
all_or_some (suc n) P Q h =
    ⊎_elim
    (λ all. ⊎_elim (λ p. inl (λ k l. below_more P n all p k (omega arith))) (λ q. inr (n, omega arith, q)) (h n (omega arith)))
    (λ (k, l, q). inr (k, omega arith, q))
    (all_or_some n P Q (λ k l. h k (omega arith)))

pub decided_all : (n : ℕ) (P : ℕ → Type 0) → ((k : ℕ) → k < n → Decided (P k)) → Decided ((k : ℕ) → k < n → P k)
decided_all n P h = ⊎_elim inl (λ (k, l, m). inr (λ all. m (all k l))) (all_or_some n P (λ k. P k → ⊥) h)

pub decided_some : (n : ℕ) (P : ℕ → Type 0) → ((k : ℕ) → k < n → Decided (P k)) → Decided ((k : ℕ) × (k < n) × P k)
decided_some n P h = ⊎_elim (λ none. inr (λ (k, l, p). none k l p)) inl (all_or_some n (λ k. P k → ⊥) P (λ k l. ⊎_elim inr inl (h k l)))

-- the same among the numbers with A, which are below n
pub all_or_some_within : (n : ℕ) (A P Q : ℕ → Type 0) → ((k : ℕ) → A k → k < n) → ((k : ℕ) → Decided (A k)) → ((k : ℕ) → P k ⊎ Q k) → ((k : ℕ) → A k → P k) ⊎ ((k : ℕ) × A k × Q k)
all_or_some_within n A P Q within da d =
    ⊎_elim
    (λ all. inl (λ k a. all k (within k a) a))
    (λ (k, _, (a, q)). inr (k, a, q))
    (all_or_some n (λ k. A k → P k) (λ k. A k × Q k) (λ k _. ⊎_elim (λ a. ⊎_elim (λ p. inl (λ _. p)) (λ q. inr (a, q)) (d k)) (λ f. inl (λ a. absurd (f a))) (da k)))

pub decided_all_within : (n : ℕ) (A P : ℕ → Type 0) → ((k : ℕ) → A k → k < n) → ((k : ℕ) → Decided (A k)) → ((k : ℕ) → Decided (P k)) → Decided ((k : ℕ) → A k → P k)
decided_all_within n A P within da dp = ⊎_elim inl (λ (k, a, m). inr (λ all. m (all k a))) (all_or_some_within n A P (λ k. P k → ⊥) within da dp)

pub decided_some_within : (n : ℕ) (A P : ℕ → Type 0) → ((k : ℕ) → A k → k < n) → ((k : ℕ) → Decided (A k)) → ((k : ℕ) → Decided (P k)) → Decided ((k : ℕ) × A k × P k)
decided_some_within n A P within da dp = ⊎_elim (λ none. inr (λ (k, a, p). none k a p)) inl (all_or_some_within n A (λ k. P k → ⊥) P within da (λ k. ⊎_elim inr inl (dp k)))

-- the least number with a decided property
pub least_below : (n : ℕ) (P : ℕ → Type 0) → ((k : ℕ) → Decided (P k)) → ((k : ℕ) × (k < n) × Least P k) ⊎ ((k : ℕ) → k < n → P k → ⊥)
least_below zero P d = inr (λ k l. absurd (omega arith))
least_below (suc n) P d =
    ⊎_elim
    (λ (k, l, h). inl (k, omega arith, h))
    (λ none. ⊎_elim (λ p. inl (n, omega arith, (p, none))) (λ m. inr (λ k l. below_more (λ k. P k → ⊥) n none m k (omega arith))) (d n))
    (least_below n P d)

pub least : (P : ℕ → Type 0) → ((k : ℕ) → Decided (P k)) → (n : ℕ) → P n → (k : ℕ) × (k ≤ n) × Least P k
least P d n p = ⊎_elim (λ (k, l, h). (k, omega arith, h)) (λ none. absurd (none n (omega arith) p)) (least_below (suc n) P d)

pub least_one : (P : ℕ → Type 0) (j k : ℕ) → Least P j → Least P k → j ≡ k
least_one P j k a b = grind (arith, b.1 j, a.1 k, a.0, b.0)

-- a set with all members of another below n, and with one more
rank_within : (p q : ℕ → Bool) (n : ℕ) → ((k : ℕ) → k < n → p k ≡ true → q k ≡ true) → rank p n ≤ rank q n
rank_within p q zero h = omega (arith, rank_zero p, rank_zero q)
rank_within p q (suc n) h =
    let ih = rank_within p q n (λ k l. h k (omega arith)) in
    rw (← (add-one n)) (grind (arith, rank_yes p n, rank_no p n, rank_yes q n, rank_no q n, h n))

pub rank_more : (p q : ℕ → Bool) (n m : ℕ) → ((k : ℕ) → k < n → p k ≡ true → q k ≡ true) → m < n → p m ≡ false → q m ≡ true → rank p n < rank q n
rank_more p q zero m h l e f = absurd (omega arith)
rank_more p q (suc n) m h l e f =
    let within = rank_within p q n (λ k l. h k (omega arith)) in
    let ih : m < n → rank p n < rank q n = λ a. rank_more p q n m (λ k l. h k (omega arith)) a e f in
    rw (← (add-one n)) (grind (arith, rank_yes p n, rank_no p n, rank_yes q n, rank_no q n, h n))

-- the byte of a decided set of numbers below 8
pub byte_decided : (P : ℕ → Type 0) (d : (i : ℕ) → Decided (P i)) → ((i : ℕ) → P i → i < 8) → (i : ℕ) → Exactly (bit (weigh (λ i. test (d i)) 8) i ≡ true) (P i)
byte_decided P d small i =
    let is = bit_byte (λ i. test (d i)) i (λ e. small i (test_holds (d i) e)) in
    (λ e. test_holds (d i) (sym is ∙ e), λ h. is ∙ holds_test (d i) h)

module _ (x : Position) where
  pub decided_state : (s : ℕ) → Decided (State x s)
  decided_state s = decided_lt s x.game.size

  pub decided_keeps : (p : Player) (s m : ℕ) → Decided (Keeps x p s m)
  decided_keeps p s m = decided_bool (bit (x.kept p s) m)

  pub decided_leads : (s a b t : ℕ) → Decided (Leads x s a b t)
  decided_leads s a b t = decided_bool (elem t (x.game.support s a b))

  pub decided_target : (s : ℕ) → Decided (Target x s)
  decided_target s = decided_and (decided_state s) (decided_bool (x.target s))

module _ {x : Position} (ok : Playable x) where
  pub move_lt : (p : Player) (s m : ℕ) → Keeps x p s m → m < 8
  move_lt p s m = bit_in_byte (x.kept p s) m (ok.few_kept p s)

  pub leads_state : (s a b t : ℕ) → Leads x s a b t → State x t
  leads_state s a b t = λ m. (elem_within t 0 x.game.size (x.game.support s a b) (ok.valid.ascends s a b) m).1

  pub keeps_state : (p : Player) (s m : ℕ) → Keeps x p s m → State x s
  keeps_state p s m e = grind (arith, ok.kept_had p s m, ok.valid.no_move p s, bit_zero m)

  pub kept_some : (p : Player) (s : ℕ) → State x s → (m : ℕ) × Keeps x p s m
  kept_some p s h = byte_found (x.kept p s) (ok.some_kept p s h) (ok.few_kept p s)

  pub next_some : (s a b : ℕ) → Keeps x One s a → Keeps x Two s b → (t : ℕ) × Leads x s a b t
  next_some s a b h l = (_, place_elem (x.game.support s a b) 0 (ok.valid.some_next s a b (ok.kept_had One s a h, ok.kept_had Two s b l)))

  -- each move of player 1 leads somewhere
  pub into_some : (X : ℕ → Type 0) (s a : ℕ) → Keeps x One s a → Into x X s a → (t : ℕ) × X t
  into_some X s a h into =
      let (b, l) = kept_some Two s (keeps_state One s a h) in
      let (t, m) = next_some s a b h l in
      (t, into b l t m)

  pub decided_into : (X : ℕ → Type 0) → ((t : ℕ) → Decided (X t)) → (s a : ℕ) → Decided (Into x X s a)
  decided_into X d s a =
      decided_all_within 8 (Keeps x Two s) (λ b. (t : ℕ) → Leads x s a b t → X t) (move_lt Two s) (decided_keeps x Two s)
      (λ b. decided_all_within x.game.size (Leads x s a b) X (leads_state s a b) (decided_leads x s a b) d)

  pub decided_forced : (X : ℕ → Type 0) → ((t : ℕ) → Decided (X t)) → (s : ℕ) → Decided (Forced x X s)
  decided_forced X d s =
      decided_and (decided_state x s) (decided_some_within 8 (Keeps x One s) (Into x X s) (move_lt One s) (decided_keeps x One s) (decided_into X d s))

  -- a move into X, or a reply to it and a successor out of X
  pub into_or_reply : (X Y : ℕ → Type 0) → ((t : ℕ) → X t ⊎ Y t) → (s a : ℕ) → Into x X s a ⊎ ((b : ℕ) × Keeps x Two s b × ((t : ℕ) × Leads x s a b t × Y t))
  into_or_reply X Y d s a =
      all_or_some_within 8 (Keeps x Two s) (λ b. (t : ℕ) → Leads x s a b t → X t) (λ b. (t : ℕ) × Leads x s a b t × Y t) (move_lt Two s) (decided_keeps x Two s)
      (λ b. all_or_some_within x.game.size (Leads x s a b) X Y (leads_state s a b) (decided_leads x s a b) d)
