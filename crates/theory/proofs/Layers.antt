-- Laws of layers: they grow, each has a member of its own until they stop, and so they stop within the number of states.
use Rattle.std.proofs.Common.{◌≡◌, ℕ, zero, suc, ◌<◌, ◌≤◌, ◌⊎◌, subst, inl, inr, ⊎_elim, arith}
use Rattle.std.proofs.lemmas.Bool.{cases_lt}
use Rattle.game.specs.Below.{rank}
use Rattle.game.proofs.Below.{rank_le, rank_lt}
use Rattle.theory.specs.Layers.{Upto, Enters}
use Rattle.theory.proofs.Finite.{Decided, test, test_holds, holds_test, fails_test, decided_by, decided_and, decided_or, decided_not, decided_all, decided_some, least, least_one, rank_more}

-- A start set and a step of which only numbers below n are members, both decided. The step grows with the set, and takes nothing from the
-- empty set.
pub record Grows (n : ℕ) (start : ℕ → Type 0) (step : (ℕ → Type 0) → ℕ → Type 0) : Type 1 where
  pub start_lt : (s : ℕ) → start s → s < n
  pub step_lt : (X : ℕ → Type 0) (s : ℕ) → step X s → s < n
  pub start_decided : (s : ℕ) → Decided (start s)
  pub step_decided : (X : ℕ → Type 0) → ((s : ℕ) → Decided (X s)) → (s : ℕ) → Decided (step X s)
  pub step_more : (X Y : ℕ → Type 0) → ((s : ℕ) → X s → Y s) → (s : ℕ) → step X s → step Y s
  pub step_some : (X : ℕ → Type 0) (s : ℕ) → step X s → (t : ℕ) × X t

module _ (start : ℕ → Type 0) (step : (ℕ → Type 0) → ℕ → Type 0) where
  -- whatever the step, what is in a layer up to j is in one up to each higher number
  pub upto_later : (j k s : ℕ) → j ≤ k → Upto start step j s → Upto start step k s
  upto_later j zero s l h = subst (λ i. Upto start step i s) {y = 0} (omega arith) h
  upto_later j (suc k) s l h =
      ⊎_elim (λ a. inl (upto_later j k s (omega arith) h)) (λ a. subst (λ i. Upto start step i s) {y = suc k} (omega arith) h) (cases_lt j (suc k))

  pub upto_below : {n : ℕ} → ((s : ℕ) → start s → s < n) → ((X : ℕ → Type 0) (s : ℕ) → step X s → s < n) → (k s : ℕ) → Upto start step k s → s < n
  upto_below start_lt step_lt zero s h = start_lt s h
  upto_below start_lt step_lt (suc k) s h = ⊎_elim (upto_below start_lt step_lt k s) (step_lt (Upto start step k) s) h

module _ {n : ℕ} {start : ℕ → Type 0} {step : (ℕ → Type 0) → ℕ → Type 0} (g : Grows n start step) where
  pub upto_more : (j k s : ℕ) → j ≤ k → Upto start step j s → Upto start step k s
  upto_more = upto_later start step

  pub upto_lt : (k s : ℕ) → Upto start step k s → s < n
  upto_lt = upto_below start step g.start_lt g.step_lt

  pub upto_decided : (k s : ℕ) → Decided (Upto start step k s)
  upto_decided zero s = g.start_decided s
  upto_decided (suc k) s = decided_or (upto_decided k s) (g.step_decided (Upto start step k) (upto_decided k) s)

  pub upto_enters : (k s : ℕ) → Upto start step k s → (j : ℕ) × (j ≤ k) × Enters (Upto start step) j s
  upto_enters k s h = least (λ i. Upto start step i s) (λ i. upto_decided i s) k h

  pub enters_one : (j k s : ℕ) → Enters (Upto start step) j s → Enters (Upto start step) k s → j ≡ k
  enters_one j k s = least_one (λ i. Upto start step i s) j k

  -- where a state enters: above j if it is in no layer up to j, else at most at j
  pub enters_above : (j k s : ℕ) → (Upto start step j s → ⊥) → Enters (Upto start step) k s → j < k
  enters_above j k s a h = ⊎_elim (λ l. l) (λ l. absurd (a (upto_more k j s l h.0))) (cases_lt j k)

  pub enters_within : (j k s : ℕ) → Upto start step j s → Enters (Upto start step) k s → k ≤ j
  enters_within j k s a h = grind (arith, h.1 j, a)

  -- a state in a layer up to k + 1 and in none up to k enters at k + 1
  pub enters_next : (k s : ℕ) → Upto start step (suc k) s → (Upto start step k s → ⊥) → Enters (Upto start step) (suc k) s
  enters_next k s h a = (h, λ j l b. a (upto_more j k s (omega arith) b))

  pub enters_decided : (k s : ℕ) → Decided (Enters (Upto start step) k s)
  enters_decided k s = decided_and (upto_decided k s) (decided_all k (λ j. Upto start step j s → ⊥) (λ j _. decided_not (upto_decided j s)))

  -- nothing enters at k + 1: nothing enters later
  pub upto_stops : (k : ℕ) → ((s : ℕ) → Enters (Upto start step) (suc k) s → ⊥) → (j s : ℕ) → Upto start step j s → Upto start step k s
  upto_stops k none zero s h = upto_more 0 k s (omega arith) h
  upto_stops k none (suc j) s h =
      ⊎_elim
      (λ a. a)
      (λ a. absurd (none s (enters_next k s (⊎_elim (λ b. inl (upto_stops k none j s b)) (λ b. inr (g.step_more _ _ (upto_stops k none j) s b)) h) a)))
      (upto_decided k s)

  -- an empty start set: nothing enters
  upto_none : ((s : ℕ) → start s → ⊥) → (k s : ℕ) → Upto start step k s → ⊥
  upto_none none zero s h = none s h
  upto_none none (suc k) s h = ⊎_elim (upto_none none k s) (λ a. let (t, b) = g.step_some _ s a in upto_none none k t b) h

  -- something enters at each number up to one at which something enters
  pub enters_some : (j k s : ℕ) → j ≤ k → Enters (Upto start step) k s → (t : ℕ) × (t < n) × Enters (Upto start step) j t
  enters_some zero k s l h =
      ⊎_elim
      (λ a. a)
      (λ none. absurd (upto_none (λ t a. none (t, g.start_lt t a, (a, λ i m. absurd (omega arith)))) k s h.0))
      (decided_some n (Enters (Upto start step) 0) (λ t _. enters_decided 0 t))
  enters_some (suc j) k s l h =
      ⊎_elim
      (λ a. a)
      (λ none. absurd (h.1 j (omega arith) (upto_stops j (λ t a. none (t, upto_lt (suc j) t a.0, a)) k s h.0)))
      (decided_some n (Enters (Upto start step) (suc j)) (λ t _. enters_decided (suc j) t))

  count : ℕ → ℕ
  count k = rank (λ s. test (upto_decided k s)) n

  count_more : (j k s : ℕ) → j < k → Enters (Upto start step) k s → count j < count k
  unfolding count
  count_more j k s l h =
      rank_more (λ s. test (upto_decided j s)) (λ s. test (upto_decided k s)) n s
      (λ t _ e. holds_test (upto_decided k t) (upto_more j k t (omega arith) (test_holds (upto_decided j t) e)))
      (upto_lt k s h.0)
      (fails_test (upto_decided j s) (h.1 j l))
      (holds_test (upto_decided k s) h.0)

  count_above : (j k s : ℕ) → j ≤ k → Enters (Upto start step) k s → j < count j
  unfolding count
  count_above zero k s l h =
      let (t, b, a) = enters_some 0 k s l h in
      omega (arith, rank_lt (λ s. test (upto_decided 0 s)) t n b (holds_test (upto_decided 0 t) a.0))
  count_above (suc j) k s l h =
      let ih = count_above j k s (omega arith) h in
      let (t, _, a) = enters_some (suc j) k s (omega arith) h in
      omega (arith, count_more j (suc j) t (omega arith) a)

  -- each number up to k has a state of its own
  pub enters_lt : (k s : ℕ) → Enters (Upto start step) k s → k < n
  unfolding count
  enters_lt k s h = omega (arith, count_above k k s (omega arith) h, rank_le (λ s. test (upto_decided k s)) n)

  pub upto_all : (k s : ℕ) → Upto start step k s → Upto start step n s
  upto_all k s h = let (j, _, a) = upto_enters k s h in upto_more j n s (omega (arith, enters_lt j s a)) a.0

  pub ever_decided : (s : ℕ) → Decided ((k : ℕ) × Upto start step k s)
  ever_decided s = decided_by (λ h. (n, h)) (λ (k, h). upto_all k s h) (upto_decided n s)

  pub enters_or_never : (s : ℕ) → ((k : ℕ) × Enters (Upto start step) k s) ⊎ ((k : ℕ) → Upto start step k s → ⊥)
  enters_or_never s = ⊎_elim (λ h. let (j, _, a) = upto_enters n s h in inl (j, a)) (λ a. inr (λ k h. a (upto_all k s h))) (upto_decided n s)
