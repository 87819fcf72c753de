-- The outer rounds: the sets Y(j) shrink, each is decided, and at some round they settle.
use Rattle.std.proofs.Common.{◌≡◌, ℕ, zero, suc, ◌+◌, ◌<◌, ◌≤◌, true, ◌⊎◌, inl, inr, ⊎_elim, arith, subst}
use Rattle.game.specs.Below.{rank}
use Rattle.game.specs.declared.player.Player.TheVariants.{One, Two}
use Rattle.game.proofs.Below.{rank_le}
use Rattle.theory.specs.Positions.{Position, Playable, State, Keeps, Leads, Target}
use Rattle.theory.specs.Verdicts.{Stay, Touches, Level, Outer, Settled, OuterRounds, Almost, AlmostRank, AlmostMove}
use Rattle.theory.proofs.Finite.{Decided, test, test_holds, holds_test, fails_test, decided_and, decided_some_within, all_or_some, least, least_one, rank_more, decided_state, decided_keeps, decided_leads, decided_target, decided_into, move_lt, leads_state, kept_some, all_or_some_within, decided_all_within}
use Rattle.theory.proofs.Layers.{Grows, ever_decided}
use Rattle.theory.specs.Layers.{Enters}

module _ (S : ℕ → ℕ → Type 0) (decided : (j s : ℕ) → Decided (S j s)) (shrinks : (j s : ℕ) → S (suc j) s → S j s) where
  -- sets that shrink: two neighbours before m are equal below n, or m members have gone
  settle : (n m : ℕ) → ((j : ℕ) × (j < m) × ((s : ℕ) → s < n → S j s → S (suc j) s)) ⊎ (rank (λ s. test (decided m s)) n + m ≤ n)
  settle n zero = inr (omega (arith, rank_le (λ s. test (decided zero s)) n))
  settle n (suc m) =
      ⊎_elim
      (λ (j, l, same). inl (j, omega arith, same))
      (λ l.
      ⊎_elim
      (λ same. inl (m, omega arith, same))
      (λ (s, below, (stood, gone)).
      let fewer = rank_more (λ s. test (decided (suc m) s)) (λ s. test (decided m s)) n s within below (fails_test (decided (suc m) s) gone) (holds_test (decided m s) stood) in
      inr (omega arith))
      (all_or_some n (λ s. S m s → S (suc m) s) (λ s. S m s × (S (suc m) s → ⊥)) (λ s _.
      ⊎_elim (λ h. inl (λ _. h)) (λ gone. ⊎_elim (λ stood. inr (stood, gone)) (λ f. inl (λ h. absurd (f h))) (decided m s)) (decided (suc m) s))))
      (settle n m)
    where
      within : (s : ℕ) → s < n → test (decided (suc m) s) ≡ true → test (decided m s) ≡ true
      within s _ e = holds_test (decided m s) (shrinks m s (test_holds (decided (suc m) s) e))

module _ (x : Position) where
  -- the target is inside every Y(j)
  pub target_outer : (j s : ℕ) → Target x s → Outer x j s
  target_outer zero s h = h.0
  target_outer (suc j) s h = (0, h)

  -- the levels of a set with the target inside are inside the set
  pub level_inside : (Y : ℕ → Type 0) → ((s : ℕ) → Target x s → Y s) → (k s : ℕ) → Level x Y k s → Y s
  level_inside Y inside zero s h = inside s h
  level_inside Y inside (suc k) s (inl h) = level_inside Y inside k s h
  level_inside Y inside (suc k) s (inr h) = h.0

  -- Y(j + 1) is inside Y(j), and so inside the states
  pub outer_shrinks : (j s : ℕ) → Outer x (suc j) s → Outer x j s
  outer_shrinks j s h = level_inside (Outer x j) (target_outer j) h.0 s h.1

  pub outer_state : (j s : ℕ) → Outer x j s → State x s
  outer_state zero s h = h
  outer_state (suc j) s h = outer_state j s (outer_shrinks j s h)

  pub touches_mono : (Y X X' : ℕ → Type 0) → ((s : ℕ) → X s → X' s) → (s : ℕ) → Touches x Y X s → Touches x Y X' s
  touches_mono Y X X' f s h = (h.0, λ b k. let (a, stay, (t, l, m)) = h.1 b k in (a, stay, (t, l, f t m)))

  pub rounds_unique : (j k : ℕ) → OuterRounds x j → OuterRounds x k → j ≡ k
  rounds_unique = least_one (Settled x)

  -- there is one last set, so what is almost sure is said of any that is last
  pub almost_at : (j : ℕ) → OuterRounds x j → (s : ℕ) → Almost x s → Outer x j s
  almost_at j last s (i, at_i, h) = subst (λ k. Outer x k s) (rounds_unique i j at_i last) h

  pub almost_rank_at : (j : ℕ) → OuterRounds x j → (r s : ℕ) → AlmostRank x r s → Enters (Level x (Outer x j)) r s
  almost_rank_at j last r s (i, at_i, h) = subst (λ k. Enters (Level x (Outer x k)) r s) (rounds_unique i j at_i last) h

  pub almost_move_at : (j : ℕ) → OuterRounds x j → (s a : ℕ) → AlmostMove x s a → Outer x j s × Stay x (Outer x j) s a
  almost_move_at j last s a (_, (i, at_i, h, stay)) = subst (λ k. Outer x k s × Stay x (Outer x k) s a) (rounds_unique i j at_i last) (h, stay)

-- some stay move can lead into X when player 2 replies b
abbrev pub Answers : (x : Position) → (ℕ → Type 0) → (ℕ → Type 0) → ℕ → ℕ → Type 0
Answers x Y X s b = (a : ℕ) × Stay x Y s a × ((t : ℕ) × Leads x s a b t × X t)

module _ {x : Position} (ok : Playable x) where
  module _ (Y X : ℕ → Type 0) (decided_Y : (s : ℕ) → Decided (Y s)) (decided_X : (s : ℕ) → Decided (X s)) where
    decided_answers : (s b : ℕ) → Decided (Answers x Y X s b)
    decided_answers s b =
        decided_some_within 8 (Stay x Y s) (λ a. (t : ℕ) × Leads x s a b t × X t)
        (λ a h. move_lt ok One s a h.0)
        (λ a. decided_and (decided_keeps x One s a) (decided_into ok Y decided_Y s a))
        (λ a. decided_some_within x.game.size (Leads x s a b) X (leads_state ok s a b) (decided_leads x s a b) decided_X)

    -- a state of Y touches X, or player 2 keeps a reply to which no stay move can lead into X
    pub touches_or : (s : ℕ) → Y s → Touches x Y X s ⊎ ((b : ℕ) × Keeps x Two s b × (Answers x Y X s b → ⊥))
    touches_or s h =
        ⊎_elim (λ all. inl (h, all)) inr
        (all_or_some_within 8 (Keeps x Two s) (Answers x Y X s) (λ b. Answers x Y X s b → ⊥) (move_lt ok Two s) (decided_keeps x Two s) (decided_answers s))

    pub decided_touches : (s : ℕ) → Decided (Touches x Y X s)
    decided_touches s =
        ⊎_elim
        (λ h. ⊎_elim inl (λ (b, k, none). inr (λ t. none (t.1 b k))) (touches_or s h))
        (λ f. inr (λ t. f t.0))
        (decided_Y s)

  -- the levels of a decided set of states grow
  pub touches_grows : (Y : ℕ → Type 0) → ((s : ℕ) → Y s → State x s) → ((s : ℕ) → Decided (Y s)) → Grows x.game.size (Target x) (Touches x Y)
  touches_grows Y inside decided_Y =
      record {
        start_lt = λ s h. h.0;
        step_lt = λ X s h. inside s h.0;
        start_decided = decided_target x;
        step_decided = λ X d. decided_touches Y X decided_Y d;
        step_more = touches_mono x Y;
        step_some = λ X s h.
            let (b, k) = kept_some ok Two s (inside s h.0) in
            let (a, _, (t, _, m)) = h.1 b k in
            (t, m);
      }

  -- each Y(j) is decided
  pub outer_decided : (j s : ℕ) → Decided (Outer x j s)
  outer_decided zero s = decided_state x s
  outer_decided (suc j) s = ever_decided (touches_grows (Outer x j) (outer_state x j) (outer_decided j)) s

  -- the levels of Y(j)
  pub levels_grow : (j : ℕ) → Grows x.game.size (Target x) (Touches x (Outer x j))
  levels_grow j = touches_grows (Outer x j) (outer_state x j) (outer_decided j)

  pub settled_decided : (j : ℕ) → Decided (Settled x j)
  settled_decided j = decided_all_within x.game.size (Outer x j) (Outer x (suc j)) (outer_state x j) (outer_decided j) (outer_decided (suc j))

  -- the rounds settle within the number of states
  pub rounds_within : (j : ℕ) × (j ≤ x.game.size) × OuterRounds x j
  rounds_within =
      ⊎_elim
      (λ (j, l, same).
      let (k, m, rounds) = least (Settled x) settled_decided j (λ s h. same s (outer_state x j s h) h) in
      (k, omega arith, rounds))
      (λ l. absurd (omega arith))
      (settle (Outer x) outer_decided (outer_shrinks x) x.game.size (suc x.game.size))

  pub rounds_le : (j : ℕ) → OuterRounds x j → j ≤ x.game.size
  rounds_le j h = let (k, l, rounds) = rounds_within in omega (arith, rounds_unique x j k h rounds)

pub rounds_exist : (x : Position) → Playable x → (j : ℕ) × OuterRounds x j
rounds_exist x ok = let (j, _, rounds) = rounds_within ok in (j, rounds)
