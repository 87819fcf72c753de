-- The outer rounds as they are worked out: a set told by a list of ranks, the ranks of its levels, and the next set.
use Rattle.std.proofs.Common.{◌≡◌, ℕ, zero, suc, ◌+◌, ◌<◌, ◌≤◌, true, List, Some, None, Option, subst, inl, inr, add-one, arith, below_more}
use Rattle.std.proofs.lemmas.Bool.{false≢true, le-leb}
use Rattle.theory.specs.Laws.{Exactly}
use Rattle.theory.specs.Layers.{Enters}
use Rattle.theory.specs.Positions.{Position, Playable, State}
use Rattle.theory.specs.Ranking.{rank_at, up_to, Within, RankFull}
use Rattle.theory.specs.Verdicts.{Touches, Level, Outer, Settled, OuterRounds}
use Rattle.theory.proofs.Finite.{decided_bool}
use Rattle.theory.proofs.Layers.{enters_lt}
use Rattle.theory.proofs.Rounds.{outer_state, touches_mono, touches_grows, rounds_within}

-- a state has a rank exactly when it is in some layer, where each rank is a byte
pub ranked_within : (layers : ℕ → ℕ → Type 0) (s : ℕ) (v : Option ℕ) → ((r : ℕ) → Enters layers r s → r ≤ 255) → RankFull layers s v → Exactly (up_to 255 v ≡ true) ((k : ℕ) × layers k s)
ranked_within layers s None few full = (λ e. absurd (false≢true e), λ (k, h). absurd (full k h))
ranked_within layers s (Some r) few full = (λ _. (r, full.0), λ _. le-leb r 255 (few r full))

module _ (x : Position) where
  -- a larger set has larger levels
  touches_more : (Y Z X : ℕ → Type 0) → ((s : ℕ) → Y s → Z s) → (s : ℕ) → Touches x Y X s → Touches x Z X s
  touches_more Y Z X more s (here, h) = (
    more s here,
    λ b k. let (a, stay, to) = h b k in (a, (stay.0, λ b l t m. more t (stay.1 b l t m)), to),
  )

  pub level_more : (Y Z : ℕ → Type 0) → ((s : ℕ) → Y s → Z s) → (k s : ℕ) → Level x Y k s → Level x Z k s
  level_more Y Z more zero s h = h
  level_more Y Z more (suc k) s (inl h) = inl (level_more Y Z more k s h)
  level_more Y Z more (suc k) s (inr h) = inr (touches_mono x Z (Level x Y k) (Level x Z k) (level_more Y Z more k) s (touches_more Y Z (Level x Y k) more s h))

-- The set Y(j) as a list of ranks, the ranks of its levels, and that no earlier set is its own union of levels.
pub record Round (x : Position) (j : ℕ) (outer inner : List (Option ℕ)) : Type 0 where
  pub set : (s : ℕ) → Exactly (Within outer 255 s) (Outer x j s)
  pub levels : (s : ℕ) → RankFull (Level x (Within outer 255)) s (rank_at inner s)
  pub before : (i : ℕ) → i < j → Settled x i → ⊥

-- the first round: the set of all states
pub round_first : {x : Position} {outer inner : List (Option ℕ)} → ((s : ℕ) → Exactly (Within outer 255 s) (State x s)) → ((s : ℕ) → RankFull (Level x (Within outer 255)) s (rank_at inner s)) → Round x 0 outer inner
round_first all full = record { set = all; levels = full; before = λ i l. absurd (omega arith) }

module _ {x : Position} (ok : Playable x) {j : ℕ} {outer inner : List (Option ℕ)} (round : Round x j outer inner) where
  -- a level of the set is below the number of states, and so a byte
  level_byte : (s r : ℕ) → Enters (Level x (Within outer 255)) r s → r ≤ 255
  level_byte s r h =
      let l = enters_lt (touches_grows ok (Within outer 255) (λ t w. outer_state x j t ((round.set t).0 w)) (λ t. decided_bool (up_to 255 (rank_at outer t)))) r s h in
      omega (arith, ok.valid.few_states)

  -- the states in some level are the next set
  pub round_set : (s : ℕ) → Exactly (Within inner 255 s) (Outer x (suc j) s)
  round_set s =
      let e = ranked_within (Level x (Within outer 255)) s (rank_at inner s) (level_byte s) (round.levels s) in (
        λ w. let (k, h) = e.0 w in (k, level_more x (Within outer 255) (Outer x j) (λ t. (round.set t).0) k s h),
        λ (k, h). e.1 (k, level_more x (Outer x j) (Within outer 255) (λ t. (round.set t).1) k s h),
      )

  -- the set is its own union of levels exactly when each of its states, which are below 256, has a rank
  pub round_settled : Exactly ((s : ℕ) → s < 256 → Within outer 255 s → Within inner 255 s) (Settled x j)
  round_settled = (
    λ h s y. (round_set s).0 (h s (omega (arith, outer_state x j s y, ok.valid.few_states)) ((round.set s).1 y)),
    λ h s _ w. (round_set s).1 (h s ((round.set s).0 w)),
  )

  -- the next round, of the set of all states that have a rank
  pub round_next : {new next : List (Option ℕ)} → new ≡ inner → (((s : ℕ) → s < 256 → Within outer 255 s → Within inner 255 s) → ⊥) → ((s : ℕ) → RankFull (Level x (Within new 255)) s (rank_at next s)) → Round x (j + 1) new next
  round_next is uncovered full = record {
    set = λ s. rw (add-one j, is) (round_set s);
    levels = full;
    before = below_more (λ i. Settled x i → ⊥) j round.before (λ h. uncovered (round_settled.1 h));
  }

  -- the last round: each state of the set has a rank, or as many rounds went before as a game can have states
  pub round_covered : ((s : ℕ) → s < 256 → Within outer 255 s → Within inner 255 s) → OuterRounds x j
  round_covered h = (round_settled.0 h, round.before)

  pub round_last : 256 ≤ j → OuterRounds x j
  round_last l =
      let (k, m, rounds) = rounds_within ok in
      subst (OuterRounds x) (grind (arith, round.before k, rounds.0, ok.valid.few_states)) rounds
