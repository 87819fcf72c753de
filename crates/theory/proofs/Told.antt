-- What ranks and sets of moves, once they are worked out, say of the verdicts.
use Rattle.std.proofs.Common.{◌≡◌, ℕ, suc, ◌≤◌, true, cond, List, Some, None, Option, refl, ap, subst, arith}
use Rattle.std.proofs.lemmas.Bool.{false≢true, both_ways, leb-true, le-leb, cond_both}
use Rattle.game.specs.Below.{bit, rank}
use Rattle.game.specs.declared.mode.Mode.TheVariants.{Sure as InSure, Almost as InAlmost}
use Rattle.game.proofs.Below.{bit_zero}
use Rattle.theory.specs.Benches.{Counts}
use Rattle.theory.specs.Laws.{Exactly}
use Rattle.theory.specs.Layers.{Upto, Enters}
use Rattle.theory.specs.Positions.{Position, Playable, State}
use Rattle.theory.specs.Ranking.{rank_at, up_to, Within, RankFull, RankSays, MovesSay}
use Rattle.theory.specs.Verdicts.{Sure, SureRank, SureMove, Stay, Level, Outer, OuterRounds, AlmostRank, AlmostMove}
use Rattle.theory.proofs.Layers.{Grows, upto_more, upto_enters, enters_within, enters_one, enters_lt}
use Rattle.theory.proofs.OuterSets.{level_more}
use Rattle.theory.proofs.Rounds.{target_outer, level_inside, levels_grow, almost_rank_at, almost_move_at}
use Rattle.theory.proofs.Sure.{sure_grows}

module _ {n : ℕ} {start : ℕ → Type 0} {step : (ℕ → Type 0) → ℕ → Type 0} (g : Grows n start step) where
  -- the rank of s is at most k exactly when s is in a layer up to k
  pub full_upto : (k s : ℕ) (v : Option ℕ) → RankFull (Upto start step) s v → Exactly (up_to k v ≡ true) (Upto start step k s)
  full_upto k s None h = (λ e. absurd (false≢true e), λ u. absurd (h k u))
  full_upto k s (Some r) h = (λ e. upto_more g r k s (leb-true r k e) h.0, λ u. le-leb r k (enters_within g k r s u h))

  -- among at most 256 states a rank is a byte
  pub full_byte : n ≤ 256 → (s : ℕ) (v : Option ℕ) → RankFull (Upto start step) s v → Exactly (up_to 255 v ≡ true) ((k : ℕ) × Enters (Upto start step) k s)
  full_byte few s None h = (λ e. absurd (false≢true e), λ (k, u). absurd (h k u.0))
  full_byte few s (Some r) h = (λ _. (r, h), λ _. le-leb r 255 (omega (arith, enters_lt g r s h)))

  -- the rank that s enters at is the one that is held
  pub full_some : (r s : ℕ) (v : Option ℕ) → RankFull (Upto start step) s v → Exactly (v ≡ Some r) (Enters (Upto start step) r s)
  full_some r s None h = (λ e. subst (RankFull (Upto start step) s) e h, λ u. absurd (h r u.0))
  full_some r s (Some q) h = (λ e. subst (RankFull (Upto start step) s) e h, λ u. ap Some (enters_one g q r s h u))

-- Mode sure: what a rank says, the moves into lower ranks, and how many states have a rank.
pub sure_says : (x : Position) (s : ℕ) (v : Option ℕ) → RankFull (Sure x) s v → RankSays x InSure s v
sure_says x s None h = λ r e. h r e.0
sure_says x s (Some r) h = h

module _ (x : Position) (ok : Playable x) (ranks : List (Option ℕ)) (full : (s : ℕ) → RankFull (Sure x) s (rank_at ranks s)) where
  pub sure_moves : (s a : ℕ) → Exactly ((r : ℕ) × (rank_at ranks s ≡ Some (suc r)) × Stay x (Within ranks r) s a) (SureMove x s a)
  sure_moves s a = (
    λ (r, e, stay). (r, (full_some (sure_grows x ok) (suc r) s (rank_at ranks s) (full s)).0 e, stay.0, λ b l t m. (full_upto (sure_grows x ok) r t (rank_at ranks t) (full t)).0 (stay.1 b l t m)),
    λ (r, h, keeps, into). (r, (full_some (sure_grows x ok) (suc r) s (rank_at ranks s) (full s)).1 h, (keeps, λ b l t m. (full_upto (sure_grows x ok) r t (rank_at ranks t) (full t)).1 (into b l t m))),
  )

  pub sure_counts : Counts (λ s. (k : ℕ) × SureRank x k s) x.game.size (rank (λ s. up_to 255 (rank_at ranks s)) x.game.size)
  sure_counts = record {
    passes = λ s. up_to 255 (rank_at ranks s);
    sound = λ s _. (full_byte (sure_grows x ok) ok.valid.few_states s (rank_at ranks s) (full s)).0;
    whole = λ s _. (full_byte (sure_grows x ok) ok.valid.few_states s (rank_at ranks s) (full s)).1;
    many = refl;
  }

-- Mode almost: the same of the levels of the last set Y(j), where another set Y has the same members.
module _ (x : Position) (ok : Playable x) (j : ℕ) (rounds : OuterRounds x j) (Y : ℕ → Type 0) (same : (s : ℕ) → Exactly (Y s) (Outer x j s)) where
  level_same : (k s : ℕ) → Exactly (Level x Y k s) (Level x (Outer x j) k s)
  level_same k s = (level_more x Y (Outer x j) (λ t. (same t).0) k s, level_more x (Outer x j) Y (λ t. (same t).1) k s)

  stay_same : (s a : ℕ) → Exactly (Stay x Y s a) (Stay x (Outer x j) s a)
  stay_same s a = (λ h. (h.0, λ b l t m. (same t).0 (h.1 b l t m)), λ h. (h.0, λ b l t m. (same t).1 (h.1 b l t m)))

  -- ranks that tell the levels of Y tell those of Y(j)
  full_same : (s : ℕ) (v : Option ℕ) → RankFull (Level x Y) s v → RankFull (Level x (Outer x j)) s v
  full_same s None h = λ k u. h k ((level_same k s).1 u)
  full_same s (Some r) h = ((level_same r s).0 h.0, λ i l u. h.1 i l ((level_same i s).1 u))

  none_handed : (s : ℕ) → ((a : ℕ) → AlmostMove x s a → ⊥) → MovesSay x InAlmost s 0
  none_handed s none a = (λ e. absurd (both_ways (bit 0 a) (bit_zero a) e), λ m. absurd (none a m))

  pub almost_says : (s : ℕ) (v : Option ℕ) → RankFull (Level x Y) s v → RankSays x InAlmost s v
  almost_says s None h = λ r u. full_same s None h r (almost_rank_at x j rounds r s u).0
  almost_says s (Some r) h = (j, rounds, full_same s (Some r) h)

  -- a state has a rank exactly when it is in the set
  pub ranked_inside : (s : ℕ) (v : Option ℕ) → RankFull (Level x Y) s v → Exactly (up_to 255 v ≡ true) (Y s)
  ranked_inside s v h =
      let byte = full_byte (levels_grow ok j) ok.valid.few_states s v (full_same s v h) in (
        λ e. let (k, u) = byte.0 e in (same s).1 (level_inside x (Outer x j) (target_outer x j) k s u.0),
        λ y. let (k, level) = rounds.0 s ((same s).0 y) in let (i, _, u) = upto_enters (levels_grow ok j) k s level in byte.1 (i, u),
      )

  -- where s has a rank and is outside the target, the moves handed out are those that stay in the set, and elsewhere there are none
  pub almost_moves : (s : ℕ) → State x s → (v : Option ℕ) → RankFull (Level x Y) s v → (stay : ℕ) → (Y s → (a : ℕ) → Exactly (bit stay a ≡ true) (Stay x Y s a)) → MovesSay x InAlmost s (cond (x.target s) 0 (cond (up_to 255 v) stay 0))
  almost_moves s state v h stay stays =
      cond_both (x.target s) 0 (cond (up_to 255 v) stay 0) (MovesSay x InAlmost s)
      (λ on. none_handed s (λ a (off, _). off (state, on)))
      (λ off.
      cond_both (up_to 255 v) stay 0 (MovesSay x InAlmost s)
      (λ e a.
      let y = (ranked_inside s v h).0 e in (
        λ b. (λ t. both_ways (x.target s) off t.1, (j, rounds, (same s).0 y, (stay_same s a).0 ((stays y a).0 b))),
        λ m. (stays y a).1 ((stay_same s a).1 (almost_move_at x j rounds s a m).1),
      ))
      (λ e. none_handed s (λ a m. both_ways (up_to 255 v) e ((ranked_inside s v h).1 ((same s).1 (almost_move_at x j rounds s a m).0)))))

  pub almost_counts : (ranks : List (Option ℕ)) → ((s : ℕ) → RankFull (Level x Y) s (rank_at ranks s)) → Counts (λ s. (k : ℕ) × AlmostRank x k s) x.game.size (rank (λ s. up_to 255 (rank_at ranks s)) x.game.size)
  almost_counts ranks full = record {
    passes = λ s. up_to 255 (rank_at ranks s);
    sound = λ s _ e. let (k, u) = (byte s).0 e in (k, (j, rounds, u));
    whole = λ s _ (k, u). (byte s).1 (k, almost_rank_at x j rounds k s u);
    many = refl;
  }
    where
      byte : (s : ℕ) → Exactly (up_to 255 (rank_at ranks s) ≡ true) ((k : ℕ) × Enters (Level x (Outer x j)) k s)
      byte s = full_byte (levels_grow ok j) ok.valid.few_states s (rank_at ranks s) (full_same s (rank_at ranks s) (full s))
