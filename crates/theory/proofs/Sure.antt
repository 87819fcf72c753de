-- Sure ranks: they are decided and bounded, and a rank is the least number of rounds in which a strategy forces the target.
use Rattle.std.proofs.Common.{◌≡◌, ℕ, zero, suc, ◌+◌, ◌<◌, ◌≤◌, ◌⊎◌, List, [], ◌∷◌, subst, inl, inr, ⊎_elim, arith}
use Rattle.game.specs.declared.player.Player.TheVariants.{One, Two}
use Rattle.theory.specs.Positions.{Position, Playable, State, Keeps, Leads, Target}
use Rattle.theory.specs.Verdicts.{Into, Forced, Sure, SureRank, SureMove, Reply}
use Rattle.theory.specs.Strategies.{Met, Strategy, Follows, start, step, Forces, ForcedIn}
use Rattle.theory.proofs.Finite.{decided_state, decided_target, decided_forced, kept_some, into_some, into_or_reply}
use Rattle.theory.proofs.Layers.{Grows, upto_more, upto_decided, upto_enters, upto_all, enters_one, enters_within, enters_lt, enters_or_never}
use Rattle.theory.proofs.Histories.{met_now, history_state, follows_history}

-- what is forced into a set is forced into a larger one
pub forced_more : (x : Position) (X Y : ℕ → Type 0) → ((s : ℕ) → X s → Y s) → (s : ℕ) → Forced x X s → Forced x Y s
forced_more x X Y more s h = let (a, k, into) = h.1 in (h.0, (a, k, λ b l t m. more t (into b l t m)))

module _ (x : Position) (ok : Playable x) where
  pub sure_grows : Grows x.game.size (Target x) (Forced x)
  sure_grows = record {
    start_lt = λ s h. h.0;
    step_lt = λ X s h. h.0;
    start_decided = decided_target x;
    step_decided = decided_forced ok;
    step_more = forced_more x;
    step_some = λ X s h. let (a, k, into) = h.1 in into_some ok X s a k into;
  }

  pub sure_decided : (s : ℕ) → ((r : ℕ) × SureRank x r s) ⊎ ((k : ℕ) → Sure x k s → ⊥)
  sure_decided = enters_or_never sure_grows

  pub sure_bound : (r s : ℕ) → SureRank x r s → r < x.game.size
  sure_bound = enters_lt sure_grows

  -- a state of rank r + 1 is forced into the ranks up to r
  pub rank_forced : (r s : ℕ) → SureRank x (suc r) s → (a : ℕ) × Keeps x One s a × Into x (Sure x r) s a
  rank_forced r s h = ⊎_elim (λ a. absurd (h.1 r (omega arith) a)) (λ a. a.1) h.0

  pub sure_move_some : (r s : ℕ) → SureRank x (suc r) s → (a : ℕ) × SureMove x s a
  sure_move_some r s h = let (a, k, into) = rank_forced r s h in (a, (r, h, k, into))

  -- at a state of rank r + 1 the moves handed out lead into the ranks up to r
  pub sure_move_into : (r s a : ℕ) → SureRank x (suc r) s → SureMove x s a → Keeps x One s a × Into x (Sure x r) s a
  sure_move_into r s a h (q, e, k, into) = (k, subst (λ i. Into x (Sure x i) s a) (omega (arith, enters_one sure_grows (suc r) (suc q) s h e)) into)

  -- the moves handed out lead into lower ranks
  pub sure_move_lower : (r s a b t : ℕ) → SureRank x r s → SureMove x s a → Keeps x Two s b → Leads x s a b t → (q : ℕ) × (q < r) × SureRank x q t
  sure_move_lower r s a b t h (p, g, k, into) l m =
      let (q, i, e) = upto_enters sure_grows p t (into b l t m) in
      (q, omega (arith, enters_one sure_grows r (suc p) s h g), e)

  -- a state that is not sure has a reply to each move
  pub reply_some : (s a : ℕ) → State x s → ((k : ℕ) → Sure x k s → ⊥) → Keeps x One s a → (b : ℕ) × ((t : ℕ) × Reply x s a b t)
  reply_some s a h never k =
      let n : ℕ = x.game.size in
      ⊎_elim
      (λ into. absurd (never (suc n) (inr (h, (a, k, into)))))
      (λ (b, l, (t, m, y)). (b, (t, (l, m, y))))
      (into_or_reply ok (Sure x n) (λ t. (k : ℕ) → Sure x k t → ⊥) (λ t. ⊎_elim (λ (r, e). inl (upto_all sure_grows r t e.0)) inr (sure_decided t)) s a)

  -- a move for each state: kept, and handed out where the state has a rank above 0
  Good : ℕ → ℕ → Type 0
  Good s a = (State x s → Keeps x One s a) × ((r : ℕ) → SureRank x (suc r) s → Into x (Sure x r) s a)

  good_any : (s : ℕ) → ((r : ℕ) → SureRank x (suc r) s → ⊥) → (a : ℕ) × Good s a
  unfolding Good
  good_any s none =
      ⊎_elim
      (λ h. let (a, k) = kept_some ok One s h in (a, (λ _. k, λ r e. absurd (none r e))))
      (λ h. (0, (λ i. absurd (h i), λ r e. absurd (none r e))))
      (decided_state x s)

  good_ranked : (s r : ℕ) → SureRank x r s → (a : ℕ) × Good s a
  unfolding Good
  good_ranked s zero h = good_any s (λ r e. e.1 0 (omega arith) h.0)
  good_ranked s (suc r) h =
      let (a, k, into) = rank_forced r s h in
      (a, (λ _. k, λ q e. (sure_move_into q s a e (r, h, k, into)).1))

  good_move : (s : ℕ) → (a : ℕ) × Good s a
  good_move s = ⊎_elim (λ (r, h). good_ranked s r h) (λ never. good_any s (λ r h. never (suc r) h.0)) (sure_decided s)

  -- the strategy that names that move
  sure_names : List ℕ → ℕ → ℕ
  sure_names past s = (good_move s).0

  sure_strategy : Strategy x sure_names
  unfolding sure_names Good
  sure_strategy past s h = (good_move s).1.0 (history_state ok h)

  -- with m rounds left the state now is in the ranks up to m, or the target was met
  sure_follows : (r : ℕ) {from : ℕ} → Sure x r from → {k : ℕ} {past : List ℕ} {t : ℕ} → Follows x sure_names from k past t → (m : ℕ) → k + m ≡ r → Sure x m t ⊎ Met x past t
  unfolding sure_names Good
  sure_follows r {from} h start m e = inl (subst (λ i. Sure x i from) (omega arith) h)
  sure_follows r h (step {past = past} {s = s} f b t l m) n e =
      ⊎_elim
      (λ now. ranked (upto_enters sure_grows (suc n) s now))
      (λ met. inr (inr met))
      (sure_follows r h f (suc n) (omega arith))
    where
      ranked : ((j : ℕ) × (j ≤ suc n) × SureRank x j s) → Sure x n t ⊎ Met x (s ∷ past) t
      ranked (zero, i, a) = inr (inr (met_now x past s a.0))
      ranked (suc j, i, a) = inl (upto_more sure_grows j n t (omega arith) ((good_move s).1.1 j a b l t m))

  sure_forces : (r s : ℕ) → Sure x r s → Forces x sure_names s r
  sure_forces r s h past t f = ⊎_elim (met_now x past t) (λ met. met) (sure_follows r h f 0 (omega arith))

  -- a strategy that forces the target within n rounds: with k rounds left the state now is in the ranks up to k, or the target was met
  module _ (names : List ℕ → ℕ → ℕ) (strategy : Strategy x names) (from n : ℕ) (here : State x from) (forces : Forces x names from n) where
    forces_left : (k j : ℕ) (past : List ℕ) (t : ℕ) → j + k ≡ n → Follows x names from j past t → Sure x k t ⊎ Met x past t
    forces_left zero j past t e f = inr (forces past t (subst (λ i. Follows x names from i past t) (omega arith) f))
    forces_left (suc k) j past t e f =
        let h = follows_history strategy here f in
        ⊎_elim
        (λ into. inl (inr (history_state ok h, (names past t, strategy past t h, into))))
        (λ (b, l, (u, m, out)).
        ⊎_elim
        (λ a. absurd (out a))
        (⊎_elim (λ a. absurd (out (upto_more sure_grows 0 k u (omega arith) a))) inr)
        (forces_left k (suc j) (t ∷ past) u (omega arith) (step f b u l m)))
        (into_or_reply ok (Sure x k) (λ u. Sure x k u → ⊥) (upto_decided sure_grows k) t (names past t))

    pub forces_sure : Sure x n from
    forces_sure = ⊎_elim (λ h. h) (upto_more sure_grows 0 n from (omega arith)) (forces_left n 0 [] from (omega arith) start)

  pub sure_means : (r s : ℕ) → State x s → (SureRank x r s → ForcedIn x r s) × (ForcedIn x r s → SureRank x r s)
  sure_means r s here = (
    λ h. record {
      some_strategy = (sure_names, sure_strategy, sure_forces r s h.0);
      no_sooner = λ names k strategy forces. enters_within sure_grows k r s (forces_sure names strategy s k here forces) h;
    },
    λ f.
        let (names, strategy, forces) = f.some_strategy in
        let (j, l, e) = upto_enters sure_grows r s (forces_sure names strategy s r here forces) in
        let is : j ≡ r = omega (arith, f.no_sooner sure_names j sure_strategy (sure_forces j s e.0)) in
        subst (λ i. SureRank x i s) is e,
  )

  pub never_forced : (s : ℕ) → State x s → ((r : ℕ) → SureRank x r s → ⊥) → (names : List ℕ → ℕ → ℕ) (k : ℕ) → Strategy x names → Forces x names s k → ⊥
  never_forced s here none names k strategy forces = let (r, _, e) = upto_enters sure_grows k s (forces_sure names strategy s k here forces) in none r e
