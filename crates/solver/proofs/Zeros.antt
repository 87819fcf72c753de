-- Ranks that are 0 for the states that pass a test.
use Rattle.std.proofs.Common.{◌≡◌, ℕ, ◌<◌, Bool, true, false, List, replicate, Some, None, Option, sym, refl, ◌∙◌, subst, arith, below_none}
use Rattle.std.proofs.lemmas.Bool.{false≢true, both_ways, le-leb}
use Rattle.theory.specs.Laws.{Exactly}
use Rattle.theory.specs.Positions.{Position}
use Rattle.theory.specs.Ranking.{rank_at, up_to, Within, layers_of, RankUpto}
use Rattle.solver.specs.Ranks.{ZeroWhere}
use Rattle.solver.proofs.Filled.{get_or_filled}

pub zeros_none : (P : ℕ → Bool → Type 0) → ZeroWhere P 0 (replicate 256 None)
zeros_none P = record {
  ranked = λ s r e. let none : None ≡ Some r = sym (get_or_filled {A = Option ℕ} 256 s None) ∙ e in cc;
  unranked = λ s e l. absurd (omega arith);
}

module _ {P : ℕ → Bool → Type 0} {n : ℕ} {ranks : List (Option ℕ)} (h : ZeroWhere P n ranks) where
  -- where each state passes, those below n have a rank
  pub zeros_all : ((s : ℕ) (b : Bool) → P s b → b ≡ true) → (s : ℕ) → Exactly (Within ranks 255 s) (s < n)
  zeros_all all s = go (rank_at ranks s) refl
    where
      go : (v : Option ℕ) → rank_at ranks s ≡ v → Exactly (up_to 255 v ≡ true) (s < n)
      go None e = (λ f. absurd (false≢true f), λ b. absurd (false≢true (all s false (h.unranked s e b))))
      go (Some r) e = let (zero, b, q) = h.ranked s r e in (λ _. b, λ _. le-leb r 255 (omega arith))

-- where the states of the target pass, the ranks are those of level 0
target_rank : (x : Position) (o : Option (List (Option ℕ))) (s : ℕ) (v : Option ℕ) → ((r : ℕ) → v ≡ Some r → (r ≡ 0) × (s < x.game.size) × (x.target s ≡ true)) → (v ≡ None → s < x.game.size → x.target s ≡ false) → RankUpto (layers_of x o) 0 s v
target_rank x None s None ranked unranked = λ (l, e). both_ways (x.target s) (unranked refl l) e
target_rank x (Some outer) s None ranked unranked = λ (l, e). both_ways (x.target s) (unranked refl l) e
target_rank x None s (Some r) ranked unranked = let (zero, l, e) = ranked r refl in subst (λ k. RankUpto (layers_of x None) 0 s (Some k)) (sym zero) (omega arith, ((l, e), below_none _))
target_rank x (Some outer) s (Some r) ranked unranked = let (zero, l, e) = ranked r refl in subst (λ k. RankUpto (layers_of x (Some outer)) 0 s (Some k)) (sym zero) (omega arith, ((l, e), below_none _))

pub zeros_target : (x : Position) (o : Option (List (Option ℕ))) {P : ℕ → Bool → Type 0} {ranks : List (Option ℕ)} → ZeroWhere P x.game.size ranks → ((s : ℕ) (b : Bool) → P s b → b ≡ x.target s) → (s : ℕ) → RankUpto (layers_of x o) 0 s (rank_at ranks s)
zeros_target x o {ranks = ranks} h told s =
    target_rank x o s (rank_at ranks s) (λ r e. let (zero, l, p) = h.ranked s r e in (zero, l, sym (told s true p))) (λ e l. sym (told s false (h.unranked s e l)))
