-- The marks of a sweep: which states can enter in the next one.
use Rattle.std.proofs.Common.{◌≡◌, ℕ, ◌+◌, ◌<◌, Bool, true, false, ◌||◌, List, get_or, set, replicate, Some, None, Option, sym, ◌∙◌, subst, ⊎_elim, arith}
use Rattle.std.proofs.lemmas.List.{get_or-set_other, get_or-replicate}
use Rattle.std.proofs.lemmas.Bool.{both_ways, cases_eq, or_left, or_right}
use Rattle.theory.specs.Positions.{Position}
use Rattle.theory.specs.Ranking.{rank_at, layers_of, RankUpto}
use Rattle.theory.proofs.Ranking.{Inside, layer_spared}
use Rattle.solver.specs.Links.{link, Linked, Spares}

-- each state from which one of rank k can come next is marked
pub record Noted (links : List (List Bool)) (k : ℕ) (ranks : List (Option ℕ)) (marks : List Bool) : Type 0 where
  pub marked : (s t : ℕ) → s < 256 → rank_at ranks t ≡ Some k → link links s t ≡ true → get_or marks s false ≡ true

-- where the ranks go up to k, no state has the rank k + 1
pub noted_none : (layers : ℕ → ℕ → Type 0) {links : List (List Bool)} (k : ℕ) {ranks : List (Option ℕ)} {marks : List Bool} → ((s : ℕ) → RankUpto layers k s (rank_at ranks s)) → Noted links (k + 1) ranks marks
noted_none layers k h = record { marked = λ s t m e l. absurd (omega (arith, (subst (RankUpto layers k t) e (h t)).0)) }

-- a state more gets the rank k, and the states before it are marked
pub noted_more : {links : List (List Bool)} {k : ℕ} {ranks : List (Option ℕ)} {marks next : List Bool} (i : ℕ) → Noted links k ranks marks → ((s : ℕ) → s < 256 → get_or next s false ≡ (get_or marks s false || link links s i)) → Noted links k (set ranks i (Some k)) next
noted_more {links} {k} {ranks} {marks} i h more =
    record {
      marked = λ s t m e l.
          more s m
          ∙ ⊎_elim
          (λ is. or_right (get_or marks s false) (link links s i) (subst (λ j. link links s j ≡ true) is l))
          (λ off. or_left (get_or marks s false) (link links s i) (h.marked s t m (sym (get_or-set_other ranks i t (Some k) None off) ∙ e) l))
          (cases_eq t i);
    }

-- when the ranks go up to k + 1, no state without a mark enters after that
pub noted_spares : (x : Position) (o : Option (List (Option ℕ))) → Inside x o → {links : List (List Bool)} (k : ℕ) {ranks : List (Option ℕ)} {marks : List Bool} → Linked x links → ((s : ℕ) → RankUpto (layers_of x o) (k + 1) s (rank_at ranks s)) → Noted links (k + 1) ranks marks → Spares (layers_of x o) (k + 1) marks
noted_spares x o inside k {ranks} {marks} linked all noted s m off =
    layer_spared x o inside k ranks all s (λ a b t p q lead e. both_ways (get_or marks s false) off (noted.marked s t m e (linked s a b t p q lead)))

-- where all states are marked, nothing is said
pub all_marked : (layers : ℕ → ℕ → Type 0) (k : ℕ) → Spares layers k (replicate 256 true)
all_marked layers k s m off = absurd (both_ways (get_or (replicate 256 true) s false) off (get_or-replicate 256 s true false m))
