-- Ranks that only some states have.
use Rattle.std.specs.Prelude.{◌≡◌, ℕ, ◌<◌, Bool, true, false, List, Some, None, Option}
use Rattle.theory.specs.Ranking.{rank_at}

-- each state below n that passes a test has rank 0, and no other state has a rank
pub record ZeroWhere (passes : ℕ → Bool → Type 0) (n : ℕ) (ranks : List (Option ℕ)) : Type 0 where
  pub ranked : (s r : ℕ) → rank_at ranks s ≡ Some r → (r ≡ 0) × (s < n) × passes s true
  pub unranked : (s : ℕ) → rank_at ranks s ≡ None → s < n → passes s false
