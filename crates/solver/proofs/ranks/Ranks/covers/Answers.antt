use Rattle.std.proofs.Common.{◌≡◌, ℕ, ◌<◌, Bool, true, false, not, ◌||◌, List, length, get_or, Option, refl, ◌∙◌, subst, zero-add, rules, arith}
use borrow.Author.Tests.{tests}
use Rattle.std.proofs.lemmas.Bool.{true≢false, false≢true, both_ways}
use Rattle.std.proofs.lemmas.Iterator.{YieldsList-from_range, cases_from_all}
use Rattle.std.proofs.lemmas.List.FromFn.{get_or-range_with_len, length-range_with_len}
use Rattle.std.specs.Bool.{MatchBool}
use Rattle.std.specs.List.{range_with_len, AllWithin, HoldsAt}
use Rattle.theory.specs.Laws.{Exactly}
use Rattle.theory.specs.Ranking.{rank_at, up_to, Within}
use Rattle.solver.proofs.ranks.Ranks.covers.Goals as goal

-- the test at one state
holds : (a b : Bool) → (not a || b) ≡ true → a ≡ true → b ≡ true
holds true b e h = e
holds false b e h = absurd (false≢true h)

fails : (a b : Bool) → (not a || b) ≡ false → (a ≡ true → b ≡ true) → ⊥
fails true b e h = both_ways b e (h refl)
fails false b e h = absurd (true≢false e)

module _ (outer inner : List (Option ℕ)) where
  covered : ℕ → Bool
  covered s = not (up_to 255 (rank_at outer s)) || up_to 255 (rank_at inner s)

  -- it holds at each state below n
  all_covered : (n : ℕ) (r : Bool) → MatchBool r (AllWithin (λ s. covered s ≡ true) (range_with_len 0 n) 0 (length (range_with_len 0 n))) ((k : ℕ) × (k < length (range_with_len 0 n)) × HoldsAt (λ s. covered s ≡ false) (range_with_len 0 n) k) → Exactly (r ≡ true) ((s : ℕ) → s < n → Within outer 255 s → Within inner 255 s)
  unfolding covered
  all_covered n true h = (
    λ _ s l. holds (up_to 255 (rank_at outer s)) (up_to 255 (rank_at inner s)) (subst (λ k. covered k ≡ true) (get_or-range_with_len 0 n s 0 l ∙ zero-add s) (h s 0 (omega arith) (omega (arith, length-range_with_len 0 n)))),
    λ _. refl,
  )
  all_covered n false (k, l, off) =
      let t = get_or (range_with_len 0 n) k 0 in
      let below : k < n = omega (arith, length-range_with_len 0 n) in
      (λ e. absurd (false≢true e), λ all. absurd (fails (up_to 255 (rank_at outer t)) (up_to 255 (rank_at inner t)) (off 0) (all t (omega (arith, get_or-range_with_len 0 n k 0 below)))))

pub returns : goal.returns
unfolding covered
returns c =
    let outer = c.args.outer.now.at in
    let inner = c.args.self.now.at in
    all_covered outer inner 256 c.all.result
    (cases_from_all _ _ _ (λ s. covered outer inner s ≡ true) (λ s. covered outer inner s ≡ false) c.all.ensures.ran (YieldsList-from_range 0 256 256 refl (omega arith)) (λ x q k. search (rules, tests)) (λ x q k. search (rules, tests)))
