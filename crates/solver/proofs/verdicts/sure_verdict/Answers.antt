use Rattle.std.proofs.Common.{◌≡◌, ℕ, suc, ◌-◌, ◌<◌, true, List, Some, Option, sym, ap, ◌∙◌, subst, arith}
use Rattle.game.specs.Below.{bit}
use Rattle.theory.specs.Laws.{Exactly}
use Rattle.theory.specs.Positions.{Position}
use Rattle.theory.specs.Ranking.{rank_at, Within}
use Rattle.theory.specs.Verdicts.{Stay}
use Rattle.solver.specs.Positions.{meant}
use Rattle.solver.specs.Moves.{LowerMove}
use Rattle.solver.proofs.verdicts.sure_verdict.Goals as goal

-- at a rank r above 0 the lower ranks are those up to r - 1
lower_moves : (x : Position) (ranks : List (Option ℕ)) (s r c : ℕ) → rank_at ranks s ≡ Some r → 0 < r → ((a : ℕ) → Exactly (bit c a ≡ true) (Stay x (Within ranks (r - 1)) s a)) → (a : ℕ) → Exactly (bit c a ≡ true) (LowerMove x ranks s a)
lower_moves x ranks s r c is above stays a =
    let next : r ≡ suc (r - 1) = omega arith in (
      λ e. (r - 1, is ∙ ap Some next, (stays a).0 e),
      λ (q, is_q, stay). let same : r ≡ suc q = cc in (stays a).1 (subst (λ k. Stay x (Within ranks k) s a) {y = r - 1} (omega arith) stay),
    )

pub returns-then-rank-gt0-clause-moves : goal.returns-then-rank-gt0-clause-moves
returns-then-rank-gt0-clause-moves g c =
    lower_moves (meant g.S.Source.game c.args.position.now) c.args.ranks.now.at c.args.state c.in-Some.rank c.moves_into-moves.result (sym c.in-Some.ensures) c.if-rank-gt0.true c.moves_into-moves.ensures
