use Rattle.std.proofs.Common.{◌≡◌, ℕ, ◌<◌, true, ◌≢◌, length, get_or, set, ◌∙◌, arith, length-set, get_or-set_other, get_or-set_same, below_more}
use Rattle.std.proofs.lemmas.Bool.{both_ways}
use Rattle.game.specs.Below.{bit}
use Rattle.theory.specs.Laws.{Exactly}
use Rattle.theory.specs.Ranking.{Within}
use Rattle.theory.specs.Verdicts.{Stay}
use Rattle.solver.specs.Positions.{meant}
use Rattle.solver.proofs.outer.Outer.new.Goals as goal
use Rattle.solver.proofs.outer.Outer.new.Goals.{then-within, else-within}

pub loop-state-preserved : goal.loop-state-preserved
loop-state-preserved g c =
    let x = meant g.S.Source.game c.args.links.now.position in
    let inside = Within c.args.ranks.at 255 in
    let stay = c.loop-state.stay in
    let n = c.loop-state.state in
    let (whole, before) = c.loop-state.invariant in
    elim c.if-within.branch [
      | then-within w ↦
          let here : n < length stay = omega arith in
          rw (w.stay-is, w.from.ensures) (
            simp length-set whole,
            below_more (λ s. inside s → (a : ℕ) → Exactly (bit (get_or (set stay n w.moves_into.result) s 0) a ≡ true) (Stay x inside s a)) n
                (λ s l. let off : s ≢ n = omega arith in rw get_or-set_other (before s l))
                (λ _. rw get_or-set_same w.moves_into.ensures),
          )
      | else-within w ↦
          rw w.stay-is (whole, below_more (λ s. inside s → (a : ℕ) → Exactly (bit (get_or stay s 0) a ≡ true) (Stay x inside s a)) n before (λ e. absurd (both_ways _ w.if-within.false (c.within.ensures ∙ e))))
    ]
