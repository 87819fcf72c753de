use Rattle.std.proofs.Common.{◌≡◌, ◌+◌, true, false, get_or, set, Some, ap, ◌∙◌, subst, arith}
use Rattle.std.proofs.lemmas.Bool.{both_ways}
use Rattle.theory.specs.Ranking.{rank_at, up_to}
use Rattle.theory.proofs.Ranking.{swept_ranked, swept_enters, swept_out, swept_spared, swept_all}
use Rattle.solver.specs.Links.{Linked}
use Rattle.solver.proofs.Marks.{noted_more, noted_spares}
use Rattle.solver.proofs.Steps.{states_inside, states_layered}
use Rattle.solver.proofs.levels.sweep.Goals as goal
use Rattle.solver.proofs.levels.sweep.Goals.{then-marks-from+then-not-within+then-enters, else-marks-from, else-marks-from-via-then-marks-from+then-not-within+else-enters, else-marks-from-via-then-marks-from+else-not-within, else-marks-from-via-else-marks-from}

pub loop-state-preserved : goal.loop-state-preserved
loop-state-preserved g c =
    let x = g.T.Step.position c.args.step.now in
    let layered = states_layered x (g.T.Step.set c.args.step.now) (g.met.T.Step.has_states c.args.step.now) in
    let few = (g.S.Source.valid c.links-links.result.now.position.source.now).few_states in
    let size : c.states-state-end.result ≡ x.game.size = c.states-state-end.ensures ∙ ap (λ y. y.game.size) c.links-links.ensures in
    let s = c.loop-state.state in
    let so_far = c.loop-state.invariant.swept in
    let rank = rank_at c.loop-state.ranks.at s in
    elim c.if-marks-from.branch [
      | then-marks-from+then-not-within+then-enters w ↦
          let after : c.if-marks-from.ranks.at ≡ set c.loop-state.ranks.at s (Some (c.args.level + 1)) = ap (λ r. r.at) w.ranks-is ∙ w.give.ensures in
          let off : up_to 255 rank ≡ false = cc in
          rw (after, w.entered-is, w.next-is) (record {
            noted = noted_more s c.loop-state.invariant.noted w.mark_before.ensures;
            swept = swept_enters layered c.args.level so_far (omega arith) (omega (arith, c.loop-state.ranks.whole)) off (w.enters.ensures.0 w.if-enters.true);
          })
      | else-marks-from w ↦
          rw (w.ranks-is, w.entered-is, w.next-is) (record {
            noted = c.loop-state.invariant.noted;
            swept =
                elim w.else-marks-from.branch [
                  | else-marks-from-via-then-marks-from+then-not-within+else-enters v ↦
                      let off : up_to 255 rank ≡ false = cc in
                      swept_out layered c.args.level so_far (omega arith) off (λ a. both_ways v.enters.result v.if-enters.false (v.enters.ensures.1 a))
                  | else-marks-from-via-then-marks-from+else-not-within v ↦ let on : up_to 255 rank ≡ true = cc in swept_ranked layered c.args.level so_far on
                  | else-marks-from-via-else-marks-from v ↦ let off : get_or c.args.marks.now s false ≡ false = cc in swept_spared layered c.args.level so_far (omega arith) (c.requires.spares s (omega arith) off)
                ];
          })
    ]

pub returns-clause-marks : goal.returns-clause-marks
returns-clause-marks g c =
    let x = g.T.Step.position c.args.step.now in
    let step_set = g.T.Step.set c.args.step.now in
    let has_states = g.met.T.Step.has_states c.args.step.now in
    let size : c.states-state-end.result ≡ x.game.size = c.states-state-end.ensures ∙ ap (λ y. y.game.size) c.links-links.ensures in
    let all : c.loop-state.state ≡ x.game.size = omega arith in
    let linked : Linked x c.links-links.result.now.before.now = subst (λ y. Linked y c.links-links.result.now.before.now) c.links-links.ensures c.links-links.result.now.linked in
    noted_spares x step_set (states_inside x step_set has_states) c.args.level linked (swept_all (states_layered x step_set has_states) c.args.level (rw all at c.loop-state.invariant.swept)) c.loop-state.invariant.noted
