use Rattle.std.proofs.Common.{◌≡◌, ◌+◌, ap, ◌∙◌, arith, rules}
use Rattle.theory.specs.Ranking.{rank_at, layers_of}
use Rattle.theory.proofs.Ranking.{rank_lt, rank_full, layers_stop, layers_highest}
use Rattle.solver.specs.Entries.{target_in}
use Rattle.solver.proofs.Marks.{all_marked}
use Rattle.solver.proofs.Steps.{states_inside, states_layered}
use Rattle.solver.proofs.Zeros.{zeros_target}
use Rattle.solver.proofs.levels.levels.Goals as goal

pub loop-level-init : goal.loop-level-init
loop-level-init g c =
    let x = g.T.Step.position c.args.step.now in
    let set = g.T.Step.set c.args.step.now in
    let size : c.states.result ≡ x.game.size = c.states.ensures ∙ ap (λ y. y.game.size) c.links.ensures in
    record {
      marks = all_marked (layers_of x set) 0;
      ranks = zeros_target x set (rw size at c.zero_where-ranks.ensures) (λ s b p. let told : b ≡ target_in c.links.result.now.position.entries.now.at s = search rules in told ∙ ap (λ y. y.target s) c.links.ensures);
    }

-- all sweeps were made
pub returns-after-loop-level : goal.returns-after-loop-level
returns-after-loop-level g c =
    let x = g.T.Step.position c.args.step.now in
    let set = g.T.Step.set c.args.step.now in
    let has_states = g.met.T.Step.has_states c.args.step.now in
    let layered = states_layered x set has_states in
    let all : c.loop-level.level ≡ 255 = omega arith in
    let ranks = rw all at c.loop-level.invariant.ranks in
    record {
      states = λ s. rank_lt layered 255 255 s (rank_at c.loop-level.ranks.at s) (ranks s);
      ranks = λ ok s. rank_full layered 255 s (rank_at c.loop-level.ranks.at s) (ranks s) (λ j. layers_highest ok set (states_inside x set has_states) j s);
    }

-- a sweep entered no state
pub returns-then-not-sweep : goal.returns-then-not-sweep
returns-then-not-sweep g c =
    let x = g.T.Step.position c.args.step.now in
    let set = g.T.Step.set c.args.step.now in
    let has_states = g.met.T.Step.has_states c.args.step.now in
    let layered = states_layered x set has_states in
    let k = c.loop-level.level in
    let ranks = c.sweep.ensures.ranks in
    let none = c.sweep.ensures.entered c.if-not-sweep.true in
    record {
      states = λ s. rank_lt layered 255 (k + 1) s (rank_at c.sweep.new.ranks.at s) (ranks s);
      ranks = λ ok s. rank_full layered (k + 1) s (rank_at c.sweep.new.ranks.at s) (ranks s)
          (λ j h. layered.later k (k + 1) s (omega arith) (layers_stop ok set (states_inside x set has_states) k none j s h));
    }
