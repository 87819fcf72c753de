use Rattle.std.proofs.Common.{ℕ, ◌<◌, length, sym, ap, ◌∙◌, subst, arith}
use Rattle.game.specs.Below.{rank}
use Rattle.theory.specs.Benches.{Counts}
use Rattle.theory.specs.Ranking.{rank_at, up_to, Within}
use Rattle.theory.specs.Verdicts.{SureRank, AlmostRank}
use Rattle.theory.proofs.Told.{sure_counts, almost_counts}
use Rattle.solver.specs.Entries.{position_of}
use Rattle.solver.specs.Positions.{meant}
use Rattle.solver.specs.Steps.{StaysIn}
use Rattle.solver.proofs.Held.{Held, held_more, held_ranks, held_moves}
use Rattle.solver.proofs.verdicts.work_out.Goals as goal

pub loop-state-preserved : goal.loop-state-preserved
loop-state-preserved g c =
    let room : c.loop-state.state < length c.loop-state.entries.at = omega (arith, c.loop-state.entries.whole, c.states-states.ensures, (g.S.Source.valid c.args.source.now).few_states) in
    held_more {old = c.args.entries.now.at} {ranks = c.levels-sure.result.at} {levels = c.new-rounds.result.levels.at} {stay = c.new-rounds.result.outer.stay} c.sure_verdict-first.result c.almost_verdict-second.result room c.loop-state.invariant
    (record {
      sure_rank = c.sure_verdict-first.ensures.rank;
      sure_moves = c.sure_verdict-first.ensures.moves;
      almost_rank = c.almost_verdict-second.ensures.rank;
      almost_moves = c.almost_verdict-second.ensures.moves;
    })
    c.set_verdicts.ensures

pub returns : goal.returns
returns g c =
    let game = g.S.Source.game c.args.source.now in
    let x = position_of game c.args.entries.now.at in
    let ranks = c.levels-sure.result.at in
    let found = c.new-rounds.result in
    let facts = c.new-rounds.ensures in
    let told = c.levels-sure.ensures.ranks in
    let stays : StaysIn x found.outer.ranks.at found.outer.stay = subst (λ p. StaysIn (meant g.S.Source.game p) found.outer.ranks.at found.outer.stay) facts.position found.outer.stays in
    let held = subst (λ n. Held game c.args.entries.now.at ranks found.levels.at found.outer.stay n c.loop-state.entries.at) {y = game.size} (omega (arith, c.states-states.ensures)) c.loop-state.invariant in
    record {
      kept = c.loop-state.invariant.alike.0;
      target = c.loop-state.invariant.alike.1;
      ranks = λ ok. held_ranks found.outer.ranks.at held ok (told ok) (facts.rounds ok) (facts.outer ok) (facts.levels ok) stays;
      moves = λ ok. held_moves found.outer.ranks.at held ok (told ok) (facts.rounds ok) (facts.outer ok) (facts.levels ok) stays;
      sure = λ ok.
          subst (Counts (λ s. (k : ℕ) × SureRank x k s) game.size) (sym (c.count.ensures ∙ ap (rank (λ s. up_to 255 (rank_at ranks s))) c.states-states.ensures))
          (sure_counts x ok ranks (told ok));
      almost = λ ok.
          subst (Counts (λ s. (k : ℕ) × AlmostRank x k s) game.size) (sym (c.count-2.ensures ∙ ap (rank (λ s. up_to 255 (rank_at found.levels.at s))) c.states-states.ensures))
          (almost_counts x ok found.rounds (facts.rounds ok) (Within found.outer.ranks.at 255) (facts.outer ok) found.levels.at (facts.levels ok));
      rounds = facts.rounds;
    }
