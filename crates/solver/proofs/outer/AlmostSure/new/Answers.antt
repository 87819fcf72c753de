use Rattle.std.proofs.Common.{◌≡◌, ℕ, List, Option, ap, subst, arith}
use Rattle.std.proofs.lemmas.Bool.{both_ways}
use Rattle.game.specs.Games.{Game}
use Rattle.theory.specs.Positions.{Playable}
use Rattle.theory.specs.Ranking.{rank_at, Within, RankFull}
use Rattle.theory.specs.Verdicts.{Level, OuterRounds}
use Rattle.theory.proofs.OuterSets.{round_next, round_covered, round_last}
use Rattle.solver.specs.Positions.{meant}
use Rattle.solver.specs.Steps.{HasStates}
use Rattle.solver.specs.declared.position.Position.{Position}
use Rattle.solver.proofs.outer.AlmostSure.new.Goals as goal

-- what levels tells, of the position that the set has
abbrev Told : {S : Type 0} → (S → Game) → List (Option ℕ) → List (Option ℕ) → Position S → Type 0
Told game outer inner p = HasStates (meant game p) inner × (Playable (meant game p) → (s : ℕ) → RankFull (Level (meant game p) (Within outer 255)) s (rank_at inner s))

pub loop-rounds-preserved : goal.loop-rounds-preserved
loop-rounds-preserved g c =
    let outer = c.new-outer-in-loop-rounds in
    let inner = c.levels-inner-in-loop-rounds in
    let (states, ranks) = subst (Told g.S.Source.game outer.result.ranks.at inner.result.at) outer.ensures.position (inner.ensures.states, inner.ensures.ranks) in
    record {
      position = outer.ensures.position;
      states = states;
      round = λ ok.
          round_next ok (c.loop-rounds.invariant.round ok) (ap (λ r. r.at) outer.ensures.ranks)
          (λ h. both_ways c.covers.result c.if-covers.false (c.covers.ensures.1 h))
          (ranks ok);
    }

pub returns-then-covers-clause-rounds : goal.returns-then-covers-clause-rounds
returns-then-covers-clause-rounds g c ok = round_covered ok (c.loop-rounds.invariant.round ok) (c.covers.ensures.0 c.if-covers.true)

pub returns-clause-rounds : goal.returns-clause-rounds
returns-clause-rounds g c ok =
    let all : c.loop-rounds.rounds ≡ 256 = omega arith in
    subst (OuterRounds (meant g.S.Source.game c.args.links.now.position)) all (round_last ok (c.loop-rounds.invariant.round ok) (omega arith))
