use Rattle.std.proofs.Common.{rules, ◌≡◌, ◌||◌, sym, ap, ◌∙◌}
use Rattle.std.proofs.lemmas.Bool.{both_ways, or_left}
use Rattle.game.specs.Below.{bit}
use Rattle.theory.specs.Plays.{settle_not_kept, settle_outside, settles}
use Rattle.solver.specs.Entries.{target_in}
use Rattle.bench.specs.Rounds.{rest_in}
use Rattle.bench.proofs.play.OpenRound.settle.Goals as goal
use Rattle.bench.proofs.play.OpenRound.settle.Goals.{then-play, else-play}

pub returns-then-not-has_bit : goal.returns-then-not-has_bit
returns-then-not-has_bit g c = search (rules, settle_not_kept, both_ways)

pub returns-then-not-can_lead : goal.returns-then-not-can_lead
returns-then-not-can_lead g c = search (rules, settle_outside, both_ways)

pub returns : goal.returns
returns g c =
    let p = rest_in c.args.self in
    let met : c.if-play.result ≡ (c.args.self.play.met || target_in c.args.bench.now.entries.at c.args.successor) =
    elim c.if-play.branch [
      | then-play w ↦ w.result-is ∙ w.if-play.true ∙ sym (or_left c.args.self.play.met _ w.if-play.true)
      | else-play w ↦ w.result-is ∙ w.target.ensures ∙ sym (ap (λ v. v || target_in c.args.bench.now.entries.at c.args.successor) w.if-play.false)
    ] in
    rw met (settles p c.args.self.a c.args.b c.args.successor (ap (λ k. bit k c.args.b) (sym c.kept.ensures) ∙ sym c.if-not-has_bit.ensures) (sym c.if-not-can_lead.ensures))
