use Rattle.std.proofs.Common.{rules}
use Rattle.bench.proofs.Sound.{playable_known}
use Rattle.bench.proofs.Solved.{solve_step, solve_sound}
use Rattle.bench.proofs.bench.Bench.solve.Goals as goal

pub invariant_of-self : goal.invariant_of-self
invariant_of-self g c =
    let says = c.work_out-tally.ensures in
    let ok = playable_known (g.S.Source.valid c.args.self.now.source) c.args.self.now.sound in
    record { sound = solve_sound (g.S.Source.game c.args.self.now.source) c.args.self.now.entries.at c.work_out-tally.new.entries.at says.kept says.target ok (says.ranks ok) (says.moves ok) }

pub returns-clause-step : goal.returns-clause-step
returns-clause-step g c = search (rules, solve_step, playable_known)
