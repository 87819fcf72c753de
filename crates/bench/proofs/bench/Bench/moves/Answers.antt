use Rattle.std.proofs.Common.{rules}
use Rattle.bench.specs.Held.{not_asked, not_winning}
use Rattle.bench.proofs.Questions.{moves_step, not_handed_step}
use Rattle.bench.proofs.bench.Bench.moves.Goals as goal

pub returns-in_err-check_solved-clause-step : goal.returns-in_err-check_solved-clause-step
returns-in_err-check_solved-clause-step g c = search (rules, not_handed_step, not_asked)

pub returns-in-Some-clause-step : goal.returns-in-Some-clause-step
returns-in-Some-clause-step g c = search (rules, moves_step)

pub returns-in-None-clause-step : goal.returns-in-None-clause-step
returns-in-None-clause-step g c = search (rules, not_handed_step, not_winning)
