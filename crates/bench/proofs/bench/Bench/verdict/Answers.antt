use Rattle.std.proofs.Common.{rules}
use Rattle.bench.proofs.Questions.{verdict_step, not_asked_step}
use Rattle.bench.proofs.bench.Bench.verdict.Goals as goal

pub returns-in_err-check_solved-clause-step : goal.returns-in_err-check_solved-clause-step
returns-in_err-check_solved-clause-step g c = search (rules, not_asked_step)

pub returns-clause-step : goal.returns-clause-step
returns-clause-step g c = search (rules, verdict_step)
