use Rattle.std.proofs.Common.{rules}
use Rattle.theory.specs.Plays.{abandons}
use Rattle.runs.proofs.play_calls.make_play_call.Goals as goal

pub returns-in-Round-Abandon : goal.returns-in-Round-Abandon
returns-in-Round-Abandon g c = search (rules, abandons)
