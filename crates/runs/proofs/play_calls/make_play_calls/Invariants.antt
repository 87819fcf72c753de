use Rattle.bench.specs.Held.{position}
use Rattle.runs.specs.PlayCalls.{play_of}
use Rattle.runs.proofs.PlayMade.{PlayMade}
use Rattle.runs.proofs.play_calls.make_play_calls.Given as goal

-- the calls so far were made, and their answers written
abbrev pub invariant-loop-made : goal.invariant-loop-made
invariant-loop-made g l = PlayMade (position l.bench) l.state l.calls l.initial.answers l.answers l.made (play_of l.stage)
