use Rattle.runs.proofs.Made.{Made}
use Rattle.runs.proofs.bench_calls.make_calls.Given as goal

-- the calls so far were made, and their answers written
abbrev pub invariant-loop-i : goal.invariant-loop-i
invariant-loop-i g l = Made l.initial.bench.source l.calls l.initial.answers l.answers l.i l.bench
