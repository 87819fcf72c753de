use Rattle.std.proofs.Common.{take}
use Rattle.writer.specs.Sets.{Gathers}
use Rattle.writer.proofs.set.gather.Given as goal

-- the members so far
abbrev pub invariant-loop-k : goal.invariant-loop-k
invariant-loop-k g l = Gathers l.groups (take l.k ((g.S.Source.game l.source).support l.state l.a l.b))
