use Rattle.std.proofs.Common.{◌++◌, take}
use Rattle.writer.specs.Sets.{groups_in, packed}
use Rattle.writer.proofs.set.put_set.Given as goal

-- the bytes of the map so far
abbrev pub invariant-loop-j : goal.invariant-loop-j
invariant-loop-j g l = g.K.Sink.takes l.initial.sink (take l.j (packed l.groups)) l.sink

-- the map, and the bytes of the groups so far
abbrev pub invariant-loop-group : goal.invariant-loop-group
invariant-loop-group g l = g.K.Sink.takes l.fn.sink (take 4 (packed l.groups) ++ groups_in l.groups l.group-index) l.sink
