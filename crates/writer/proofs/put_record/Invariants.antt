use Rattle.std.proofs.Common.{true}
use Rattle.std.specs.List.{flat_map}
use Rattle.game.specs.Below.{below}
use Rattle.layout.specs.Writing.{row_bytes}
use Rattle.writer.proofs.put_record.Given as goal

-- the rows so far
abbrev pub invariant-loop-state : goal.invariant-loop-state
invariant-loop-state g l = g.K.Sink.takes l.initial.sink (flat_map (row_bytes (g.S.Source.game l.source)) (below (λ _. true) l.state)) l.sink
