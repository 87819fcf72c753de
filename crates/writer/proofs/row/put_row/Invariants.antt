use Rattle.std.specs.List.{flat_map}
use Rattle.game.specs.Below.{below, bit}
use Rattle.game.specs.declared.player.Player.TheVariants.{One}
use Rattle.writer.specs.Rows.{replies}
use Rattle.writer.proofs.row.put_row.Given as goal

-- the supports so far
abbrev pub invariant-loop-a : goal.invariant-loop-a
invariant-loop-a g l =
    let game = g.S.Source.game l.source in
    g.K.Sink.takes l.initial.sink (flat_map (replies game l.state) (below (bit (game.choices One l.state)) l.a)) l.sink
