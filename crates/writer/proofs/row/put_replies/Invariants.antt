use Rattle.std.specs.List.{flat_map}
use Rattle.game.specs.Below.{below, bit}
use Rattle.game.specs.declared.player.Player.TheVariants.{Two}
use Rattle.writer.specs.Rows.{support_bytes}
use Rattle.writer.proofs.row.put_replies.Given as goal

-- the supports so far
abbrev pub invariant-loop-b : goal.invariant-loop-b
invariant-loop-b g l =
    let game = g.S.Source.game l.source in
    g.K.Sink.takes l.initial.sink (flat_map (support_bytes game l.state l.a) (below (bit (game.choices Two l.state)) l.b)) l.sink
