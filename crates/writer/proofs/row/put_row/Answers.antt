use Rattle.std.proofs.Common.{◌≡◌, ◌≤◌, true, false, length, ap, arith}
use Rattle.std.specs.List.{flat_map}
use Rattle.game.specs.Below.{below, bit}
use Rattle.game.specs.declared.player.Player.TheVariants.{One}
use Rattle.writer.specs.Rows.{replies}
use Rattle.layout.proofs.Joined.{joined_none}
use Rattle.writer.proofs.Rows.{row_is, piece_fits, piece_put, no_piece, row_put}
use Rattle.writer.proofs.row.put_row.Goals as goal
use Rattle.writer.proofs.row.put_row.Goals.{then-has_bit, else-has_bit}

pub put-requires : goal.put-requires
put-requires g c = omega (arith, c.requires, ap length (row_is (g.S.Source.game c.args.source.now) c.args.state))

pub put-requires-2 : goal.put-requires-2
put-requires-2 g c =
    omega (arith, c.requires, ap length (row_is (g.S.Source.game c.args.source.now) c.args.state), g.met.K.Sink.laws.room_left c.put.ensures)

pub loop-a-init : goal.loop-a-init
loop-a-init g c = rw joined_none (g.met.K.Sink.laws.none c.put-2.new.self)

pub put_replies-requires : goal.put_replies-requires
put_replies-requires g c =
    let game = g.S.Source.game c.args.source.now in
    let s = c.args.state in
    let a = c.loop-a.a in
    let laws = g.met.K.Sink.laws in
    let has : bit (game.choices One s) a ≡ true = cc in
    let room : length (flat_map (replies game s) (below (bit (game.choices One s)) 8)) ≤ g.K.Sink.room c.put-2.new.self = omega (arith, c.requires, ap length (row_is game s), laws.room_left c.put.ensures, laws.room_left c.put-2.ensures) in
    piece_fits laws (replies game s) (bit (game.choices One s)) a c.loop-a.invariant 8 room c.loop-a-test.true has

pub loop-a-preserved : goal.loop-a-preserved
loop-a-preserved g c =
    let game = g.S.Source.game c.args.source.now in
    let s = c.args.state in
    let a = c.loop-a.a in
    let laws = g.met.K.Sink.laws in
    elim c.if-has_bit.branch [
      | then-has_bit w ↦
          let has : bit (game.choices One s) a ≡ true = cc in
          rw w.sink-is (piece_put laws (replies game s) (bit (game.choices One s)) a c.loop-a.invariant has w.put_replies.ensures)
      | else-has_bit w ↦
          let lacks : bit (game.choices One s) a ≡ false = cc in
          rw w.sink-is (no_piece laws (replies game s) (bit (game.choices One s)) a c.loop-a.invariant lacks)
    ]

pub returns : goal.returns
returns g c =
    let all : c.loop-a.a ≡ 8 = omega arith in
    row_put g.met.K.Sink.laws (g.S.Source.game c.args.source.now) c.args.state c.moves-moves.ensures c.moves.ensures c.put.ensures c.put-2.ensures {w = c.loop-a.sink} (rw all at c.loop-a.invariant)
