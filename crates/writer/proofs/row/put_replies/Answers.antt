use Rattle.std.proofs.Common.{◌≡◌, true, false, arith}
use Rattle.game.specs.Below.{bit}
use Rattle.game.specs.declared.player.Player.TheVariants.{Two}
use Rattle.writer.specs.Rows.{support_bytes, replies}
use Rattle.layout.proofs.Joined.{joined_none}
use Rattle.writer.proofs.Rows.{support_is, piece_fits, piece_put, no_piece}
use Rattle.writer.proofs.row.put_replies.Goals as goal
use Rattle.writer.proofs.row.put_replies.Goals.{then-has_bit, else-has_bit}

pub loop-b-init : goal.loop-b-init
loop-b-init g c = rw joined_none (g.met.K.Sink.laws.none c.args.sink.now)

pub put_set-requires : goal.put_set-requires
unfolding replies
put_set-requires g c =
    let game = g.S.Source.game c.args.source.now in
    let s = c.args.state in
    let a = c.args.a in
    let b = c.loop-b.b in
    let has : bit (game.choices Two s) b ≡ true = cc in
    rw (support_is game s a b c.gather.result c.gather.ensures) (piece_fits g.met.K.Sink.laws (support_bytes game s a) (bit (game.choices Two s)) b c.loop-b.invariant 8 c.requires c.loop-b-test.true has)

pub loop-b-preserved : goal.loop-b-preserved
loop-b-preserved g c =
    let game = g.S.Source.game c.args.source.now in
    let s = c.args.state in
    let a = c.args.a in
    let b = c.loop-b.b in
    let laws = g.met.K.Sink.laws in
    elim c.if-has_bit.branch [
      | then-has_bit w ↦
          let has : bit (game.choices Two s) b ≡ true = cc in
          let put = rw (support_is game s a b w.gather.result w.gather.ensures) at w.put_set.ensures in
          rw w.sink-is (piece_put laws (support_bytes game s a) (bit (game.choices Two s)) b c.loop-b.invariant has put)
      | else-has_bit w ↦
          let lacks : bit (game.choices Two s) b ≡ false = cc in
          rw w.sink-is (no_piece laws (support_bytes game s a) (bit (game.choices Two s)) b c.loop-b.invariant lacks)
    ]

pub returns : goal.returns
unfolding replies
returns g c =
    let all : c.loop-b.b ≡ 8 = omega arith in
    rw all at c.loop-b.invariant
