use Rattle.std.proofs.Common.{◌≡◌, ◌≤◌, true, length, refl, ap, arith}
use Rattle.std.specs.List.{flat_map}
use Rattle.game.specs.Below.{below}
use Rattle.layout.specs.Writing.{row_bytes}
use Rattle.layout.proofs.Joined.{joined_none}
use Rattle.writer.proofs.Rows.{record_is, piece_fits, piece_put}
use Rattle.writer.proofs.put_record.Goals as goal

pub put-requires : goal.put-requires
put-requires g c = omega (arith, c.requires, ap length (record_is (g.S.Source.game c.args.source.now)))

pub loop-state-init : goal.loop-state-init
loop-state-init g c = rw joined_none (g.met.K.Sink.laws.none c.put.new.self)

pub put_row-requires : goal.put_row-requires
put_row-requires g c =
    let game = g.S.Source.game c.args.source.now in
    let laws = g.met.K.Sink.laws in
    let room : length (flat_map (row_bytes game) (below (λ _. true) game.size)) ≤ g.K.Sink.room c.put.new.self = omega (arith, c.requires, ap length (record_is game), laws.room_left c.put.ensures) in
    piece_fits laws (row_bytes game) (λ _. true) c.loop-state.state c.loop-state.invariant game.size room (omega arith) refl

pub loop-state-preserved : goal.loop-state-preserved
loop-state-preserved g c =
    let game = g.S.Source.game c.args.source.now in
    piece_put g.met.K.Sink.laws (row_bytes game) (λ _. true) c.loop-state.state c.loop-state.invariant refl c.put_row.ensures

pub returns : goal.returns
returns g c =
    let game = g.S.Source.game c.args.source.now in
    let all : c.loop-state.state ≡ game.size = omega arith in
    let count = rw c.states-states.ensures at c.put.ensures in
    rw record_is (g.met.K.Sink.laws.append {z = c.loop-state.sink} count (rw all at c.loop-state.invariant))
