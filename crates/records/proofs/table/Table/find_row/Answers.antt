use Rattle.std.proofs.Common.{arith}
use Rattle.layout.proofs.Ready.{states_few, moves_outside}
use Rattle.records.proofs.Noted.{row_noted}
use Rattle.records.proofs.table.Table.find_row.Goals as goal

pub returns-then-state-states : goal.returns-then-state-states
returns-then-state-states c p = moves_outside _ _ _ _ c.args.self.now.ready p c.args.state (omega (arith, c.states.ensures))

pub bounds-self-from : goal.bounds-self-from
bounds-self-from c = omega (arith, c.states.ensures, states_few _ _ _ _ c.args.self.now.ready)

pub returns : goal.returns
returns c =
    let t = c.args.self.now in
    rw (c.from-2.ensures, c.from.ensures) (row_noted t.bytes.now t.places.rows _ t.ready c.args.state (omega (arith, c.states.ensures)))
