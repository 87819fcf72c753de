use Rattle.std.proofs.Common.{arith}
use Rattle.records.proofs.Noted.{state, room, ends, shows, none_at}
use Rattle.records.proofs.table.Table.find_support.Goals as goal

pub returns-in_err-number : goal.returns-in_err-number
returns-in_err-number c =
    let other = rw (c.moves-first.ensures, c.moves-second.ensures) at c.in_err-number.ensures in
    rw c.from_residual.ensures (none_at c.args.self.now.bytes.now c.args.state c.args.a c.args.b other)

pub bounds-self-from : goal.bounds-self-from
bounds-self-from c =
    let t = c.args.self.now in
    let h = rw (c.moves-first.ensures, c.moves-second.ensures) at c.in_ok-number.ensures in
    omega (arith, c.from.ensures, state t.bytes.now t.places.rows t.places.supports t.ready c.args.state _ _ _ h)

pub overflow_add-row : goal.overflow_add-row
overflow_add-row c =
    let t = c.args.self.now in
    let h = rw (c.moves-first.ensures, c.moves-second.ensures) at c.in_ok-number.ensures in
    rw c.from.ensures (record { fits = omega (arith, room t.bytes.now t.places.rows t.places.supports t.ready c.args.state _ _ _ h) })

pub bounds-self-from-2 : goal.bounds-self-from-2
bounds-self-from-2 c =
    let t = c.args.self.now in
    let h = rw (c.moves-first.ensures, c.moves-second.ensures) at c.in_ok-number.ensures in
    rw (c.from-2.ensures, c.from.ensures) (room t.bytes.now t.places.rows t.places.supports t.ready c.args.state _ _ _ h)

pub new-requires : goal.new-requires
new-requires c =
    let t = c.args.self.now in
    let h = rw (c.moves-first.ensures, c.moves-second.ensures) at c.in_ok-number.ensures in
    rw (c.from-3.ensures, c.from-2.ensures, c.from.ensures) (ends t.bytes.now t.places.rows t.places.supports t.ready c.args.state _ _ _ h)

pub returns : goal.returns
returns c =
    let t = c.args.self.now in
    let h = rw (c.moves-first.ensures, c.moves-second.ensures) at c.in_ok-number.ensures in
    rw (c.new.ensures.of, c.new.ensures.begins, c.from-3.ensures, c.from-2.ensures, c.from.ensures) (shows t.bytes.now t.places.rows t.places.supports t.ready c.args.state _ _ _ h)
