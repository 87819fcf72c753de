use Rattle.std.proofs.Common.{◌+◌, ◌*◌, ◌/◌, ◌%◌, arith}
use mir.Facts.{Fits-below}
use Rattle.std.proofs.lemmas.Nat.{mul-le, mul-add-lt, mod_below}
use Rattle.monitor.specs.Valid.{entry_below}
use Rattle.monitor.proofs.Products.{member_below}
use Rattle.monitor.proofs.MonitoredSource.member.Goals as goal

pub overflow_mul-result : goal.overflow_mul-result
overflow_mul-result g c =
    let v = c.args.self.now in
    let valid = g.S.Source.valid v.base in
    let t = member_below (g.S.Source.game v.base) (c.args.state / v.monitor.states) c.args.a c.args.b c.args.k valid (omega arith) in
    let few = valid.few_states in
    Fits-below tt (mul-le c.member-t.result v.monitor.states 256 8 (omega arith) v.monitor.few)

pub next-requires : goal.next-requires
next-requires g c =
    let v = c.args.self.now in
    let t = member_below (g.S.Source.game v.base) (c.args.state / v.monitor.states) c.args.a c.args.b c.args.k (g.S.Source.valid v.base) (omega arith) in
    let q = mod_below c.args.state v.monitor.states v.monitor.some in
    rw c.states.ensures (omega (arith, mul-add-lt (c.args.state % v.monitor.states) (g.S.Source.game v.base).size c.member-t.result v.monitor.states q (omega arith)))

pub overflow_add-result : goal.overflow_add-result
overflow_add-result g c =
    let v = c.args.self.now in
    let t = member_below (g.S.Source.game v.base) (c.args.state / v.monitor.states) c.args.a c.args.b c.args.k (g.S.Source.valid v.base) (omega arith) in
    let next = entry_below v.monitor.states v.monitor.table v.monitor.some v.monitor.entries (c.args.state % v.monitor.states * c.states.result + c.member-t.result) in
    Fits-below {n = 256} tt (omega (arith, mul-add-lt c.member-t.result v.monitor.states c.next.result (g.S.Source.game v.base).size (omega arith) (omega arith)))
