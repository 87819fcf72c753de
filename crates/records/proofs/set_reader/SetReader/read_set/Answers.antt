use Rattle.std.proofs.Common.{sym, arith}
use Rattle.std.proofs.lemmas.Result.{err_from_is_err_and}
use Rattle.layout.specs.Faults.{bad_group}
use Rattle.layout.proofs.Places.{set_end_is}
use Rattle.records.proofs.Groups.{groups_end}
use Rattle.records.proofs.set_reader.SetReader.read_set.Goals as goal

pub returns-in_err-read_group : goal.returns-in_err-read_group
returns-in_err-read_group c =
    let p = err_from_is_err_and c.from_residual.result c.from_residual.ensures.1 in
    let same = c.new-map.ensures in
    let has = rw (same.of, same.begins) at (sym c.if-has.ensures) in
    let place = rw (same.of, same.begins) at c.place.ensures in
    rw (p.1, p.2) (bad_group (omega arith) c.loop-group.group c.loop-group-test.true has c.loop-group.invariant (c.in_err-read_group.ensures c.args.at place))

pub invariant_of-result : goal.invariant_of-result
invariant_of-result c =
    let bs = c.args.self.now.bytes.now in
    let p = c.args.at in
    let end = groups_end bs p 32 (omega arith) (λ g l e. (c.loop-group.invariant g (omega arith) e).0) in
    record { whole = rw (c.new-map.ensures.of, c.new-map.ensures.begins) (omega (arith, set_end_is bs p)) }
