use Rattle.std.proofs.Common.{refl, arith}
use Rattle.std.proofs.lemmas.Result.{err_from_is_err_and}
use Rattle.layout.specs.Faults.{bad_set, no_member}
use Rattle.layout.proofs.Places.{set_end_rank}
use Rattle.records.proofs.set_reader.SetReader.read_support.Goals as goal

pub returns-in_err-read_set : goal.returns-in_err-read_set
returns-in_err-read_set c =
    let p = err_from_is_err_and c.from_residual.result c.from_residual.ensures.1 in
    rw (p.1, p.2) (bad_set c.in_err-read_set.ensures)

pub returns-then-end-at : goal.returns-then-end-at
returns-then-end-at c =
    let set = c.in_ok-read_set.ensures in
    let end = rw (set.0, set.1) at c.end-end.ensures in
    rw c.fault.ensures (no_member set.2.0 (omega (arith, end, set_end_rank c.args.self.now.bytes.now c.args.at)) refl)

pub returns : goal.returns
returns c =
    let set = c.in_ok-read_set.ensures in
    let end = rw (set.0, set.1) at c.end-end.ensures in
    let whole = rw (set.0, set.1) at c.in_ok-read_set.field-0.whole in
    let counted = set_end_rank c.args.self.now.bytes.now c.args.at in
    (end, omega (arith, end, whole), omega (arith, end, counted), (set.2, omega (arith, end, counted)))
