use Rattle.std.proofs.Common.{refl}
use Rattle.std.proofs.lemmas.Result.{err_from_is_err_and}
use Rattle.layout.proofs.Opens.{opened, not_opened}
use Rattle.records.proofs.table.Table.open.Goals as goal

pub returns-in_err-read_record : goal.returns-in_err-read_record
returns-in_err-read_record c =
    let p = err_from_is_err_and c.from_residual.result c.from_residual.ensures.1 in
    rw (p.1, p.2) (not_opened _ _ c.in_err-read_record.ensures, refl)

pub returns : goal.returns
returns c = let ready = c.in_ok-read_record.ensures in opened _ ready.0 ready.1
