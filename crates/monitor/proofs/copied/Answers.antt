use Rattle.std.proofs.Common.{◌≡◌, ◌++◌, length, get_or, drop, replicate, sym, subst}
use Rattle.monitor.proofs.Products.{filled}
use Rattle.monitor.proofs.copied.Goals as goal

pub returns : goal.returns
returns c k =
    let table = c.args.table.now in
    subst (λ xs. get_or (xs ++ drop (length table) (replicate 256 0)) k 0 ≡ get_or table k 0) (sym c.copy_from_slice.ensures.after) (filled table (length table) 256 k)
