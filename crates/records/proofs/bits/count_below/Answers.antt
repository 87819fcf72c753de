use Rattle.std.proofs.Common.{◌%◌, ◌≤◌, sym, ap, ◌∙◌, subst}
use lib.Count.{ones}
use Rattle.std.proofs.lemmas.Nat.{one_shl}
use Rattle.game.specs.Below.{bit}
use Rattle.game.proofs.Below.{rank_le}
use Rattle.game.proofs.Digits.{ones_mod}
use Rattle.records.proofs.bits.count_below.Goals as goal

pub returns : goal.returns
returns c =
    let same = ap (λ m. ones (c.args.bits % m)) (one_shl c.args.i 64 c.requires) ∙ ones_mod c.args.bits c.args.i in
    record { count = same; few = subst (λ n. n ≤ c.args.i) (sym same) (rank_le (bit c.args.bits) c.args.i) }
