use Rattle.std.proofs.Common.{◌/◌, ◌%◌, ap, ◌∙◌, arith}
use Rattle.game.proofs.Below.{below_same}
use Rattle.layout.specs.Reading.{in_set, set_at}
use Rattle.records.proofs.set.WholeSet.groups.Goals as goal

pub returns : goal.returns
unfolding set_at
returns c =
    let s = c.args.self.now in
    below_same _ _ 256 (λ s l. c.loop-group.invariant.1 (s / 8) (omega arith) (s % 8) (omega arith) ∙ ap (in_set c.args.self.now.map.bytes.now c.args.self.now.map.at) (omega arith))
