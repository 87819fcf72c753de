use Rattle.std.proofs.Common.{ap, arith}
use Rattle.game.specs.Below.{rank, bit}
use Rattle.game.proofs.Below.{rank_same}
use Rattle.layout.specs.Reading.{map_bit, group_place}
use Rattle.records.proofs.group_map.GroupMap.place.Goals as goal

pub returns : goal.returns
unfolding group_place
returns c =
    let m = c.args.self.now in
    let same = rank_same (bit m.bits) (map_bit m.bytes.now m.at) c.args.group (λ g l. m.groups g (omega arith)) in
    omega (arith, same, c.count_below.ensures.count, ap (λ b. rank (bit b) c.args.group) c.from.ensures)
