use Rattle.std.proofs.Common.{◌≡◌, ◌+◌, ◌*◌}
use Rattle.game.specs.Below.{rank}
use Rattle.layout.specs.Reading.{group_place, in_set}
use Rattle.records.proofs.set.WholeSet.member.Given as goal

-- so many members are left to pass, and the place is that of this group's byte
abbrev pub invariant-loop-group : goal.invariant-loop-group
invariant-loop-group l =
    (l.place ≡ group_place l.self.map.bytes.now l.self.map.at l.group)
    × (l.k ≡ l.left + rank (in_set l.self.map.bytes.now l.self.map.at) (8 * l.group))
