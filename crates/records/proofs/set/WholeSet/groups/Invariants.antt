use Rattle.std.proofs.Common.{◌≡◌, ℕ, ◌+◌, ◌*◌, ◌<◌, length, get_or}
use Rattle.game.specs.Below.{bit}
use Rattle.layout.specs.Reading.{in_set}
use Rattle.records.proofs.set.WholeSet.groups.Given as goal

-- the bytes of the groups below this one are noted
abbrev pub invariant-loop-group : goal.invariant-loop-group
invariant-loop-group l =
    (length l.groups ≡ 32)
    × ((g : ℕ) → g < l.group → (i : ℕ) → i < 8 → bit (get_or l.groups g 0) i ≡ in_set l.self.map.bytes.now l.self.map.at (8 * g + i))
