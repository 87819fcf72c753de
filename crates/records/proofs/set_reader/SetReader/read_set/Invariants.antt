use Rattle.std.proofs.Common.{◌≡◌, ℕ, ◌<◌, true}
use Rattle.layout.specs.Reading.{map_bit, GoodGroup}
use Rattle.records.proofs.set_reader.SetReader.read_set.Given as goal

-- the groups below this one have nothing wrong
abbrev pub invariant-loop-group : goal.invariant-loop-group
invariant-loop-group l = (h : ℕ) → h < l.group → map_bit l.self.bytes.now l.at h ≡ true → GoodGroup l.self.states l.self.bytes.now l.at h
