-- The states of a set that lies in bytes.
use Rattle.std.specs.Prelude.{ℕ, List}
use Rattle.layout.specs.Reading.{set_at}
use Rattle.records.specs.declared.set.WholeSet.{WholeSet}

-- in ascending order
abbrev pub members : WholeSet → List ℕ
members s = set_at s.map.bytes.now s.map.at
