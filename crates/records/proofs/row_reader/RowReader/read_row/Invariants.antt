use Rattle.std.proofs.Common.{◌≡◌, ℕ, ◌+◌, ◌*◌, ◌<◌, ◌≤◌, length, get_or}
use Rattle.layout.specs.Reading.{sets_end, GoodSupport}
use Rattle.records.proofs.row_reader.RowReader.read_row.Given as goal

-- the supports before number k have nothing wrong, their places are noted, and the place is that of number k
abbrev pub invariant-loop-k : goal.invariant-loop-k
invariant-loop-k l = record {
  place : l.place ≡ sets_end l.self.bytes.now (l.from.place + 2) l.k;
  inside : l.place ≤ length l.self.bytes.now;
  room : 5 * (l.from.support + l.k) + 3 ≤ l.place;
  rows : l.places.rows ≡ l.initial.places.rows;
  before : (j : ℕ) → j < l.from.support → get_or l.places.supports j 0 ≡ get_or l.initial.places.supports j 0;
  good : (j : ℕ) → j < l.k → GoodSupport l.self.states l.self.bytes.now (sets_end l.self.bytes.now (l.from.place + 2) j);
  noted : (j : ℕ) → j < l.k → get_or l.places.supports (l.from.support + j) 0 ≡ sets_end l.self.bytes.now (l.from.place + 2) j;
}
