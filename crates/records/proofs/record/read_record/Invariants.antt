use Rattle.std.proofs.Common.{◌≡◌, ℕ, ◌<◌, ◌≤◌, map, length}
use Rattle.layout.specs.Placed.{Placed}
use Rattle.layout.specs.Reading.{row_place, states_in, GoodRow}
use Rattle.records.proofs.record.read_record.Given as goal

-- the rows before this one have nothing wrong, their places are noted, and the cursor stands at this one
abbrev pub invariant-loop-state : goal.invariant-loop-state
invariant-loop-state l = record {
  place : l.cursor.place ≡ row_place l.bytes l.state;
  inside : l.cursor.place ≤ length l.bytes;
  good : (r : ℕ) → r < l.state → GoodRow (states_in l.bytes) l.bytes (row_place l.bytes r);
  noted : Placed l.bytes (map (λ r. r.place) l.places.rows) (map (λ r. r.first) l.places.rows) l.places.supports l.state l.cursor.support;
}
