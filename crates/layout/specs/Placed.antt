-- The places of rows and supports, kept beside a record.
use Rattle.std.specs.Prelude.{◌≡◌, ℕ, ◌+◌, ◌<◌, ◌≤◌, List, slice_index}
use Rattle.layout.specs.Reading.{sets_end, row_sets, row_place, states_in, Bytes, GoodRecord}

-- For each state below n the lists have the place of its row, and from the number of its first support on the places of its supports,
-- all of which have numbers below top.
abbrev pub Placed : List ℕ → List ℕ → List ℕ → List ℕ → ℕ → ℕ → Type 0
Placed bs rows firsts supports n top =
    (s : ℕ) →
    s < n →
    (slice_index rows s ≡ row_place bs s)
    × (slice_index firsts s + row_sets bs (row_place bs s) ≤ top)
    × ((k : ℕ) → k < row_sets bs (row_place bs s) → slice_index supports (slice_index firsts s + k) ≡ sets_end bs (row_place bs s + 2) k)

-- The bytes are a record with nothing wrong, and the lists have the places of its rows and supports.
abbrev pub Ready : List ℕ → List ℕ → List ℕ → List ℕ → Type 0
Ready bs rows firsts supports = Bytes bs × GoodRecord bs × Placed bs rows firsts supports (states_in bs) 12000
