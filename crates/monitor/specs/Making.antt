-- Which monitors are accepted, and why the others are refused.
use Rattle.std.specs.Prelude.{◌≡◌, ℕ, ◌*◌, ◌<◌, ◌≤◌, ◌⊎◌, List, length, ◌≢◌, slice_index}
use Rattle.game.specs.Refusals.{Told, bare, with_value}
use Rattle.monitor.specs.Products.{Entries}

-- a monitor of m states for a game of n states
pub record Accepted (n m : ℕ) (table : List ℕ) : Type 0 where
  pub some : 1 ≤ m
  pub few : m ≤ 8
  pub fits : n * m ≤ 256
  pub long : length table ≡ m * n
  pub entries : Entries m table

-- k is the place of the first entry that is not below m
abbrev pub FirstWrong : ℕ → List ℕ → ℕ → Type 0
FirstWrong m table k = (k < length table) × (m ≤ slice_index table k) × ((j : ℕ) → j < k → slice_index table j < m)

-- The causes, in the order in which they are looked for.
pub data NotMade (n m : ℕ) (table : List ℕ) : Told → Type 0 where
  monitor_states : (m ≡ 0) ⊎ (8 < m) → NotMade n m table (bare 18)
  too_many_states : 1 ≤ m → m ≤ 8 → 256 < n * m → NotMade n m table (bare 19)
  table_length : 1 ≤ m → m ≤ 8 → n * m ≤ 256 → (length table ≢ m * n) → NotMade n m table (with_value 20 (length table))
  table_entry : (k : ℕ) → 1 ≤ m → m ≤ 8 → n * m ≤ 256 → length table ≡ m * n → FirstWrong m table k → NotMade n m table (with_value 20 k)
