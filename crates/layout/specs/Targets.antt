-- A set of states by itself, as the bytes of a target are.
use Rattle.std.specs.Prelude.{◌≡◌, ℕ, ◌/◌, ◌%◌, ◌<◌, ◌≤◌, min, List, length, None, slice_index}
use Rattle.game.specs.Below.{below, bit}
use Rattle.game.specs.Games.{Ascends}
use Rattle.game.specs.Refusals.{Told}
use Rattle.game.specs.declared.refusal.Layer.TheVariants.{Record}
use Rattle.layout.specs.Writing.{set_bytes}
use Rattle.layout.specs.Reading.{set_end, GoodSet}
use Rattle.layout.specs.Faults.{fault, BadSet}

-- The bytes are those of the set xs, whose states are below n, and short enough to be read.
pub record SetOf (n : ℕ) (bs xs : List ℕ) : Type 0 where
  pub states : Ascends 0 (min n 256) xs
  pub bytes : set_bytes xs ≡ bs
  pub short : length bs ≤ 60000

-- Nothing is wrong with the bytes of a set.
abbrev pub GoodTarget : ℕ → List ℕ → Type 0
GoodTarget n bs = (length bs ≤ 60000) × GoodSet n bs 0 × (set_end bs 0 ≡ length bs)

-- What is wrong with the bytes of a set: they are too many, the set is at fault, or bytes remain behind it.
pub data BadTarget (n : ℕ) (bs : List ℕ) (t : Told) : Type 0 where
  too_long : 60000 < length bs → t ≡ fault 17 0 Record None → BadTarget n bs t
  bad_set : length bs ≤ 60000 → BadSet n bs 0 None t → BadTarget n bs t
  remain : length bs ≤ 60000 → GoodSet n bs 0 → set_end bs 0 < length bs → t ≡ fault 16 (set_end bs 0) Record None → BadTarget n bs t

-- The bytes are those of the set that is read, and of no other.
pub record TargetRead (n : ℕ) (bs xs : List ℕ) : Type 0 where
  pub set_of_it : SetOf n bs xs
  pub no_other : (ys : List ℕ) → SetOf n bs ys → ys ≡ xs

-- The bytes are those of no set of states below n, or are too long, and the fault told is the one that stands first.
pub record NotTarget (n : ℕ) (bs : List ℕ) (t : Told) : Type 0 where
  pub first_fault : BadTarget n bs t
  pub no_set : (ys : List ℕ) → SetOf n bs ys → ⊥

-- the states of a set that is kept as the bytes of its 32 groups
abbrev pub states_of : List ℕ → List ℕ
states_of groups = below (λ s. bit (slice_index groups (s / 8)) (s % 8)) 256
