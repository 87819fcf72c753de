-- What sinks take.
use Rattle.std.specs.Prelude.{◌≡◌, ℕ, ◌+◌, ◌-◌, ◌^◌, ◌≤◌, List, [], ◌++◌, length, take, drop}

-- What has been taken is a list of bytes, and each byte takes away one of the room.
pub record SinkLaws {K : Type 0} (room : K → ℕ) (takes : K → List ℕ → K → Type 0) : Type 0 where
  pub none : (x : K) → takes x [] x
  pub append : {x y z : K} {bs cs : List ℕ} → takes x bs y → takes y cs z → takes x (bs ++ cs) z
  pub room_left : {x y : K} {bs : List ℕ} → takes x bs y → room x ≡ length bs + room y

-- how far a number that a machine word holds can still be counted up
abbrev pub uncounted : ℕ → ℕ
uncounted n = 2 ^ 64 - 1 - n

-- bytes that are counted onto a number
pub record Counts (from : ℕ) (bs : List ℕ) (to : ℕ) : Type 0 where
  pub fits : length bs ≤ uncounted from
  pub after : to ≡ from + length bs

-- the bytes are stored in a buffer between two places, and all else stays
pub record Stores (old : List ℕ) (from : ℕ) (bs new : List ℕ) (to : ℕ) : Type 0 where
  pub fits : length bs ≤ length old - from
  pub after : to ≡ from + length bs
  pub front : take to new ≡ take from old ++ bs
  pub back : drop to new ≡ drop to old
