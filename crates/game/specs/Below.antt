-- The numbers below a bound that pass a test, the binary digits of a number, and membership in a list.
use Rattle.std.specs.Prelude.{ℕ, zero, suc, ◌+◌, ◌/◌, ◌%◌, ◌^◌, Bool, false, cond, ◌||◌, List, [], ◌∷◌, ◌++◌, length, ◌==◌}

-- the numbers below n that pass the test, in ascending order
unfoldable pub below : (ℕ → Bool) → ℕ → List ℕ
below p zero = []
below p (suc n) = below p n ++ cond (p n) (n ∷ []) []

-- how many numbers below n pass the test: the place of n among those that pass
abbrev pub rank : (ℕ → Bool) → ℕ → ℕ
rank p n = length (below p n)

-- whether bit i, of weight 2 to the power i, stands in c
abbrev pub bit : ℕ → ℕ → Bool
bit c i = c / 2 ^ i % 2 == 1

-- the sum of the weights of the bits below k that pass the test
unfoldable pub weigh : (ℕ → Bool) → ℕ → ℕ
weigh p zero = 0
weigh p (suc k) = weigh p k + cond (p k) (2 ^ k) 0

-- the byte whose standing bits are those that pass the test
abbrev pub byte : (ℕ → Bool) → ℕ
byte p = weigh p 8

-- whether a list has a number
unfoldable pub elem : ℕ → List ℕ → Bool
elem x [] = false
elem x (y ∷ ys) = x == y || elem x ys
