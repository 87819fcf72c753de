-- Laws of the product of a game with a monitor.
use Rattle.std.proofs.Common.{◌≡◌, ℕ, zero, suc, ◌-◌, ◌<◌, List, [], ◌∷◌, ◌++◌, length, get_or, drop, replicate, sym, refl, ◌∙◌, ⊎_elim, arith}
use Rattle.std.proofs.lemmas.List.{get_or_past, get_or_append_left, get_or-append_right, drop-replicate}
use Rattle.std.proofs.lemmas.Bool.{cases_lt}
use Rattle.game.specs.Games.{Game, Ascends, WellFormed}

-- a list of zeros reads 0, also past its end
pub zeros : (n k : ℕ) → ◌≡◌ {A = ℕ} (get_or (replicate n 0) k 0) 0
zeros zero k = refl
zeros (suc n) zero = refl
zeros (suc n) (suc k) = zeros n k

-- a table that is filled up with zeros reads as before
pub filled : (table : List ℕ) (i n k : ℕ) → get_or (table ++ drop i (replicate n 0)) k 0 ≡ get_or table k 0
filled table i n k =
    rw drop-replicate (
    ⊎_elim
    (get_or_append_left table (replicate (n - i) 0) 0 k)
    (λ h. get_or-append_right table (replicate (n - i) 0) (length table) k 0 refl h ∙ zeros (n - i) (k - length table) ∙ sym (get_or_past table k 0 h))
    (cases_lt k (length table)))

-- what stands in an ascending list is below the list's bound
below_bound : (from n : ℕ) (ts : List ℕ) (k : ℕ) → Ascends from n ts → k < length ts → get_or ts k 0 < n
below_bound from n [] k h l = omega arith
below_bound from n (t ∷ ts) zero h l = h.1
below_bound from n (t ∷ ts) (suc k) h l = below_bound (suc t) n ts k h.2 (omega arith)

-- a member of a support is a state of the game
pub member_below : (g : Game) (s a b k : ℕ) → WellFormed g → k < length (g.support s a b) → get_or (g.support s a b) k 0 < g.size
member_below g s a b k valid h = below_bound 0 g.size (g.support s a b) k (valid.ascends s a b) h
