-- The product of a game with a monitor is well-formed.
use Rattle.std.specs.Prelude.{ℕ, suc, ◌+◌, ◌*◌, ◌/◌, ◌%◌, ◌<◌, ◌≤◌, List, [], ◌∷◌, length, slice_index}
use Rattle.std.proofs.Common.{⊎_elim, ap, arith}
use Rattle.std.proofs.lemmas.Nat.{mul-le, mul-add-lt, div_below, le-div}
use Rattle.std.proofs.lemmas.List.{length-map, get_or_past}
use Rattle.std.proofs.lemmas.Bool.{cases_lt}
use Rattle.game.specs.Games.{Game, Ascends, WellFormed}
use Rattle.monitor.specs.Products.{next, paired, product, Entries}

module _ (m : ℕ) (table : List ℕ) (some : 1 ≤ m) (entries : Entries m table) where
  -- past the table's end the entry reads 0
  pub entry_below : (k : ℕ) → slice_index table k < m
  entry_below k = ⊎_elim (entries k) (λ h. omega (arith, get_or_past table k 0 h)) (cases_lt k (length table))

  ascends_paired : (n q size least from : ℕ) (ts : List ℕ) → least ≤ from * m → Ascends from size ts → Ascends least (size * m) (paired table n m q ts)
  ascends_paired n q size least from [] l h = tt
  ascends_paired n q size least from (t ∷ ts) l h =
      let e : next table n q t < m = entry_below (q * n + t) in (
        omega (arith, mul-le from m t m h.0 (omega arith)),
        omega (arith, mul-add-lt t m (next table n q t) size h.1 e),
        ascends_paired n q size (suc (t * m + next table n q t)) (suc t) ts (omega (arith, mul-add-lt t m (next table n q t) (suc t) (omega arith) e)) h.2,
      )

  module _ (g : Game) (valid : WellFormed g) where
    pub product_valid : g.size * m ≤ 256 → WellFormed (product g m table)
    product_valid few = record {
      some_state = mul-le 1 1 g.size m valid.some_state some;
      few_states = few;
      some_move = λ p x h. valid.some_move p (x / m) (div_below x m g.size some h);
      few_moves = λ p x. valid.few_moves p (x / m);
      no_move = λ p x h. valid.no_move p (x / m) (le-div g.size x m some h);
      some_next = λ x a b h. omega (arith, valid.some_next (x / m) a b h, length-map (g.support (x / m) a b) (λ t. t * m + next table g.size (x % m) t));
      ascends = λ x a b. ascends_paired g.size (x % m) g.size 0 0 (g.support (x / m) a b) (omega arith) (valid.ascends (x / m) a b);
      no_next = λ x a b h. ap (paired table g.size m (x % m)) (valid.no_next (x / m) a b h);
    }
