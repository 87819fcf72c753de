-- What stands at a place where the bytes of a row stand.
use Rattle.std.proofs.Common.{◌≡◌, ℕ, zero, suc, ◌+◌, ◌*◌, ◌<◌, ◌≤◌, List, [], ◌∷◌, ◌++◌, length, get_or, sym, ap, ◌∙◌, subst, arith, length-append}
use Rattle.std.specs.List.{flat_map}
use Rattle.game.specs.Below.{below, bit}
use Rattle.game.specs.Games.{Game, WellFormed, Ascends, Chosen}
use Rattle.game.specs.declared.player.Player.TheVariants.{One, Two}
use Rattle.game.proofs.Below.{bit_in_byte}
use Rattle.layout.specs.Writing.{set_bytes, row_bytes}
use Rattle.layout.specs.Reading.{at, set_end, set_at, sets_end, moves_in, row_sets, row_end, support_index, GoodSupport, GoodRow}
use Rattle.layout.proofs.Joined.{pairs, length_pairs, joined_pairs, pairs_found, pairs_each}
use Rattle.layout.proofs.Moves.{index_below}
use Rattle.layout.proofs.Places.{sets_end_first, sets_end_rest}
use Rattle.layout.proofs.SetWritten.{support_written}
use Rattle.layout.proofs.Stands.{Stands, stands_at, stands_fits, stands_front, stands_rest}

-- a support of a game with n states
abbrev Support : ℕ → List ℕ → Type 0
Support n xs = Ascends 0 n xs × (1 ≤ length xs)

-- a list of such supports
abbrev Supports : ℕ → List (List ℕ) → Type 0
Supports n xss = (k : ℕ) → k < length xss → Support n (get_or xss k [])

-- Where supports stand one behind the other, those behind the first stand at its end.
module _ (n : ℕ) (l : n ≤ 256) (bs : List ℕ) where
  first_support : (p : ℕ) (xs ys : List ℕ) → Support n xs → Stands (set_bytes xs ++ ys) p bs → GoodSupport n bs p × (set_end bs p ≡ p + length (set_bytes xs)) × (set_at bs p ≡ xs)
  first_support p xs ys h st = support_written n bs p xs l h.0 h.1 (stands_front (set_bytes xs) ys p bs st)

  rest_stands : (p : ℕ) (xs ys : List ℕ) → Support n xs → Stands (set_bytes xs ++ ys) p bs → Stands ys (set_end bs p) bs
  rest_stands p xs ys h st = rw (first_support p xs ys h st).1 (stands_rest (set_bytes xs) ys p bs st)

  -- each is good, and is what was written
  supports_written : (p : ℕ) (xss : List (List ℕ)) → Supports n xss → Stands (flat_map set_bytes xss) p bs → (k : ℕ) → k < length xss → GoodSupport n bs (sets_end bs p k) × (set_at bs (sets_end bs p k) ≡ get_or xss k [])
  supports_written p [] each st k h = absurd (omega arith)
  supports_written p (xs ∷ xss) each st zero h =
      let w = first_support p xs (flat_map set_bytes xss) (each 0 h) st in
      rw (sets_end_first bs p) (w.0, w.2)
  supports_written p (xs ∷ xss) each st (suc k) h =
      let rest = rest_stands p xs (flat_map set_bytes xss) (each 0 (omega arith)) st in
      rw (sets_end_rest bs p k) (supports_written (set_end bs p) xss (λ j i. each (suc j) (omega arith)) rest k (omega arith))

  -- the place after them
  sets_end_written : (p : ℕ) (xss : List (List ℕ)) → Supports n xss → Stands (flat_map set_bytes xss) p bs → sets_end bs p (length xss) ≡ p + length (flat_map set_bytes xss)
  sets_end_written p [] each st = omega (arith, sets_end_first bs p)
  sets_end_written p (xs ∷ xss) each st =
      let first = each 0 (omega arith) in
      let rest = sets_end_written (set_end bs p) xss (λ j i. each (suc j) (omega arith)) (rest_stands p xs (flat_map set_bytes xss) first st) in
      omega (arith, sets_end_rest bs p (length xss), (first_support p xs (flat_map set_bytes xss) first st).1, length-append (set_bytes xs) (flat_map set_bytes xss))

-- the supports of the row of state s, in their order
abbrev pub row_supports : Game → ℕ → List (List ℕ)
row_supports g s = pairs (g.support s) (below (bit (g.choices One s)) 8) (below (bit (g.choices Two s)) 8)

pub row_parts : (g : Game) (s : ℕ) → row_bytes g s ≡ g.choices One s ∷ g.choices Two s ∷ flat_map set_bytes (row_supports g s)
unfolding row_bytes
row_parts g s = rw (joined_pairs set_bytes (g.support s) (below (bit (g.choices One s)) 8) (below (bit (g.choices Two s)) 8))

pub length_row_supports : (g : Game) (s : ℕ) → length (row_supports g s) ≡ moves_in (g.choices One s) * moves_in (g.choices Two s)
unfolding moves_in
length_row_supports g s = length_pairs (g.support s) (below (bit (g.choices One s)) 8) (below (bit (g.choices Two s)) 8)

module _ (g : Game) (w : WellFormed g) (s : ℕ) where
  -- each support of the row is that of two moves that are chosen
  row_support : Supports g.size (row_supports g s)
  unfolding moves_in
  row_support k h =
      let (a, b, c, d, _, e) = pairs_each (g.support s) (bit (g.choices One s)) (bit (g.choices Two s)) 8 8 [] k (omega (arith, length_row_supports g s)) in
      subst (Support g.size) (sym e) (w.ascends s a b, w.some_next s a b (c, d))

  -- where the support of two moves that are chosen stands
  support_found : (a b : ℕ) → Chosen g s a b → get_or (row_supports g s) (support_index (g.choices One s) (g.choices Two s) a b) [] ≡ g.support s a b
  unfolding support_index moves_in
  support_found a b h =
      pairs_found (g.support s) (bit (g.choices One s)) (bit (g.choices Two s)) 8 8 [] a b
      (bit_in_byte (g.choices One s) a (w.few_moves One s) h.0) (bit_in_byte (g.choices Two s) b (w.few_moves Two s) h.1) h.0 h.1

-- The row of a state s of the game stands at p.
module _ (g : Game) (w : WellFormed g) (s : ℕ) (l : s < g.size) (bs : List ℕ) (p : ℕ) (st : Stands (row_bytes g s) p bs) where
  stands_parts : Stands ((g.choices One s ∷ g.choices Two s ∷ []) ++ flat_map set_bytes (row_supports g s)) p bs
  stands_parts = subst (λ ys. Stands ys p bs) (row_parts g s) st

  pub first_written : at bs p ≡ g.choices One s
  first_written = ap (at bs) (omega arith) ∙ stands_at _ p bs 0 stands_parts (omega arith)

  pub second_written : at bs (p + 1) ≡ g.choices Two s
  second_written = stands_at _ p bs 1 stands_parts (omega arith)

  sets_stand : Stands (flat_map set_bytes (row_supports g s)) (p + 2) bs
  sets_stand = stands_rest (g.choices One s ∷ g.choices Two s ∷ []) (flat_map set_bytes (row_supports g s)) p bs stands_parts

  row_sets_written : row_sets bs p ≡ length (row_supports g s)
  unfolding row_sets
  row_sets_written = rw (first_written, second_written) (sym (length_row_supports g s))

  pub row_end_written : row_end bs p ≡ p + length (row_bytes g s)
  unfolding row_end
  row_end_written =
      ap (sets_end bs (p + 2)) row_sets_written ∙ sets_end_written g.size w.few_states bs (p + 2) (row_supports g s) (row_support g w s) sets_stand
      ∙ omega (arith, ap length (row_parts g s))

  pub good_row_written : GoodRow g.size bs p
  good_row_written = (
    omega (arith, stands_fits _ p bs stands_parts (omega arith)),
    omega (arith, first_written, w.some_move One s l),
    omega (arith, second_written, w.some_move Two s l),
    λ k h. (supports_written g.size w.few_states bs (p + 2) (row_supports g s) (row_support g w s) sets_stand k (omega (arith, row_sets_written))).0,
  )

  pub row_support_written : (a b : ℕ) → Chosen g s a b → set_at bs (sets_end bs (p + 2) (support_index (g.choices One s) (g.choices Two s) a b)) ≡ g.support s a b
  row_support_written a b h =
      let index = index_below (g.choices One s) (g.choices Two s) a b (w.few_moves One s) (w.few_moves Two s) h.0 h.1 in
      (supports_written g.size w.few_states bs (p + 2) (row_supports g s) (row_support g w s) sets_stand _ (omega (arith, index, length_row_supports g s))).1
      ∙ support_found g w s a b h
