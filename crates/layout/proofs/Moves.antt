-- The moves and the supports of the game that a record shows.
use Rattle.std.proofs.Common.{◌≡◌, ℕ, ◌+◌, ◌*◌, ◌<◌, ◌≤◌, Bool, true, ◌&&◌, ◌⊎◌, List, [], ap, ◌∙◌, inl, inr, ⊎_elim, add-zero, arith}
use Rattle.std.proofs.lemmas.Nat.{mul-add-lt}
use Rattle.std.proofs.lemmas.Bool.{cases_Bool, lt-ltb, le-ltb, and_parts}
use Rattle.std.proofs.lemmas.Bool.Decides.{nat_tests}
use Rattle.game.specs.Below.{rank, bit}
use Rattle.game.specs.Games.{Game, Chosen}
use Rattle.game.specs.declared.player.Player.{Player}
use Rattle.game.specs.declared.player.Player.TheVariants.{One, Two}
use Rattle.game.proofs.Below.{rank_lt, bit_some, bit_in_byte}
use Rattle.layout.specs.Reading.{at, set_at, moves_in, row_sets, row_place, states_in, offset, moves_at, support_index, support_place, support_at, shown, GoodSupport, GoodRecord, Bytes}
use Rattle.layout.proofs.Places.{at_small}

-- the number of a support is below the number of the row's supports
pub index_below : (c d a b : ℕ) → c < 256 → d < 256 → bit c a ≡ true → bit d b ≡ true → support_index c d a b < moves_in c * moves_in d
unfolding support_index moves_in
index_below c d a b h l e f =
    omega (arith, mul-add-lt (rank (bit c) a) (rank (bit d) 8) (rank (bit d) b) (rank (bit c) 8) (rank_lt (bit c) a 8 (bit_in_byte c a h e) e) (rank_lt (bit d) b 8 (bit_in_byte d b l f) f))

-- two moves are chosen, or not
pub cases_chosen : (g : Game) (s a b : ℕ) → Chosen g s a b ⊎ (Chosen g s a b → ⊥)
cases_chosen g s a b =
    let x : Bool = bit (g.choices One s) a in
    let y : Bool = bit (g.choices Two s) b in
    ⊎_elim (λ e. inl (and_parts x y e)) (λ e. inr (λ h. grind arith)) (cases_Bool (x && y))

-- the moves at a state, and past the last state
pub moves_at_in : (bs : List ℕ) (p : Player) (s : ℕ) → s < states_in bs → moves_at bs p s ≡ at bs (row_place bs s + offset p)
unfolding moves_at
moves_at_in bs p s h = rw (lt-ltb s (states_in bs) h)

pub moves_at_one : (bs : List ℕ) (s : ℕ) → s < states_in bs → moves_at bs One s ≡ at bs (row_place bs s)
moves_at_one bs s h = moves_at_in bs One s h ∙ ap (at bs) (add-zero (row_place bs s))

pub moves_at_past : (bs : List ℕ) (p : Player) (s : ℕ) → states_in bs ≤ s → moves_at bs p s ≡ 0
unfolding moves_at
moves_at_past bs p s h = rw (le-ltb s (states_in bs) h)

pub moves_at_small : (bs : List ℕ) → Bytes bs → (p : Player) (s : ℕ) → moves_at bs p s < 256
moves_at_small bs small p s =
    grind (arith, moves_at_in bs p s, moves_at_past bs p s, at_small bs small (row_place bs s + offset p))

-- a state at which a player has a move is a state of the game
pub move_state : (bs : List ℕ) (p : Player) (s a : ℕ) → bit (moves_at bs p s) a ≡ true → s < states_in bs
move_state bs p s a e = grind (arith, bit_some (moves_at bs p s) a e, moves_at_past bs p s)

pub row_sets_at : (bs : List ℕ) (s : ℕ) → s < states_in bs → row_sets bs (row_place bs s) ≡ moves_in (moves_at bs One s) * moves_in (moves_at bs Two s)
unfolding row_sets
row_sets_at bs s h = rw (moves_at_one bs s h, moves_at_in bs Two s h)

-- the support of two moves that stand is one of the supports of its row
pub support_below : (bs : List ℕ) → Bytes bs → (s a b : ℕ) → Chosen (shown bs) s a b → support_index (moves_at bs One s) (moves_at bs Two s) a b < row_sets bs (row_place bs s)
support_below bs small s a b e =
    rw (row_sets_at bs s (move_state bs One s a e.0)) (index_below (moves_at bs One s) (moves_at bs Two s) a b (moves_at_small bs small One s) (moves_at_small bs small Two s) e.0 e.1)

pub support_good : (bs : List ℕ) → Bytes bs → GoodRecord bs → (s a b : ℕ) → Chosen (shown bs) s a b → GoodSupport (states_in bs) bs (support_place bs s a b)
unfolding support_place
support_good bs small good s a b e = (good.2 s (move_state bs One s a e.0)).3 _ (support_below bs small s a b e)

-- the support of two moves that stand, and of two others
pub support_at_chosen : (bs : List ℕ) (s a b : ℕ) → Chosen (shown bs) s a b → support_at bs s a b ≡ set_at bs (support_place bs s a b)
unfolding support_at
support_at_chosen bs s a b e = rw (e.0, e.1)

pub support_at_other : (bs : List ℕ) (s a b : ℕ) → (Chosen (shown bs) s a b → ⊥) → support_at bs s a b ≡ []
unfolding support_at
support_at_other bs s a b n =
    grind (arith, nat_tests)
