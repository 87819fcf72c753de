-- That a record is ready to answer is a fact that holds in one way, so that a table can carry it.
use Rattle.std.proofs.Common.{◌≡◌, ℕ, ◌+◌, ◌<◌, ◌≤◌, true, List, length, get_or, sym, ap, ◌∙◌, subst, arith}
use mathlib.Core.Logic.{∥∥₁_elim}
use Rattle.game.specs.Below.{bit}
use Rattle.game.specs.declared.player.Player.{Player}
use Rattle.game.specs.declared.player.Player.TheVariants.{One, Two}
use Rattle.std.proofs.Props.{props}
use Rattle.layout.specs.Placed.{Ready}
use Rattle.layout.specs.Reading.{set_end, sets_end, row_sets, row_place, states_in, offset, moves_at, support_index, support_place}
use Rattle.layout.proofs.Moves.{moves_at_in, moves_at_past, move_state, support_below, support_good}
use Rattle.layout.proofs.SetShown.{set_shows}

ready_prop : (bs rows firsts supports : List ℕ) → IsProp (Ready bs rows firsts supports)
ready_prop bs rows firsts supports = hlevel props

pub ready_known : (bs rows firsts supports : List ℕ) → ∥ Ready bs rows firsts supports ∥₁ → Ready bs rows firsts supports
ready_known bs rows firsts supports t = ∥∥₁_elim t (ready_prop bs rows firsts supports) (λ r. r)

-- What a ready record says of the state s: where its row stands, and what its move sets are.
module _ (bs rows firsts supports : List ℕ) (ready : ∥ Ready bs rows firsts supports ∥₁) where
  known : Ready bs rows firsts supports
  known = ready_known bs rows firsts supports ready

  pub some_byte : 1 ≤ length bs
  some_byte = known.1.1

  pub states_few : states_in bs ≤ 256
  states_few = omega (arith, known.0 0 some_byte)

  pub row_noted : (s : ℕ) → s < states_in bs → get_or rows s 0 ≡ row_place bs s
  row_noted s l = (known.2 s l).0

  pub row_inside : (s : ℕ) → s < states_in bs → get_or rows s 0 + 2 ≤ length bs
  row_inside s l = subst (λ p. p + 2 ≤ length bs) (sym (row_noted s l)) (known.1.2 s l).0

  pub moves_noted : (p : Player) (s : ℕ) → s < states_in bs → get_or bs (get_or rows s 0 + offset p) 0 ≡ moves_at bs p s
  moves_noted p s l = ap (λ q. get_or bs (q + offset p) 0) (row_noted s l) ∙ sym (moves_at_in bs p s l)

  pub moves_outside : (p : Player) (s : ℕ) → states_in bs ≤ s → moves_at bs p s ≡ 0
  moves_outside p s l = moves_at_past bs p s l

  -- a state at which a player has a move is a state of the game
  pub moves_inside : (p : Player) (s i : ℕ) → bit (moves_at bs p s) i ≡ true → s < states_in bs
  moves_inside p s i e = move_state bs p s i e

  -- The support of two moves that the players have is noted under its number, and is a set inside the record.
  module _ (s a b k : ℕ) (e : bit (moves_at bs One s) a ≡ true) (f : bit (moves_at bs Two s) b ≡ true) (here : k ≡ support_index (moves_at bs One s) (moves_at bs Two s) a b) where
    inside : s < states_in bs
    inside = moves_inside One s a e

    few : k < row_sets bs (row_place bs s)
    few = subst (λ i. i < row_sets bs (row_place bs s)) (sym here) (support_below bs known.0 s a b (e, f))

    pub support_room : get_or firsts s 0 + k < 12000
    support_room = omega (arith, (known.2 s inside).1, few)

    pub support_noted : get_or supports (get_or firsts s 0 + k) 0 ≡ support_place bs s a b
    unfolding support_place
    support_noted = (known.2 s inside).2 k few ∙ ap (sets_end bs (row_place bs s + 2)) here

    pub support_ends : set_end bs (support_place bs s a b) ≤ length bs
    support_ends = (set_shows (states_in bs) bs (support_place bs s a b) known.0 (support_good bs known.0 known.1 s a b (e, f)).0).0
