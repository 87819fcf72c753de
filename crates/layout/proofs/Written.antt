-- The bytes of a record are good, and they show the game that was written.
use Rattle.std.proofs.Common.{◌≡◌, ℕ, zero, suc, ◌+◌, ◌-◌, ◌<◌, ◌≤◌, true, List, [], ◌∷◌, ◌++◌, length, sym, refl, ap, ◌∙◌, subst, add-one, arith, ⊎_elim}
use Rattle.std.specs.List.{flat_map}
use Rattle.game.specs.Below.{below}
use Rattle.game.specs.Games.{Game, WellFormed, Chosen, Same}
use Rattle.game.specs.declared.player.Player.{Player}
use Rattle.game.specs.declared.player.Player.TheVariants.{One, Two}
use Rattle.game.proofs.Below.{bit_some}
use Rattle.layout.specs.Writing.{row_bytes, record_of, Records}
use Rattle.layout.specs.Reading.{at, row_end, row_place, states_in, offset, moves_at, set_at, support_at, support_place, shown, GoodRow, GoodRecord}
use Rattle.layout.proofs.Joined.{joined_none, joined_yes, joined_front, length_joined_yes}
use Rattle.layout.proofs.Moves.{cases_chosen, moves_at_in, moves_at_past, support_at_chosen, support_at_other}
use Rattle.layout.proofs.Places.{row_place_first, row_place_more}
use Rattle.layout.proofs.RowWritten.{first_written, second_written, row_end_written, good_row_written, row_support_written}
use Rattle.layout.proofs.Stands.{Stands, stands_front, stands_rest, stands_behind}

-- the rows of the first s states
abbrev rows : Game → ℕ → List ℕ
rows g s = flat_map (row_bytes g) (below (λ _. true) s)

module _ (g : Game) (w : WellFormed g) (bs : List ℕ) (e : record_of g ≡ bs) where
  record_parts : ((g.size - 1) ∷ []) ++ rows g g.size ≡ bs
  unfolding record_of
  record_parts = e

  states_written : states_in bs ≡ g.size
  states_written = omega (arith, ap (λ ys. at ys 0) record_parts, w.some_state)

  row_stands : (s : ℕ) → s < g.size → Stands (row_bytes g s) (1 + length (rows g s)) bs
  row_stands s l =
      let (ys, front) = joined_front (row_bytes g) (λ _. true) (s + 1) g.size (omega arith) in
      let all : Stands (rows g g.size) 1 bs = subst (Stands (rows g g.size) 1) record_parts (stands_behind ((g.size - 1) ∷ []) (rows g g.size)) in
      let some : Stands (rows g (s + 1)) 1 bs = stands_front (rows g (s + 1)) ys 1 bs (subst (λ zs. Stands zs 1 bs) front all) in
      stands_rest (rows g s) (row_bytes g s) 1 bs (subst (λ zs. Stands zs 1 bs) (joined_yes (row_bytes g) (λ _. true) s refl) some)

  row_place_written : (s : ℕ) → s ≤ g.size → row_place bs s ≡ 1 + length (rows g s)
  row_place_written zero l = omega (arith, row_place_first bs, ap length (joined_none (row_bytes g) (λ _. true)))
  row_place_written (suc s) l =
      rw (← (add-one s)) (
      row_place_more bs s ∙ ap (row_end bs) (row_place_written s (omega arith)) ∙ row_end_written g w s l bs (1 + length (rows g s)) (row_stands s l)
      ∙ omega (arith, length_joined_yes (row_bytes g) (λ _. true) s refl))

  -- the row of state s stands at its place
  stands_at_place : (s : ℕ) → s < g.size → Stands (row_bytes g s) (row_place bs s) bs
  stands_at_place s l = subst (λ p. Stands (row_bytes g s) p bs) (sym (row_place_written s (omega arith))) (row_stands s l)

  good_written : length bs ≤ 60000 → GoodRecord bs
  good_written short = (
    short,
    omega (arith, ap length record_parts),
    λ s l. subst (λ n. GoodRow n bs (row_place bs s)) (sym states_written) (good_row_written g w s (omega (arith, states_written)) bs (row_place bs s) (stands_at_place s (omega (arith, states_written)))),
    ap (row_place bs) states_written ∙ row_place_written g.size (omega arith) ∙ omega (arith, ap length record_parts),
  )

  choices_written : (p : Player) (s : ℕ) → s < g.size → at bs (row_place bs s + offset p) ≡ g.choices p s
  choices_written One s l = ap (at bs) (omega arith) ∙ first_written g w s l bs (row_place bs s) (stands_at_place s l)
  choices_written Two s l = second_written g w s l bs (row_place bs s) (stands_at_place s l)

  moves_written : (p : Player) (s : ℕ) → moves_at bs p s ≡ g.choices p s
  moves_written p s = grind (arith, states_written, moves_at_in bs p s, choices_written p s, moves_at_past bs p s, w.no_move p s)

  -- moves are chosen only at a state
  chosen_state : (s a b : ℕ) → Chosen g s a b → s < g.size
  chosen_state s a b h = grind (arith, bit_some (g.choices One s) a, w.no_move One s)

  chosen_written : (s a b : ℕ) → Chosen g s a b → set_at bs (support_place bs s a b) ≡ g.support s a b
  unfolding support_place
  chosen_written s a b h =
      let l = chosen_state s a b h in
      rw (moves_written One s, moves_written Two s) (row_support_written g w s l bs (row_place bs s) (stands_at_place s l) a b h)

  support_written : (s a b : ℕ) → support_at bs s a b ≡ g.support s a b
  support_written s a b =
      ⊎_elim
      (λ h. support_at_chosen bs s a b (rw (moves_written One s, moves_written Two s) h) ∙ chosen_written s a b h)
      (λ n. support_at_other bs s a b (λ h. n (rw (moves_written One s, moves_written Two s) at h)) ∙ sym (w.no_next s a b n))
      (cases_chosen g s a b)

  same_written : Same g (shown bs)
  same_written = record { size = sym states_written; choices = λ p s. sym (moves_written p s); support = λ s a b. sym (support_written s a b) }

pub record_good : (bs : List ℕ) (g : Game) → Records bs g → GoodRecord bs × Same g (shown bs)
record_good bs g r = (good_written g r.game bs r.bytes r.short, same_written g r.game bs r.bytes)
