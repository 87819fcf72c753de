-- What a table has noted: where the row of a state stands, and where the support of two moves.
use Rattle.std.proofs.Common.{◌≡◌, ℕ, ◌+◌, ◌<◌, ◌≤◌, true, false, ◌&&◌, List, [], map, length, get_or, sym, ap, ◌∙◌, subst, add-zero, arith}
use Rattle.std.proofs.lemmas.Bool.{cond-false}
use Rattle.std.proofs.Math.ListN.{get_or-map}
use Rattle.game.specs.Below.{bit}
use Rattle.game.specs.declared.player.Player.TheVariants.{One, Two}
use Rattle.layout.specs.Placed.{Ready}
use Rattle.layout.specs.Reading.{states_in, moves_at, support_index, support_place, support_at, set_at, set_end}
use Rattle.layout.proofs.Moves.{support_at_chosen}
use Rattle.layout.proofs.Ready.{states_few, row_inside, moves_noted, moves_inside, support_room, support_noted, support_ends}
use Rattle.records.specs.declared.places.Row.{Row}

-- the support of two moves of which the players lack one
pub none_at : (bs : List ℕ) (s a b : ℕ) → (bit (moves_at bs One s) a && bit (moves_at bs Two s) b) ≡ false → support_at bs s a b ≡ []
unfolding support_at
none_at bs s a b n = cond-false _ _ _ n

module _ (bs : List ℕ) (rows : List Row) (supports : List ℕ) (ready : ∥ Ready bs (map (λ r. r.place) rows) (map (λ r. r.first) rows) supports ∥₁) where
  abbrev row : ℕ → Row
  row s = get_or rows s (record { place = 0; first = 0 })

  place_is : (s : ℕ) → get_or (map (λ (r : Row). r.place) rows) s 0 ≡ (row s).place
  place_is s = get_or-map (λ (r : Row). r.place) rows s (record { place = 0; first = 0 })

  first_is : (s : ℕ) → get_or (map (λ (r : Row). r.first) rows) s 0 ≡ (row s).first
  first_is s = get_or-map (λ (r : Row). r.first) rows s (record { place = 0; first = 0 })

  pub row_noted : (s : ℕ) → s < states_in bs → ((row s).place + 2 ≤ length bs) × (get_or bs (row s).place 0 ≡ moves_at bs One s) × (get_or bs ((row s).place + 1) 0 ≡ moves_at bs Two s)
  row_noted s l =
      subst (λ p. (p + 2 ≤ length bs) × (get_or bs p 0 ≡ moves_at bs One s) × (get_or bs (p + 1) 0 ≡ moves_at bs Two s)) (place_is s) (
        row_inside _ _ _ _ ready s l,
        ap (λ p. get_or bs p 0) (sym (add-zero _)) ∙ moves_noted _ _ _ _ ready One s l,
        moves_noted _ _ _ _ ready Two s l,
      )

  -- the support of two moves that the players have
  module _ (s a b k : ℕ) (h : (bit (moves_at bs One s) a ≡ true) × (bit (moves_at bs Two s) b ≡ true) × (k ≡ support_index (moves_at bs One s) (moves_at bs Two s) a b)) where
    pub state : s < 256
    state = omega (arith, moves_inside _ _ _ _ ready One s a h.0, states_few _ _ _ _ ready)

    pub room : (row s).first + k < 12000
    room = subst (λ i. i + k < 12000) (first_is s) (support_room _ _ _ _ ready s a b k h.0 h.1 h.2)

    noted : get_or supports ((row s).first + k) 0 ≡ support_place bs s a b
    noted = subst (λ i. get_or supports (i + k) 0 ≡ support_place bs s a b) (first_is s) (support_noted _ _ _ _ ready s a b k h.0 h.1 h.2)

    pub ends : set_end bs (get_or supports ((row s).first + k) 0) ≤ length bs
    ends = subst (λ p. set_end bs p ≤ length bs) (sym noted) (support_ends _ _ _ _ ready s a b k h.0 h.1 h.2)

    pub shows : support_at bs s a b ≡ set_at bs (get_or supports ((row s).first + k) 0)
    shows = support_at_chosen bs s a b (h.0, h.1) ∙ ap (set_at bs) (sym noted)
