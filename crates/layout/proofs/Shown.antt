-- A record with nothing wrong is the record of the game that it shows.
use Rattle.std.proofs.Common.{◌≡◌, ℕ, suc, ◌+◌, ◌-◌, ◌<◌, ◌≤◌, true, List, [], ◌∷◌, ◌++◌, length, get_or, sym, refl, ap, ◌∙◌, ap₂, ⊎_elim, le_refl, suc-add, arith}
use Rattle.std.specs.List.{between, flat_map}
use Rattle.std.proofs.lemmas.List.Edits.{between_none}
use Rattle.std.proofs.lemmas.Slice.{first_rest}
use Rattle.game.specs.Below.{below, bit}
use Rattle.game.specs.Games.{Ascends, Chosen, WellFormed}
use Rattle.game.specs.declared.player.Player.{Player}
use Rattle.game.specs.declared.player.Player.TheVariants.{One, Two}
use Rattle.game.proofs.Below.{get_or_below_all, rank_all}
use Rattle.layout.specs.Writing.{set_bytes, row_bytes, record_of, Records}
use Rattle.layout.specs.Reading.{at, set_at, sets_end, moves_in, row_sets, row_end, row_place, states_in, moves_at, support_index, support_place, support_at, shown, GoodRecord, Bytes}
use Rattle.layout.proofs.Joined.{pairs_each}
use Rattle.layout.proofs.Moves.{cases_chosen, moves_at_in, moves_at_one, moves_at_past, moves_at_small, row_sets_at, support_good, support_at_chosen, support_at_other}
use Rattle.layout.proofs.Places.{set_end_le, sets_end_first, sets_end_more, row_end_le, row_place_first, row_place_more}
use Rattle.layout.proofs.RowWritten.{row_supports, row_parts, length_row_supports}
use Rattle.layout.proofs.SetShown.{between_two, between_join, set_shows, support_some}

-- xs are what stands from end k to end l
abbrev Spans : List ℕ → (ℕ → ℕ) → ℕ → ℕ → List ℕ → Type 0
Spans bs e k l xs = (e k ≤ e l) × (xs ≡ between (e k) (e l) bs)

-- what spans one end each spans as many as there are, joined
joined_spans : {X : Type 0} (bs : List ℕ) (e : ℕ → ℕ) (f : X → List ℕ) (d : X) (xs : List X) → ((k : ℕ) → k < length xs → Spans bs e k (k + 1) (f (get_or xs k d))) → Spans bs e 0 (length xs) (flat_map f xs)
joined_spans bs e f d [] h = (le_refl (e 0), sym (between_none bs (e 0)))
joined_spans bs e f d (x ∷ xs) h =
    let first = h 0 (omega arith) in
    let rest = joined_spans bs (λ k. e (suc k)) f d xs (λ k l. rw (suc-add k 1) at (h (suc k) (omega arith))) in
    (omega arith, ap₂ ◌++◌ first.1 rest.1 ∙ between_join bs (e 0) (e 1) (e (suc (length xs))) first.0 rest.0)

-- a record with nothing wrong, and one of its rows
module _ (bs : List ℕ) (small : Bytes bs) (good : GoodRecord bs) (s : ℕ) (h : s < states_in bs) where
  row_support_is : (k : ℕ) → k < row_sets bs (row_place bs s) → get_or (row_supports (shown bs) s) k [] ≡ set_at bs (sets_end bs (row_place bs s + 2) k)
  unfolding support_place support_index moves_in
  row_support_is k l =
      let (a, b, c, d, place, is) = pairs_each (support_at bs s) (bit (moves_at bs One s)) (bit (moves_at bs Two s)) 8 8 [] k (rw (← (row_sets_at bs s h)) l) in
      is ∙ support_at_chosen bs s a b (c, d) ∙ ap (λ i. set_at bs (sets_end bs (row_place bs s + 2) i)) place

  support_spans : (k : ℕ) → k < row_sets bs (row_place bs s) → Spans bs (sets_end bs (row_place bs s + 2)) k (k + 1) (set_bytes (get_or (row_supports (shown bs) s) k []))
  support_spans k l =
      let p : ℕ = sets_end bs (row_place bs s + 2) k in
      rw (row_support_is k l, sets_end_more bs (row_place bs s + 2) k) (
        omega (arith, set_end_le bs p),
        sym (set_shows (states_in bs) bs p small ((good.2 s h).3 k l).0).1,
      )

  supports_span : Spans bs (sets_end bs (row_place bs s + 2)) 0 (row_sets bs (row_place bs s)) (flat_map set_bytes (row_supports (shown bs) s))
  supports_span =
      let size : length (row_supports (shown bs) s) ≡ row_sets bs (row_place bs s) = length_row_supports (shown bs) s ∙ sym (row_sets_at bs s h) in
      rw size at (joined_spans bs (sets_end bs (row_place bs s + 2)) set_bytes [] (row_supports (shown bs) s) (λ k l. support_spans k (omega arith)))

  row_shown : Spans bs (row_place bs) s (s + 1) (row_bytes (shown bs) s)
  unfolding row_end
  row_shown =
      let p : ℕ = row_place bs s in
      let rest = rw (sets_end_first bs (p + 2)) at supports_span in
      rw (row_place_more bs s) (
        omega (arith, row_end_le bs p),
        row_parts (shown bs) s
            ∙ ap₂ (λ c d. c ∷ d ∷ flat_map set_bytes (row_supports (shown bs) s)) (moves_at_one bs s h) (moves_at_in bs Two s h)
            ∙ ap (λ xs. at bs p ∷ at bs (p + 1) ∷ xs) rest.1
            ∙ sym (between_two bs p (p + 1) (p + 2) (row_end bs p) refl (omega arith) rest.0 (good.2 s h).0),
      )

rows_shown : (bs : List ℕ) → Bytes bs → GoodRecord bs → flat_map (row_bytes (shown bs)) (below (λ _. true) (states_in bs)) ≡ between 1 (length bs) bs
rows_shown bs small good =
    let n : ℕ = states_in bs in
    let all = rank_all n in
    let spans = joined_spans bs (row_place bs) (row_bytes (shown bs)) 0 (below (λ _. true) n) (λ s h. rw (get_or_below_all n s 0 (omega arith)) (row_shown bs small good s (omega arith))) in
    rw (row_place_first bs, all, good.3) at spans.1

shown_bytes : (bs : List ℕ) → Bytes bs → GoodRecord bs → record_of (shown bs) ≡ bs
unfolding record_of
shown_bytes bs small good =
    let first : states_in bs - 1 ≡ at bs 0 = omega arith in
    ap₂ ◌∷◌ first (rows_shown bs small good) ∙ sym (first_rest bs 0 good.1)

some_move_at : (bs : List ℕ) → GoodRecord bs → (p : Player) (s : ℕ) → s < states_in bs → 1 ≤ moves_at bs p s
some_move_at bs good One s h = rw (moves_at_one bs s h) (good.2 s h).1
some_move_at bs good Two s h = rw (moves_at_in bs Two s h) (good.2 s h).2

support_ascends : (bs : List ℕ) → Bytes bs → GoodRecord bs → (s a b : ℕ) → Ascends 0 (states_in bs) (support_at bs s a b)
support_ascends bs small good s a b =
    ⊎_elim
    (λ e. rw (support_at_chosen bs s a b e) (set_shows (states_in bs) bs (support_place bs s a b) small (support_good bs small good s a b e).0).2)
    (λ n. rw (support_at_other bs s a b n) tt)
    (cases_chosen (shown bs) s a b)

support_next : (bs : List ℕ) → Bytes bs → GoodRecord bs → (s a b : ℕ) → Chosen (shown bs) s a b → 1 ≤ length (support_at bs s a b)
support_next bs small good s a b e =
    rw (support_at_chosen bs s a b e) (support_some (states_in bs) bs (support_place bs s a b) small (support_good bs small good s a b e))

shown_game : (bs : List ℕ) → Bytes bs → GoodRecord bs → WellFormed (shown bs)
shown_game bs small good = record {
  some_state = omega arith;
  few_states = omega (arith, small 0 good.1);
  some_move = some_move_at bs good;
  few_moves = moves_at_small bs small;
  no_move = moves_at_past bs;
  some_next = support_next bs small good;
  ascends = support_ascends bs small good;
  no_next = support_at_other bs;
}

pub good_shows : (bs : List ℕ) → Bytes bs → GoodRecord bs → Records bs (shown bs)
good_shows bs small good = record { game = shown_game bs small good; bytes = shown_bytes bs small good; short = good.0 }
