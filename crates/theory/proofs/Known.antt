-- The known games, by computation.
use Rattle.std.proofs.Common.{◌≡◌, ℕ, ◌<◌, ◌≤◌, Bool, true, false, cond, not, ◌&&◌, ◌||◌, eqb, ltb, List, [], ◌∷◌, length, get_or, Some, None, refl, ⊎_elim, arith}
use Rattle.std.proofs.lemmas.List.{get_or_past}
use Rattle.std.proofs.lemmas.Bool.{cases_lt, ltb-true, eqb-true, and_parts, and_from}
use Rattle.std.proofs.lemmas.Bool.Decides.{nat_tests}
use Rattle.game.specs.Below.{below, bit, elem, weigh}
use Rattle.game.specs.Games.{Game, WellFormed}
use Rattle.game.specs.declared.player.Player.{Player}
use Rattle.game.specs.declared.player.Player.TheVariants.{One, Two}
use Rattle.game.proofs.Below.{below_none, ascends_below, bit_zero, bit_in_byte}
use Rattle.theory.specs.Positions.{Playable}
use Rattle.theory.specs.Verdicts.{Reply}
use Rattle.theory.specs.Computed.{every, some, inside, first, next_list, upto_list, leads_into, forces, sure_rank, sure_set, touches, levels, outer_list, rounds, almost_list, level_rank, level_set, told, replies}
use Rattle.theory.specs.Known.{game_of, all_kept, hide_next, hide, hide_game, hide_barred, hide_nowhere, hide_anywhere, barred_sets, pennies, chance, Supports, Alone, InSure, InAlmost, InBoth, Known}
use Rattle.theory.proofs.Finite.{move_lt, leads_state}
use Rattle.theory.proofs.Computed.{below_lists, every_holds, replies_hold}

-- a test of each number below n
each : (ℕ → Bool) → ℕ → Bool
each p n = every p (below (λ _. true) n)

each_holds : (p : ℕ → Bool) (n : ℕ) → each p n ≡ true → (s : ℕ) → s < n → p s ≡ true
unfolding each
each_holds p n e s l = (every_holds p (below (λ _. true) n)).0 e s ((below_lists (λ _. true) n s).1 (l, refl))

-- the set of moves at a state is a nonempty byte, and all of them lead somewhere
sound_at : Game → ℕ → ℕ → Bool
sound_at g c s = ltb 0 c && (ltb c 256 && each (λ a. each (λ b. not (bit c a && bit c b) || ltb 0 (length (g.support s a b))) 8) 8)

-- the kept moves at a state are a nonempty byte inside the moves
kept_at : ℕ → ℕ → Bool
kept_at c k = ltb 0 k && (ltb k 256 && each (λ m. not (bit k m) || bit c m) 8)

then_true : (x y : Bool) → (not x || y) ≡ true → x ≡ true → y ≡ true
then_true x y e h = grind arith

-- a nonempty byte that passes a test
byte_parts : (c : ℕ) (b : Bool) → (ltb 0 c && (ltb c 256 && b)) ≡ true → (0 < c) × (c < 256) × (b ≡ true)
byte_parts c b e = (grind (arith, nat_tests), grind (arith, nat_tests), grind (arith, nat_tests))

module _ (sets : List ℕ) (leads : ℕ → ℕ → ℕ → ℕ → Bool) (some_state : 1 ≤ length sets) (few_states : length sets ≤ 256)
    (sound : each (λ s. sound_at (game_of sets leads) (get_or sets s 0) s) (length sets) ≡ true) where
  at_state : (s : ℕ) → s < length sets → (0 < get_or sets s 0) × (get_or sets s 0 < 256) × ((a b : ℕ) → bit (get_or sets s 0) a ≡ true → bit (get_or sets s 0) b ≡ true → 0 < length ((game_of sets leads).support s a b))
  unfolding sound_at
  at_state s l =
      let c : ℕ = get_or sets s 0 in
      let next : ℕ → ℕ → Bool = λ a b. ltb 0 (length ((game_of sets leads).support s a b)) in
      let inner : ℕ → Bool = λ a. each (λ b. not (bit c a && bit c b) || next a b) 8 in
      let (some, small, all) = byte_parts c (each inner 8) (each_holds (λ s. sound_at (game_of sets leads) (get_or sets s 0) s) (length sets) sound s l) in (
        some,
        small,
        λ a b i j.
            let at_a = each_holds inner 8 all a (bit_in_byte c a small i) in
            let at_b = each_holds (λ b. not (bit c a && bit c b) || next a b) 8 at_a b (bit_in_byte c b small j) in
            ltb-true 0 (length ((game_of sets leads).support s a b)) (then_true (bit c a && bit c b) (next a b) at_b (and_from (bit c a) (bit c b) i j)),
      )

  bit_state : (s m : ℕ) → bit (get_or sets s 0) m ≡ true → s < length sets
  bit_state s m e = grind (arith, get_or_past sets s 0, bit_zero m)

  well_formed : WellFormed (game_of sets leads)
  well_formed = record {
    some_state = some_state;
    few_states = few_states;
    some_move = λ _ s l. (at_state s l).0;
    few_moves = λ _ s. ⊎_elim (λ l. (at_state s l).1) (λ l. omega (arith, get_or_past sets s 0 l)) (cases_lt s (length sets));
    no_move = λ _ s l. get_or_past sets s 0 l;
    some_next = λ s a b (e, f). (at_state s (bit_state s a e)).2 a b e f;
    ascends = λ s a b. ascends_below (λ t. bit (get_or sets s 0) a && (bit (get_or sets s 0) b && leads s a b t)) (length sets);
    no_next = λ s a b off.
        let c : ℕ = get_or sets s 0 in
        let none : bit c a ≡ true → bit c b ≡ true → ⊥ = λ e f. off (e, f) in
        below_none (λ t. bit c a && (bit c b && leads s a b t)) (length sets) (λ t _. grind arith);
  }

  module _ (ks : Player → List ℕ) (target : ℕ → Bool) (same : (p : Player) → length (ks p) ≡ length sets)
      (keeps : (p : Player) → each (λ s. kept_at (get_or sets s 0) (get_or (ks p) s 0)) (length sets) ≡ true) where
    kept_state : (p : Player) (s : ℕ) → s < length sets → (0 < get_or (ks p) s 0) × (get_or (ks p) s 0 < 256) × ((m : ℕ) → bit (get_or (ks p) s 0) m ≡ true → bit (get_or sets s 0) m ≡ true)
    unfolding kept_at
    kept_state p s l =
        let c : ℕ = get_or sets s 0 in
        let k : ℕ = get_or (ks p) s 0 in
        let inner : ℕ → Bool = λ m. not (bit k m) || bit c m in
        let (some, small, all) = byte_parts k (each inner 8) (each_holds (λ s. kept_at (get_or sets s 0) (get_or (ks p) s 0)) (length sets) (keeps p) s l) in
        (some, small, λ m i. then_true (bit k m) (bit c m) (each_holds inner 8 all m (bit_in_byte k m small i)) i)

    playable : Playable (record { game = game_of sets leads; kept = λ p s. get_or (ks p) s 0; target = target })
    playable = record {
      valid = well_formed;
      kept_had = λ p s m e.
          ⊎_elim
          (λ l. (kept_state p s l).2 m e)
          (λ l. absurd (grind (arith, get_or_past (ks p) s 0, same p, bit_zero m)))
          (cases_lt s (length sets));
      some_kept = λ p s l. (kept_state p s l).0;
      few_kept = λ p s. ⊎_elim (λ l. (kept_state p s l).1) (λ l. omega (arith, get_or_past (ks p) s 0 (omega (arith, same p)))) (cases_lt s (length sets));
    }

hide_supports : Supports hide_game 0 (0 ∷ []) (1 ∷ []) (3 ∷ []) (2 ∷ []) × Alone hide_game 1 (3 ∷ []) × Alone hide_game 2 (2 ∷ []) × Alone hide_game 3 (3 ∷ [])
unfolding below
hide_supports = ((refl, refl, refl, refl), (refl, refl, refl), (refl, refl, refl), (refl, refl, refl))

pennies_supports : Supports pennies.game 0 (1 ∷ []) (0 ∷ []) (0 ∷ []) (1 ∷ []) × Alone pennies.game 1 (1 ∷ [])
unfolding below
pennies_supports = ((refl, refl, refl, refl), (refl, refl, refl))

chance_supports : Alone chance.game 0 (0 ∷ 1 ∷ []) × Alone chance.game 1 (1 ∷ [])
unfolding below elem
chance_supports = ((refl, refl, refl), (refl, refl, refl))

tolds : (told hide ≡ (2, 2, 2)) × (told hide_barred ≡ (3, 3, 1)) × (told hide_nowhere ≡ (0, 0, 1)) × (told hide_anywhere ≡ (4, 4, 0)) × (told pennies ≡ (1, 2, 0)) × (told chance ≡ (1, 2, 0))
unfolding below elem every some inside first next_list upto_list leads_into forces touches levels outer_list rounds almost_list
tolds = (refl, refl, refl, refl, refl, refl)

hide_states : InBoth hide 0 None 0 × InBoth hide 1 (Some 1) 1 × InBoth hide 2 None 0 × InBoth hide 3 (Some 0) 0
unfolding below elem weigh every some inside first next_list upto_list leads_into forces sure_rank sure_set touches levels outer_list rounds almost_list level_rank level_set
hide_states = (((refl, refl), (refl, refl)), ((refl, refl), (refl, refl)), ((refl, refl), (refl, refl)), ((refl, refl), (refl, refl)))

barred_first : InSure hide_barred 0 (Some 1) 2 × InAlmost hide_barred 0 (Some 1) 3
unfolding below elem weigh every some inside first next_list upto_list leads_into forces sure_rank sure_set touches levels outer_list rounds almost_list level_rank level_set
barred_first = ((refl, refl), (refl, refl))

pennies_states : InSure pennies 0 None 0 × InAlmost pennies 0 (Some 1) 3 × InBoth pennies 1 (Some 0) 0
unfolding below elem weigh every some inside first next_list upto_list leads_into forces sure_rank sure_set touches levels outer_list rounds almost_list level_rank level_set
pennies_states = ((refl, refl), (refl, refl), ((refl, refl), (refl, refl)))

chance_first : InSure chance 0 None 0 × InAlmost chance 0 (Some 1) 1
unfolding below elem weigh every some inside first next_list upto_list leads_into forces sure_rank sure_set touches levels outer_list rounds almost_list level_rank level_set
chance_first = ((refl, refl), (refl, refl))

-- the positions are playable
hide_like : (ks : Player → List ℕ) (target : ℕ → Bool) → ((p : Player) → length (ks p) ≡ 4) → ((p : Player) → each (λ s. kept_at (get_or (3 ∷ 1 ∷ 1 ∷ 1 ∷ []) s 0) (get_or (ks p) s 0)) 4 ≡ true) → Playable (record { game = hide_game; kept = λ p s. get_or (ks p) s 0; target = target })
unfolding each sound_at every below elem
hide_like ks target = playable (3 ∷ 1 ∷ 1 ∷ 1 ∷ []) (λ s a b t. eqb t (hide_next s a b)) (omega arith) (omega arith) refl ks target

hide_playable : (target : ℕ → Bool) → Playable (all_kept hide_game target)
unfolding each kept_at every below
hide_playable target = hide_like (λ _. 3 ∷ 1 ∷ 1 ∷ 1 ∷ []) target (λ _. refl) (λ _. refl)

barred_same : (p : Player) → length (barred_sets p) ≡ 4
barred_same One = refl
barred_same Two = refl

barred_keeps : (p : Player) → each (λ s. kept_at (get_or (3 ∷ 1 ∷ 1 ∷ 1 ∷ []) s 0) (get_or (barred_sets p) s 0)) 4 ≡ true
unfolding each kept_at every below
barred_keeps One = refl
barred_keeps Two = refl

pennies_playable : Playable pennies
unfolding each sound_at kept_at every below
pennies_playable = playable (3 ∷ 1 ∷ []) (λ s a b t. eqb t (cond (eqb s 0) (cond (eqb a b) 1 0) 1)) (omega arith) (omega arith) refl (λ _. 3 ∷ 1 ∷ []) (λ s. eqb s 1) (λ _. refl) (λ _. refl)

chance_playable : Playable chance
unfolding each sound_at kept_at every below elem
chance_playable = playable (1 ∷ 1 ∷ []) (λ s a b t. elem t (cond (eqb s 0) (0 ∷ 1 ∷ []) (1 ∷ []))) (omega arith) (omega arith) refl (λ _. 1 ∷ 1 ∷ []) (λ s. eqb s 1) (λ _. refl) (λ _. refl)

-- the reply to move 1 at 0
hide_reply : Reply hide 0 1 1 2
unfolding below elem every some next_list upto_list leads_into forces
hide_reply = (replies_hold (hide_playable (λ s. eqb s 3)) 0 1 1 2).0 refl

replies_at : ℕ → ℕ → Bool
replies_at b t = not (replies hide 0 1 b t) || (eqb b 1 && eqb t 2)

replies_all : each (λ b. each (λ t. replies_at b t) 4) 8 ≡ true
unfolding replies_at each below elem every some next_list upto_list leads_into forces
replies_all = refl

hide_one_reply : (b t : ℕ) → Reply hide 0 1 b t → (b ≡ 1) × (t ≡ 2)
unfolding replies_at
hide_one_reply b t h =
    let ok = hide_playable (λ s. eqb s 3) in
    let at_b = each_holds (λ b. each (λ t. replies_at b t) 4) 8 replies_all b (move_lt ok Two 0 b h.0) in
    let at_t = each_holds (λ t. replies_at b t) 4 at_b t (leads_state ok 0 1 b t h.1) in
    let (e, f) = and_parts (eqb b 1) (eqb t 2) (then_true (replies hide 0 1 b t) (eqb b 1 && eqb t 2) at_t ((replies_hold ok 0 1 b t).1 h)) in
    (eqb-true b 1 e, eqb-true t 2 f)

pub known : Known
known = record {
  playable = (
    hide_playable (λ s. eqb s 3),
    hide_like barred_sets (λ s. eqb s 3) barred_same barred_keeps,
    hide_playable (λ _. false),
    hide_playable (λ _. true),
    pennies_playable,
    chance_playable,
  );
  hide_supports = hide_supports;
  pennies_supports = pennies_supports;
  chance_supports = chance_supports;
  hide_told = tolds.0;
  hide_states = hide_states;
  barred_told = tolds.1;
  barred_first = barred_first;
  nowhere_told = tolds.2;
  anywhere_told = tolds.3;
  pennies_told = tolds.4;
  pennies_states = pennies_states;
  chance_told = tolds.5;
  chance_first = chance_first;
  hide_reply = hide_reply;
  hide_one_reply = hide_one_reply;
}
