-- The computed verdicts are the verdicts.
use Rattle.std.proofs.Common.{◌≡◌, ℕ, zero, suc, ◌<◌, Bool, true, false, cond, not, ◌&&◌, ◌||◌, eqb, ◌⊎◌, ◌↔◌, List, [], ◌∷◌, ◌++◌, Some, None, Option, sym, refl, ap, ◌∙◌, subst, inl, inr, ⊎_elim, arith, below_more}
use Rattle.std.proofs.lemmas.Bool.{false≢true, both_ways, cases_Bool, eqb-true, eq-eqb, or_left, or_right, or_cases, and_from}
use Rattle.std.proofs.lemmas.Option.{same_Some, none-some}
use Rattle.std.proofs.lemmas.Bool.Decides.{Decides-and, Decides-like, Decides-not, nat_tests, Decides-or}
use Rattle.game.specs.Below.{below, bit, elem}
use Rattle.game.specs.declared.player.Player.{Player}
use Rattle.game.specs.declared.player.Player.TheVariants.{One, Two}
use Rattle.game.proofs.Below.{ascends_below, bit_kept, bit_some}
use Rattle.game.proofs.Digits.{bit_byte}
use Rattle.game.proofs.Members.{elem_within, elem_below}
use Rattle.theory.specs.Positions.{Position, Playable, State, Keeps, Leads, Target}
use Rattle.theory.specs.Layers.{Upto, Enters, Least}
use Rattle.theory.specs.Verdicts.{Into, Forced, Sure, SureRank, SureMove, Stay, Touches, Outer, Settled, OuterRounds, Almost, AlmostRank, AlmostMove, Reply}
use Rattle.theory.specs.Computed.{
  every,
  some,
  inside,
  first,
  or_at,
  number_or_zero,
  next_list,
  upto_list,
  moves,
  leads_into,
  forces,
  sure_list,
  sure_rank,
  stays,
  stay_set,
  set_at,
  sure_set,
  touches,
  levels,
  outer_list,
  rounds,
  almost_list,
  level_rank,
  level_set,
  almost_rank,
  almost_set,
  replies,
}
use Rattle.theory.proofs.Finite.{move_lt}
use Rattle.theory.proofs.Layers.{Grows, upto_lt, upto_enters, upto_all, enters_lt, enters_one}
use Rattle.theory.proofs.Sure.{sure_grows, sure_move_into}
use Rattle.theory.proofs.Rounds.{target_outer, level_inside, outer_state, levels_grow, rounds_unique, rounds_within, almost_at, almost_rank_at, almost_move_at}

-- the members of a list are those of a set
abbrev pub Lists : List ℕ → (ℕ → Type 0) → Type 0
Lists X P = (s : ℕ) → (elem s X ≡ true) ↔ (P s)

-- members of two lists joined, and of a list of one number or none
pub elem_append : (s : ℕ) (xs ys : List ℕ) → (elem s (xs ++ ys) ≡ true) ↔ ((elem s xs ≡ true) ⊎ (elem s ys ≡ true))
unfolding elem
elem_append s [] ys = (inr, ⊎_elim (λ e. absurd (false≢true e)) (λ e. e))
elem_append s (x ∷ xs) ys =
    let (f, g) = elem_append s xs ys in (
      λ e.
          ⊎_elim
          (λ a. inl (or_left (eqb s x) (elem s xs) a))
          (λ a. ⊎_elim (λ b. inl (or_right (eqb s x) (elem s xs) b)) inr (f a))
          (or_cases (eqb s x) (elem s (xs ++ ys)) e),
      ⊎_elim
          (λ e. ⊎_elim (λ a. or_left (eqb s x) (elem s (xs ++ ys)) a) (λ a. or_right (eqb s x) (elem s (xs ++ ys)) (g (inl a))) (or_cases (eqb s x) (elem s xs) e))
          (λ e. or_right (eqb s x) (elem s (xs ++ ys)) (g (inr e))),
    )

pub elem_single : (s n : ℕ) (b : Bool) → (elem s (cond b (n ∷ []) []) ≡ true) ↔ ((s ≡ n) × (b ≡ true))
unfolding elem
elem_single s n true = (λ e. ⊎_elim (λ a. (eqb-true s n a, refl)) (λ a. absurd (false≢true a)) (or_cases (eqb s n) false e), λ (e, _). or_left (eqb s n) false (eq-eqb s n e))
elem_single s n false = (λ e. absurd (false≢true e), λ (_, e). absurd (false≢true e))

-- the members of the numbers below n that pass a test
pub below_lists : (p : ℕ → Bool) (n : ℕ) → Lists (below p n) (λ s. (s < n) × (p s ≡ true))
below_lists p n s = (
  λ e. let l : s < n = (elem_within s 0 n (below p n) (ascends_below p n) e).1 in (l, sym (elem_below p n s l) ∙ e),
  λ (l, e). elem_below p n s l ∙ e,
)

-- tests on the members of a list
pub every_holds : (p : ℕ → Bool) (xs : List ℕ) → (every p xs ≡ true) ↔ ((y : ℕ) → elem y xs ≡ true → p y ≡ true)
unfolding every elem
every_holds p [] = (λ _ y e. absurd (false≢true e), λ _. refl)
every_holds p (x ∷ xs) =
    let (f, g) = every_holds p xs in (
      λ e y m. grind (arith, nat_tests, f, y),
      λ h. and_from (p x) (every p xs) (h x (grind (arith, nat_tests))) (g (λ y m. h y (or_right (eqb y x) (elem y xs) m))),
    )

pub some_holds : (p : ℕ → Bool) (xs : List ℕ) → (some p xs ≡ true) ↔ ((y : ℕ) × (elem y xs ≡ true) × (p y ≡ true))
unfolding some elem
some_holds p [] = (λ e. absurd (false≢true e), λ (y, e, _). absurd (false≢true e))
some_holds p (x ∷ xs) =
    let (f, g) = some_holds p xs in (
      λ e.
          ⊎_elim
          (λ a. (x, grind (arith, nat_tests), a))
          (λ a. let (y, m, b) = f a in (y, or_right (eqb y x) (elem y xs) m, b))
          (or_cases (p x) (some p xs) e),
      λ (y, m, e). grind (arith, nat_tests, g, y),
    )

-- the same of a list that has the members of P, where the test decides Q
module _ (xs : List ℕ) (P : ℕ → Type 0) (members : Lists xs P) (p : ℕ → Bool) (Q : ℕ → Type 0) (decides : (y : ℕ) → (p y ≡ true) ↔ Q y) where
  every_decides : (every p xs ≡ true) ↔ ((y : ℕ) → P y → Q y)
  every_decides = let (f, g) = every_holds p xs in (λ e y h. (decides y).0 (f e y ((members y).1 h)), λ h. g (λ y m. (decides y).1 (h y ((members y).0 m))))

  some_decides : (some p xs ≡ true) ↔ ((y : ℕ) × P y × Q y)
  some_decides = let (f, g) = some_holds p xs in (λ e. let (y, m, a) = f e in (y, (members y).0 m, (decides y).0 a), λ (y, h, q). g (y, (members y).1 h, (decides y).1 q))

-- a list has its own members
listed : (xs : List ℕ) → Lists xs (λ s. elem s xs ≡ true)
listed xs s = (λ e. e, λ e. e)

-- the least number that passes, or none
pub first_cases : (p : ℕ → Bool) (n : ℕ) → ((k : ℕ) × (first p n ≡ Some k) × (k < n) × Least (λ i. p i ≡ true) k) ⊎ ((first p n ≡ None) × ((k : ℕ) → k < n → p k ≡ true → ⊥))
unfolding first
first_cases p zero = inr (refl, λ k l. absurd (omega arith))
first_cases p (suc n) =
    ⊎_elim
    (λ (k, is, l, h). inl (k, rw is, omega arith, h))
    (λ (is, none).
    ⊎_elim
    (λ e. inl (n, rw is (ap (λ b. or_at None b n) e), omega arith, (e, none)))
    (λ e. inr (rw is (ap (λ b. or_at None b n) e), λ k l. below_more (λ k. p k ≡ true → ⊥) n none (both_ways (p n) e) k (omega arith)))
    (cases_Bool (p n)))
    (first_cases p n)

-- Layers: the lists have the members of the layers, and the least list with a member tells where it enters.
module _ {n : ℕ} {start : ℕ → Type 0} {step : (ℕ → Type 0) → ℕ → Type 0} (g : Grows n start step)
    (at_start : ℕ → Bool) (at_step : List ℕ → ℕ → Bool)
    (starts : (s : ℕ) → s < n → (at_start s ≡ true) ↔ start s)
    (steps : (X : List ℕ) (P : ℕ → Type 0) → Lists X P → (s : ℕ) → s < n → (at_step X s ≡ true) ↔ step P s) where
  pub upto_lists : (k : ℕ) → Lists (upto_list n at_start at_step k) (Upto start step k)
  unfolding upto_list next_list
  upto_lists zero s =
      let (f, h) = below_lists at_start n s in
      (λ e. let (l, a) = f e in (starts s l).0 a, λ a. let l = g.start_lt s a in h (l, (starts s l).1 a))
  upto_lists (suc k) s =
      let X : List ℕ = upto_list n at_start at_step k in
      let (f, h) = below_lists (λ s. elem s X || at_step X s) n s in
      let both = λ (l : s < n). Decides-or (elem s X) (at_step X s) (upto_lists k s) (steps X (Upto start step k) (upto_lists k) s l) in
      (λ e. let (l, a) = f e in (both l).0 a, λ u. let l = upto_lt g (suc k) s u in h (l, (both l).1 u))

  layer : ℕ → ℕ → Bool
  layer s k = elem s (upto_list n at_start at_step k)

  layer_enters : (s k : ℕ) → Least (λ i. layer s i ≡ true) k → Enters (Upto start step) k s
  unfolding layer
  layer_enters s k (e, none) = ((upto_lists k s).0 e, λ j l a. none j l ((upto_lists j s).1 a))

  -- where a state enters, and the states that never do
  pub first_enters : (s r : ℕ) → (first (λ k. elem s (upto_list n at_start at_step k)) (suc n) ≡ Some r) ↔ Enters (Upto start step) r s
  unfolding layer
  first_enters s r =
      ⊎_elim
      (λ (k, is, l, h). (
        λ e. subst (λ i. Enters (Upto start step) i s) (same_Some k r (sym is ∙ e)) (layer_enters s k h),
        λ e. is ∙ ap Some (enters_one g k r s (layer_enters s k h) e),
      ))
      (λ (is, none). (
        λ e. absurd (none-some r (sym is ∙ e)),
        λ e. absurd (none r (omega (arith, enters_lt g r s e)) ((upto_lists r s).1 e.0)),
      ))
      (first_cases (layer s) (suc n))

  pub first_never : (s : ℕ) → (first (λ k. elem s (upto_list n at_start at_step k)) (suc n) ≡ None) ↔ ((k : ℕ) → Upto start step k s → ⊥)
  unfolding layer
  first_never s =
      ⊎_elim
      (λ (k, is, l, h). (
        λ e. absurd (none-some k (sym e ∙ is)),
        λ never. absurd (never k ((upto_lists k s).0 h.0)),
      ))
      (λ (is, none). (
        λ _ k a. none n (omega arith) ((upto_lists n s).1 (upto_all g k s a)),
        λ _. is,
      ))
      (first_cases (layer s) (suc n))

module _ {x : Position} (ok : Playable x) where
  pub moves_list : (p : Player) (s : ℕ) → Lists (moves x p s) (Keeps x p s)
  moves_list p s m =
      let (f, g) = below_lists (bit (x.kept p s)) 8 m in
      (λ e. (f e).1, λ e. g (move_lt ok p s m e, e))

  module _ (X : List ℕ) (P : ℕ → Type 0) (joined : Lists X P) where
    pub leads_into_holds : (s a : ℕ) → (leads_into x X s a ≡ true) ↔ Into x P s a
    unfolding leads_into
    leads_into_holds s a =
        every_decides (moves x Two s) (Keeps x Two s) (moves_list Two s) (λ b. every (λ t. elem t X) (x.game.support s a b)) (λ b. (t : ℕ) → Leads x s a b t → P t)
        (λ b. every_decides (x.game.support s a b) (Leads x s a b) (listed (x.game.support s a b)) (λ t. elem t X) P joined)

    pub forces_holds : (s : ℕ) → State x s → (forces x X s ≡ true) ↔ Forced x P s
    unfolding forces
    forces_holds s here =
        let (f, g) = some_decides (moves x One s) (Keeps x One s) (moves_list One s) (λ a. leads_into x X s a) (Into x P s) (leads_into_holds s) in
        (λ e. (here, f e), λ h. g h.1)

    -- the byte of the stay moves
    pub stay_set_holds : (s a : ℕ) → (bit (stay_set x X s) a ≡ true) ↔ Stay x P s a
    stay_set_holds s a =
        let (f, g) = Decides-and (bit (x.kept One s) a) (leads_into x X s a) (λ e. e, λ k. k) (leads_into_holds s a) in
        let is = bit_byte (stays x X s) a (λ e. move_lt ok One s a (f e).0) in
        (λ e. f (sym is ∙ e), λ h. is ∙ g h)

  target_holds : (s : ℕ) → State x s → (x.target s ≡ true) ↔ Target x s
  target_holds s here = (λ e. (here, e), λ h. h.1)

  -- the states in the layers up to k, and the ranks
  pub sure_lists : (k : ℕ) → Lists (sure_list x k) (Sure x k)
  sure_lists = upto_lists (sure_grows x ok) x.target (forces x) target_holds forces_holds

  pub sure_rank_some : (r s : ℕ) → (sure_rank x s ≡ Some r) ↔ SureRank x r s
  unfolding sure_rank
  sure_rank_some r s = first_enters (sure_grows x ok) x.target (forces x) target_holds forces_holds s r

  pub sure_rank_none : (s : ℕ) → (sure_rank x s ≡ None) ↔ ((r : ℕ) → SureRank x r s → ⊥)
  unfolding sure_rank
  sure_rank_none s =
      let (f, g) = first_never (sure_grows x ok) x.target (forces x) target_holds forces_holds s in
      (λ e r h. f e r h.0, λ none. g (λ k h. let (r, _, e) = upto_enters (sure_grows x ok) k s h in none r e))

  -- the moves handed out
  set_at_holds : (s a : ℕ) (o : Option ℕ) → sure_rank x s ≡ o → (bit (set_at x s o) a ≡ true) ↔ SureMove x s a
  set_at_holds s a None is = (λ e. absurd (omega (arith, bit_some 0 a e)), λ (r, h, _, _). absurd ((sure_rank_none s).0 is (suc r) h))
  set_at_holds s a (Some zero) is =
      let ranked = (sure_rank_some 0 s).0 is in
      (λ e. absurd (omega (arith, bit_some 0 a e)), λ (r, h, _, _). absurd (omega (arith, enters_one (sure_grows x ok) 0 (suc r) s ranked h)))
  set_at_holds s a (Some (suc r)) is =
      let ranked = (sure_rank_some (suc r) s).0 is in
      let (f, g) = stay_set_holds (sure_list x r) (Sure x r) (sure_lists r) s a in
      (λ e. let (k, into) = f e in (r, ranked, k, into), λ m. g (sure_move_into x ok r s a ranked m))

  pub sure_set_holds : (s a : ℕ) → (bit (sure_set x s) a ≡ true) ↔ SureMove x s a
  unfolding sure_set
  sure_set_holds s a = set_at_holds s a (sure_rank x s) refl

  module _ (Y X : List ℕ) (P Q : ℕ → Type 0) (joined_Y : Lists Y P) (joined_X : Lists X Q) where
    answers_hold : (s a b : ℕ) → ((leads_into x Y s a && some (λ t. elem t X) (x.game.support s a b)) ≡ true) ↔ (Into x P s a × ((t : ℕ) × Leads x s a b t × Q t))
    answers_hold s a b =
        Decides-and (leads_into x Y s a) (some (λ t. elem t X) (x.game.support s a b)) (leads_into_holds Y P joined_Y s a)
        (some_decides (x.game.support s a b) (Leads x s a b) (listed (x.game.support s a b)) (λ t. elem t X) Q joined_X)

    pub touches_holds : (s : ℕ) → (touches x Y X s ≡ true) ↔ Touches x P Q s
    unfolding touches
    touches_holds s =
        let here : ℕ → ℕ → Bool = λ b a. leads_into x Y s a && some (λ t. elem t X) (x.game.support s a b) in
        let each : ℕ → Bool = λ b. some (here b) (moves x One s) in
        Decides-and (elem s Y) (every each (moves x Two s)) (joined_Y s)
        (every_decides (moves x Two s) (Keeps x Two s) (moves_list Two s) each (λ b. (a : ℕ) × Stay x P s a × ((t : ℕ) × Leads x s a b t × Q t))
        (λ b.
        let (f, g) = some_decides (moves x One s) (Keeps x One s) (moves_list One s) (here b) (λ a. Into x P s a × ((t : ℕ) × Leads x s a b t × Q t)) (λ a. answers_hold s a b) in
        (λ e. let (a, k, (into, touch)) = f e in (a, (k, into), touch), λ (a, (k, into), touch). g (a, k, (into, touch)))))

  -- the outer rounds
  pub outer_lists : (j : ℕ) → Lists (outer_list x j) (Outer x j)
  unfolding outer_list levels
  outer_lists zero s = let (f, g) = below_lists (λ _. true) x.game.size s in (λ e. (f e).0, λ l. g (l, refl))
  outer_lists (suc j) s =
      let (f, g) =
      upto_lists (levels_grow ok j) x.target (touches x (outer_list x j)) target_holds
      (λ X Q joined t _. touches_holds (outer_list x j) X (Outer x j) Q (outer_lists j) joined t) x.game.size s in
      (λ e. (x.game.size, f e), λ (k, h). g (upto_all (levels_grow ok j) k s h))

  -- the step from one level to the next
  steps_hold : (j : ℕ) (X : List ℕ) (Q : ℕ → Type 0) → Lists X Q → (s : ℕ) → State x s → (touches x (outer_list x j) X s ≡ true) ↔ Touches x (Outer x j) Q s
  steps_hold j X Q joined s _ = touches_holds (outer_list x j) X (Outer x j) Q (outer_lists j) joined s

  settled_holds : (j : ℕ) → (inside (outer_list x j) (outer_list x (suc j)) ≡ true) ↔ Settled x j
  unfolding inside
  settled_holds j = every_decides (outer_list x j) (Outer x j) (outer_lists j) (λ s. elem s (outer_list x (suc j))) (Outer x (suc j)) (outer_lists (suc j))

  rounds_are : OuterRounds x (rounds x)
  unfolding rounds
  rounds_are =
      ⊎_elim
      (λ (k, is, l, (e, none)). subst (OuterRounds x) (sym (ap number_or_zero is)) ((settled_holds k).0 e, λ j m h. none j m ((settled_holds j).1 h)))
      (λ (_, none). let (j, l, h) = rounds_within ok in absurd (none j (omega arith) ((settled_holds j).1 h.0)))
      (first_cases (λ j. inside (outer_list x j) (outer_list x (suc j))) (suc x.game.size))

  pub rounds_holds : (j : ℕ) → (rounds x ≡ j) ↔ OuterRounds x j
  rounds_holds j = (λ e. subst (OuterRounds x) e rounds_are, λ h. rounds_unique x (rounds x) j rounds_are h)

  pub almost_lists : Lists (almost_list x) (Almost x)
  unfolding almost_list
  almost_lists s =
      let (f, g) = outer_lists (rounds x) s in
      (λ e. (rounds x, rounds_are, f e), λ h. g (almost_at x (rounds x) rounds_are s h))

  pub almost_rank_some : (r s : ℕ) → (almost_rank x s ≡ Some r) ↔ AlmostRank x r s
  unfolding level_rank almost_list
  almost_rank_some r s =
      let (f, g) = first_enters (levels_grow ok (rounds x)) x.target (touches x (outer_list x (rounds x))) target_holds (steps_hold (rounds x)) s r in (
        λ e. (rounds x, rounds_are, f e),
        λ h. g (almost_rank_at x (rounds x) rounds_are r s h),
      )

  pub almost_rank_none : (s : ℕ) → (almost_rank x s ≡ None) ↔ (Almost x s → ⊥)
  unfolding level_rank almost_list
  almost_rank_none s =
      let i : ℕ = rounds x in
      let (f, g) = first_never (levels_grow ok i) x.target (touches x (outer_list x i)) target_holds (steps_hold i) s in (
        λ e h. let (k, level) = rounds_are.0 s (almost_at x i rounds_are s h) in f e k level,
        λ off. g (λ k level. off (i, rounds_are, level_inside x (Outer x i) (target_outer x i) k s level)),
      )

  -- the moves handed out
  pub almost_set_holds : (s a : ℕ) → (bit (almost_set x s) a ≡ true) ↔ AlmostMove x s a
  unfolding level_set almost_list
  almost_set_holds s a =
      let i : ℕ = rounds x in
      let Y : List ℕ = outer_list x i in
      let inside = Decides-and (elem s Y) (not (x.target s)) (outer_lists i s) (Decides-not (x.target s) (λ e. e, λ e. e)) in
      let (f, g) = Decides-and (elem s Y && not (x.target s)) (bit (stay_set x Y s) a) inside (stay_set_holds Y (Outer x i) (outer_lists i) s a) in
      let is = bit_kept (elem s Y && not (x.target s)) (stay_set x Y s) a in (
        λ e. let ((y, off), stay) = f (sym is ∙ e) in (λ h. off h.1, (i, rounds_are, y, stay)),
        λ m. let (y, stay) = almost_move_at x i rounds_are s a m in is ∙ g ((y, λ e. m.0 (outer_state x i s y, e)), stay),
      )

  -- replies
  pub replies_hold : (s a b t : ℕ) → (replies x s a b t ≡ true) ↔ Reply x s a b t
  replies_hold s a b t =
      let n : ℕ = x.game.size in
      let lead : Bool = elem t (x.game.support s a b) in
      let sure : Bool = elem t (sure_list x n) in
      let off = Decides-like (not sure) (λ out k h. out (upto_all (sure_grows x ok) k t h)) (λ never h. never n h) (Decides-not sure (sure_lists n t)) in
      let (f, g) = Decides-and (bit (x.kept Two s) b) (lead && not sure) (λ e. e, λ k. k) (Decides-and lead (not sure) (λ e. e, λ l. l) off) in
      (λ e. let (k, (l, never)) = f e in (k, l, never), λ (k, l, never). g (k, (l, never)))
