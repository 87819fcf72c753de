-- Ranks told sweep by sweep: what a list of ranks says of the layers so far, one turn of a sweep, and when the ranks say all.
use Rattle.std.proofs.Common.{◌≡◌, ℕ, ◌+◌, ◌<◌, ◌≤◌, Bool, true, false, ◌⊎◌, List, length, set, Some, None, Option, inr, ⊎_elim, add-one, arith, below_none, below_more}
use Rattle.std.proofs.lemmas.List.{get_or-set_same, get_or-set_other}
use Rattle.std.proofs.lemmas.Bool.{true≢false, false≢true, cases_Bool, cases_lt, leb-true, leb-false}
use Rattle.std.proofs.lemmas.Bool.Decides.{nat_tests}
use Rattle.game.specs.declared.player.Player.TheVariants.{One, Two}
use Rattle.theory.specs.Laws.{Exactly}
use Rattle.theory.specs.Layers.{Upto, Enters}
use Rattle.theory.specs.Positions.{Position, Playable, State, Keeps, Leads, Target}
use Rattle.theory.specs.Ranking.{rank_at, up_to, Within, step_of, layers_of, RankUpto, RankFull}
use Rattle.theory.specs.Verdicts.{Forced, Touches}
use Rattle.theory.proofs.Finite.{decided_bool}
use Rattle.theory.proofs.Layers.{Grows, upto_later, upto_enters, upto_stops, enters_lt, upto_below}
use Rattle.theory.proofs.Rounds.{touches_mono, touches_grows}
use Rattle.theory.proofs.Sure.{sure_grows, forced_more}

-- What layers have before anything is known of the moves kept: their members are below n, they grow, and the step makes the next one.
-- The step grows with the set, and so sees a set by its members alone.
pub record Layered (n : ℕ) (step : (ℕ → Type 0) → ℕ → Type 0) (layers : ℕ → ℕ → Type 0) : Type 1 where
  pub member_lt : (k s : ℕ) → layers k s → s < n
  pub later : (j k s : ℕ) → j ≤ k → layers j s → layers k s
  pub next : (k s : ℕ) → Exactly (layers (k + 1) s) (layers k s ⊎ step (layers k) s)
  pub step_more : (X Y : ℕ → Type 0) → ((s : ℕ) → X s → Y s) → (s : ℕ) → step X s → step Y s

-- A sweep at a level that has seen the states below i: these have their ranks up to the next level, the others those up to this one.
-- As long as it entered none, no state that it has seen enters the next level.
pub record Swept (layers : ℕ → ℕ → Type 0) (level i : ℕ) (ranks : List (Option ℕ)) (entered : Bool) : Type 0 where
  pub seen : (s : ℕ) → s < i → RankUpto layers (level + 1) s (rank_at ranks s)
  pub unseen : (s : ℕ) → i ≤ s → RankUpto layers level s (rank_at ranks s)
  pub none : entered ≡ false → (s : ℕ) → s < i → Enters layers (level + 1) s → ⊥

module _ {n : ℕ} {step : (ℕ → Type 0) → ℕ → Type 0} {layers : ℕ → ℕ → Type 0} (l : Layered n step layers) where
  -- the ranks up to k tell each layer up to a lower number
  pub rank_within : (j k s : ℕ) (v : Option ℕ) → j ≤ k → RankUpto layers k s v → Exactly (up_to j v ≡ true) (layers j s)
  rank_within j k s None b h = (λ e. absurd (false≢true e), λ a. absurd (h (l.later j k s b a)))
  rank_within j k s (Some r) b h = (
    λ e. l.later r j s (leb-true r j e) h.1.0,
    λ a. grind (arith, nat_tests, h.1.1 j, a),
  )

  -- a state that has a rank is below n
  pub rank_lt : (j k s : ℕ) (v : Option ℕ) → RankUpto layers k s v → up_to j v ≡ true → s < n
  rank_lt j k s None h e = absurd (false≢true e)
  rank_lt j k s (Some r) h e = l.member_lt r s h.1.0

  -- a rank stays, and its state does not enter the next level
  rank_stays : (j k s : ℕ) (v : Option ℕ) → up_to j v ≡ true → RankUpto layers k s v → RankUpto layers (k + 1) s v
  rank_stays j k s None e h = absurd (false≢true e)
  rank_stays j k s (Some r) e h = (omega (arith, h.0), h.1)

  rank_before : (j k s : ℕ) (v : Option ℕ) → up_to j v ≡ true → RankUpto layers k s v → Enters layers (k + 1) s → ⊥
  rank_before j k s None e h a = absurd (false≢true e)
  rank_before j k s (Some r) e h a = a.1 k (omega arith) (l.later r k s h.0 h.1.0)

  -- where k is at most j, a state with no rank up to j is in no layer up to k, and in none up to k + 1 unless it enters there
  rank_none : (j k s : ℕ) (v : Option ℕ) → k ≤ j → up_to j v ≡ false → RankUpto layers k s v → layers k s → ⊥
  rank_none j k s None b e h = h
  rank_none j k s (Some r) b e h = λ _. omega (arith, leb-false r j e, h.0)

  rank_out : (j k s : ℕ) (v : Option ℕ) → k ≤ j → up_to j v ≡ false → RankUpto layers k s v → (layers (k + 1) s → ⊥) → RankUpto layers (k + 1) s v
  rank_out j k s None b e h out = out
  rank_out j k s (Some r) b e h out = absurd (omega (arith, leb-false r j e, h.0))

  -- a state in the layers up to k + 1 whose rank is not k + 1 is in those up to k
  pub rank_lower : (k s : ℕ) (v : Option ℕ) → RankUpto layers (k + 1) s v → (v ≡ Some (k + 1) → ⊥) → layers (k + 1) s → layers k s
  rank_lower k s None h off a = absurd (h a)
  rank_lower k s (Some r) h off a = l.later r k s (grind (arith, h.0, off)) h.1.0

  -- from n on there are no ranks, whatever the level
  rank_past : (j k s : ℕ) (v : Option ℕ) → n ≤ s → RankUpto layers j s v → RankUpto layers k s v
  rank_past j k s None b h = λ a. omega (arith, l.member_lt k s a)
  rank_past j k s (Some r) b h = absurd (omega (arith, l.member_lt r s h.1.0))

  -- ranks up to a level after which nothing enters are all ranks
  pub rank_full : (k s : ℕ) (v : Option ℕ) → RankUpto layers k s v → ((j : ℕ) → layers j s → layers k s) → RankFull layers s v
  rank_full k s None h all = λ j a. h (all j a)
  rank_full k s (Some r) h all = h.1

  -- a state that steps from the layers up to k enters at k + 1 if it has not entered before
  enters_by : (k s : ℕ) → (layers k s → ⊥) → step (layers k) s → Enters layers (k + 1) s
  enters_by k s out a = ((l.next k s).1 (inr a), λ j b h. out (l.later j k s (omega arith) h))

  not_next : (k s : ℕ) → (layers k s → ⊥) → (step (layers k) s → ⊥) → layers (k + 1) s → ⊥
  not_next k s out a h = ⊎_elim out a ((l.next k s).0 h)

  module _ (level : ℕ) where
    pub swept_none : (ranks : List (Option ℕ)) → ((s : ℕ) → RankUpto layers level s (rank_at ranks s)) → Swept layers level 0 ranks false
    swept_none ranks h = record { seen = below_none _; unseen = λ s _. h s; none = λ _. below_none _ }

    module _ {i : ℕ} {ranks : List (Option ℕ)} {entered : Bool} (h : Swept layers level i ranks entered) where
      -- half-way through a sweep the ranks up to the level are those from before it
      swept_within : (s : ℕ) → Exactly (Within ranks level s) (layers level s)
      swept_within s =
          ⊎_elim
          (λ b. rank_within level (level + 1) s (rank_at ranks s) (omega arith) (h.seen s b))
          (λ b. rank_within level level s (rank_at ranks s) (omega arith) (h.unseen s b))
          (cases_lt s i)

      -- a turn at a state that has a rank, at one that enters, and at one that does not
      pub swept_ranked : up_to 255 (rank_at ranks i) ≡ true → Swept layers level (i + 1) ranks entered
      swept_ranked e =
          let here = h.unseen i (omega arith) in
          record {
            seen = below_more _ i h.seen (rank_stays 255 level i (rank_at ranks i) e here);
            unseen = λ s b. h.unseen s (omega arith);
            none = λ f. below_more _ i (h.none f) (rank_before 255 level i (rank_at ranks i) e here);
          }

      pub swept_enters : level ≤ 255 → i < length ranks → up_to 255 (rank_at ranks i) ≡ false → step (Within ranks level) i → Swept layers level (i + 1) (set ranks i (Some (level + 1))) true
      swept_enters b k e a =
          let out = rank_none 255 level i (rank_at ranks i) b e (h.unseen i (omega arith)) in
          let here = enters_by level i out (l.step_more (Within ranks level) (layers level) (λ s. (swept_within s).0) i a) in
          record {
            seen = below_more _ i
                (λ s m. rw (get_or-set_other ranks i s (Some (level + 1)) None (omega arith)) (h.seen s m))
                (rw (get_or-set_same ranks i (Some (level + 1)) None k) (omega arith, here));
            unseen = λ s m. rw (get_or-set_other ranks i s (Some (level + 1)) None (omega arith)) (h.unseen s (omega arith));
            none = λ f. absurd (true≢false f);
          }

      -- at one that has no rank and is not in the next level
      swept_past : level ≤ 255 → up_to 255 (rank_at ranks i) ≡ false → (layers (level + 1) i → ⊥) → Swept layers level (i + 1) ranks entered
      swept_past b e out =
          record {
            seen = below_more _ i h.seen (rank_out 255 level i (rank_at ranks i) b e (h.unseen i (omega arith)) out);
            unseen = λ s m. h.unseen s (omega arith);
            none = λ f. below_more _ i (h.none f) (λ m. out m.0);
          }

      pub swept_out : level ≤ 255 → up_to 255 (rank_at ranks i) ≡ false → (step (Within ranks level) i → ⊥) → Swept layers level (i + 1) ranks entered
      swept_out b e a =
          swept_past b e
          (not_next level i (rank_none 255 level i (rank_at ranks i) b e (h.unseen i (omega arith))) (λ m. a (l.step_more (layers level) (Within ranks level) (λ s. (swept_within s).1) i m)))

      -- a turn at a state that is in the next level only if it is in this one
      pub swept_spared : level ≤ 255 → (layers (level + 1) i → layers level i) → Swept layers level (i + 1) ranks entered
      swept_spared b spare =
          ⊎_elim
          swept_ranked
          (λ e. swept_past b e (λ m. rank_none 255 level i (rank_at ranks i) b e (h.unseen i (omega arith)) (spare m)))
          (cases_Bool (up_to 255 (rank_at ranks i)))

    -- after the states below n all have been seen
    pub swept_all : {ranks : List (Option ℕ)} {entered : Bool} → Swept layers level n ranks entered → (s : ℕ) → RankUpto layers (level + 1) s (rank_at ranks s)
    swept_all {ranks} h s =
        ⊎_elim (h.seen s) (λ b. rank_past level (level + 1) s (rank_at ranks s) b (h.unseen s b)) (cases_lt s n)

    pub swept_no_more : {ranks : List (Option ℕ)} {entered : Bool} → Swept layers level n ranks entered → entered ≡ false → (s : ℕ) → Enters layers (level + 1) s → ⊥
    swept_no_more h f s e = h.none f s (l.member_lt (level + 1) s e.0) e

-- the set whose levels are worked out has only states for members
abbrev pub Inside : Position → Option (List (Option ℕ)) → Type 0
Inside x None = Unit {0}
Inside x (Some outer) = (s : ℕ) → Within outer 255 s → State x s

-- layers from a start set by a step that grows with the set, both with members below n alone
module _ (n : ℕ) (start : ℕ → Type 0) (step : (ℕ → Type 0) → ℕ → Type 0) where
  upto_layered : ((s : ℕ) → start s → s < n) → ((X : ℕ → Type 0) (s : ℕ) → step X s → s < n) → ((X Y : ℕ → Type 0) → ((s : ℕ) → X s → Y s) → (s : ℕ) → step X s → step Y s) → Layered n step (Upto start step)
  upto_layered start_lt step_lt step_more = record { member_lt = upto_below start step start_lt step_lt; later = upto_later start step; next = λ k s. rw (add-one k) (λ a. a, λ a. a); step_more = step_more }

pub layers_layered : (x : Position) (o : Option (List (Option ℕ))) → Inside x o → Layered x.game.size (step_of x o) (layers_of x o)
layers_layered x None inside =
    upto_layered x.game.size (Target x) (Forced x) (λ s h. h.0) (λ X s h. h.0) (forced_more x)
layers_layered x (Some outer) inside =
    upto_layered x.game.size (Target x) (Touches x (Within outer 255)) (λ s h. h.0) (λ X s h. inside s h.0) (touches_mono x (Within outer 255))

-- a step looks only at the successors under kept moves
pub step_local : (x : Position) (o : Option (List (Option ℕ))) (X Y : ℕ → Type 0) (s : ℕ) → ((a b t : ℕ) → Keeps x One s a → Keeps x Two s b → Leads x s a b t → X t → Y t) → step_of x o X s → step_of x o Y s
step_local x None X Y s more h = let (a, k, into) = h.1 in (h.0, (a, k, λ b l t m. more a b t k l m (into b l t m)))
step_local x (Some outer) X Y s more h = (h.0, λ b l. let (a, stay, (t, m, i)) = h.1 b l in (a, stay, (t, m, more a b t stay.0 l m i)))

-- a state no successor of which has the rank k + 1 does not enter at the level after it
pub layer_spared : (x : Position) (o : Option (List (Option ℕ))) → Inside x o → (k : ℕ) (ranks : List (Option ℕ)) → ((t : ℕ) → RankUpto (layers_of x o) (k + 1) t (rank_at ranks t)) → (s : ℕ) → ((a b t : ℕ) → Keeps x One s a → Keeps x Two s b → Leads x s a b t → rank_at ranks t ≡ Some (k + 1) → ⊥) → layers_of x o ((k + 1) + 1) s → layers_of x o (k + 1) s
layer_spared x o inside k ranks all s none h =
    let layered = layers_layered x o inside in
    ⊎_elim (λ m. m)
    (λ m. (layered.next k s).1 (inr (step_local x o (layers_of x o (k + 1)) (layers_of x o k) s (λ a b t p q lead. rank_lower layered k t (rank_at ranks t) (all t) (none a b t p q lead)) m)))
    ((layered.next (k + 1) s).0 h)

-- no state enters after 255
upto_highest : {n : ℕ} {start : ℕ → Type 0} {step : (ℕ → Type 0) → ℕ → Type 0} → Grows n start step → n ≤ 256 → (j s : ℕ) → Upto start step j s → Upto start step 255 s
upto_highest {start = start} {step = step} g few j s h = let (i, _, a) = upto_enters g j s h in upto_later start step i 255 s (omega (arith, enters_lt g i s a)) a.0

module _ {x : Position} (ok : Playable x) where
  layers_grow : (o : Option (List (Option ℕ))) → Inside x o → Grows x.game.size (Target x) (step_of x o)
  layers_grow None inside = sure_grows x ok
  layers_grow (Some outer) inside = touches_grows ok (Within outer 255) inside (λ s. decided_bool (up_to 255 (rank_at outer s)))

  -- a level that no state enters is the last
  pub layers_stop : (o : Option (List (Option ℕ))) → Inside x o → (k : ℕ) → ((s : ℕ) → Enters (layers_of x o) (k + 1) s → ⊥) → (j s : ℕ) → layers_of x o j s → layers_of x o k s
  layers_stop None inside k none = upto_stops (layers_grow None inside) k (rw (add-one k) at none)
  layers_stop (Some outer) inside k none = upto_stops (layers_grow (Some outer) inside) k (rw (add-one k) at none)

  pub layers_highest : (o : Option (List (Option ℕ))) → Inside x o → (j s : ℕ) → layers_of x o j s → layers_of x o 255 s
  layers_highest None inside = upto_highest (layers_grow None inside) ok.valid.few_states
  layers_highest (Some outer) inside = upto_highest (layers_grow (Some outer) inside) ok.valid.few_states
