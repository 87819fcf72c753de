-- What the almost-sure states are: those from which some rule of move sets keeps the target within reach.
use Rattle.std.proofs.Common.{◌≡◌, ℕ, zero, suc, ◌<◌, ◌≤◌, true, ◌⊎◌, List, [], ◌∷◌, inl, inr, ⊎_elim, arith}
use Rattle.game.specs.Below.{bit, weigh}
use Rattle.game.specs.declared.player.Player.TheVariants.{One, Two}
use Rattle.theory.specs.Positions.{Position, Playable, State, Keeps, Leads, Target}
use Rattle.theory.specs.Strategies.{History, begins, goes_on, Met, Rule, Allows, Opponent, Reaches, KeepsReach, KeptInReach}
use Rattle.theory.specs.Verdicts.{Into, Sure, Stay, Touches, Level, Outer, Settled, Almost, AlmostRank, AlmostMove}
use Rattle.theory.proofs.Finite.{Decided, test, decided_and, decided_to, decided_not, decided_state, decided_keeps, decided_target, decided_into, move_lt, kept_some, next_some, byte_decided}
use Rattle.theory.proofs.Layers.{upto_decided, upto_enters, upto_all, enters_one, enters_lt}
use Rattle.theory.proofs.Histories.{met_now, history_state}
use Rattle.theory.proofs.Rounds.{Answers, target_outer, level_inside, outer_state, touches_or, outer_decided, levels_grow, rounds_exist, almost_at, almost_rank_at}
use Rattle.theory.specs.Laws.{Exactly}

-- the almost-sure states are those with a rank
pub almost_ranked : (x : Position) → Playable x → (s : ℕ) → Almost x s → (r : ℕ) × AlmostRank x r s
almost_ranked x ok s (j, rounds, h) =
    let (k, level) = rounds.0 s h in
    let (r, _, enters) = upto_enters (levels_grow ok j) k s level in
    (r, (j, rounds, enters))

pub ranked_almost : (x : Position) (r s : ℕ) → AlmostRank x r s → Almost x s
ranked_almost x r s (j, rounds, h) = (j, rounds, level_inside x (Outer x j) (target_outer x j) r s h.0)

-- a rank is below the number of states, and a state has at most one
pub almost_bound : (x : Position) → Playable x → (r s : ℕ) → AlmostRank x r s → r < x.game.size
almost_bound x ok r s (j, _, enters) = enters_lt (levels_grow ok j) r s enters

pub almost_rank_one : (x : Position) → Playable x → (q r s : ℕ) → AlmostRank x q s → AlmostRank x r s → q ≡ r
almost_rank_one x ok q r s h (j, last, f) = enters_one (levels_grow ok j) q r s (almost_rank_at x j last q s h) f

pub almost_decided : (x : Position) → Playable x → (s : ℕ) → ((r : ℕ) × AlmostRank x r s) ⊎ (Almost x s → ⊥)
almost_decided x ok s =
    let (j, rounds) = rounds_exist x ok in
    ⊎_elim
    (λ h. inl (almost_ranked x ok s (j, rounds, h)))
    (λ f. inr (λ h. f (almost_at x j rounds s h)))
    (outer_decided ok j s)

-- the sure states are almost sure
module _ (x : Position) (ok : Playable x) where
  sure_level : (i : ℕ) → ((k s : ℕ) → Sure x k s → Outer x i s) → (k s : ℕ) → Sure x k s → Level x (Outer x i) k s
  sure_level i outer zero s h = h
  sure_level i outer (suc k) s (inl h) = inl (sure_level i outer k s h)
  sure_level i outer (suc k) s (inr h) =
      let (a, keeps, into) = h.1 in
      inr (
        outer (suc k) s (inr h),
        λ b l.
            let (t, leads) = next_some ok s a b keeps l in
            (a, (keeps, λ b' l' t' m. outer k t' (into b' l' t' m)), (t, leads, sure_level i outer k t (into b l t leads))),
      )

  sure_outer : (i k s : ℕ) → Sure x k s → Outer x i s
  sure_outer zero zero s h = h.0
  sure_outer zero (suc k) s (inl h) = sure_outer zero k s h
  sure_outer zero (suc k) s (inr h) = h.0
  sure_outer (suc i) k s h = (k, sure_level i (sure_outer i) k s h)

  pub sure_almost : (k s : ℕ) → Sure x k s → Almost x s
  sure_almost k s h = let (j, rounds) = rounds_exist x ok in (j, rounds, sure_outer j k s h)

-- a state of a level outside the target touches a lower level, and so has a stay move
level_stay : {x : Position} → Playable x → (Y : ℕ → Type 0) → ((s : ℕ) → Y s → State x s) → (k s : ℕ) → Level x Y k s → (Target x s → ⊥) → (a : ℕ) × Stay x Y s a
level_stay ok Y inside zero s h off = absurd (off h)
level_stay ok Y inside (suc k) s (inl h) off = level_stay ok Y inside k s h off
level_stay ok Y inside (suc k) s (inr h) off =
    let (b, l) = kept_some ok Two s (inside s h.0) in
    let (a, stay, _) = h.1 b l in
    (a, stay)

pub almost_move_some : (x : Position) → Playable x → (s : ℕ) → Almost x s → (Target x s → ⊥) → (a : ℕ) × AlmostMove x s a
almost_move_some x ok s (j, rounds, h) off =
    let (k, level) = rounds.0 s h in
    let (a, stay) = level_stay ok (Outer x j) (outer_state x j) k s level off in
    (a, (off, (j, rounds, h, stay)))

-- a move handed out leads to almost-sure states, whatever player 2 replies
pub almost_move_stays : (x : Position) (s a : ℕ) → AlmostMove x s a → Stay x (Almost x) s a
almost_move_stays x s a (_, (j, rounds, _, stay)) = (stay.0, λ b l t m. (j, rounds, stay.1 b l t m))

-- at a rank above 0, whatever player 2 replies, some move handed out can lead to a lower rank
pub almost_move_lower : (x : Position) → Playable x → (r s b : ℕ) → AlmostRank x (suc r) s → Keeps x Two s b → (a : ℕ) × AlmostMove x s a × ((t : ℕ) × Leads x s a b t × ((q : ℕ) × (q ≤ r) × AlmostRank x q t))
almost_move_lower x ok r s b (j, rounds, (level, above)) l =
    let touches : Touches x (Outer x j) (Level x (Outer x j) r) s = ⊎_elim (λ h. absurd (above r (omega arith) h)) (λ h. h) level in
    let (a, stay, (t, leads, lower)) = touches.1 b l in
    let (q, m, enters) = upto_enters (levels_grow ok j) r t lower in
    (a, (λ h. above 0 (omega arith) h, (j, rounds, touches.0, stay)), (t, leads, (q, m, (j, rounds, enters))))

-- what a rule allows from a state is a history
pub allows_history : {x : Position} {sets : List ℕ → ℕ → ℕ} {s : ℕ} → Rule x sets → State x s → {past : List ℕ} {t : ℕ} → Allows x sets s past t → History x past t
allows_history rule h Allows.start = begins h
allows_history rule h (Allows.step {past = past} {s = r} w a b t named l m) =
    let before = allows_history rule h w in
    goes_on before a b t (rule.named_kept past r before a named) l m

-- In the set, so a rule exists: all stay moves of Y at its states outside the target, and all kept moves elsewhere.
module _ {x : Position} (ok : Playable x) (j : ℕ) (settled : Settled x j) where
  Named : ℕ → ℕ → Type 0
  Named s a = Keeps x One s a × (Outer x j s × (Target x s → ⊥) → Into x (Outer x j) s a)

  named_decided : (s a : ℕ) → Decided (Named s a)
  unfolding Named
  named_decided s a =
      decided_and (decided_keeps x One s a)
      (decided_to (decided_and (outer_decided ok j s) (decided_not (decided_target x s))) (decided_into ok (Outer x j) (outer_decided ok j) s a))

  stays : List ℕ → ℕ → ℕ
  stays past s = weigh (λ a. test (named_decided s a)) 8

  stays_are : (past : List ℕ) (s a : ℕ) → Exactly (bit (stays past s) a ≡ true) (Named s a)
  unfolding stays Named
  stays_are past s = byte_decided (Named s) (named_decided s) (λ a h. move_lt ok One s a h.0)

  stays_rule : Rule x stays
  unfolding Named
  stays_rule =
      record {
        some_named = λ past s h.
            ⊎_elim
            (λ (y, off).
            let (k, level) = settled s y in
            let (a, stay) = level_stay ok (Outer x j) (outer_state x j) k s level off in
            (a, (stays_are past s a).1 (stay.0, λ _. stay.1)))
            (λ f.
            let (a, keeps) = kept_some ok One s (history_state ok h) in
            (a, (stays_are past s a).1 (keeps, λ g. absurd (f g))))
            (decided_and (outer_decided ok j s) (decided_not (decided_target x s)));
        named_kept = λ past s h a e. ((stays_are past s a).0 e).0;
      }

  -- what the rule allows from a state of Y has met the target or ends in Y
  stays_inside : {s : ℕ} → Outer x j s → {past : List ℕ} {t : ℕ} → Allows x stays s past t → Met x past t ⊎ Outer x j t
  unfolding Named
  stays_inside y Allows.start = inr y
  stays_inside y (Allows.step {past = past} {s = r} w a b t named l m) =
      ⊎_elim
      (λ h. inl (inr h))
      (λ h.
      ⊎_elim
      (λ on. inl (inr (met_now x past r on)))
      (λ off. inr (((stays_are past r a).0 named).1 (h, off) b l t m))
      (decided_target x r))
      (stays_inside y w)

  -- from a level the target is within reach
  stays_reach : (names : List ℕ → ℕ → ℕ) → Opponent x names → (k : ℕ) (past : List ℕ) (t : ℕ) → History x past t → Level x (Outer x j) k t → Reaches x stays names past t
  unfolding Named
  stays_reach names opponent zero past t h level = Reaches.met (met_now x past t level)
  stays_reach names opponent (suc k) past t h (inl level) = stays_reach names opponent k past t h level
  stays_reach names opponent (suc k) past t h (inr touches) =
      let l = opponent past t h in
      let (a, stay, (u, leads, level)) = touches.1 (names past t) l in
      Reaches.on a u ((stays_are past t a).1 (stay.0, λ _. stay.1)) leads
      (stays_reach names opponent k (t ∷ past) u (goes_on h a (names past t) u stay.0 l leads) level)

  stays_keep : (s : ℕ) → Outer x j s → KeepsReach x stays s
  stays_keep s y past t w names opponent =
      ⊎_elim
      Reaches.met
      (λ h. let (k, level) = settled t h in stays_reach names opponent k past t (allows_history stays_rule (outer_state x j s y) w) level)
      (stays_inside y w)

-- A rule exists, so in the set. An opponent's rule that shuns the levels of Y(i): at a state of Y(i) in no level it plays a reply to which no
-- stay move can lead into a level, and elsewhere any kept move.
module _ {x : Position} (ok : Playable x) (i : ℕ) where
  InLevel : ℕ → Type 0
  InLevel s = Level x (Outer x i) x.game.size s

  Shuns : ℕ → ℕ → Type 0
  Shuns s b = Keeps x Two s b × (Outer x i s → (InLevel s → ⊥) → Answers x (Outer x i) InLevel s b → ⊥)

  shunning : (s : ℕ) → State x s → (b : ℕ) × Shuns s b
  unfolding InLevel Shuns
  shunning s h =
      ⊎_elim
      (λ y.
      ⊎_elim
      (λ touches. let (b, l) = kept_some ok Two s h in (b, (l, λ _ off _. off (upto_all (levels_grow ok i) (suc x.game.size) s (inr touches)))))
      (λ (b, l, none). (b, (l, λ _ _. none)))
      (touches_or ok (Outer x i) (Level x (Outer x i) x.game.size) (outer_decided ok i) (upto_decided (levels_grow ok i) x.game.size) s y))
      (λ f. let (b, l) = kept_some ok Two s h in (b, (l, λ y. absurd (f y))))
      (outer_decided ok i s)

  reply : (s : ℕ) → Decided (State x s) → ℕ
  reply s (inl h) = (shunning s h).0
  reply s (inr f) = 0

  reply_shuns : (s : ℕ) (d : Decided (State x s)) → State x s → Shuns s (reply s d)
  unfolding reply
  reply_shuns s (inl h) _ = (shunning s h).1
  reply_shuns s (inr f) h = absurd (f h)

  shunner : List ℕ → ℕ → ℕ
  shunner past s = reply s (decided_state x s)

  shunner_shuns : (past : List ℕ) (s : ℕ) → State x s → Shuns s (shunner past s)
  unfolding shunner
  shunner_shuns past s h = reply_shuns s (decided_state x s) h

  shunner_opponent : Opponent x shunner
  unfolding Shuns
  shunner_opponent past s h = (shunner_shuns past s (history_state ok h)).0

  module _ (sets : List ℕ → ℕ → ℕ) (rule : Rule x sets) (from : ℕ) (state : State x from) where
    -- the allowed histories that have not met the target end in Y(i)
    Inside : Type 0
    Inside = (past : List ℕ) (t : ℕ) → Allows x sets from past t → (Met x past t → ⊥) → Outer x i t

    -- then each named move is a stay move of Y(i)
    named_stay : Inside → (past : List ℕ) (t : ℕ) → Allows x sets from past t → (Met x past t → ⊥) → (a : ℕ) → bit (sets past t) a ≡ true → Stay x (Outer x i) t a
    unfolding Inside
    named_stay inside past t w off a named = (
      rule.named_kept past t (allows_history rule state w) a named,
      λ b l u m.
          ⊎_elim
          (target_outer x i u)
          (λ out. inside (t ∷ past) u (Allows.step w a b u named l m) (⊎_elim out off))
          (decided_target x u),
    )

    -- against the opponent's rule that shuns the levels no state outside the levels has the target within reach
    shunner_keeps_off : Inside → {past : List ℕ} {t : ℕ} → Reaches x sets shunner past t → Allows x sets from past t → (Met x past t → ⊥) → (InLevel t → ⊥) → ⊥
    unfolding Inside InLevel Shuns
    shunner_keeps_off inside (Reaches.met h) w off out = off h
    shunner_keeps_off inside (Reaches.on {past = past} {s = t} a u named m rest) w off out =
        let h = allows_history rule state w in
        let (l, shuns) = shunner_shuns past t (history_state ok h) in
        let out_u : Level x (Outer x i) x.game.size u → ⊥ = λ level. shuns (inside past t w off) out (a, named_stay inside past t w off a named, (u, m, level)) in
        shunner_keeps_off inside rest (Allows.step w a (shunner past t) u named l m) (⊎_elim (λ on. out_u (upto_all (levels_grow ok i) 0 u on)) off) out_u

module _ {x : Position} (ok : Playable x) (sets : List ℕ → ℕ → ℕ) (rule : Rule x sets) (from : ℕ) (state : State x from) (keeps : KeepsReach x sets from) where
  reach_outer : (i : ℕ) (past : List ℕ) (t : ℕ) → Allows x sets from past t → (Met x past t → ⊥) → Outer x i t
  unfolding Inside InLevel
  reach_outer zero past t w off = history_state ok (allows_history rule state w)
  reach_outer (suc i) past t w off =
      ⊎_elim
      (λ level. (x.game.size, level))
      (λ out. absurd (shunner_keeps_off ok i sets rule from state (reach_outer i) (keeps past t w (shunner ok i) (shunner_opponent ok i)) w off out))
      (upto_decided (levels_grow ok i) x.game.size t)

-- The almost-sure states are those from which some rule of move sets keeps the target within reach.
pub almost_means : (x : Position) → Playable x → (s : ℕ) → State x s → (Almost x s → KeptInReach x s) × (KeptInReach x s → Almost x s)
almost_means x ok s h = (
  λ (j, rounds, y). (stays ok j rounds.0, stays_rule ok j rounds.0, stays_keep ok j rounds.0 s y),
  λ (sets, rule, keeps).
      let (j, rounds) = rounds_exist x ok in
      (j, rounds, ⊎_elim (target_outer x j s) (reach_outer ok sets rule s h keeps j [] s Allows.start) (decided_target x s)),
)
