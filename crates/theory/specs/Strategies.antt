-- Histories, strategies of player 1, rules of move sets, and opponents' rules. A history is the state now and the earlier states, the
-- latest first.
use Rattle.std.specs.Prelude.{◌≡◌, ℕ, zero, suc, ◌≤◌, true, ◌⊎◌, List, [], ◌∷◌}
use Rattle.game.specs.Below.{bit}
use Rattle.game.specs.declared.player.Player.TheVariants.{One, Two}
use Rattle.theory.specs.Positions.{Position, State, Keeps, Leads, Target}

-- each next state is in a support of the one before, under kept moves
pub data History (x : Position) : List ℕ → ℕ → Type 0 where
  begins : {s : ℕ} → State x s → History x [] s
  goes_on : {past : List ℕ} {s : ℕ} → History x past s → (a b t : ℕ) → Keeps x One s a → Keeps x Two s b → Leads x s a b t → History x (s ∷ past) t

-- a target state is among the earlier states, or is the state now
abbrev pub Met : (x : Position) → List ℕ → ℕ → Type 0
Met x [] s = Target x s
Met x (r ∷ past) s = Target x s ⊎ Met x past r

-- A strategy of player 1 names one kept move for each history.
abbrev pub Strategy : Position → (List ℕ → ℕ → ℕ) → Type 0
Strategy x names = (past : List ℕ) (s : ℕ) → History x past s → Keeps x One s (names past s)

-- a history of so many steps from a state, each by the named move and a kept move of player 2
pub data Follows (x : Position) (names : List ℕ → ℕ → ℕ) (from : ℕ) : ℕ → List ℕ → ℕ → Type 0 where
  start : Follows x names from zero [] from
  step : {k : ℕ} {past : List ℕ} {s : ℕ} → Follows x names from k past s → (b t : ℕ) → Keeps x Two s b → Leads x s (names past s) b t → Follows x names from (suc k) (s ∷ past) t

-- every history of k steps by the strategy has met the target
abbrev pub Forces : (x : Position) → (List ℕ → ℕ → ℕ) → ℕ → ℕ → Type 0
Forces x names s k = (past : List ℕ) (t : ℕ) → Follows x names s k past t → Met x past t

-- A rule of move sets names a nonempty set of kept moves of player 1 for each history, one bit for each move.
pub record Rule (x : Position) (sets : List ℕ → ℕ → ℕ) : Type 0 where
  pub some_named : (past : List ℕ) (s : ℕ) → History x past s → (a : ℕ) × (bit (sets past s) a ≡ true)
  pub named_kept : (past : List ℕ) (s : ℕ) → History x past s → (a : ℕ) → bit (sets past s) a ≡ true → Keeps x One s a

-- the histories from a state that the rule allows: each step by a named move and a kept move of player 2
pub data Allows (x : Position) (sets : List ℕ → ℕ → ℕ) (from : ℕ) : List ℕ → ℕ → Type 0 where
  start : Allows x sets from [] from
  step : {past : List ℕ} {s : ℕ} → Allows x sets from past s → (a b t : ℕ) → bit (sets past s) a ≡ true → Keeps x Two s b → Leads x s a b t → Allows x sets from (s ∷ past) t

-- An opponent's rule names one kept move of player 2 for each history.
abbrev pub Opponent : Position → (List ℕ → ℕ → ℕ) → Type 0
Opponent x names = (past : List ℕ) (s : ℕ) → History x past s → Keeps x Two s (names past s)

-- some finite continuation of the history under both rules, the history itself counted, meets the target
pub data Reaches (x : Position) (sets names : List ℕ → ℕ → ℕ) : List ℕ → ℕ → Type 0 where
  met : {past : List ℕ} {s : ℕ} → Met x past s → Reaches x sets names past s
  on : {past : List ℕ} {s : ℕ} → (a t : ℕ) → bit (sets past s) a ≡ true → Leads x s a (names past s) t → Reaches x sets names (s ∷ past) t → Reaches x sets names past s

-- the target is within reach after every history that the rule allows from s, against every opponent's rule
abbrev pub KeepsReach : (x : Position) → (List ℕ → ℕ → ℕ) → ℕ → Type 0
KeepsReach x sets s = (past : List ℕ) (t : ℕ) → Allows x sets s past t → (names : List ℕ → ℕ → ℕ) → Opponent x names → Reaches x sets names past t

-- What a sure rank means: some strategy forces the target within r rounds, and whatever forces it within k rounds has k at least r.
pub record ForcedIn (x : Position) (r s : ℕ) : Type 0 where
  pub some_strategy : (names : List ℕ → ℕ → ℕ) × Strategy x names × Forces x names s r
  pub no_sooner : (names : List ℕ → ℕ → ℕ) (k : ℕ) → Strategy x names → Forces x names s k → r ≤ k

-- What almost-sure means: some rule of move sets keeps the target within reach.
abbrev pub KeptInReach : Position → ℕ → Type 0
KeptInReach x s = (sets : List ℕ → ℕ → ℕ) × Rule x sets × KeepsReach x sets s
