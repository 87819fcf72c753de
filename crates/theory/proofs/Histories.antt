-- Histories: states and targets along them, and the histories that a strategy goes through.
use Rattle.std.proofs.Common.{ℕ, List, [], ◌∷◌, inl}
use Rattle.theory.specs.Positions.{Position, Playable, State, Target}
use Rattle.theory.specs.Strategies.{History, begins, goes_on, Met, Strategy, Follows, start, step}
use Rattle.theory.proofs.Finite.{leads_state}

pub met_now : (x : Position) (past : List ℕ) (s : ℕ) → Target x s → Met x past s
met_now x [] s h = h
met_now x (r ∷ past) s h = inl h

pub history_state : {x : Position} → Playable x → {past : List ℕ} {s : ℕ} → History x past s → State x s
history_state ok (begins h) = h
history_state ok (goes_on {s = s} h a b t k l m) = leads_state ok s a b t m

-- what follows a strategy from a state is a history
pub follows_history : {x : Position} {names : List ℕ → ℕ → ℕ} {from : ℕ} → Strategy x names → State x from → {k : ℕ} {past : List ℕ} {s : ℕ} → Follows x names from k past s → History x past s
follows_history strategy h start = begins h
follows_history strategy h (step f b t k l) = let before = follows_history strategy h f in goes_on before _ b t (strategy _ _ before) k l
