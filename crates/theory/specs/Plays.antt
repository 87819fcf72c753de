-- Plays: rounds that are committed, settled or abandoned, as a relation over lists of calls and their answers.
use Rattle.std.specs.Prelude.{◌≡◌, ℕ, ◌+◌, ◌<◌, ◌≤◌, Bool, true, false, ◌||◌, List, [], ◌∷◌, Some, None, Option}
use Rattle.game.specs.Refusals.{Told, bare, with_value}
use Rattle.game.specs.declared.player.Player.TheVariants.{One, Two}
use Rattle.theory.specs.Positions.{Position, State, Keeps, Leads}
use Rattle.theory.specs.Verdicts.{SureRank, SureMove}

-- a play at rest: its state, its settled rounds, and whether the target was met
pub record Rest : Type 0 where
  pub state : ℕ
  pub rounds : ℕ
  pub met : Bool

-- a play is at rest, or has an open round with the move that player 1 committed
pub data Play : Type 0 where
  rests : Rest → Play
  opened : Rest → ℕ → Play

pub data Call : Type 0 where
  commit : ℕ → Call
  settle : ℕ → ℕ → Call
  abandon : Call

pub data Answer : Type 0 where
  taken : Answer
  refused : Told → Answer

-- a play begun at s
abbrev pub begun : Position → ℕ → Rest
begun x s = record { state = s; rounds = 0; met = x.target s }

-- What begin answers at s, on a bench that is solved or not, and the play that it gives.
pub data Begin (x : Position) (solved : Bool) (s : ℕ) : Answer → Option Rest → Type 0 where
  begin_no_state : x.game.size ≤ s → Begin x solved s (refused (with_value 1 s)) None
  begin_unsolved : State x s → solved ≡ false → Begin x solved s (refused (bare 5)) None
  begin_taken : State x s → solved ≡ true → Begin x solved s taken (Some (begun x s))

-- the play after a round that was settled on t
abbrev pub settled : Position → Rest → ℕ → Rest
settled x p t = record { state = t; rounds = p.rounds + 1; met = p.met || x.target t }

-- What a call answers, and what the play is after it. A commit comes at rest, a settle or an abandon in an open round.
pub data Step (x : Position) : Play → Call → Answer → Play → Type 0 where
  commit_not_kept : (p : Rest) (a : ℕ) → (Keeps x One p.state a → ⊥) → Step x (rests p) (commit a) (refused (with_value 8 a)) (rests p)
  commit_full : (p : Rest) (a : ℕ) → Keeps x One p.state a → 4000 ≤ p.rounds → Step x (rests p) (commit a) (refused (bare 10)) (rests p)
  commits : (p : Rest) (a : ℕ) → Keeps x One p.state a → p.rounds < 4000 → Step x (rests p) (commit a) taken (opened p a)
  settle_not_kept : (p : Rest) (a b t : ℕ) → (Keeps x Two p.state b → ⊥) → Step x (opened p a) (settle b t) (refused (with_value 8 b)) (opened p a)
  settle_outside : (p : Rest) (a b t : ℕ) → Keeps x Two p.state b → (Leads x p.state a b t → ⊥) → Step x (opened p a) (settle b t) (refused (with_value 9 t)) (opened p a)
  settles : (p : Rest) (a b t : ℕ) → Keeps x Two p.state b → Leads x p.state a b t → Step x (opened p a) (settle b t) taken (rests (settled x p t))
  abandons : (p : Rest) (a : ℕ) → Step x (opened p a) abandon taken (rests p)

-- the calls of a play that was begun at s, the latest first, each with its answer
pub data Played (x : Position) (s : ℕ) : List Call → List Answer → Play → Type 0 where
  begins : (p : Rest) → Begin x true s taken (Some p) → Played x s [] [] (rests p)
  then : {calls : List Call} {answers : List Answer} {p q : Play} {call : Call} {answer : Answer} → Played x s calls answers p → Step x p call answer q → Played x s (call ∷ calls) (answer ∷ answers) q

-- each round that was settled before the target was met used a move handed out at its state in mode sure
abbrev pub Follows : {x : Position} {p q : Play} {call : Call} {answer : Answer} → Step x p call answer q → Type 0
Follows (commit_not_kept p a n) = Unit {0}
Follows (commit_full p a k l) = Unit {0}
Follows (commits p a k l) = Unit {0}
Follows (settle_not_kept p a b t n) = Unit {0}
Follows (settle_outside p a b t k n) = Unit {0}
Follows {x} (settles p a b t k l) = p.met ≡ false → SureMove x p.state a
Follows (abandons p a) = Unit {0}

abbrev pub Guided : {x : Position} {s : ℕ} {calls : List Call} {answers : List Answer} {p : Play} → Played x s calls answers p → Type 0
Guided (begins p b) = Unit {0}
Guided (then run step) = Guided run × Follows step

-- the play at rest, or as it was at rest before the open round
abbrev pub resting : Play → Rest
resting (rests p) = p
resting (opened p a) = p

-- A play begun at a state of rank r and played from the moves handed out has met the target once r rounds are settled.
abbrev pub Arrives : Position → Type 0
Arrives x = (r s : ℕ) → SureRank x r s → (calls : List Call) (answers : List Answer) (p : Play) (run : Played x s calls answers p) → Guided run → r ≤ (resting p).rounds → (resting p).met ≡ true
