-- What calls and answers of a play stand for, and what a list of them comes to.
use Rattle.std.specs.Prelude.{◌≡◌, ℕ, ◌<◌, ◌≤◌, Bool, true, ◌⊎◌, List, ◌∷◌, map, reverse, length, take, drop, Some, None, Result}
use Rattle.game.specs.Refusals.{Told, bare}
use Rattle.game.specs.declared.refusal.Refusal.{Refusal}
use Rattle.theory.specs.Plays.{rests, opened, commit, settle, abandon, taken, refused, Begin, Played, Guided}
use Rattle.theory.specs.Plays as plays
use Rattle.theory.specs.Positions.{Position}
use Rattle.theory.specs.Verdicts.{SureRank}
use Rattle.bench.specs.Rounds.{rest_of, rest_in, call_answer}
use Rattle.runs.specs.declared.play_call.PlayCall.{PlayCall}
use Rattle.runs.specs.declared.play_call.PlayCall.TheVariants.{Commit, Settle, Abandon}
use Rattle.runs.specs.declared.play_call.Stage.{Stage}
use Rattle.runs.specs.declared.play_call.Stage.TheVariants.{Rest as AtRest, Round}

abbrev pub call_of : PlayCall → plays.Call
call_of (Commit a) = commit a
call_of (Settle b t) = settle b t
call_of Abandon = abandon

abbrev pub play_of : Stage → plays.Play
play_of (AtRest p) = rests (rest_of p)
play_of (Round o) = opened (rest_in o) o.a

-- a list of calls, the latest first
abbrev pub calls_of : List PlayCall → List plays.Call
calls_of calls = map call_of (reverse calls)

abbrev pub answers_of : List (Result Unit Refusal) → List plays.Answer
answers_of answers = map call_answer (reverse answers)

-- a commit has its place at rest, a settle or an abandon in an open round
abbrev pub OutOfPlace : plays.Play → plays.Call → Type 0
OutOfPlace (rests p) (commit a) = ⊥
OutOfPlace (rests p) (settle b t) = Unit {0}
OutOfPlace (rests p) abandon = Unit {0}
OutOfPlace (opened p a) (commit b) = Unit {0}
OutOfPlace (opened p a) (settle b t) = ⊥
OutOfPlace (opened p a) abandon = ⊥

-- What a list of calls of a play begun at s comes to: the answers are those of the calls, one after the other, up to the first call that is
-- out of place, and what lay behind them stays. And if s is sure and the play went by the moves handed out, it has met the target once the
-- rank of s in rounds is settled.
pub record PlayedAll (x : Position) (solved : Bool) (s : ℕ) (calls : List PlayCall) (old new : List (Result Unit Refusal)) (made : ℕ) (p : plays.Play) : Type 0 where
  pub begun : Begin x solved s taken (Some (plays.begun x s))
  pub room : length calls ≤ length old
  pub few : made ≤ length calls
  pub played : Played x s (calls_of (take made calls)) (answers_of (take made new)) p
  pub ended : (made ≡ length calls) ⊎ ((call : PlayCall) × ((rest : List PlayCall) × (drop made calls ≡ call ∷ rest) × OutOfPlace p (call_of call)))
  pub behind : drop made new ≡ drop made old
  pub arrives : (r : ℕ) → SureRank x r s → Guided played → r ≤ (plays.resting p).rounds → (plays.resting p).met ≡ true

-- The play cannot be begun, or there is no room for the answers; none is written.
pub data NotPlayed (x : Position) (solved : Bool) (s : ℕ) (calls : List PlayCall) (old new : List (Result Unit Refusal)) (t : Told) : Type 0 where
  not_begun : Begin x solved s (refused t) None → new ≡ old → NotPlayed x solved s calls old new t
  no_room : Begin x solved s taken (Some (plays.begun x s)) → length old < length calls → new ≡ old → t ≡ bare 21 → NotPlayed x solved s calls old new t
