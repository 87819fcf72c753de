-- A list of calls of a play, as far as it was made.
use Rattle.std.proofs.Common.{◌≡◌, ℕ, ◌+◌, ◌<◌, ◌≤◌, Bool, true, ◌⊎◌, List, ◌∷◌, length, get_or, take, drop, set, Some, sym, refl, ap, ◌∙◌, arith, Result}
use Rattle.std.proofs.lemmas.List.{drop-drop, drop-set-lt, length-set}
use Rattle.game.specs.declared.refusal.Refusal.{Refusal}
use Rattle.theory.specs.Plays.{Begin, Played, begins, then, Step, taken}
use Rattle.theory.specs.Plays as plays
use Rattle.theory.specs.Positions.{Position}
use Rattle.theory.proofs.Plays.{arrives}
use Rattle.bench.specs.Rounds.{call_answer}
use Rattle.runs.specs.PlayCalls.{call_of, calls_of, answers_of, OutOfPlace, PlayedAll}
use Rattle.runs.specs.declared.play_call.PlayCall.{PlayCall}
use Rattle.runs.proofs.Lists.{latest_more, latest_set}

-- the first calls were made, and their answers written
pub record PlayMade (x : Position) (s : ℕ) (calls : List PlayCall) (old new : List (Result Unit Refusal)) (made : ℕ) (p : plays.Play) : Type 0 where
  pub few : made ≤ length calls
  pub played : Played x s (calls_of (take made calls)) (answers_of (take made new)) p
  pub size : length new ≡ length old
  pub behind : drop made new ≡ drop made old

-- a play that was begun stands where it was begun, on a solved bench
begun_solved : {x : Position} {solved : Bool} {s : ℕ} {p : plays.Rest} → Begin x solved s taken (Some p) → Begin x true s taken (Some p)
begun_solved (plays.begin_taken l e) = plays.begin_taken l refl

pub play_none : (x : Position) (solved : Bool) (s : ℕ) (calls : List PlayCall) (old : List (Result Unit Refusal)) (p : plays.Rest) → Begin x solved s taken (Some p) → PlayMade x s calls old old 0 (plays.rests p)
play_none x solved s calls old p begin = record { few = omega arith; played = begins p (begun_solved begin); size = refl; behind = refl }

pub play_more : (x : Position) (s : ℕ) (calls : List PlayCall) (old new : List (Result Unit Refusal)) (i : ℕ) (p q : plays.Play) (call : PlayCall) (answer : Result Unit Refusal) → PlayMade x s calls old new i p → i < length calls → length calls ≤ length old → call ≡ get_or calls i call → Step x p (call_of call) (call_answer answer) q → PlayMade x s calls old (set new i answer) (i + 1) q
play_more x s calls old new i p q call answer made l room is step = record {
  few = omega arith;
  played =
      rw (latest_more call_of calls i call l is, latest_set call_answer new i answer (omega (arith, made.size)))
      (then made.played step);
  size = length-set new i answer ∙ made.size;
  behind = drop-set-lt (i + 1) new i answer (omega arith) ∙ sym (drop-drop 1 i new) ∙ ap (drop 1) made.behind ∙ drop-drop 1 i old;
}

begun_there : {x : Position} {solved : Bool} {s : ℕ} {p : plays.Rest} → Begin x solved s taken (Some p) → Begin x solved s taken (Some (plays.begun x s))
begun_there (plays.begin_taken l e) = plays.begin_taken l e

pub play_ends : (x : Position) (solved : Bool) (s : ℕ) (calls : List PlayCall) (old new : List (Result Unit Refusal)) (made : ℕ) (p : plays.Play) {q : plays.Rest} → Begin x solved s taken (Some q) → length calls ≤ length old → PlayMade x s calls old new made p → ((made ≡ length calls) ⊎ ((call : PlayCall) × ((rest : List PlayCall) × (drop made calls ≡ call ∷ rest) × OutOfPlace p (call_of call)))) → PlayedAll x solved s calls old new made p
play_ends x solved s calls old new made p begin room so ended = record {
  begun = begun_there begin;
  room = room;
  few = so.few;
  played = so.played;
  ended = ended;
  behind = so.behind;
  arrives = λ r rank guided done. arrives x r s rank _ _ p so.played guided done;
}
