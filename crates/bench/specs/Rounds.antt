-- What the calls of a play answer, and what they leave.
use Rattle.std.specs.Prelude.{Some, None, Ok, Err, Option, Result}
use Rattle.game.specs.Refusals.{told}
use Rattle.game.specs.declared.refusal.Refusal.{Refusal}
use Rattle.theory.specs.Plays.{Rest, Play as Playing, rests, opened, Answer, taken, refused}
use Rattle.bench.specs.declared.play.OpenRound.{OpenRound}
use Rattle.bench.specs.declared.play.Play.{Play}

-- a play at rest, and the play as it was at rest before an open round
abbrev pub rest_of : Play → Rest
rest_of p = record { state = p.state; rounds = p.rounds; met = p.met }

abbrev pub rest_in : OpenRound → Rest
rest_in o = rest_of o.play

-- a call is taken, or refused
abbrev pub call_answer : {A : Type 0} → Result A Refusal → Answer
call_answer (Ok _) = taken
call_answer (Err why) = refused (told why)

-- the same where a refused call gives back what it was made on
abbrev pub moved_answer : {A B : Type 0} → Result A (B × Refusal) → Answer
moved_answer (Ok _) = taken
moved_answer (Err e) = refused (told e.1)

-- the play that begin gives
abbrev pub begun_rest : Result Play Refusal → Option Rest
begun_rest (Ok p) = Some (rest_of p)
begun_rest (Err _) = None

-- after commit: an open round, or the play again
abbrev pub after_commit : Result OpenRound (Play × Refusal) → Playing
after_commit (Ok o) = opened (rest_in o) o.a
after_commit (Err e) = rests (rest_of e.0)

-- after settle: a play at rest, or the open round again
abbrev pub after_settle : Result Play (OpenRound × Refusal) → Playing
after_settle (Ok p) = rests (rest_of p)
after_settle (Err e) = opened (rest_in e.0) e.0.a
