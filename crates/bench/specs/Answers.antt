-- What the calls of a bench answer.
use Rattle.std.specs.Prelude.{ℕ, Bool, true, false, Some, None, Ok, Err, Option, Result}
use Rattle.game.specs.Refusals.{told}
use Rattle.game.specs.declared.refusal.Refusal.{Refusal}
use Rattle.theory.specs.Benches.{Call, mark, unmark, Answer, done, refused, ranked, not_winning, set, replied}
use Rattle.bench.specs.declared.bench.Reply.{Reply}

-- a state is put into the target, or taken out
abbrev pub target_call : Bool → ℕ → Call
target_call true s = mark s
target_call false s = unmark s

-- what a call answers: what `says` makes of its value, or why it is refused
abbrev pub answered : {A : Type 0} → (A → Answer) → Result A Refusal → Answer
answered says (Ok a) = says a
answered says (Err why) = refused (told why)

-- the rank of a state, or that it is not winning
abbrev pub rank_said : Option ℕ → Answer
rank_said (Some rank) = ranked rank
rank_said None = not_winning

-- the answers to an edit, to verdict, to moves and to reply
abbrev pub edited : Result Unit Refusal → Answer
edited = answered (λ _. done)

abbrev pub judged : Result (Option ℕ) Refusal → Answer
judged = answered rank_said

abbrev pub handed : Result ℕ Refusal → Answer
handed = answered set

abbrev pub reply_said : Reply → Answer
reply_said reply = replied reply.b reply.successor

abbrev pub countered : Result Reply Refusal → Answer
countered = answered reply_said
