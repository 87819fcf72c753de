-- What calls and answers of a bench stand for, and what a list of them comes to.
use Rattle.std.specs.Prelude.{◌≡◌, ℕ, ◌<◌, ◌≤◌, List, map, reverse, length, take, drop, Result}
use Rattle.game.specs.Games.{Game}
use Rattle.game.specs.Refusals.{Told, bare}
use Rattle.game.specs.declared.refusal.Refusal.{Refusal}
use Rattle.theory.specs.Benches.{Bench as Held, Ran, mark, unmark, bar, allow, solve, verdict, moves, reply, done, told as told_counts, set}
use Rattle.theory.specs.Benches as benches
use Rattle.theory.specs.Laws.{BenchLaw, VerdictLaw}
use Rattle.theory.specs.Plays.{Arrives}
use Rattle.bench.specs.Answers.{answered, rank_said, reply_said}
use Rattle.runs.specs.declared.call.Answer.{Answer}
use Rattle.runs.specs.declared.call.Answer.TheVariants.{Done, Told as ToldCounts, Ranked, Set, Replied}
use Rattle.runs.specs.declared.call.Call.{Call}
use Rattle.runs.specs.declared.call.Call.TheVariants.{Mark, Unmark, Bar, Allow, Solve, Verdict, Moves, Reply}

abbrev pub call_of : Call → benches.Call
call_of (Mark s) = mark s
call_of (Unmark s) = unmark s
call_of (Bar p s m) = bar p s m
call_of (Allow p s m) = allow p s m
call_of Solve = solve
call_of (Verdict mode s) = verdict mode s
call_of (Moves mode s) = moves mode s
call_of (Reply s a) = reply s a

-- what the value of a call answers
abbrev pub says : Answer → benches.Answer
says Done = done
says (ToldCounts tally) = told_counts tally.sure tally.almost tally.rounds
says (Ranked rank) = rank_said rank
says (Set c) = set c
says (Replied back) = reply_said back

abbrev pub answer_of : Result Answer Refusal → benches.Answer
answer_of = answered says

-- a list of calls, the latest first
abbrev pub calls_of : List Call → List benches.Call
calls_of calls = map call_of (reverse calls)

abbrev pub answers_of : List (Result Answer Refusal) → List benches.Answer
answers_of answers = map answer_of (reverse answers)

-- What a list of calls on a new bench comes to: the answers are those of the calls, one after the other, and what lay behind them stays.
-- After it the target, the kept moves and whether verdicts are given are what the calls and answers say; the verdicts tell what
-- strategies and rules of move sets can do, at every state; and plays that follow them arrive.
pub record RanAll (g : Game) (calls : List Call) (old new : List (Result Answer Refusal)) (b : Held) : Type 0 where
  pub room : length calls ≤ length old
  pub ran : Ran g (calls_of calls) (answers_of (take (length calls) new)) b
  pub behind : drop (length calls) new ≡ drop (length calls) old
  pub law : BenchLaw g (calls_of calls) (answers_of (take (length calls) new)) b
  pub verdicts : (s : ℕ) → s < g.size → VerdictLaw g (calls_of calls) (answers_of (take (length calls) new)) b s
  pub plays : Arrives (benches.position g b)

-- There is no room for the answers; none is written.
pub record NoRoom (calls : List Call) (old new : List (Result Answer Refusal)) (t : Told) : Type 0 where
  pub short : length old < length calls
  pub same : new ≡ old
  pub why : t ≡ bare 21
