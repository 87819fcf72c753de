-- A list of calls on a new bench, as far as it was made.
use Rattle.std.proofs.Common.{◌≡◌, ℕ, ◌+◌, ◌<◌, ◌≤◌, List, [], length, get_or, take, drop, set, sym, refl, ◌∙◌, subst, arith, Result}
use Rattle.std.proofs.lemmas.List.{drop-set-lt, length-set, take_all}
use Rattle.game.specs.Games.{WellFormed}
use Rattle.game.specs.declared.refusal.Refusal.{Refusal}
use Rattle.game.specs.declared.source.Source.{Ghosts}
use Rattle.theory.specs.Benches.{Ran, begins, then, Step, opened, position}
use Rattle.theory.proofs.Benches.{bench_law, verdict_law}
use Rattle.theory.proofs.Plays.{arrives}
use Rattle.bench.specs.Held.{game_of, held}
use Rattle.bench.specs.declared.bench.Bench.{Bench}
use Rattle.runs.specs.Calls.{call_of, answer_of, calls_of, answers_of, RanAll}
use Rattle.runs.specs.declared.call.Answer.{Answer}
use Rattle.runs.specs.declared.call.Call.{Call}
use Rattle.runs.proofs.Lists.{latest_more, latest_set}

module _ {S : Type 0} {meaning : Ghosts S} (source : S) (calls : List Call) (old : List (Result Answer Refusal)) where
  -- the first i calls were made, and their answers written
  pub record Made (new : List (Result Answer Refusal)) (i : ℕ) (b : Bench S meaning) : Type 0 where
    pub same_source : b.source ≡ source
    pub ran : Ran (meaning.game source) (calls_of (take i calls)) (answers_of (take i new)) (held b)
    pub size : length new ≡ length old
    pub behind : drop (length calls) new ≡ drop (length calls) old

  pub made_none : (b : Bench S meaning) → b.source ≡ source → held b ≡ opened (meaning.game source) → Made old 0 b
  made_none b same is = record { same_source = same; ran = subst (Ran (meaning.game source) [] []) (sym is) begins; size = refl; behind = refl }

  pub made_more : (new : List (Result Answer Refusal)) (i : ℕ) (b c : Bench S meaning) (call : Call) (answer : Result Answer Refusal) → Made new i b → i < length calls → length calls ≤ length old → call ≡ get_or calls i call → c.source ≡ b.source → Step (game_of b) (held b) (call_of call) (answer_of answer) (held c) → Made (set new i answer) (i + 1) c
  made_more new i b c call answer made l room is same step = record {
    same_source = same ∙ made.same_source;
    ran =
        rw (latest_more call_of calls i call l is, latest_set answer_of new i answer (omega (arith, made.size)))
        (then made.ran (subst (λ s. Step (meaning.game s) (held b) (call_of call) (answer_of answer) (held c)) made.same_source step));
    size = length-set new i answer ∙ made.size;
    behind = drop-set-lt (length calls) new i answer l ∙ made.behind;
  }

  pub made_all : WellFormed (meaning.game source) → (new : List (Result Answer Refusal)) (i : ℕ) (b : Bench S meaning) → length calls ≤ length old → i ≡ length calls → Made new i b → RanAll (meaning.game source) calls old new (held b)
  made_all valid new i b room end made =
      let g = meaning.game source in
      let run : Ran g (calls_of calls) (answers_of (take (length calls) new)) (held b) =
      subst (λ cs. Ran g (calls_of cs) (answers_of (take (length calls) new)) (held b)) (take_all (length calls) calls (omega arith)) (subst (λ n. Ran g (calls_of (take n calls)) (answers_of (take n new)) (held b)) end made.ran) in
      record {
        room = room;
        ran = run;
        behind = made.behind;
        law = bench_law g valid run;
        verdicts = verdict_law g valid run;
        plays = arrives (position g (held b));
      }
