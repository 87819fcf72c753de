-- Runs of calls on a bench: after each the bench is what the calls and answers say, its verdicts mean strategies and rules of move sets, and
-- every call has an answer.
use Rattle.std.proofs.Common.{◌≡◌, ℕ, zero, suc, ◌<◌, Bool, true, false, cond, eqb, ◌⊎◌, List, ◌∷◌, sym, refl, ap, ◌∙◌, subst, inl, inr, ⊎_elim, arith}
use Rattle.std.proofs.lemmas.Bool.{false≢true, both_ways, cases_Bool, cases_lt, eq-eqb, cases_eq, cond-true, cond-false, ne_eqb}
use Rattle.std.proofs.lemmas.Bool.Decides.{nat_tests}
use Rattle.game.specs.Below.{bit, rank, weigh}
use Rattle.game.specs.Games.{Game, WellFormed}
use Rattle.game.specs.Refusals.{Told, bare, with_value}
use Rattle.game.specs.declared.mode.Mode.{Mode}
use Rattle.game.specs.declared.mode.Mode.TheVariants.{Sure as InSure, Almost as InAlmost}
use Rattle.game.specs.declared.player.Player.{Player}
use Rattle.game.specs.declared.player.Player.TheVariants.{One, Two}
use Rattle.game.proofs.Below.{bit_some, bit_past, bit_in_byte}
use Rattle.game.proofs.Digits.{weigh_byte, bit_byte}
use Rattle.theory.specs.Benches.{Bench, opened, position, Call, mark, unmark, bar, allow, solve, verdict, moves, reply, Rank, Handed, Counts, Answer, done, refused, told, ranked, not_winning, set, replied, Names, Refuses, no_state, bar_no_move, allow_no_move, marked_already, unmarked_already, barred_already, allowed_already, only_move, verdict_unsolved, moves_unsolved, reply_unsolved, moves_not_winning, reply_sure, reply_not_kept, Tells, verdict_ranked, verdict_not_winning, moves_set, replies, with_state, MoveSet, Step, refuses, tells, marks, unmarks, bars, allows, solves, Ran, begins, then}
use Rattle.theory.specs.Positions.{Position, Playable, Keeps}
use Rattle.theory.specs.Verdicts.{Sure, SureRank, Outer, AlmostRank}
use Rattle.theory.proofs.Almost.{almost_decided, almost_ranked, ranked_almost, almost_means}
use Rattle.theory.proofs.Layers.{upto_decided, upto_enters}
use Rattle.theory.proofs.Rounds.{outer_decided, rounds_exist, almost_move_at}
use Rattle.theory.proofs.Sure.{sure_grows, sure_decided, sure_means, never_forced, reply_some, sure_move_into}
use Rattle.theory.proofs.Finite.{Decided, test, test_holds, holds_test, decided_by, decided_and, decided_not, decided_target, decided_keeps, decided_into, move_lt, fails_test, byte_decided, all_or_some_within}
use Rattle.theory.specs.Laws.{Exactly, Latest, Accepted, InTarget, Barred, GivesVerdicts, Judged, BenchLaw, VerdictLaw}

-- what a call makes of a statement B: it is of the first kind, or B held and it is not of the second
abbrev Now : (Call → Answer → Type 0) → (Call → Answer → Type 0) → Call → Answer → Type 0 → Type 0
Now First Second call answer B = First call answer ⊎ (B × (Second call answer → ⊥))

-- a call of neither kind changes nothing
now_same : {First Second B : Type 0} → (First → ⊥) → (Second → ⊥) → Exactly B (First ⊎ (B × (Second → ⊥)))
now_same f s = (λ h. inr (h, s), ⊎_elim (λ h. absurd (f h)) (λ h. h.0))

-- a call of the first kind makes it true, and one of the second kind false
now_first : {First Second A B : Type 0} → First → A → Exactly A (First ⊎ (B × (Second → ⊥)))
now_first f a = (λ _. inl f, λ _. a)

now_second : {First Second A B : Type 0} → (First → ⊥) → Second → (A → ⊥) → Exactly A (First ⊎ (B × (Second → ⊥)))
now_second f s a = (λ h. absurd (a h), ⊎_elim (λ h. absurd (f h)) (λ h. absurd (h.1 s)))

-- one more call
latest_more : (First Second : Call → Answer → Type 0) {A B : Type 0} (calls : List Call) (answers : List Answer) (call : Call) (answer : Answer) → Exactly A (Now First Second call answer B) → Exactly B (Latest First Second calls answers) → Exactly A (Latest First Second (call ∷ calls) (answer ∷ answers))
latest_more First Second calls answers call answer a b = (λ h. ⊎_elim inl (λ i. inr (b.0 i.0, i.1)) (a.0 h), λ h. a.1 (⊎_elim inl (λ i. inr (b.1 i.0, i.1)) h))

-- What one call changes.
record Change (g : Game) (b : Bench) (call : Call) (answer : Answer) (c : Bench) : Type 0 where
  playable_after : Playable (position g b) → Playable (position g c)
  target_after : (s : ℕ) → Exactly (c.target s ≡ true) (Now (Accepted (mark s)) (Accepted (unmark s)) call answer (b.target s ≡ true))
  barred_after : (p : Player) (s m : ℕ) → Exactly (bit (c.kept p s) m ≡ false) (Now (Accepted (bar p s m)) (Accepted (allow p s m)) call answer (bit (b.kept p s) m ≡ false))
  solved_after : Exactly (c.solved ≡ true) (Now (λ call answer. call ≡ solve) (λ call answer. answer ≡ done) call answer (b.solved ≡ true))

-- refusals and questions
change_none : (g : Game) (b : Bench) (call : Call) (answer : Answer) → (call ≡ solve → ⊥) → (answer ≡ done → ⊥) → Change g b call answer b
change_none g b call answer unlike made = record {
  playable_after = λ ok. ok;
  target_after = λ s. now_same (λ h. made h.1) (λ h. made h.1);
  barred_after = λ p s m. now_same (λ h. made h.1) (λ h. made h.1);
  solved_after = now_same unlike made;
}

-- solve is never refused and is no question, and no question is answered as an edit is
pub refuses_solve : {g : Game} {b : Bench} {why : Told} → Refuses g b solve why → ⊥
refuses_solve (no_state call s n l) = n

tells_solve : {g : Game} {b : Bench} {answer : Answer} → Tells g b solve answer → ⊥
tells_solve h = elim h [ ]

tells_done : {g : Game} {b : Bench} {call : Call} → Tells g b call done → ⊥
tells_done h = elim h [ ]

-- marks and unmarks
mark_target : (target : ℕ → Bool) (s t : ℕ) → Exactly (with_state target s true t ≡ true) (Now (Accepted (mark t)) (Accepted (unmark t)) (mark s) done (target t ≡ true))
mark_target target s t =
    ⊎_elim
    (λ e. now_first (rw e refl, refl) (cond-true (eqb t s) true (target t) (eq-eqb t s e)))
    (λ off. rw (ne_eqb t s off) (now_same (λ (h, _). off (cc)) (λ (h, _). grind arith)))
    (cases_eq t s)

unmark_target : (target : ℕ → Bool) (s t : ℕ) → Exactly (with_state target s false t ≡ true) (Now (Accepted (mark t)) (Accepted (unmark t)) (unmark s) done (target t ≡ true))
unmark_target target s t =
    ⊎_elim
    (λ e. now_second (λ (h, _). grind arith) (rw e refl, refl) (both_ways (with_state target s false t) (cond-true (eqb t s) false (target t) (eq-eqb t s e))))
    (λ off. rw (ne_eqb t s off) (now_same (λ (h, _). grind arith) (λ (h, _). off (cc))))
    (cases_eq t s)

-- bars and allows
same_player : (p q : Player) → (p ≡ q) ⊎ (p ≡ q → ⊥)
same_player One One = inl refl
same_player One Two = inr (λ e. grind arith)
same_player Two One = inr (λ e. grind arith)
same_player Two Two = inl refl

same_move : (p q : Player) (s t m n : ℕ) → ((q ≡ p) × (t ≡ s) × (n ≡ m)) ⊎ ((q ≡ p) × (t ≡ s) × (n ≡ m) → ⊥)
same_move p q s t m n = decided_by (λ (e, (f, i)). (e, f, i)) (λ (e, f, i). (e, (f, i))) (decided_and (same_player q p) (decided_and (cases_eq t s) (cases_eq n m)))

move_there : {old new : Player → ℕ → ℕ} {p : Player} {s m : ℕ} {v : Bool} → MoveSet old new p s m v → (q : Player) (t n : ℕ) → (q ≡ p) × (t ≡ s) × (n ≡ m) → bit (new q t) n ≡ v
move_there {new = new} h q t n (e, f, i) = rw (e, f, i) h.there

move_elsewhere : {old new : Player → ℕ → ℕ} {p : Player} {s m : ℕ} {v : Bool} → MoveSet old new p s m v → (q : Player) (t n : ℕ) → ((q ≡ p) × (t ≡ s) × (n ≡ m) → ⊥) → bit (new q t) n ≡ bit (old q t) n
move_elsewhere {old} {new} {p} {s} {m} h q t n off =
    ⊎_elim
    (λ (e, f). rw (e, f) (h.other_moves n (λ i. off (e, f, i))))
    (λ out. ap (λ c. bit c n) (h.elsewhere q t out))
    (decided_and (same_player q p) (cases_eq t s))

move_few : {old new : Player → ℕ → ℕ} {p : Player} {s m : ℕ} {v : Bool} → MoveSet old new p s m v → ((q : Player) (t : ℕ) → old q t < 256) → (q : Player) (t : ℕ) → new q t < 256
move_few {old} {new} {p} {s} h few q t =
    ⊎_elim
    (λ (e, f). rw (e, f) h.few)
    (λ out. rw (h.elsewhere q t out) (few q t))
    (decided_and (same_player q p) (cases_eq t s))

-- one kept move more, or one less, leaves the position playable
move_playable : (g : Game) (b : Bench) (p : Player) (s m i : ℕ) (new : Player → ℕ → ℕ) (v : Bool) → (v ≡ true → bit (g.choices p s) m ≡ true) → bit (new p s) i ≡ true → MoveSet b.kept new p s m v → Playable (position g b) → Playable (record { game = g; kept = new; target = b.target })
move_playable g b p s m i new v had k h ok = record {
  valid = ok.valid;
  kept_had = λ q t n e.
      ⊎_elim
      (λ here. rw (here.0, here.1, here.2) (had (sym (move_there h q t n here) ∙ e)))
      (λ off. ok.kept_had q t n (sym (move_elsewhere h q t n off) ∙ e))
      (same_move p q s t m n);
  some_kept = λ q t l.
      ⊎_elim
      (λ (e, f). rw (e, f) (bit_some (new p s) i k))
      (λ out. rw (h.elsewhere q t out) (ok.some_kept q t l))
      (decided_and (same_player q p) (cases_eq t s));
  few_kept = move_few h ok.few_kept;
}

-- another target leaves it playable
target_playable : (g : Game) (b : Bench) (target : ℕ → Bool) → Playable (position g b) → Playable (record { game = g; kept = b.kept; target = target })
target_playable g b target ok = record { valid = ok.valid; kept_had = ok.kept_had; some_kept = ok.some_kept; few_kept = ok.few_kept }

-- each call
change_step : (g : Game) {b c : Bench} {call : Call} {answer : Answer} → Step g b call answer c → Change g b call answer c
change_step g (refuses b call why h) = change_none g b call (refused why) (λ e. refuses_solve (subst (λ c. Refuses g b c why) e h)) (λ e. grind arith)
change_step g (tells b call answer h) = change_none g b call answer (λ e. tells_solve (subst (λ c. Tells g b c answer) e h)) (λ e. tells_done (subst (Tells g b call) e h))
change_step g (marks b s l n) = record {
  playable_after = target_playable g b _;
  target_after = mark_target b.target s;
  barred_after = λ p t m. now_same (λ (h, _). grind arith) (λ (h, _). grind arith);
  solved_after = now_second (λ h. grind arith) refl false≢true;
}
change_step g (unmarks b s l n) = record {
  playable_after = target_playable g b _;
  target_after = unmark_target b.target s;
  barred_after = λ p t m. now_same (λ (h, _). grind arith) (λ (h, _). grind arith);
  solved_after = now_second (λ h. grind arith) refl false≢true;
}
change_step g (bars b p s m i new l had k other off by) = record {
  playable_after = move_playable g b p s m i new false (λ e. absurd (false≢true e)) (by.other_moves i off ∙ other) by;
  target_after = λ t. now_same (λ (h, _). grind arith) (λ (h, _). grind arith);
  barred_after = λ q t n.
      ⊎_elim
      (λ (e, f, j). now_first (rw (e, f, j) refl, refl) (move_there by q t n (e, f, j)))
      (λ out. rw (move_elsewhere by q t n out) (now_same (λ (h, _). out (cc, cc, cc)) (λ (h, _). grind arith)))
      (same_move p q s t m n);
  solved_after = now_second (λ h. grind arith) refl false≢true;
}
change_step g (allows b p s m new l had n by) = record {
  playable_after = move_playable g b p s m m new true (λ _. had) by.there by;
  target_after = λ t. now_same (λ (h, _). grind arith) (λ (h, _). grind arith);
  barred_after = λ q t i.
      ⊎_elim
      (λ (e, f, j). now_second (λ (h, _). grind arith) (rw (e, f, j) refl, refl) (λ h. both_ways (bit (new q t) i) h (move_there by q t i (e, f, j))))
      (λ out. rw (move_elsewhere by q t i out) (now_same (λ (h, _). grind arith) (λ (h, _). out (cc, cc, cc))))
      (same_move p q s t m i);
  solved_after = now_second (λ h. grind arith) refl false≢true;
}
change_step g (solves b sure almost rounds count more o) = record {
  playable_after = target_playable g b _;
  target_after = λ t. now_same (λ (h, _). grind arith) (λ (h, _). grind arith);
  barred_after = λ q t i. now_same (λ (h, _). grind arith) (λ (h, _). grind arith);
  solved_after = now_first refl refl;
}

-- a call leaves the position playable
pub step_playable : (g : Game) {b c : Bench} {call : Call} {answer : Answer} → Step g b call answer c → Playable (position g b) → Playable (position g c)
step_playable g step = (change_step g step).playable_after

-- a new bench
pub opened_playable : (g : Game) → WellFormed g → Playable (position g (opened g))
opened_playable g ok = record { valid = ok; kept_had = λ p s m e. e; some_kept = ok.some_move; few_kept = ok.few_moves }

module _ (g : Game) (ok : WellFormed g) where
  run_playable : {calls : List Call} {answers : List Answer} {b : Bench} → Ran g calls answers b → Playable (position g b)
  run_playable begins = opened_playable g ok
  run_playable (then run step) = (change_step g step).playable_after (run_playable run)

  run_target : {calls : List Call} {answers : List Answer} {b : Bench} → Ran g calls answers b → (s : ℕ) → Exactly (b.target s ≡ true) (InTarget calls answers s)
  run_target begins s = (false≢true, λ h. absurd h)
  run_target (then {calls} {answers} {call = call} {answer = answer} run step) s = latest_more (Accepted (mark s)) (Accepted (unmark s)) calls answers call answer ((change_step g step).target_after s) (run_target run s)

  run_barred : {calls : List Call} {answers : List Answer} {b : Bench} → Ran g calls answers b → (p : Player) (s m : ℕ) → bit (g.choices p s) m ≡ true → Exactly (bit (b.kept p s) m ≡ false) (Barred calls answers p s m)
  run_barred begins p s m had = (λ e. both_ways (bit (g.choices p s) m) e had, λ h. absurd h)
  run_barred (then {calls} {answers} {call = call} {answer = answer} run step) p s m had = latest_more (Accepted (bar p s m)) (Accepted (allow p s m)) calls answers call answer ((change_step g step).barred_after p s m) (run_barred run p s m had)

  run_solved : {calls : List Call} {answers : List Answer} {b : Bench} → Ran g calls answers b → Exactly (b.solved ≡ true) (GivesVerdicts calls answers)
  run_solved begins = (false≢true, λ h. absurd h)
  run_solved (then {calls} {answers} {call = call} {answer = answer} run step) = latest_more (λ call answer. call ≡ solve) (λ call answer. answer ≡ done) calls answers call answer (change_step g step).solved_after (run_solved run)

  -- after every run the bench is what the calls and answers say
  pub bench_law : {calls : List Call} {answers : List Answer} {b : Bench} → Ran g calls answers b → BenchLaw g calls answers b
  bench_law {b = b} run = record {
    playable = run_playable run;
    in_target = run_target run;
    kept = λ p s m. (
      λ k. let had = (run_playable run).kept_had p s m k in (had, λ barred. both_ways (bit (b.kept p s) m) ((run_barred run p s m had).1 barred) k),
      λ (had, free). ⊎_elim (λ k. k) (λ n. absurd (free ((run_barred run p s m had).0 n))) (cases_Bool (bit (b.kept p s) m)),
    );
    solved = run_solved run;
  }

-- a state has a rank in a mode, or none
rank_decided : (x : Position) → Playable x → (mode : Mode) (s : ℕ) → ((r : ℕ) × Rank x mode r s) ⊎ ((r : ℕ) → Rank x mode r s → ⊥)
rank_decided x ok InSure s = ⊎_elim inl (λ never. inr (λ r h. never r h.0)) (sure_decided x ok s)
rank_decided x ok InAlmost s = ⊎_elim inl (λ never. inr (λ r h. never (ranked_almost x r s h))) (almost_decided x ok s)

-- the ways in which verdict is answered at a state
data Outcome (g : Game) (b : Bench) (mode : Mode) (s : ℕ) : Answer → Type 0 where
  of_unsolved : b.solved ≡ false → Outcome g b mode s (refused (bare 5))
  of_ranked : (r : ℕ) → b.solved ≡ true → Rank (position g b) mode r s → Outcome g b mode s (ranked r)
  of_none : b.solved ≡ true → ((r : ℕ) → Rank (position g b) mode r s → ⊥) → Outcome g b mode s not_winning

verdict_outcome : (g : Game) (mode : Mode) (s : ℕ) → s < g.size → {b c : Bench} {answer : Answer} → Step g b (verdict mode s) answer c → (c ≡ b) × Outcome g b mode s answer
verdict_outcome g mode s l (refuses b _ _ (no_state _ t e m)) = absurd (omega (arith, e))
verdict_outcome g mode s l (refuses b _ _ (verdict_unsolved _ _ m u)) = (refl, of_unsolved u)
verdict_outcome g mode s l (tells b _ _ (verdict_ranked _ _ r m u h)) = (refl, of_ranked r u h)
verdict_outcome g mode s l (tells b _ _ (verdict_not_winning _ _ m u n)) = (refl, of_none u n)

outcome_step : (g : Game) (mode : Mode) (s : ℕ) → s < g.size → {b : Bench} {answer : Answer} → Outcome g b mode s answer → Step g b (verdict mode s) answer b
outcome_step g mode s l {b} (of_unsolved u) = refuses b (verdict mode s) (bare 5) (verdict_unsolved mode s l u)
outcome_step g mode s l {b} (of_ranked r u h) = tells b (verdict mode s) (ranked r) (verdict_ranked mode s r l u h)
outcome_step g mode s l {b} (of_none u n) = tells b (verdict mode s) not_winning (verdict_not_winning mode s l u n)

outcome_judged : {g : Game} {b : Bench} {mode : Mode} {s : ℕ} {answer : Answer} → Outcome g b mode s answer → Exactly (Judged answer) (b.solved ≡ true)
outcome_judged {b = b} (of_unsolved u) = (⊎_elim (λ (r, e). absurd (grind arith)) (λ e. absurd (grind arith)), λ h. absurd (both_ways b.solved u h))
outcome_judged (of_ranked r u h) = (λ _. u, λ _. inl (r, refl))
outcome_judged (of_none u n) = (λ _. u, λ _. inr refl)

outcome_unsolved : {g : Game} {b : Bench} {mode : Mode} {s : ℕ} {answer : Answer} → Outcome g b mode s answer → Exactly (answer ≡ refused (bare 5)) (b.solved ≡ true → ⊥)
outcome_unsolved {b = b} (of_unsolved u) = (λ _. both_ways b.solved u, λ _. refl)
outcome_unsolved (of_ranked r u h) = (λ e. absurd (grind arith), λ n. absurd (n u))
outcome_unsolved (of_none u n) = (λ e. absurd (grind arith), λ f. absurd (f u))

outcome_ranked : {g : Game} {b : Bench} {mode : Mode} {s r : ℕ} → Outcome g b mode s (ranked r) → (b.solved ≡ true) × Rank (position g b) mode r s
outcome_ranked (of_ranked r u h) = (u, h)

outcome_none : {g : Game} {b : Bench} {mode : Mode} {s : ℕ} → Outcome g b mode s not_winning → (b.solved ≡ true) × ((r : ℕ) → Rank (position g b) mode r s → ⊥)
outcome_none (of_none u n) = (u, n)

outcome_some : (g : Game) (b : Bench) → Playable (position g b) → (mode : Mode) (s : ℕ) → (answer : Answer) × Outcome g b mode s answer
outcome_some g b ok mode s =
    ⊎_elim
    (λ u. ⊎_elim (λ (r, h). (ranked r, of_ranked r u h)) (λ n. (not_winning, of_none u n)) (rank_decided (position g b) ok mode s))
    (λ u. (refused (bare 5), of_unsolved u))
    (cases_Bool b.solved)

-- after every run the verdicts mean strategies and rules of move sets
pub verdict_law : (g : Game) → WellFormed g → {calls : List Call} {answers : List Answer} {b : Bench} → Ran g calls answers b → (s : ℕ) → s < g.size → VerdictLaw g calls answers b s
verdict_law g valid {calls} {answers} {b} run s l = record {
  same_bench = λ mode answer c step. (verdict_outcome g mode s l step).0;
  judged = λ mode answer c step. let h = outcome_judged (verdict_outcome g mode s l step).1 in (λ j. known.0 (h.0 j), λ v. h.1 (known.1 v));
  unsolved = λ mode answer c step. let h = outcome_unsolved (verdict_outcome g mode s l step).1 in (λ e v. h.0 e (known.1 v), λ n. h.1 (λ u. n (known.0 u)));
  ranked_sure = λ r. (
    λ step. let (u, h) = ranks InSure r step in (known.0 u, (sure_means x ok r s l).0 h),
    λ (v, f). to_ranked InSure r v ((sure_means x ok r s l).1 f),
  );
  not_sure = (
    λ step. let (u, n) = none InSure step in (known.0 u, never_forced x ok s l n),
    λ (v, n). to_none InSure v (λ r h. let (names, strategy, forces) = ((sure_means x ok r s l).0 h).some_strategy in n names r strategy forces),
  );
  almost_rank = λ r. (λ step. let (u, h) = ranks InAlmost r step in (known.0 u, h), λ (v, h). to_ranked InAlmost r v h);
  ranked_almost = (
    λ (r, step). let (u, h) = ranks InAlmost r step in (known.0 u, (almost_means x ok s l).0 (ranked_almost x r s h)),
    λ (v, k). let (r, h) = almost_ranked x ok s ((almost_means x ok s l).1 k) in (r, to_ranked InAlmost r v h),
  );
  not_almost = (
    λ step. let (u, n) = none InAlmost step in (known.0 u, λ k. let (r, h) = almost_ranked x ok s ((almost_means x ok s l).1 k) in n r h),
    λ (v, n). to_none InAlmost v (λ r h. n ((almost_means x ok s l).0 (ranked_almost x r s h))),
  );
}
  where
    x : Position
    x = position g b

    ok : Playable (position g b)
    ok = run_playable g valid run

    known : Exactly (b.solved ≡ true) (GivesVerdicts calls answers)
    known = run_solved g valid run

    ranks : (mode : Mode) (r : ℕ) → Step g b (verdict mode s) (ranked r) b → (b.solved ≡ true) × Rank (position g b) mode r s
    ranks mode r step = outcome_ranked (verdict_outcome g mode s l step).1

    none : (mode : Mode) → Step g b (verdict mode s) not_winning b → (b.solved ≡ true) × ((r : ℕ) → Rank (position g b) mode r s → ⊥)
    none mode step = outcome_none (verdict_outcome g mode s l step).1

    to_ranked : (mode : Mode) (r : ℕ) → GivesVerdicts calls answers → Rank (position g b) mode r s → Step g b (verdict mode s) (ranked r) b
    to_ranked mode r v h = outcome_step g mode s l (of_ranked r (known.1 v) h)

    to_none : (mode : Mode) → GivesVerdicts calls answers → ((r : ℕ) → Rank (position g b) mode r s → ⊥) → Step g b (verdict mode s) not_winning b
    to_none mode v n = outcome_step g mode s l (of_none (known.1 v) n)

move_set : (old : Player → ℕ → ℕ) (p : Player) (s m : ℕ) (v : Bool) → old p s < 256 → m < 8 → (new : Player → ℕ → ℕ) × MoveSet old new p s m v
move_set old p s m v few l = (
  new,
  record {
    few = rw there (weigh_byte f 8 (omega arith));
    there = rw there (bit_byte f m (λ _. l) ∙ cond-true (eqb m m) v (bit (old p s) m) (eq-eqb m m refl));
    other_moves = λ i off. rw there (bit_byte f i (small i) ∙ cond-false (eqb i m) v (bit (old p s) i) (ne_eqb i m off));
    elsewhere = λ q t out. cond-false (test (here q t)) (weigh f 8) (old q t) (fails_test (here q t) out);
  },
)
  where
    f : ℕ → Bool
    f = with_state (bit (old p s)) m v

    small : (i : ℕ) → f i ≡ true → i < 8
    small i e = grind (arith, nat_tests, bit_past (old p s) 8 i)

    here : (q : Player) (t : ℕ) → Decided ((q ≡ p) × (t ≡ s))
    here q t = decided_and (same_player q p) (cases_eq t s)

    new : Player → ℕ → ℕ
    new q t = cond (test (here q t)) (weigh f 8) (old q t)

    there : new p s ≡ weigh f 8
    there = cond-true (test (here p s)) (weigh f 8) (old p s) (holds_test (here p s) (refl, refl))

-- what is decided can be counted
counted : (P : ℕ → Type 0) (n : ℕ) → ((s : ℕ) → Decided (P s)) → (k : ℕ) × Counts P n k
counted P n d = (rank (λ s. test (d s)) n, record { passes = λ s. test (d s); sound = λ s l e. test_holds (d s) e; whole = λ s l h. holds_test (d s) h; many = refl })

-- the moves handed out at a state with a rank are decided, and make a byte
module _ (x : Position) (ok : Playable x) where
  handed_decided : (mode : Mode) (r s : ℕ) → Rank x mode r s → (a : ℕ) → Decided (Handed x mode s a)
  handed_decided InSure zero s h a = inr (λ (r, e, _, _). e.1 0 (omega arith) h.0)
  handed_decided InSure (suc r) s h a =
      decided_by
      (λ (k, into). (r, h, k, into))
      (sure_move_into x ok r s a h)
      (decided_and (decided_keeps x One s a) (decided_into ok (Sure x r) (upto_decided (sure_grows x ok) r) s a))
  handed_decided InAlmost r s h a =
      let (j, rounds, here) = ranked_almost x r s h in
      decided_by
      (λ (n, (k, into)). (n, (j, rounds, here, (k, into))))
      (λ m. (m.0, (almost_move_at x j rounds s a m).1))
      (decided_and (decided_not (decided_target x s)) (decided_and (decided_keeps x One s a) (decided_into ok (Outer x j) (outer_decided ok j) s a)))

  handed_kept : (mode : Mode) (s a : ℕ) → Handed x mode s a → Keeps x One s a
  handed_kept InSure s a (r, _, k, _) = k
  handed_kept InAlmost s a (_, (j, _, _, stay)) = stay.0

  handed_byte : (mode : Mode) (r s : ℕ) → Rank x mode r s → (c : ℕ) × (c < 256) × ((a : ℕ) → (bit c a ≡ true → Handed x mode s a) × (Handed x mode s a → bit c a ≡ true))
  handed_byte mode r s h = (
    weigh (λ a. test (d a)) 8,
    weigh_byte (λ a. test (d a)) 8 (omega arith),
    byte_decided (Handed x mode s) d (λ a m. move_lt ok One s a (handed_kept mode s a m)),
  )
    where
      d : (a : ℕ) → Decided (Handed x mode s a)
      d = handed_decided mode r s h

-- Every call has an answer.
abbrev Answered : Game → Bench → Call → Type 0
Answered g b call = (answer : Answer) × ((c : Bench) × Step g b call answer c)

module _ (g : Game) (b : Bench) (ok : Playable (position g b)) where
  refusal : (call : Call) (why : Told) → Refuses g b call why → Answered g b call
  refusal call why h = (refused why, (b, refuses b call why h))

  within : (call : Call) (s : ℕ) → Names call s → (s < g.size → Answered g b call) → Answered g b call
  within call s n f = ⊎_elim f (λ l. refusal call (with_value 1 s) (no_state call s n l)) (cases_lt s g.size)

  pub call_answered : (call : Call) → Answered g b call
  call_answered (mark s) = within (mark s) s refl (λ l. ⊎_elim (λ e. refusal (mark s) (bare 3) (marked_already s l e)) (λ e. (done, (_, marks b s l e))) (cases_Bool (b.target s)))
  call_answered (unmark s) = within (unmark s) s refl (λ l. ⊎_elim (λ e. (done, (_, unmarks b s l e))) (λ e. refusal (unmark s) (bare 3) (unmarked_already s l e)) (cases_Bool (b.target s)))
  call_answered (bar p s m) =
      within (bar p s m) s refl (λ l.
      ⊎_elim
      (λ had.
      ⊎_elim
      (λ k.
      ⊎_elim
      (λ only. refusal (bar p s m) (bare 4) (only_move p s m l had k only))
      (λ (i, other, off). let (new, h) = move_set b.kept p s m false (ok.few_kept p s) (move_lt ok p s m k) in (done, (_, bars b p s m i new l had k other off h)))
      (all_or_some_within 8 (Keeps (position g b) p s) (λ i. i ≡ m) (λ i. i ≡ m → ⊥) (move_lt ok p s) (decided_keeps (position g b) p s) (λ i. cases_eq i m)))
      (λ n. refusal (bar p s m) (bare 3) (barred_already p s m l had n))
      (cases_Bool (bit (b.kept p s) m)))
      (λ n. refusal (bar p s m) (with_value 2 m) (bar_no_move p s m l n))
      (cases_Bool (bit (g.choices p s) m)))
  call_answered (allow p s m) =
      within (allow p s m) s refl (λ l.
      ⊎_elim
      (λ had.
      ⊎_elim
      (λ k. refusal (allow p s m) (bare 3) (allowed_already p s m l had k))
      (λ n. let (new, h) = move_set b.kept p s m true (ok.few_kept p s) (bit_in_byte (g.choices p s) m (ok.valid.few_moves p s) had) in (done, (_, allows b p s m new l had n h)))
      (cases_Bool (bit (b.kept p s) m)))
      (λ n. refusal (allow p s m) (with_value 2 m) (allow_no_move p s m l n))
      (cases_Bool (bit (g.choices p s) m)))
  call_answered solve =
      let (i, h) = counted (λ s. (r : ℕ) × SureRank (position g b) r s) g.size (λ s. ⊎_elim inl (λ n. inr (λ (r, e). n r e)) (rank_decided (position g b) ok InSure s)) in
      let (j, k) = counted (λ s. (r : ℕ) × AlmostRank (position g b) r s) g.size (λ s. ⊎_elim inl (λ n. inr (λ (r, e). n r e)) (rank_decided (position g b) ok InAlmost s)) in
      let (n, rounds) = rounds_exist (position g b) ok in
      (told i j n, (_, solves b i j n h k rounds))
  call_answered (verdict mode s) = within (verdict mode s) s refl (λ l. let (answer, h) = outcome_some g b ok mode s in (answer, (b, outcome_step g mode s l h)))
  call_answered (moves mode s) =
      within (moves mode s) s refl (λ l.
      ⊎_elim
      (λ u.
      ⊎_elim
      (λ (r, h). let (c, small, those) = handed_byte (position g b) ok mode r s h in (set c, (b, tells b (moves mode s) (set c) (moves_set mode s r c l u h small those))))
      (λ n. refusal (moves mode s) (bare 6) (moves_not_winning mode s l u n))
      (rank_decided (position g b) ok mode s))
      (λ u. refusal (moves mode s) (bare 5) (moves_unsolved mode s l u))
      (cases_Bool b.solved))
  call_answered (reply s a) =
      within (reply s a) s refl (λ l.
      ⊎_elim
      (λ u.
      ⊎_elim
      (λ (r, h). refusal (reply s a) (bare 7) (reply_sure s a r l u h))
      (λ n.
      ⊎_elim
      (λ k.
      let (m, (t, h)) = reply_some (position g b) ok s a l (λ i e. let (r, _, f) = upto_enters (sure_grows (position g b) ok) i s e in n r f) k in
      (replied m t, (b, tells b (reply s a) (replied m t) (replies s a m t l u n k h))))
      (λ e. refusal (reply s a) (with_value 8 a) (reply_not_kept s a l u n e))
      (cases_Bool (bit (b.kept One s) a)))
      (rank_decided (position g b) ok InSure s))
      (λ u. refusal (reply s a) (bare 5) (reply_unsolved s a l u))
      (cases_Bool b.solved))
