-- A play from a sure state, guided by the moves handed out, arrives.
use Rattle.std.proofs.Common.{◌≡◌, ℕ, suc, ◌+◌, ◌≤◌, true, false, ◌||◌, ◌⊎◌, List, Some, subst, inl, inr, ⊎_elim, arith}
use Rattle.std.proofs.lemmas.Bool.{both_ways, cases_Bool, cases_lt, or_left, or_right}
use Rattle.game.specs.declared.player.Player.TheVariants.{Two}
use Rattle.theory.specs.Plays.{Arrives, Begin, begin_taken, taken, Rest, Play, Call, Answer, Step, commit_not_kept, commit_full, commits, settle_not_kept, settle_outside, settles, abandons, Played, begins, then, Follows, Guided, resting, settled}
use Rattle.theory.specs.Positions.{Position, Keeps, Leads}
use Rattle.theory.specs.Verdicts.{Sure, SureRank, SureMove}

module _ (x : Position) (r : ℕ) where
  -- A target state counts as met, and where none was met the state is in the ranks up to what is left of r.
  abbrev OnTheWay : Rest → Type 0
  OnTheWay p = (x.target p.state ≡ true → p.met ≡ true) × ((p.met ≡ true) ⊎ ((q : ℕ) × (p.rounds + q ≤ r) × Sure x q p.state))

  settled_on : (p : Rest) (a b t : ℕ) → OnTheWay p → Keeps x Two p.state b → Leads x p.state a b t → (p.met ≡ false → SureMove x p.state a) → OnTheWay (settled x p t)
  settled_on p a b t way k l f = (or_right p.met (x.target t), ⊎_elim (λ m. inl (or_left p.met (x.target t) m)) going_on (cases_Bool p.met))
    where
      going_on : p.met ≡ false → ((p.met || x.target t) ≡ true) ⊎ ((q : ℕ) × (p.rounds + 1 + q ≤ r) × Sure x q t)
      going_on n =
          ⊎_elim
          (λ m. absurd (both_ways p.met n m))
          (λ w.
          let (q, rank, _, into) = f n in
          ⊎_elim (λ low. absurd (rank.1 w.0 low w.2)) (λ high. inr (q, omega (arith, w.1), into b k t l)) (cases_lt w.0 (suc q)))
          way.1

  step_on : {p q : Play} {call : Call} {answer : Answer} (step : Step x p call answer q) → Follows step → OnTheWay (resting p) → OnTheWay (resting q)
  step_on (commit_not_kept p a n) f way = way
  step_on (commit_full p a k l) f way = way
  step_on (commits p a k l) f way = way
  step_on (settle_not_kept p a b t n) f way = way
  step_on (settle_outside p a b t k n) f way = way
  step_on (settles p a b t k l) f way = settled_on p a b t way k l f
  step_on (abandons p a) f way = way

  begun_on : (s : ℕ) → SureRank x r s → (p : Rest) → Begin x true s taken (Some p) → OnTheWay p
  begun_on s rank p (begin_taken l e) = (λ e. e, inr (r, omega arith, rank.0))

  played_on : (s : ℕ) → SureRank x r s → {calls : List Call} {answers : List Answer} {p : Play} (run : Played x s calls answers p) → Guided run → OnTheWay (resting p)
  played_on s rank (begins p b) g = begun_on s rank p b
  played_on s rank (then run step) g = step_on step g.1 (played_on s rank run g.0)

  -- once r rounds are settled the target was met
  play_arrives : (s : ℕ) → SureRank x r s → {calls : List Call} {answers : List Answer} {p : Play} (run : Played x s calls answers p) → Guided run → r ≤ (resting p).rounds → (resting p).met ≡ true
  play_arrives s rank {p = p} run g done =
      let way = played_on s rank run g in
      ⊎_elim
      (λ m. m)
      (λ (q, l, h). way.0 (subst (λ q. Sure x q (resting p).state) {y = 0} (omega arith) h).1)
      way.1

pub arrives : (x : Position) → Arrives x
arrives x r s rank calls answers p run g done = play_arrives x r s rank run g done
