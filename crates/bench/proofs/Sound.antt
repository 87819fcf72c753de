-- A bench is sound: the fact is taken out of its truncated form, since each part has at most one proof or can be tested.
use Rattle.std.proofs.Common.{ℕ, Bool, ◌↔◌, List, Some, None, Option}
use mathlib.Core.Logic.{∥∥₁_elim, ∥∥₁_map}
use Rattle.std.proofs.Props.{props}
use Rattle.game.specs.Games.{Game, WellFormed}
use Rattle.game.specs.declared.mode.Mode.{Mode}
use Rattle.game.specs.declared.mode.Mode.TheVariants.{Sure as InSure, Almost as InAlmost}
use Rattle.theory.specs.Benches.{Handed}
use Rattle.theory.specs.Positions.{Position, Playable}
use Rattle.theory.specs.Ranking.{RankSays, MovesSay}
use Rattle.theory.proofs.Computed.{sure_rank_some, sure_set_holds, almost_rank_some, almost_set_holds}
use Rattle.solver.specs.Entries.{position_of, verdict_in, rank_of, moves_of}
use Rattle.solver.specs.declared.entries.Entry.{Entry}
use Rattle.bench.specs.Sound.{Sound}

tested : {A B : Type 0} → IsProp B → B ↔ A → ∥ A ∥₁ → A
tested prop test t = test.0 (∥∥₁_elim t prop test.1)

module _ (x : Position) (ok : Playable x) where
  rank_known : (mode : Mode) (s : ℕ) (v : Option ℕ) → ∥ RankSays x mode s v ∥₁ → RankSays x mode s v
  rank_known mode s None t = λ r h. ∥∥₁_elim t (hlevel props) (λ none. none r h)
  rank_known InSure s (Some r) t = tested (hlevel props) (sure_rank_some ok r s) t
  rank_known InAlmost s (Some r) t = tested (hlevel props) (almost_rank_some ok r s) t

  handed_known : (mode : Mode) (s a : ℕ) → ∥ Handed x mode s a ∥₁ → Handed x mode s a
  handed_known InSure s a = tested (hlevel props) (sure_set_holds ok s a)
  handed_known InAlmost s a = tested (hlevel props) (almost_set_holds ok s a)

  moves_known : (mode : Mode) (s c : ℕ) → ∥ MovesSay x mode s c ∥₁ → MovesSay x mode s c
  moves_known mode s c t a = (
    λ on. handed_known mode s a (∥∥₁_map t (λ says. (says a).0 on)),
    λ h. ∥∥₁_elim t (hlevel props) (λ says. (says a).1 h),
  )

module _ {g : Game} {entries : List Entry} {solved : Bool} (valid : WellFormed g) (sound : ∥ Sound g entries solved ∥₁) where
  pub playable_known : Playable (position_of g entries)
  playable_known = record {
    valid = valid;
    kept_had = λ p s m k. ∥∥₁_elim sound (hlevel props) (λ so. so.playable.kept_had p s m k);
    some_kept = λ p s l. ∥∥₁_elim sound (hlevel props) (λ so. so.playable.some_kept p s l);
    few_kept = λ p s. ∥∥₁_elim sound (hlevel props) (λ so. so.playable.few_kept p s);
  }

  pub sound_known : Sound g entries solved
  sound_known = record {
    playable = playable_known;
    ranks = λ e mode s l. rank_known (position_of g entries) playable_known mode s (rank_of (verdict_in entries mode s)) (∥∥₁_map sound (λ so. so.ranks e mode s l));
    moves = λ e mode s l. moves_known (position_of g entries) playable_known mode s (moves_of (verdict_in entries mode s)) (∥∥₁_map sound (λ so. so.moves e mode s l));
  }
