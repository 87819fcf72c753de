-- What solve leaves.
use Rattle.std.proofs.Common.{◌≡◌, ℕ, ◌<◌, Bool, true, List, sym, refl, subst}
use mathlib.Core.Path.{fun_ext}
use Rattle.game.specs.Games.{Game}
use Rattle.game.specs.declared.mode.Mode.{Mode}
use Rattle.game.specs.declared.player.Player.{Player}
use Rattle.theory.specs.Benches.{Counts, Step, solves, solve, told}
use Rattle.theory.specs.Positions.{Position, Playable}
use Rattle.theory.specs.Ranking.{RankSays, MovesSay}
use Rattle.theory.specs.Verdicts.{SureRank, AlmostRank, OuterRounds}
use Rattle.solver.specs.Entries.{kept_in, target_in, verdict_in, position_of, rank_of, moves_of}
use Rattle.solver.specs.declared.entries.Entry.{Entry}
use Rattle.bench.specs.Sound.{Sound}
use Rattle.bench.proofs.Edits.{bench_of, bench_is}

module _ (g : Game) (es new : List Entry) (kept : (p : Player) (s : ℕ) → kept_in new p s ≡ kept_in es p s) (target : (s : ℕ) → target_in new s ≡ target_in es s) where
  same_kept : kept_in es ≡ kept_in new
  same_kept = fun_ext (λ p. fun_ext (λ s. sym (kept p s)))

  same_target : target_in es ≡ target_in new
  same_target = fun_ext (λ s. sym (target s))

  same_position : position_of g es ≡ position_of g new
  same_position = position_is same_kept same_target
    where
      position_is : {kept kept' : Player → ℕ → ℕ} {target target' : ℕ → Bool} → kept ≡ kept' → target ≡ target' → ◌≡◌ {A = Position} (record { game = g; kept = kept; target = target }) (record { game = g; kept = kept'; target = target' })
      position_is e f = rw (e, f) refl

  pub solve_step : (solved : Bool) (sure almost rounds : ℕ) → Counts (λ s. (r : ℕ) × SureRank (position_of g es) r s) g.size sure → Counts (λ s. (r : ℕ) × AlmostRank (position_of g es) r s) g.size almost → OuterRounds (position_of g es) rounds → Step g (bench_of es solved) solve (told sure almost rounds) (bench_of new true)
  solve_step solved sure almost rounds first second outer =
      subst (Step g (bench_of es solved) solve (told sure almost rounds)) (bench_is same_target same_kept true) (solves (bench_of es solved) sure almost rounds first second outer)

  pub solve_sound : Playable (position_of g es) → ((mode : Mode) (s : ℕ) → s < g.size → RankSays (position_of g es) mode s (rank_of (verdict_in new mode s))) → ((mode : Mode) (s : ℕ) → s < g.size → MovesSay (position_of g es) mode s (moves_of (verdict_in new mode s))) → ∥ Sound g new true ∥₁
  solve_sound ok ranks moves = ∣ record {
    playable = subst Playable same_position ok;
    ranks = λ _ mode s l. subst (λ x. RankSays x mode s (rank_of (verdict_in new mode s))) same_position (ranks mode s l);
    moves = λ _ mode s l. subst (λ x. MovesSay x mode s (moves_of (verdict_in new mode s))) same_position (moves mode s l);
  } ∣₁
