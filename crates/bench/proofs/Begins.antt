-- How a play begins.
use Rattle.std.proofs.Common.{◌≡◌, ℕ, ◌<◌, Bool, true, Some, None}
use Rattle.game.specs.Refusals.{Told}
use Rattle.game.specs.declared.source.Source.{Ghosts}
use Rattle.solver.specs.Entries.{target_in}
use Rattle.theory.specs.Plays.{Begin, begin_no_state, begin_unsolved, begin_taken, taken, refused}
use Rattle.bench.specs.Held.{game_of, position, NotAsked, lacks_state, unsolved}
use Rattle.bench.specs.declared.bench.Bench.{Bench}

pub not_begun : {S : Type 0} {meaning : Ghosts S} {b : Bench S meaning} {s : ℕ} {t : Told} → NotAsked b s t → Begin (position b) b.solved s (refused t) None
not_begun (lacks_state l is) = rw is (begin_no_state l)
not_begun (unsolved l e is) = rw is (begin_unsolved l e)

pub begun_here : {S : Type 0} {meaning : Ghosts S} (b : Bench S meaning) (s : ℕ) {met : Bool} → s < (game_of b).size → b.solved ≡ true → met ≡ target_in b.entries.at s → Begin (position b) b.solved s taken (Some (record { state = s; rounds = 0; met = met }))
begun_here b s l e is = rw is (begin_taken l e)
