use Rattle.std.proofs.Common.{◌≡◌, ℕ, ◌<◌, true, not, eqb, arith}
use Rattle.std.proofs.lemmas.Bool.{not-true, not_from_false, eqb-false, ne_eqb}
use Rattle.game.specs.Below.{bit}
use Rattle.game.proofs.Below.{bit_some}
use Rattle.theory.specs.Laws.{Exactly}
use Rattle.theory.specs.Positions.{Position, State}
use Rattle.theory.specs.Ranking.{Within}
use Rattle.theory.specs.Verdicts.{Stay, Forced}
use Rattle.theory.proofs.Supports.{byte_found}
use Rattle.solver.specs.Positions.{meant}
use Rattle.solver.proofs.levels.ForceStep.enters.Goals as goal

-- some kept move leads into X exactly when the set of all such moves is not empty
forces : (x : Position) (X : ℕ → Type 0) (s moves : ℕ) → State x s → moves < 256 → ((a : ℕ) → Exactly (bit moves a ≡ true) (Stay x X s a)) → Exactly (not (eqb moves 0) ≡ true) (Forced x X s)
forces x X s moves state small all = (
  (λ e.
      let some = eqb-false moves 0 (not-true (eqb moves 0) e) in
      let (a, stands) = byte_found moves (omega arith) small in
      let (kept, into) = (all a).0 stands in
      (state, (a, kept, into))),
  (λ (_, (a, kept, into)).
      let some = bit_some moves a ((all a).1 (kept, into)) in
      not_from_false (eqb moves 0) (ne_eqb moves 0 (λ z. omega arith))),
)

pub returns : goal.returns
returns g c =
    forces (meant g.S.Source.game c.args.self.now.links.now.position) (Within c.args.ranks.now.at c.args.level) c.args.state c.moves_into.result c.requires c.moves_into.type_inv c.moves_into.ensures
