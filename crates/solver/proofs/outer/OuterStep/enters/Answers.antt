use Rattle.std.proofs.Common.{◌≡◌, ℕ, true, get_or}
use Rattle.game.specs.Below.{bit}
use Rattle.theory.specs.Laws.{Exactly}
use Rattle.theory.specs.Positions.{Position}
use Rattle.theory.specs.Ranking.{Within}
use Rattle.theory.specs.Verdicts.{Stay, Touches}
use Rattle.solver.specs.Moves.{CanLead}
use Rattle.solver.specs.Positions.{meant}
use Rattle.solver.proofs.outer.OuterStep.enters.Goals as goal

-- a state of Y touches X exactly when its stay moves can lead there
touches : (x : Position) (Y X : ℕ → Type 0) (s moves : ℕ) → Y s → ((a : ℕ) → Exactly (bit moves a ≡ true) (Stay x Y s a)) → Exactly (CanLead x moves X s) (Touches x Y X s)
touches x Y X s moves within all = (
  (λ can. (within, λ b kept. let (a, stands, next) = can b kept in (a, (all a).0 stands, next))),
  (λ (_, can) b kept. let (a, stay, next) = can b kept in (a, (all a).1 stay, next)),
)

pub returns-then-within : goal.returns-then-within
returns-then-within g c =
    let outer = c.args.self.now in
    let s = c.args.state in
    let within : Within outer.ranks.at 255 s = cc in
    let (to, back) = touches (meant g.S.Source.game outer.links.now.position) (Within outer.ranks.at 255) (Within c.args.ranks.now.at c.args.level) s (get_or outer.stay s 0) within (outer.stays s within) in
    let can = rw c.from.ensures at c.can_lead.ensures in
    ((λ e. to (can.0 e)), (λ h. can.1 (back h)))
