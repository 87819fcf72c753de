use Rattle.std.proofs.Common.{◌≡◌, ℕ, ◌<◌, true, get_or}
use Rattle.game.specs.Below.{bit}
use Rattle.game.specs.declared.player.Player.TheVariants.{Two}
use Rattle.theory.specs.Positions.{Keeps, Leads}
use Rattle.theory.specs.Ranking.{Within}
use Rattle.solver.specs.Positions.{meant}
use Rattle.solver.proofs.position.Position.can_lead.Given as goal

-- for each reply so far some move can lead into the ranks
abbrev pub invariant-replies : goal.invariant-replies
invariant-replies g l =
    let x = meant g.S.Source.game l.self in
    (b : ℕ) → b < l.b → Keeps x Two l.state b → (a : ℕ) × (bit l.moves a ≡ true) × ((t : ℕ) × Leads x l.state a b t × Within l.ranks.at l.level t)

-- no move so far can lead into the ranks
abbrev pub invariant-loop-a : goal.invariant-loop-a
invariant-loop-a g l =
    let x = meant g.S.Source.game l.self in
    (a : ℕ) → a < l.a → bit l.moves a ≡ true → (t : ℕ) → Leads x l.state a l.b t → Within l.ranks.at l.level t → ⊥

-- no member of the support so far is in the ranks
abbrev pub invariant-loop-k : goal.invariant-loop-k
invariant-loop-k g l = (k : ℕ) → k < l.k → Within l.ranks.at l.level (get_or ((g.S.Source.game l.self.source.now).support l.state l.a l.b) k 0) → ⊥
