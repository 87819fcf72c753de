use Rattle.std.proofs.Common.{ℕ, ◌<◌, get_or}
use Rattle.game.specs.declared.player.Player.TheVariants.{Two}
use Rattle.theory.specs.Positions.{Keeps, Leads}
use Rattle.bench.specs.Held.{position}
use Rattle.bench.proofs.Questions.{HeldSure}
use Rattle.bench.proofs.bench.Bench.find_reply.Given as goal

-- each reply so far has only successors that are sure by the verdicts held
abbrev pub invariant-loop-b : goal.invariant-loop-b
invariant-loop-b g l =
    (b : ℕ) → b < l.b → Keeps (position l.self) Two l.state b → (t : ℕ) → Leads (position l.self) l.state l.a b t → HeldSure l.self.entries.at t

-- each member of the support so far is sure by the verdicts held
abbrev pub invariant-loop-k : goal.invariant-loop-k
invariant-loop-k g l = (k : ℕ) → k < l.k → HeldSure l.self.entries.at (get_or ((g.S.Source.game l.self.source).support l.state l.a l.b) k 0)
