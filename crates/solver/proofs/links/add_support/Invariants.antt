use Rattle.std.proofs.Common.{◌≡◌, ℕ, ◌<◌, true, length, get_or}
use Rattle.solver.specs.Links.{link}
use Rattle.solver.proofs.Linking.{Grows}
use Rattle.solver.proofs.links.add_support.Given as goal

-- what was noted stays so, and the state is noted before the members of the support so far
abbrev pub invariant-loop-k : goal.invariant-loop-k
invariant-loop-k g l = record {
  whole : length l.before ≡ 256;
  grows : Grows l.initial.before l.before;
  noted : (k : ℕ) → k < l.k → link l.before l.state (get_or ((g.S.Source.game l.source).support l.state l.a l.b) k 0) ≡ true;
}
