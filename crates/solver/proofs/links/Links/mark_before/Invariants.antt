use Rattle.std.proofs.Common.{◌≡◌, ℕ, ◌<◌, ◌≤◌, false, ◌||◌, length, get_or}
use Rattle.solver.specs.Links.{link}
use Rattle.solver.proofs.links.Links.mark_before.Given as goal

-- the states so far are marked where they are before `state`, and the others as they were
abbrev pub invariant-loop-s : goal.invariant-loop-s
invariant-loop-s g l = record {
  whole : length l.marks ≡ 256;
  seen : (s : ℕ) → s < l.s → get_or l.marks s false ≡ (get_or l.initial.marks s false || link l.self.before.now s l.state);
  unseen : (s : ℕ) → l.s ≤ s → get_or l.marks s false ≡ get_or l.initial.marks s false;
}
