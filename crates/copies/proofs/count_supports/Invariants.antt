use Rattle.std.proofs.Common.{◌≡◌, ◌*◌, ◌≤◌}
use Rattle.copies.specs.Copies.{supports_below}
use Rattle.copies.proofs.count_supports.Given as goal

-- the supports of the states below this one are counted
abbrev pub invariant-loop-state : goal.invariant-loop-state
invariant-loop-state g l = (l.count ≡ supports_below (g.S.Source.game l.source) l.state) × (l.count ≤ 64 * l.state)
