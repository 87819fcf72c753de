use Rattle.solver.specs.Positions.{meant}
use Rattle.solver.proofs.Linking.{StatesNoted, MovesNoted, RepliesNoted}
use Rattle.solver.proofs.links.note_links.Given as goal

-- the successors of the states so far are noted
abbrev pub invariant-loop-state : goal.invariant-loop-state
invariant-loop-state g l = StatesNoted (meant g.S.Source.game l.position) l.before l.state

-- and those of this state under the moves so far
abbrev pub invariant-loop-a : goal.invariant-loop-a
invariant-loop-a g l = record {
  states : StatesNoted (meant g.S.Source.game l.position) l.before l.state;
  moves : MovesNoted (meant g.S.Source.game l.position) l.before l.state l.a;
}

-- and those under this move and the replies so far
abbrev pub invariant-loop-b : goal.invariant-loop-b
invariant-loop-b g l = record {
  states : StatesNoted (meant g.S.Source.game l.position) l.before l.state;
  moves : MovesNoted (meant g.S.Source.game l.position) l.before l.state l.a;
  replies : RepliesNoted (meant g.S.Source.game l.position) l.before l.state l.a l.b;
}
