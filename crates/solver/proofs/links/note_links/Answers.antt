use Rattle.std.proofs.Common.{◌≡◌, false, arith}
use Rattle.std.proofs.lemmas.Bool.{both_ways}
use Rattle.game.specs.Below.{bit}
use Rattle.game.specs.declared.player.Player.TheVariants.{One, Two}
use Rattle.solver.specs.Positions.{meant}
use Rattle.solver.proofs.Linking.{states_grow, moves_grow, replies_add, replies_skip, moves_add, states_add, all_linked}
use Rattle.solver.proofs.links.note_links.Goals as goal
use Rattle.solver.proofs.links.note_links.Goals.{then-has_bit+then-has_bit-2, else-has_bit, else-has_bit-via-then-has_bit+else-has_bit-2, else-has_bit-via-else-has_bit}

pub loop-b-preserved : goal.loop-b-preserved
loop-b-preserved g c =
    let x = meant g.S.Source.game c.args.position in
    let s = c.loop-state.state in
    let a = c.loop-a.a in
    let b = c.loop-b.b in
    let before = c.loop-b.before in
    let held = c.loop-b.invariant in
    elim c.if-has_bit.branch [
      | then-has_bit+then-has_bit-2 w ↦
          let more = w.add_support.new.before in
          let grows = w.add_support.ensures.stay in
          rw w.before-is (record {
            states = states_grow x before more s grows held.states;
            moves = moves_grow x before more s a grows held.moves;
            replies = replies_add x before more s a b grows held.replies w.add_support.ensures.noted;
          })
      | else-has_bit w ↦
          rw w.before-is (record {
            states = held.states;
            moves = held.moves;
            replies = replies_skip x before s a b held.replies (λ two one.
                elim w.else-has_bit.branch [
                  | else-has_bit-via-then-has_bit+else-has_bit-2 v ↦ let off : bit (x.kept Two s) b ≡ false = cc in both_ways (bit (x.kept Two s) b) off two
                  | else-has_bit-via-else-has_bit v ↦ let off : bit (x.kept One s) a ≡ false = cc in both_ways (bit (x.kept One s) a) off one
                ]);
          })
    ]

pub loop-a-preserved : goal.loop-a-preserved
loop-a-preserved g c =
    let held = c.loop-b.invariant in
    record {
      states = held.states;
      moves = moves_add (meant g.S.Source.game c.args.position) c.loop-b.before c.loop-state.state c.loop-a.a c.loop-b.b (omega arith) (omega arith) held.replies held.moves;
    }

pub loop-state-preserved : goal.loop-state-preserved
loop-state-preserved g c =
    states_add (meant g.S.Source.game c.args.position) c.loop-a.before c.loop-state.state c.loop-a.a (omega arith) (omega arith) c.loop-a.invariant.moves c.loop-a.invariant.states

pub returns : goal.returns
returns g c =
    let x = meant g.S.Source.game c.args.position in
    let all : c.loop-state.state ≡ x.game.size = omega arith in
    all_linked x (g.S.Source.valid c.args.position.source.now) c.loop-state.before (rw all at c.loop-state.invariant)
