use Rattle.std.proofs.Common.{rules, sym, refl, ◌∙◌}
use Rattle.std.specs.Cmp.{booleans_Decides}
use Rattle.theory.specs.Benches.{refuses}
use Rattle.bench.proofs.Edits.{edited_sound, target_step, target_no_state, target_already, other_truth}
use Rattle.bench.proofs.bench.Bench.set_target.Goals as goal

pub returns-in_err-check_state : goal.returns-in_err-check_state
returns-in_err-check_state g c = search (rules, target_no_state)

pub returns-then-target-in_target : goal.returns-then-target-in_target
returns-then-target-in_target g c = let same = (booleans_Decides c.target.result c.args.in_target).0 c.if-target-in_target.true in search (rules, refuses, target_already)

pub invariant_of-self : goal.invariant_of-self
invariant_of-self g c =
    let off = sym c.target.ensures ∙ other_truth c.target.result c.args.in_target c.if-target-in_target.false in
    record { sound = edited_sound c.args.self.now.sound (target_step g.S.Source.valid c.args.self.now c.set_target.new.self c.args.state c.args.in_target c.in_ok-check_state.ensures off c.set_target.ensures) }

pub returns : goal.returns
returns g c =
    let off = sym c.target.ensures ∙ other_truth c.target.result c.args.in_target c.if-target-in_target.false in
    record {
      source = refl;
      step = target_step g.S.Source.valid c.args.self.now c.set_target.new.self c.args.state c.args.in_target c.in_ok-check_state.ensures off c.set_target.ensures;
      field = (c.set_target.ensures, refl);
    }
