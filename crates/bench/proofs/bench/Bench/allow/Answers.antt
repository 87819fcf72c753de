use Rattle.std.proofs.Common.{rules, refl, sym, arith}
use Rattle.theory.specs.Benches.{allowed_already, refuses}
use Rattle.bench.proofs.Edits.{edited_sound, allow_step, kept_again, allow_no_such}
use Rattle.bench.proofs.bench.Bench.allow.Goals as goal

pub returns-in_err-check_move : goal.returns-in_err-check_move
returns-in_err-check_move g c = search (rules, allow_no_such)

pub returns-then-has_bit : goal.returns-then-has_bit
returns-then-has_bit g c = search (rules, refuses, allowed_already)

pub invariant_of-self : goal.invariant_of-self
invariant_of-self g c =
    record { sound = edited_sound c.args.self.now.sound (allow_step g.S.Source.valid c.args.self.now c.set_kept.new.self c.args.player c.args.state c.args.m c.kept-kept.result c.with_bit.result c.in_ok-check_move.ensures c.kept-kept.ensures (omega arith) c.set_kept.ensures c.with_bit.ensures (sym c.if-has_bit.ensures)) }

pub returns : goal.returns
returns g c = record {
  source = refl;
  step = allow_step g.S.Source.valid c.args.self.now c.set_kept.new.self c.args.player c.args.state c.args.m c.kept-kept.result c.with_bit.result c.in_ok-check_move.ensures c.kept-kept.ensures (omega arith) c.set_kept.ensures c.with_bit.ensures (sym c.if-has_bit.ensures);
  field = (kept_again g.S.Source.valid c.args.self.now c.set_kept.new.self c.args.player c.args.state c.args.m c.kept-kept.result c.with_bit.result c.in_ok-check_move.ensures c.kept-kept.ensures (omega arith) c.set_kept.ensures, refl);
}
