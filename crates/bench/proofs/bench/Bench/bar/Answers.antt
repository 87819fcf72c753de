use Rattle.std.proofs.Common.{rules, ◌≡◌, ℕ, true, refl, sym, ap, ◌∙◌, arith}
use Rattle.game.specs.Below.{bit}
use Rattle.theory.specs.Benches.{barred_already, only_move, refuses}
use Rattle.solver.specs.Entries.{kept_in}
use Rattle.bench.proofs.Edits.{edited_sound, bar_step, kept_again, bar_no_such, only_bit}
use Rattle.bench.proofs.bench.Bench.bar.Goals as goal

pub returns-in_err-check_move : goal.returns-in_err-check_move
returns-in_err-check_move g c = search (rules, bar_no_such)

pub returns-then-not-has_bit : goal.returns-then-not-has_bit
returns-then-not-has_bit g c = search (rules, refuses, barred_already)

pub returns-then-left-eq0 : goal.returns-then-left-eq0
returns-then-left-eq0 g c =
    let only : (i : ℕ) → bit (kept_in c.args.self.now.entries.at c.args.player c.args.state) i ≡ true → i ≡ c.args.m =
    λ i on. only_bit c.kept-kept.result c.without_bit-left.result c.args.m c.without_bit-left.ensures c.if-left-eq0.true i (ap (λ k. bit k i) c.kept-kept.ensures ∙ on) in
    search (rules, refuses, only_move)

pub invariant_of-self : goal.invariant_of-self
invariant_of-self g c =
    record { sound = edited_sound c.args.self.now.sound (bar_step g.S.Source.valid c.args.self.now c.set_kept.new.self c.args.player c.args.state c.args.m c.kept-kept.result c.without_bit-left.result c.in_ok-check_move.ensures c.kept-kept.ensures (omega arith) c.set_kept.ensures c.without_bit-left.ensures (sym c.if-not-has_bit.ensures) (λ e. omega arith)) }

pub returns : goal.returns
returns g c = record {
  source = refl;
  step = bar_step g.S.Source.valid c.args.self.now c.set_kept.new.self c.args.player c.args.state c.args.m c.kept-kept.result c.without_bit-left.result c.in_ok-check_move.ensures c.kept-kept.ensures (omega arith) c.set_kept.ensures c.without_bit-left.ensures (sym c.if-not-has_bit.ensures) (λ e. omega arith);
  field = (kept_again g.S.Source.valid c.args.self.now c.set_kept.new.self c.args.player c.args.state c.args.m c.kept-kept.result c.without_bit-left.result c.in_ok-check_move.ensures c.kept-kept.ensures (omega arith) c.set_kept.ensures, refl);
}
