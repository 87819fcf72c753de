use Rattle.std.proofs.Common.{◌≡◌, ◌<◌, true, length, get_or, refl, subst, arith}
use Rattle.game.specs.Below.{bit}
use Rattle.layout.specs.Faults.{outside}
use Rattle.records.proofs.set_reader.SetReader.read_group.Goals as goal

pub returns-then-has_outside : goal.returns-then-has_outside
returns-then-has_outside c =
    let bs = c.args.self.now.bytes.now in
    let (inside, is) = c.in-Some.ensures.lookup.3 in
    let (i, l, bad) = c.if-has_outside.ensures in
    λ at e.
    let stands = subst (λ p. bit (get_or bs p 0) i ≡ true) e (subst (λ b. bit b i ≡ true) (is 0) bad.0) in
    rw (c.fault-then-has_outside.ensures, e) (outside (subst (λ p. p < length bs) e inside) i l stands bad.1 refl)

pub returns : goal.returns
returns c =
    let (inside, is) = c.in-Some.ensures.lookup.3 in
    λ at e. rw (← e, ← (is 0)) (inside, omega arith, c.if-has_outside.ensures)
