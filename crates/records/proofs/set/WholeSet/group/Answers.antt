use Rattle.std.proofs.Common.{◌≡◌, true, false, sym, arith}
use Rattle.game.proofs.Below.{bit_zero}
use Rattle.layout.specs.Reading.{map_bit}
use Rattle.layout.proofs.Members.{group_before_end, in_group}
use Rattle.records.proofs.set.WholeSet.group.Goals as goal

pub bounds-self-place : goal.bounds-self-place
bounds-self-place c =
    let s = c.args.self.now in
    omega (arith, c.place.ensures, s.whole, group_before_end s.map.bytes.now s.map.at c.args.group c.requires (sym c.if-has.ensures))

pub returns-then-has : goal.returns-then-has
returns-then-has c = λ i l.
    let s = c.args.self.now in
    let e : map_bit s.map.bytes.now s.map.at c.args.group ≡ true = sym c.if-has.ensures in
    rw (c.place.ensures, in_group s.map.bytes.now s.map.at c.args.group i l, e)

pub returns-else-has : goal.returns-else-has
returns-else-has c = λ i l.
    let s = c.args.self.now in
    let e : map_bit s.map.bytes.now s.map.at c.args.group ≡ false = sym c.if-has.ensures in
    rw (in_group s.map.bytes.now s.map.at c.args.group i l, e) (bit_zero i)
