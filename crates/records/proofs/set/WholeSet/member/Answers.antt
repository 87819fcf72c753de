use Rattle.std.proofs.Common.{◌≡◌, ◌+◌, ◌*◌, get_or, sym, ap, ◌∙◌, arith}
use Rattle.std.proofs.lemmas.List.{get_or_past}
use Rattle.game.specs.Below.{below, rank, bit}
use Rattle.game.proofs.Below.{rank_zero}
use Rattle.layout.specs.Reading.{in_set, set_at, moves_in}
use Rattle.layout.proofs.Places.{group_place_first, group_place_yes, group_place_no}
use Rattle.layout.proofs.Members.{group_before_end}
use Rattle.records.proofs.Groups.{has_bits, count_yes, count_no, member_more}
use Rattle.records.proofs.set.WholeSet.member.Goals as goal
use Rattle.records.proofs.set.WholeSet.member.Goals.{then-has+else-left-count, else-has}

pub loop-group-init : goal.loop-group-init
loop-group-init c = let m = c.args.self.now.map in (sym (group_place_first m.bytes.now m.at), omega (arith, rank_zero (in_set m.bytes.now m.at)))

pub bounds-self-place : goal.bounds-self-place
bounds-self-place c =
    let s = c.args.self.now in
    omega (arith, c.loop-group.invariant.0, s.whole, group_before_end s.map.bytes.now s.map.at c.loop-group.group c.loop-group-test.true (sym c.if-has.ensures))

pub returns-then-left-count : goal.returns-then-left-count
unfolding set_at
returns-then-left-count c =
    let m = c.args.self.now.map in
    let bs = m.bytes.now in
    let g = c.loop-group.group in
    let here = c.loop-group.invariant.0 in
    let count = c.count_bits-count.ensures.count ∙ ap (λ q. moves_in (get_or bs q 0)) here in
    ap (λ i. 8 * g + i) (c.find_bit.ensures.found ∙ ap (λ q. get_or (below (bit (get_or bs q 0)) 8) c.loop-group.left 0) here)
    ∙ sym (member_more (in_set bs m.at) g _ (has_bits bs m.at g (sym c.if-has.ensures)) c.loop-group.left c.args.k c.loop-group-test.true (omega (arith, count)) c.loop-group.invariant.1)

pub overflow_add-place-then-has : goal.overflow_add-place-then-has
overflow_add-place-then-has c =
    let s = c.args.self.now in
    record { fits = omega (arith, c.loop-group.invariant.0, s.whole, group_before_end s.map.bytes.now s.map.at c.loop-group.group c.loop-group-test.true (sym c.if-has.ensures)) }

pub loop-group-preserved : goal.loop-group-preserved
loop-group-preserved c =
    let m = c.args.self.now.map in
    let bs = m.bytes.now in
    let p = m.at in
    let g = c.loop-group.group in
    let inv = c.loop-group.invariant in
    elim c.if-has.branch [
      | then-has+else-left-count w ↦
          let e = sym w.if-has.ensures in
          let here = ap (λ q. moves_in (get_or bs q 0)) inv.0 in
          (omega (arith, w.place-is, inv.0, group_place_yes bs p g e), omega (arith, w.left-is, inv.1, w.if-left-count.false, w.count_bits-count.ensures.count, here, count_yes bs p g e))
      | else-has w ↦
          let e = sym w.if-has.ensures in
          (omega (arith, w.place-is, inv.0, group_place_no bs p g e), omega (arith, w.left-is, inv.1, count_no bs p g e))
    ]

pub returns : goal.returns
unfolding set_at
returns c =
    let m = c.args.self.now.map in
    let q = in_set m.bytes.now m.at in
    let all : 8 * c.loop-group.group ≡ 256 = omega arith in
    sym (get_or_past (below q 256) c.args.k 0 (omega (arith, c.loop-group.invariant.1, ap (rank q) all)))
