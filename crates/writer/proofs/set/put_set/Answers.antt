use Rattle.std.proofs.Common.{◌≡◌, ◌+◌, ◌∷◌, [], ◌++◌, get_or, take, sym, ◌∙◌, arith}
use Rattle.std.proofs.lemmas.List.{append-nil, append_assoc, length-append, length-take-le, take_more}
use Rattle.writer.specs.Sets.{groups_in, packed}
use Rattle.writer.proofs.Sets.{groups_none, groups_yes, groups_no, groups_room, length_packed, packed_at, packed_split}
use Rattle.writer.proofs.set.put_set.Goals as goal
use Rattle.writer.proofs.set.put_set.Goals.{then-group-gt0, else-group-gt0}

pub put-requires : goal.put-requires
put-requires g c =
    let bs = packed c.args.groups.now in
    omega (arith, g.met.K.Sink.laws.room_left c.loop-j.invariant, length-take-le c.loop-j.j bs (omega (arith, length_packed c.args.groups.now)), length_packed c.args.groups.now)

pub loop-j-preserved : goal.loop-j-preserved
loop-j-preserved g c =
    let gs = c.args.groups.now in
    let j = c.loop-j.j in
    let more : take (j + 1) (packed gs) ≡ take j (packed gs) ++ get_or (packed gs) j 0 ∷ [] = take_more (packed gs) j 0 (omega (arith, length_packed gs)) in
    let this : get_or (packed gs) j 0 ≡ c.map_byte.result = packed_at gs j c.loop-j-test.true ∙ sym c.map_byte.ensures in
    rw (more, this) (g.met.K.Sink.laws.append c.loop-j.invariant c.put.ensures)

pub loop-group-init : goal.loop-group-init
loop-group-init g c =
    let gs = c.args.groups.now in
    let done : c.loop-j.j ≡ 4 = omega arith in
    rw (groups_none, append-nil) (rw done at c.loop-j.invariant)

pub put-requires-then-group-gt0 : goal.put-requires-then-group-gt0
put-requires-then-group-gt0 g c =
    let gs = c.args.groups.now in
    let n = c.loop-group.group-index in
    omega (arith, g.met.K.Sink.laws.room_left c.loop-group.invariant, length-append (take 4 (packed gs)) (groups_in gs n), length-take-le 4 (packed gs) (omega (arith, length_packed gs)), groups_room gs n c.loop-group-test.true c.if-group-gt0.true)

pub loop-group-preserved : goal.loop-group-preserved
loop-group-preserved g c =
    let gs = c.args.groups.now in
    let n = c.loop-group.group-index in
    elim c.if-group-gt0.branch [
      | then-group-gt0 w ↦
          rw (w.sink-is, groups_yes gs n w.if-group-gt0.true, ← (append_assoc (take 4 (packed gs)) (groups_in gs n) (get_or gs n 0 ∷ []))) (g.met.K.Sink.laws.append c.loop-group.invariant w.put-then-group-gt0.ensures)
      | else-group-gt0 w ↦ rw (w.sink-is, groups_no gs n w.if-group-gt0.false) c.loop-group.invariant
    ]

pub returns : goal.returns
returns g c =
    let gs = c.args.groups.now in
    let done : c.loop-group.group-index ≡ 32 = omega arith in
    rw (← (packed_split gs)) (rw done at c.loop-group.invariant)
