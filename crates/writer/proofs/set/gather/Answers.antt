use Rattle.std.proofs.Common.{arith}
use Rattle.writer.proofs.Members.{gathers_none, Put, put}
use Rattle.writer.proofs.set.gather.Given.{Over}
use Rattle.writer.proofs.set.gather.Goals as goal

pub loop-k-init : goal.loop-k-init
loop-k-init g c = gathers_none

-- one turn
turn : (g : Over) (c : goal.After-from g) → Put ((g.S.Source.game c.args.source.now).support c.args.state c.args.a c.args.b) c.loop-k.groups c.loop-k.k c.member-member.result c.from.result
turn g c =
    let game = g.S.Source.game c.args.source.now in
    let valid = g.S.Source.valid c.args.source.now in
    put game.size _ c.loop-k.groups c.loop-k.k c.member-member.result c.from.result (valid.ascends c.args.state c.args.a c.args.b) valid.few_states (omega arith) c.member-member.ensures c.from.ensures c.loop-k.invariant

pub bounds-groups-from : goal.bounds-groups-from
bounds-groups-from g c = (turn g c).place

pub overflow_add-groups : goal.overflow_add-groups
overflow_add-groups g c = omega (arith, (turn g c).sum)

pub bounds-groups-from-in-loop-k : goal.bounds-groups-from-in-loop-k
bounds-groups-from-in-loop-k g c = (turn g c).place

pub loop-k-preserved : goal.loop-k-preserved
loop-k-preserved g c = (turn g c).more
