use Rattle.std.proofs.Common.{sym, ◌∙◌}
use Rattle.layout.proofs.Places.{set_end_is}
use Rattle.records.proofs.set.WholeSet.end.Goals as goal

pub returns : goal.returns
returns c = c.place.ensures ∙ sym (set_end_is c.args.self.now.map.bytes.now c.args.self.now.map.at)
