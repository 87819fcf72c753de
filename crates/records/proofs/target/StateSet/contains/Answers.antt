use Rattle.std.proofs.Common.{rules}
use Rattle.records.proofs.Groups.{in_groups}
use Rattle.records.proofs.target.StateSet.contains.Goals as goal

pub returns : goal.returns
returns c =
    let look = rw c.from.ensures at c.get.ensures.lookup.3 in
    in_groups c.args.self.now.groups c.args.state c.get.result c.is_some_and.result (search rules) look (search rules)
