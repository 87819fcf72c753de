use Rattle.records.proofs.Groups.{map_bits}
use Rattle.records.proofs.group_map.GroupMap.new.Goals as goal

pub invariant_of-result-clause-groups : goal.invariant_of-result-clause-groups
invariant_of-result-clause-groups c =
    λ g l. map_bits c.args.bytes.now c.args.at g (λ k. (c.type_inv.bytes k).fits) c.from_le_bytes-bits.result c.from_le_bytes-bits.ensures l
