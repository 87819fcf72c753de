use Rattle.layout.proofs.Opens.{opened, not_opened, one_state_record}
use Rattle.records.proofs.table.Table.new.Goals as goal

pub unreachable-requires : goal.unreachable-requires
unreachable-requires c = (not_opened _ _ c.in-Err.ensures).no_record _ one_state_record

pub returns : goal.returns
returns c = let ready = c.in-Ok.ensures in (opened _ ready.0 ready.1).no_other _ one_state_record
