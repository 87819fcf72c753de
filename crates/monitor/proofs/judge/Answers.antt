use Rattle.std.proofs.Common.{arith}
use Rattle.monitor.specs.Making.{monitor_states, too_many_states, table_length, table_entry}
use Rattle.monitor.proofs.judge.Goals as goal

pub returns-then-m-eq0 : goal.returns-then-m-eq0
returns-then-m-eq0 c = monitor_states (grind arith)

pub returns-then-n-m-gt-MOST_STATES : goal.returns-then-n-m-gt-MOST_STATES
returns-then-n-m-gt-MOST_STATES c = too_many_states (omega arith) (omega arith) (omega arith)

pub returns-then-table-from : goal.returns-then-table-from
returns-then-table-from c = table_length (omega arith) (omega arith) (omega arith) (λ e. omega arith)

pub returns-in-Some : goal.returns-in-Some
returns-in-Some c = table_entry c.in-Some.place (omega arith) (omega arith) (omega arith) (omega arith) c.in-Some.ensures
