use Rattle.copies.proofs.Copies.{written_again}
use Rattle.copies.proofs.write_table.Goals as goal

pub returns : goal.returns
returns c bs records = written_again bs _ _ _ c.write.result records c.write.ensures
