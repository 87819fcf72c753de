use Rattle.std.proofs.Common.{arith}
use Rattle.writer.proofs.Rows.{record_small}
use Rattle.writer.proofs.record_length.Goals as goal

pub put_record-requires : goal.put_record-requires
put_record-requires g c =
    let source = c.args.source.now in
    omega (arith, record_small (g.S.Source.game source) (g.S.Source.valid source).few_states)
