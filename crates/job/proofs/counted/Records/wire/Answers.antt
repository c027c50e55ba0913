-- `Records::wire` meets its contract: the row is one of its layer's table.
use Rattle.std.proofs.Common.{arith}
use Rattle.net.proofs.Records.{row-held}
use Rattle.job.proofs.counted.Records.wire.Goals as goal

pub overflow_add-row : goal.overflow_add-row
overflow_add-row c =
    let h = row-held c.args.self.now.held _ _ c.requires.i_lt_segments.1 in
    omega (arith, h, c.args.self.now.held.all, c.requires.table_of.rows)

pub row_word-requires : goal.row_word-requires
row_word-requires c = (rw c.requires.table_of.rows (row-held c.args.self.now.held _ _ c.requires.i_lt_segments.1), omega arith)

pub row_word-requires-2 : goal.row_word-requires-2
row_word-requires-2 c = (rw c.requires.table_of.rows (row-held c.args.self.now.held _ _ c.requires.i_lt_segments.1), omega arith)
