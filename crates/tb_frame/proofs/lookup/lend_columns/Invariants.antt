use Rattle.std.proofs.Common.{◌≡◌, take, None, not}
use Rattle.std.specs.List.{find}
use Rattle.tb_chunk.specs.Lent.{lent_columns}
use Rattle.tb_frame.specs.Promise.Frame.{selected_columns}
use Rattle.tb_frame.specs.Promise.Naming.{is_among}
use Rattle.tb_frame.specs.Promise.Table.{table_of, names_of}
use Rattle.tb_frame.proofs.lookup.lend_columns.Given as goal

-- each name so far is that of a column
abbrev pub invariant-loop-name : goal.invariant-loop-name
invariant-loop-name l = record {
  known : find (λ n. not (is_among (names_of (table_of l.fn.columns)) n)) (take l.name-index l.names) ≡ None;
  selected : lent_columns l.lent.items ≡ selected_columns (take l.name-index l.names) l.fn.columns;
}
