use Rattle.std.proofs.Common.{◌∙◌, ◌+◌, ℕ, List, ap, map, arith}
use Rattle.tb_value.specs.Promise.Pairs.{row_numbers}
use Rattle.tb_chunk.specs.Lent.{lent_columns}
use Rattle.tb_frame.specs.Promise.Table.{table_of}
use Rattle.tb_rowkey.specs.Promise.Columns.{row_count}
use Rattle.tb_build.specs.Plan.{codes_of, part_start, scattered_rows}
use Rattle.tb_group.specs.Codes.{own_code}
use Rattle.tb_group.proofs.ScatteredRows.{keys_long}
use Rattle.tb_group.proofs.parts.scattered.Goals as goal

pub scatter-requires-after_bounds : goal.scatter-requires-after_bounds
scatter-requires-after_bounds g c κs within =
    let cs = lent_columns c.args.by.now in
    omega (arith, keys_long c.deref.result.now (table_of cs) (row_count cs) (ap (codes_of own_code) c.deref.ensures.value ∙ c.in_ok-codes.ensures), c.requires.few)

pub returns-clause-idxs : goal.returns-clause-idxs
returns-clause-idxs g c =
    c.in_ok-scatter.ensures.idxs
    ∙ ap (λ (codes : List ℕ). scattered_rows codes c.args.exec.now.partitions) (ap (codes_of own_code) c.deref.ensures.value ∙ c.in_ok-codes.ensures)

pub returns-clause-starts : goal.returns-clause-starts
returns-clause-starts g c =
    let n = c.args.exec.now.partitions in
    c.in_ok-scatter.ensures.starts
    ∙ ap (λ (codes : List ℕ). map (part_start codes n) (row_numbers (n + 1))) (ap (codes_of own_code) c.deref.ensures.value ∙ c.in_ok-codes.ensures)
