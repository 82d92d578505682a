use Rattle.std.proofs.Common.{rules, arith, ◌≤◌, length, map}
use Rattle.std.proofs.lemmas.List.{length-map}
use Rattle.tb_value.specs.declared.limits.TheConstants.{MAX_ROWS}
use Rattle.tb_csv.specs.Fields.{fields_in}
use Rattle.tb_csv.specs.Promise.Types.{cell_of}
use Rattle.tb_csv.proofs.ColumnWalks.{few_fields}
use Rattle.tb_csv.proofs.columns.read_column.Goals as goal

pub from_parts-series-requires-clause-column : goal.from_parts-series-requires-clause-column
from_parts-series-requires-clause-column c =
    let cell = cell_of c.args.field_type in
    let fs = fields_in c.args.fields in
    let short : length (map cell fs) ≤ MAX_ROWS = omega (arith, length-map fs cell, few_fields c.args.fields) in
    rw (c.in_ok-chunks.ensures.lists, c.data_type.ensures) record {
      chunked = omega arith;
      short = search (rules, short);
      typed = search (rules, c.in_ok-chunks.ensures.typed);
      flag_holds = tt;
    }
