-- Worked groupings.
use Rattle.std.specs.Prelude.{◌≡◌, pos, [], ◌∷◌, Some, None, codes}
use Rattle.tb_value.specs.Promise.Datum.{null, int, string}
use Rattle.tb_value.specs.Promise.Kind as kind
use Rattle.tb_value.specs.declared.error.ComputeCause.TheVariants.{SumRange}
use Rattle.tb_value.specs.declared.error.InvalidCause.TheVariants.{AggType, NoKeys}
use Rattle.tb_value.specs.declared.error.PolarsError.TheVariants.{ColumnNotFound, ComputeError, Duplicate, InvalidOperation}
use Rattle.tb_frame.specs.Promise.Table.{Table}
use Rattle.tb_pool.specs.Promise.ExecView.{ExecView}
use Rattle.tb_agg.specs.declared.table.Aggregate.TheVariants.{Count, Min, Sum}
use Rattle.tb_group.specs.Promise.Group.{group_table}
use Rattle.tb_group.specs.Promise.Keys.{group_trace}
use Rattle.tb_group.specs.Promise.Refusal.{group_refusal}
use Rattle.tb_group.specs.Promise.Request.{Request}

abbrev pub keyed : Table
keyed = record { name = codes "k"; kind = kind.int64; values = int (pos 0) ∷ int (pos 1) ∷ int (pos 0) ∷ int (pos 2) ∷ [] }
    ∷ record { name = codes "v"; kind = kind.int64; values = int (pos 1) ∷ int (pos 2) ∷ int (pos 3) ∷ null ∷ [] }
    ∷ []

abbrev pub sums : Request
sums = record { table = keyed; by = codes "k" ∷ []; aggs = record { column = codes "v"; agg = Sum; name = codes "s" } ∷ [] }

abbrev pub in_two : ExecView
in_two = record { workers = 2; partitions = 2; small = 0; num = 1; den = 1 }

abbrev pub nulls : Table
nulls = record { name = codes "k"; kind = kind.string; values = null ∷ null ∷ [] }
    ∷ record { name = codes "v"; kind = kind.uint64; values = int (pos 18446744073709551615) ∷ int (pos 1) ∷ [] }
    ∷ []

abbrev pub two_keys : Table
two_keys = record { name = codes "a"; kind = kind.string; values = string (codes "ab") ∷ null ∷ string (codes "a") ∷ null ∷ [] }
    ∷ record { name = codes "b"; kind = kind.string; values = string (codes "c") ∷ string (codes "x") ∷ string (codes "bc") ∷ string (codes "x") ∷ [] }
    ∷ []

abbrev pub Worked : Type 0
Worked = (group_table sums ≡ record { name = codes "k"; kind = kind.int64; values = int (pos 0) ∷ int (pos 1) ∷ int (pos 2) ∷ [] }
    ∷ record { name = codes "s"; kind = kind.int64; values = int (pos 4) ∷ int (pos 2) ∷ int (pos 0) ∷ [] } ∷ [])
    × (group_trace in_two sums ≡ record { parts = 2; sizes = 3 ∷ 1 ∷ []; groups = 2 ∷ 1 ∷ [] })
    × (group_refusal sums ≡ None)
    × (group_refusal (record { table = nulls; by = codes "k" ∷ []; aggs = record { column = codes "v"; agg = Sum; name = codes "s" } ∷ [] }) ≡ Some (ComputeError (SumRange (codes "v"))))
    × (group_refusal (record { table = keyed; by = codes "k" ∷ []; aggs = record { column = codes "v"; agg = Min; name = codes "k" } ∷ [] }) ≡ Some (Duplicate (codes "k")))
    × (group_refusal (record { table = keyed; by = []; aggs = record { column = codes "z"; agg = Min; name = codes "k" } ∷ [] }) ≡ Some (InvalidOperation NoKeys))
    × (group_refusal (record { table = nulls; by = codes "k" ∷ []; aggs = record { column = codes "k"; agg = Sum; name = codes "k" } ∷ [] }) ≡ Some (InvalidOperation (AggType (codes "k"))))
    × (group_refusal (record { table = keyed; by = codes "k" ∷ codes "k" ∷ []; aggs = record { column = codes "z"; agg = Min; name = codes "k" } ∷ [] }) ≡ Some (ColumnNotFound (codes "z")))
    × (group_table (record { table = two_keys; by = codes "a" ∷ codes "b" ∷ []; aggs = record { column = codes "a"; agg = Count; name = codes "n" } ∷ [] })
    ≡ record { name = codes "a"; kind = kind.string; values = string (codes "ab") ∷ null ∷ string (codes "a") ∷ [] }
    ∷ record { name = codes "b"; kind = kind.string; values = string (codes "c") ∷ string (codes "x") ∷ string (codes "bc") ∷ [] }
    ∷ record { name = codes "n"; kind = kind.uint32; values = int (pos 1) ∷ int (pos 2) ∷ int (pos 1) ∷ [] } ∷ [])
