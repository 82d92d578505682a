-- Which groupings are refused, and why: the first of seven causes.
use Rattle.std.specs.Prelude.{ℤ, Bool, true, not, List, [], ◌∷◌, ◌++◌, length, map, Option, Some, None, is_none}
use Rattle.std.specs.Option.{option_map}
use Rattle.std.specs.List.{find}
use Rattle.tb_value.specs.Promise.Kind.{Kind}
use Rattle.tb_value.specs.Promise.Names.{Name}
use Rattle.tb_value.specs.Promise.Pairs.{row_numbers}
use Rattle.tb_value.specs.Promise.Refusals.{first_cause, when}
use Rattle.tb_value.specs.Promise.SameKind.{is_key}
use Rattle.tb_value.specs.declared.error.ComputeCause.TheVariants.{SumRange}
use Rattle.tb_value.specs.declared.error.InvalidCause.TheVariants.{NoKeys, KeyKind, AggType}
use Rattle.tb_value.specs.declared.error.PolarsError.{PolarsError}
use Rattle.tb_value.specs.declared.error.PolarsError.TheVariants.{ComputeError, InvalidOperation}
use Rattle.tb_frame.specs.Promise.Join.{column_named}
use Rattle.tb_frame.specs.Promise.Refusal.{kind_at, repeated_among, unknown_key}
use Rattle.tb_frame.specs.Promise.Table.{TableColumn}
use Rattle.tb_agg.specs.Promise.Aggregates.{result_kind, sum_kind, total}
use Rattle.tb_agg.specs.Promise.Outcome.{are_in_range}
use Rattle.tb_agg.specs.declared.table.Aggregate.{Aggregate}
use Rattle.tb_agg.specs.declared.table.Aggregate.TheVariants.{Sum}
use Rattle.tb_group.specs.declared.request.GroupAgg.{GroupAgg}
use Rattle.tb_group.specs.Promise.Group.{group_firsts, member_values}
use Rattle.tb_group.specs.Promise.Request.{Request, agg_names, agg_sources, by_columns}

-- 1 rows are grouped by no column
abbrev pub no_keys : List Name → Option PolarsError
no_keys [] = Some (InvalidOperation NoKeys)
no_keys (n ∷ ns) = None

-- 4 the first place of a column that is of no key type
abbrev pub key_kind : List TableColumn → Option PolarsError
key_kind cs = option_map (λ p. InvalidOperation (KeyKind p))
    (find (λ p. not (is_key (kind_at cs p))) (row_numbers (length cs)))

-- why an aggregate is not made of a column, where there is one
abbrev pub of_column : (TableColumn → Option PolarsError) → Option TableColumn → Option PolarsError
of_column cause None = None
of_column cause (Some v) = cause v

-- 5 an aggregate does not take the type of its column
abbrev pub type_cause : GroupAgg → TableColumn → Option PolarsError
type_cause a v = when (is_none (result_kind a.agg v.kind)) (InvalidOperation (AggType a.column))

-- sums are in the range of their type, where they are what is asked for
abbrev pub sums_fit : Aggregate → Option Kind → List ℤ → Bool
sums_fit Sum t zs = are_in_range t zs
sums_fit _ t zs = true

-- 7 the sum of a group is outside the range of its type
abbrev pub range_cause : Request → GroupAgg → TableColumn → Option PolarsError
range_cause q a v = when
    (not
    (sums_fit a.agg (sum_kind v.kind)
    (map (λ x. total (member_values q v x)) (group_firsts q))))
    (ComputeError (SumRange a.column))

-- the first aggregate for which there is a cause
abbrev pub first_agg_cause : Request → (GroupAgg → TableColumn → Option PolarsError)
    → Option PolarsError
first_agg_cause q cause =
    first_cause (map (λ (a : GroupAgg). of_column (cause a) (column_named q.table a.column)) q.aggs)

-- 1 to 6, which look at no value
abbrev pub name_causes : Request → List (Option PolarsError)
name_causes q =
    no_keys q.by
    ∷ unknown_key q.table q.by ∷ unknown_key q.table (agg_sources q.aggs)
    ∷ repeated_among q.by
    ∷ key_kind (by_columns q)
    ∷ first_agg_cause q type_cause
    ∷ repeated_among (q.by ++ agg_names q.aggs)
    ∷ []

abbrev pub group_causes : Request → List (Option PolarsError)
group_causes q = name_causes q ++ first_agg_cause q (range_cause q) ∷ []

abbrev pub group_refusal : Request → Option PolarsError
group_refusal q = first_cause (group_causes q)
