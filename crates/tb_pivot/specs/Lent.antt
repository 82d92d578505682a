-- A request as it is lent.
use Rattle.std.specs.Prelude.{Bool, ◌&&◌, List, [], ◌∷◌, Option, is_none, option_map}
use Rattle.std.specs.Borrow.{Bor}
use Rattle.std.specs.Option.{option_copied}
use Rattle.tb_value.specs.Promise.Names.{Name}
use Rattle.tb_value.specs.Promise.Refusals.{when}
use Rattle.tb_value.specs.declared.error.ComputeCause.TheVariants.{EmptyIndex, EmptyOn}
use Rattle.tb_value.specs.declared.error.InvalidCause.TheVariants.{BothNone}
use Rattle.tb_value.specs.declared.error.PolarsError.{PolarsError}
use Rattle.tb_value.specs.declared.error.PolarsError.TheVariants.{ComputeError, InvalidOperation}
use Rattle.tb_chunk.specs.Promise.Col.{Col}
use Rattle.tb_frame.specs.Promise.Table.{Table, table_of}
use Rattle.tb_pivot.specs.AggWay.{agg_way, way_or_row}
use Rattle.tb_pivot.specs.Promise.Refusal.{none_named}
use Rattle.tb_pivot.specs.Promise.Request.{Request, Way, given_or_rest}
use Rattle.tb_pivot.specs.declared.expr.PhysicalAggExpr.{Ghosts}
use Rattle.tb_pivot.specs.declared.expr.PivotAgg.{PivotAgg}
use Rattle.tb_label.specs.Promise.Label.{separator_or}

-- the request of columns, names and a separator that are lent
abbrev pub lent_request : List Col → List Name → Option (List Name) → Option (List Name) → Bool
    → Way → Option (Bor Name) → Request
lent_request cs on index values sorts way separator = record {
  table = table_of cs;
  on = on;
  index = index;
  values = values;
  sorts = sorts;
  way = way;
  separator = separator_or (option_copied separator);
}

-- the same of an aggregate or an object that is lent, or none: of an object it is what its calls
-- answer
abbrev pub stable_request : {D : Type 0} {H : D → Type 0} → ((d : D) → Ghosts (H d)) → List Col
    → List Name → Option (Bor (List Name)) → Option (Bor (List Name)) → Bool
    → Option (Bor (PivotAgg D H)) → Option (Bor Name) → Request
stable_request of cs on index values sorts agg separator =
    lent_request cs on (option_copied index) (option_copied values) sorts
    (way_or_row (option_map (λ a. agg_way (λ d. (of d).named) (λ d. (of d).answers) a.now) agg))
    separator

-- 1 to 3 what is said of how many names there are
abbrev pub name_causes : Table → List Name → Option (List Name) → Option (List Name)
    → List (Option PolarsError)
name_causes t on index values =
    when (is_none index && is_none values) (InvalidOperation BothNone)
    ∷ none_named (given_or_rest t on index values) (ComputeError EmptyIndex)
    ∷ none_named on (ComputeError EmptyOn)
    ∷ []
