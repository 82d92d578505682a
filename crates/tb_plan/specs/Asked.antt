-- What a plan asks of a pivot.
use Rattle.std.specs.Prelude.{ℕ, List, Result}
use Rattle.std.specs.Option.{option_map}
use Rattle.tb_value.specs.Promise.Names.{Name}
use Rattle.tb_frame.specs.Promise.Table.{Table, TableColumn}
use Rattle.tb_pivot.specs.AggWay.{agg_way, way_or_row}
use Rattle.tb_label.specs.Promise.Label.{separator_or}
use Rattle.tb_plan.specs.declared.pivoting.PivotArgs.{PivotArgs}
use Rattle.tb_plan.specs.Promise.Outcome.{Pivot}

-- of a caller's object it is what its calls answer
abbrev pub pivot_asked : {D : Type 0} {H : D → Type 0} → ((d : D) → H d → Result Name ℕ)
    → ((d : D) → H d → Table → List ℕ → List ℕ → Result TableColumn ℕ) → PivotArgs D H → Pivot
pivot_asked named answers p = record {
  on = p.on.items;
  index = option_map (λ v. v.items) p.index;
  values = option_map (λ v. v.items) p.values;
  sorts = p.sort_columns;
  way = way_or_row (option_map (agg_way named answers) p.agg);
  separator = separator_or p.separator;
}
