-- How the logic stores a column.
use Rattle.std.specs.Prelude.{ℕ, List, Option, refl}
use Rattle.std.specs.Coded.{Coded, code_by, coded×, coded_ℕ, coded_list, coded_option}
use Rattle.tb_value.specs.Promise.Datum.{Datum}
use Rattle.tb_value.specs.Proved.DatumCode.{coded_data}
use Rattle.tb_value.specs.Promise.Kind.{Kind}
use Rattle.tb_value.specs.Proved.KindCode.{coded_kind}
use Rattle.tb_value.specs.declared.sorted.IsSorted.{IsSorted}
use Rattle.tb_value.specs.contracts.sorted.IsSorted as sorted
use Rattle.tb_chunk.specs.Promise.Col.{Col}
use Rattle.tb_view.specs.Promise.ViewArrays.{ViewArray}
use Rattle.tb_view.specs.declared.view.View.{View}

abbrev pub coded_view : Coded View
coded_view = code_by (ℕ × List ℕ) (coded× coded_ℕ (coded_list coded_ℕ)) (λ v. (v.length, v.rest))
    (λ p. record { length = p.0; rest = p.1 }) (λ _. refl)

abbrev pub coded_view_array : Coded ViewArray
coded_view_array =
    code_by (List (Option View) × List (List ℕ))
    (coded× (coded_list (coded_option coded_view)) (coded_list (coded_list coded_ℕ)))
    (λ r. (r.views, r.buffers)) (λ p. record { views = p.0; buffers = p.1 }) (λ _. refl)

abbrev pub coded_col : Coded Col
coded_col =
    code_by (List ℕ × (Kind × (List (List Datum) × (IsSorted × List ViewArray))))
    (coded× (coded_list coded_ℕ)
    (coded× coded_kind
    (coded× (coded_list coded_data)
    (coded× sorted.the_row.coded (coded_list coded_view_array)))))
    (λ c. (c.name, (c.kind, (c.chunks, (c.flag, c.view_arrays)))))
    (λ p. record { name = p.0; kind = p.1.0; chunks = p.1.1.0; flag = p.1.1.1.0; view_arrays = p.1.1.1.1 })
    (λ _. refl)
