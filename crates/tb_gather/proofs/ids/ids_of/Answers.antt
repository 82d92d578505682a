use Rattle.std.proofs.Common.{◌≡◌, List, Option, ℕ, map, subst}
use Rattle.std.specs.Prelude.{IfOk}
use Rattle.std.proofs.lemmas.List.{map-id}
use Rattle.tb_value.specs.declared.sorted.IsSorted.{IsSorted}
use Rattle.tb_frame.specs.Frame.{lens}
use Rattle.tb_gather.specs.Ids.{RowsStandInOrder, StandInOrder, row_or_none}
use Rattle.tb_gather.proofs.ids.ids_of.Goals as goal

pub returns-clause-rows : goal.returns-clause-rows
returns-clause-rows g c = subst (λ (rows : List (Option ℕ)). IfOk c.ids_by.result (λ v. map (row_or_none (lens c.args.column.now)) v.items ≡ rows)) (map-id c.args.rows.now) c.ids_by.ensures.rows

pub returns-clause-in_order : goal.returns-clause-in_order
returns-clause-in_order g c = subst (λ (rows : List (Option ℕ)). IfOk c.ids_by.result (λ v. (sorted : IsSorted) → RowsStandInOrder sorted rows → StandInOrder sorted v.items)) (map-id c.args.rows.now) c.ids_by.ensures.in_order
