use Rattle.std.proofs.Common.{◌∙◌, ap, sym}
use Rattle.std.specs.Prelude.{is_none}
use Rattle.std.specs.List.{count_by}
use Rattle.tb_cell.proofs.Nulls.{nulls_behind}
use Rattle.tb_cell.proofs.cells.Cells.none_count.Goals as goal

pub returns : goal.returns
returns g c =
    c.absent_in.ensures
    ∙ ap (count_by is_none) c.deref.ensures.value
    ∙ sym (nulls_behind c.self.inside.values.items c.self.inside.rest.items)
    ∙ ap (count_by is_none) c.self.view_is
