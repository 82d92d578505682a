use Rattle.std.proofs.Common.{◌∙◌, ap, refl, map, ◌∷◌, []}
use Rattle.tb_frame.specs.Frame.{lengths}
use Rattle.tb_gather.specs.Gathered.{value_of_id}
use Rattle.tb_gather.specs.Kept.{kept_view_array}
use Rattle.tb_gather.proofs.Columns.{IsColumn-named, named-is}
use Rattle.tb_gather.proofs.series.gather_series.Goals as goal

pub from_parts-requires-clause-column : goal.from_parts-requires-clause-column
from_parts-requires-clause-column g c =
    IsColumn-named c.args.series.now _ c.args.by.now c.args.flag c.len-len.ensures.column c.requires.named c.requires.few c.requires.flag (c.in_ok-dtype.ensures ∙ c.dtype.ensures)
    (c.in_ok-chunks.ensures.lists ∙ ap (λ cs. map (value_of_id cs) c.args.by.now ∷ []) c.chunks.ensures.lists)
    refl

pub returns : goal.returns
returns g c =
    let by = c.args.by.now in
    let lists = c.in_ok-chunks.ensures.lists ∙ ap (λ cs. map (value_of_id cs) by ∷ []) c.chunks.ensures.lists in
    let runs = c.in_ok-chunks.ensures.view_arrays ∙ (λ i. kept_view_array c.args.keep (lengths (c.chunks.ensures.lists i)) by (c.chunks.ensures.view_arrays i) ∷ []) in
    c.from_parts.ensures ∙ named-is c.args.keep c.args.series.now _ by c.args.flag (c.in_ok-name.ensures ∙ c.name.ensures) (c.in_ok-dtype.ensures ∙ c.dtype.ensures) lists refl runs
