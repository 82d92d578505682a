use Rattle.std.proofs.Common.{◌∙◌, ap, refl, map, ◌∷◌, []}
use Rattle.tb_frame.specs.Frame.{lengths}
use Rattle.tb_gather.specs.Gathered.{value_of_id}
use Rattle.tb_gather.specs.Kept.{kept_view_array}
use Rattle.tb_gather.specs.declared.keep.Keep.TheVariants.{Used}
use Rattle.tb_gather.proofs.Columns.{IsColumn-named, named-is}
use Rattle.tb_gather.proofs.arrays.gather_array.Goals as goal

pub from_parts-requires-clause-column : goal.from_parts-requires-clause-column
from_parts-requires-clause-column g c =
    IsColumn-named c.args.array.now _ c.args.by.now c.args.flag c.len-len.ensures.column c.requires.named c.requires.few c.requires.flag (c.in_ok-dtype.ensures ∙ c.dtype.ensures)
    (c.wrap.ensures.lists ∙ (c.in_ok-chunks.ensures.shown ∙ ap (λ cs. map (value_of_id cs) c.args.by.now ∷ []) c.chunks.ensures.shown))
    refl

pub returns : goal.returns
returns g c =
    let by = c.args.by.now in
    let lists = c.wrap.ensures.lists ∙ (c.in_ok-chunks.ensures.shown ∙ ap (λ cs. map (value_of_id cs) by ∷ []) c.chunks.ensures.shown) in
    let runs = c.wrap.ensures.view_arrays ∙ (c.in_ok-chunks.ensures.view_arrays ∙ (λ i. kept_view_array Used (lengths (c.chunks.ensures.shown i)) by (c.chunks.ensures.view_arrays i) ∷ [])) in
    c.as_array.ensures ∙ (c.from_parts.ensures ∙ named-is Used c.args.array.now _ by c.args.flag (c.in_ok-name.ensures ∙ c.name.ensures) (c.in_ok-dtype.ensures ∙ c.dtype.ensures) lists refl runs)
