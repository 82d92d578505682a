use Rattle.std.proofs.Common.{subst, sym, ap, ◌∙◌, List}
use Rattle.tb_value.specs.Promise.Datum.{Datum}
use Rattle.tb_value.specs.SeeKind.{kind_of}
use Rattle.tb_value.specs.declared.sorted.IsSorted.TheVariants.{Not}
use Rattle.tb_chunk.specs.Col.{IsColumn}
use Rattle.tb_chunk.specs.ChunkViewArrays.{chunk_view_arrays}
use Rattle.tb_chunk.specs.Promise.Made.{at_least_one}
use Rattle.tb_chunk.proofs.Made.{is_of}
use Rattle.tb_supertype.proofs.Stacks.{stacked-again, stacked_column}
use Rattle.tb_supertype.proofs.casting.stack.Goals as goal

pub from_parts-requires-clause-column : goal.from_parts-requires-clause-column
from_parts-requires-clause-column c =
    let t = kind_of c.args.dtype in
    let e = c.in_ok-chunks.ensures.lists ∙ ap at_least_one (stacked-again t c.args.columns.now) in
    subst (λ (cs : List (List Datum)). IsColumn record { name = c.args.name; kind = t; chunks = cs; flag = Not; view_arrays = chunk_view_arrays c.in_ok-chunks.chunks }) (sym e)
    (stacked_column c.args.name t c.args.columns.now (chunk_view_arrays c.in_ok-chunks.chunks) c.requires.few c.requires.typed)

pub returns : goal.returns
returns c =
    let t = kind_of c.args.dtype in
    let lists = c.in_ok-chunks.ensures.lists ∙ ap at_least_one (stacked-again t c.args.columns.now) in
    let chunks = c.in_ok-chunks.chunks in
    is_of c.args.name t _ Not (chunk_view_arrays chunks) _ (c.from_parts.ensures ∙ (λ i. record { name = c.args.name; kind = t; chunks = lists i; flag = Not; view_arrays = chunk_view_arrays chunks }))
