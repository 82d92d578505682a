use Rattle.std.proofs.Common.{◌≡◌, ◌∙◌, List, Option, Bor, ap, arith, map, take}
use Rattle.std.specs.List.{All, flat_map}
use Rattle.std.proofs.lemmas.List.{take_all}
use Rattle.std.proofs.lemmas.Result.{IfOk-weaker}
use Rattle.tb_value.specs.Promise.Datum.{string}
use Rattle.tb_value.specs.Promise.Kind as kind
use Rattle.tb_value.specs.Promise.Names.{Name}
use Rattle.tb_value.specs.Promise.Typed.{HasType}
use Rattle.tb_chunk.specs.Chunk.{or_null}
use Rattle.tb_chunk.specs.Promise.Col.{Col}
use Rattle.tb_chunk.specs.Lent.{lent_columns}
use Rattle.tb_chunk.specs.View.{texts}
use Rattle.tb_chunk.specs.declared.chunk.StringChunk.{StringChunk}
use Rattle.tb_unpivot.proofs.Lists.{names_at, names_more}
use Rattle.tb_unpivot.proofs.columns.name_chunk.Goals as goal

pub loop-column-preserved : goal.loop-column-preserved
loop-column-preserved c =
    names_more c.loop-column.names.rows _ c.args.columns.now c.loop-column.column-index c.column-item.result _ c.len.result c.loop-column-test.true c.column-item.is (c.as_str.ensures ∙ c.name.ensures) c.len.ensures.len (ap (λ b. b.rows) c.in_ok-push_times.ensures.ok) c.loop-column.invariant

abbrev rows_of : StringChunk → List (Option Name)
rows_of b = texts b.inner.buffers.items b.inner.views.items

pub returns-clause-names : goal.returns-clause-names
returns-clause-names c =
    let rows = c.loop-column.names.rows in
    let all : take c.loop-column.column-index c.args.columns.now ≡ c.args.columns.now = take_all c.loop-column.column-index c.args.columns.now (omega arith) in
    IfOk-weaker c.finish.result (λ (b : StringChunk). rows_of b ≡ rows) (λ (b : StringChunk). map (or_null string) (rows_of b) ≡ flat_map names_at (lent_columns c.args.columns.now))
    (λ b h. ap (map (or_null string)) h ∙ c.loop-column.invariant ∙ ap (λ (rs : List (Bor Col)). flat_map names_at (lent_columns rs)) all) c.finish.ensures.texts

pub returns-clause-typed : goal.returns-clause-typed
returns-clause-typed c =
    IfOk-weaker c.finish.result (λ (b : StringChunk). rows_of b ≡ c.loop-column.names.rows) (λ (b : StringChunk). All (HasType kind.string) (map (or_null string) (rows_of b)))
    (λ b h. rw h c.finish.ensures.typed) c.finish.ensures.texts
