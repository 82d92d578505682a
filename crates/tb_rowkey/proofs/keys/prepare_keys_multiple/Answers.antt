use Rattle.std.proofs.Common.{◌≡◌, ℕ, Bool, List, [], ◌∷◌, Option, map, ap, sym, ◌∙◌}
use Rattle.std.proofs.lemmas.Result.{IfOk-weaker}
use Rattle.tb_value.specs.Promise.Datum.{Datum, binary}
use Rattle.tb_value.specs.Promise.Kind as kind
use Rattle.tb_value.specs.declared.sorted.IsSorted.TheVariants.{Not}
use Rattle.tb_chunk.specs.Chunk.{or_null}
use Rattle.tb_chunk.specs.Promise.Col.{Col}
use Rattle.tb_chunk.specs.Promise.Fresh.{fresh_view_array}
use Rattle.tb_view.specs.Promise.Layout.{text_view_array}
use Rattle.tb_chunk.specs.View.{texts}
use Rattle.tb_view.specs.Promise.ViewArrays.{ViewArray}
use Rattle.tb_chunk.proofs.Fresh.{fresh_binaries}
use Rattle.tb_rowkey.specs.Promise.Columns.{keys_at}
use Rattle.tb_rowkey.specs.Columns.{lent_columns, flag_of, key_column}
use Rattle.tb_rowkey.proofs.keys.prepare_keys_multiple.Goals as goal

pub column_of-requires-clause-few : goal.column_of-requires-clause-few
column_of-requires-clause-few c = rw c.in_ok-chunk_of-in-Some.ensures.value c.in_ok-chunk_of-in-Some.ensures.few

pub column_of-requires-clause-typed : goal.column_of-requires-clause-typed
column_of-requires-clause-typed c = rw c.in_ok-chunk_of-in-Some.ensures.value c.in_ok-chunk_of-in-Some.ensures.typed

-- a column of bytes without a name
abbrev bytes_column : List Datum → ViewArray → Col
bytes_column vs run = record { name = []; kind = kind.binary; chunks = vs ∷ []; flag = Not; view_arrays = run ∷ [] }

pub returns : goal.returns
returns c =
    let nulls : ℕ → Bool = flag_of c.args.join_nulls.now in
    let lent : lent_columns c.deref.result.now ≡ c.args.columns.now = ap lent_columns c.deref.ensures.value ∙ c.in_ok-lent.ensures in
    let chunk = c.in_ok-chunk_of-in-Some.field-0 in
    let rows : List (Option (List ℕ)) = texts chunk.inner.buffers.items chunk.inner.views.items in
    let cells = ap (map (or_null binary)) c.in_ok-chunk_of-in-Some.ensures.value in
    let keys = rw c.in-Some.is at c.in_ok-keys.ensures.keys in
    let views = c.in_ok-chunk_of-in-Some.ensures.views in
    let buffers = c.in_ok-chunk_of-in-Some.ensures.buffers in
    let own : ViewArray = record { views = chunk.inner.views.items; buffers = chunk.inner.buffers.items } in
    let run : own ≡ text_view_array _ = λ i. record { views = views i; buffers = buffers i } in
    let all = cells ∙ keys ∙ ap (λ (ds : List Col). keys_at ds nulls) lent in
    let fresh_keys = run ∙ sym (fresh_binaries _) ∙ ap fresh_view_array (keys ∙ ap (λ (ds : List Col). keys_at ds nulls) lent) in
    IfOk-weaker c.column_of.result (λ (s : Col). s ≡ bytes_column (map (or_null binary) rows) own) (λ (s : Col). s ≡ key_column c.args.columns.now nulls)
    (λ s h. h ∙ (λ i. bytes_column (all i) (fresh_keys i))) c.column_of.ensures
