use Rattle.std.proofs.Common.{◌≡◌, length, map, ap, ◌∙◌}
use Rattle.std.specs.Prelude.{IfSome}
use Rattle.std.specs.Borrow.{Bor}
use Rattle.std.proofs.lemmas.List.{length-map}
use Rattle.std.proofs.lemmas.Result.{IfOk-weaker}
use Rattle.tb_value.specs.Promise.Datum.{binary}
use Rattle.tb_chunk.specs.Chunk.{or_null}
use Rattle.tb_chunk.specs.Lent.{lent_columns}
use Rattle.tb_frame.specs.Promise.Join.{flag_at}
use Rattle.tb_rowkey.specs.Promise.Columns.{keys_at}
use Rattle.tb_rowkey.specs.Columns.{flag_of}
use Rattle.tb_rowkey.proofs.Written.{some_weaker}
use Rattle.tb_pairs.proofs.RowKeys.{flagged_keys, listed_flags}
use Rattle.tb_alone.proofs.keys.row_keys.Goals as goal

pub of_columns-requires-clause-flags : goal.of_columns-requires-clause-flags
of_columns-requires-clause-flags c =
    ap length (c.deref.ensures.value ∙ c.in_ok-flags.ensures) ∙ listed_flags (flag_at c.args.nulls.now) (length c.args.columns.now)

pub returns-clause-keys : goal.returns-clause-keys
returns-clause-keys c =
    let cs = lent_columns c.args.columns.now in
    let n = flag_at c.args.nulls.now in
    let same =
    flagged_keys n (length c.args.columns.now) c.deref.result.now cs (c.deref.ensures.value ∙ c.in_ok-flags.ensures)
    (length-map c.args.columns.now (λ (r : Bor _). r.now))
    in
    let f = flag_of c.deref.result.now in
    IfOk-weaker c.of_columns.result (λ keys. IfSome keys (λ k. map (or_null binary) k ≡ keys_at cs f))
    (λ keys. IfSome keys (λ k. map (or_null binary) k ≡ keys_at cs n))
    (λ keys h. some_weaker keys (λ k. map (or_null binary) k ≡ keys_at cs f) (λ k. map (or_null binary) k ≡ keys_at cs n) (λ k is. is ∙ same) h)
    c.of_columns.ensures.keys
