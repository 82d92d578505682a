use Rattle.std.proofs.Common.{◌≡◌, ◌∙◌, map, subst}
use Rattle.std.specs.Prelude.{IfSome}
use Rattle.tb_value.specs.Promise.Datum.{binary}
use Rattle.tb_chunk.specs.Chunk.{or_null}
use Rattle.tb_chunk.specs.Lent.{lent_columns}
use Rattle.tb_rowkey.specs.Columns.{flag_of}
use Rattle.tb_rowkey.specs.Promise.Columns.{keys_at}
use Rattle.tb_split.proofs.KeyRows.{keys_are}
use Rattle.tb_split.proofs.keys.row_keys.Goals as goal

pub returns-in-Some : goal.returns-in-Some
returns-in-Some c =
    let cs = lent_columns c.args.columns.now in
    let flags = c.deref.result.now in
    let off = c.deref.ensures.value ∙ c.in_ok-nulls.ensures.items_if_clones_equal (λ y h. h) in
    let keys : map (or_null binary) c.in-Some.keys ≡ keys_at cs (flag_of flags)
    = subst (λ o. IfSome o (λ k. map (or_null binary) k ≡ keys_at cs (flag_of flags))) c.in-Some.is c.in_ok-keys.ensures.keys in
    keys_are cs flags _ c.in-Some.keys off keys
