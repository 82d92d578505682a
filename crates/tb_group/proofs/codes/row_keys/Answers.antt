use Rattle.std.proofs.Common.{◌≡◌, ◌∙◌, ℕ, true, Bor, length, map, replicate, ap, sym, subst, arith}
use Rattle.std.specs.Prelude.{IfSome}
use Rattle.std.proofs.lemmas.List.{length-map}
use Rattle.tb_value.specs.Promise.Datum.{binary}
use Rattle.tb_chunk.specs.Chunk.{or_null}
use Rattle.tb_chunk.specs.Lent.{lent_columns}
use Rattle.tb_chunk.specs.Promise.Col.{Col}
use Rattle.tb_rowkey.specs.Columns.{flag_of}
use Rattle.tb_rowkey.specs.Promise.Columns.{keys_at}
use Rattle.tb_group.proofs.RowCodes.{row_codes_are}
use Rattle.tb_group.proofs.codes.row_keys.Goals as goal

pub returns-in-Some : goal.returns-in-Some
returns-in-Some c =
    let cs = lent_columns c.args.by.now in
    let long : length cs ≡ length c.args.by.now = length-map c.args.by.now (λ (r : Bor Col). r.now) in
    let flags = c.deref.result.now in
    let on = c.deref.ensures.value ∙ c.in_ok-nulls.ensures.items_if_clones_equal (λ y h. h) ∙ ap (λ (n : ℕ). replicate n true) (sym long) in
    let keys : map (or_null binary) c.in-Some.keys ≡ keys_at cs (flag_of flags)
    = subst (λ o. IfSome o (λ k. map (or_null binary) k ≡ keys_at cs (flag_of flags))) c.in-Some.is c.in_ok-keys.ensures.keys in
    row_codes_are cs (omega (arith, c.requires.some, long)) flags on c.in-Some.keys keys
