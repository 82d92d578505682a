use Rattle.std.proofs.Common.{◌≡◌, ℕ, Bool, List, map, ap, sym, ◌∙◌, arith}
use Rattle.std.specs.Prelude.{◌↔◌, IfSome, IsSome}
use Rattle.std.proofs.lemmas.List.{length-map}
use Rattle.std.proofs.lemmas.Result.{IfOk-weaker}
use Rattle.tb_value.specs.Promise.Datum.{binary}
use Rattle.tb_chunk.specs.Chunk.{or_null}
use Rattle.tb_chunk.specs.Promise.Col.{Col}
use Rattle.tb_rowkey.specs.Promise.Columns.{keys_at}
use Rattle.tb_rowkey.specs.Columns.{lent_columns, flag_of, AreShortRows}
use Rattle.tb_rowkey.specs.FieldColumns.{typed_values}
use Rattle.tb_rowkey.proofs.TypedValues.{same_length, same_rows, same_short, same_keys}
use Rattle.tb_rowkey.proofs.Written.{some_weaker}
use Rattle.tb_rowkey.proofs.row_keys.RowKeys.of_columns.Goals as goal

-- the columns whose fields are read have the types and values of the given ones
fields_are : (fs more cs : List Col) → fs ≡ more → map typed_values more ≡ map typed_values cs → map typed_values cs ≡ map typed_values fs
fields_are fs more cs e f = sym (ap (map typed_values) e ∙ f)

pub field_columns-requires : goal.field_columns-requires
field_columns-requires c = c.deref.ensures.value ∙ c.in_ok-joined.ensures

pub keys_of-requires-clause-some : goal.keys_of-requires-clause-some
keys_of-requires-clause-some c =
    let cs = lent_columns c.args.columns.now in
    let long = same_length cs c.deref-2.result.now (fields_are c.deref-2.result.now c.in_ok-fields.fields.items cs c.deref-2.ensures.value c.in_ok-fields.ensures) in
    let given = length-map c.args.columns.now (λ r. r.now) in
    omega (arith, long, given, c.requires.some)

pub keys_of-requires-clause-rows : goal.keys_of-requires-clause-rows
keys_of-requires-clause-rows c =
    let cs = lent_columns c.args.columns.now in
    same_rows cs c.deref-2.result.now (fields_are c.deref-2.result.now c.in_ok-fields.fields.items cs c.deref-2.ensures.value c.in_ok-fields.ensures) c.requires.rows

pub keys_of-requires-clause-flags : goal.keys_of-requires-clause-flags
keys_of-requires-clause-flags c =
    let cs = lent_columns c.args.columns.now in
    let long = same_length cs c.deref-2.result.now (fields_are c.deref-2.result.now c.in_ok-fields.fields.items cs c.deref-2.ensures.value c.in_ok-fields.ensures) in
    let given = length-map c.args.columns.now (λ r. r.now) in
    omega (arith, long, given, c.requires.flags)

pub returns-clause-short : goal.returns-clause-short
returns-clause-short c =
    let cs = lent_columns c.args.columns.now in
    let fs = c.deref-2.result.now in
    let e = fields_are fs c.in_ok-fields.fields.items cs c.deref-2.ensures.value c.in_ok-fields.ensures in
    IfOk-weaker c.keys_of.result (λ keys. IsSome keys ↔ AreShortRows fs) (λ keys. IsSome keys ↔ AreShortRows cs)
    (λ keys h. (λ some. same_short fs cs (sym e) (h.0 some), λ short. h.1 (same_short cs fs e short))) c.keys_of.ensures.short

pub returns-clause-keys : goal.returns-clause-keys
returns-clause-keys c =
    let cs = lent_columns c.args.columns.now in
    let fs = c.deref-2.result.now in
    let nulls : ℕ → Bool = flag_of c.args.join_nulls.now in
    let e = fields_are fs c.in_ok-fields.fields.items cs c.deref-2.ensures.value c.in_ok-fields.ensures in
    IfOk-weaker c.keys_of.result (λ keys. IfSome keys (λ k. map (or_null binary) k ≡ keys_at fs nulls))
    (λ keys. IfSome keys (λ k. map (or_null binary) k ≡ keys_at cs nulls))
    (λ keys h. some_weaker keys (λ k. map (or_null binary) k ≡ keys_at fs nulls) (λ k. map (or_null binary) k ≡ keys_at cs nulls)
    (λ k is. is ∙ same_keys fs cs (sym e) nulls) h) c.keys_of.ensures.keys
