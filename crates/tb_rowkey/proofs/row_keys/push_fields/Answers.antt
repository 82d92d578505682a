use Rattle.std.proofs.Common.{◌<◌, length, refl, ◌||◌, ◌&&◌, ◌∙◌, ap, sym, subst, arith}
use Rattle.tb_chunk.specs.Promise.Col.{Col, values}
use Rattle.tb_rowkey.specs.Columns.{flag_of}
use Rattle.tb_rowkey.proofs.KeyRows.{from_first, bytes_read, key_read, bytes_all, key_all}
use Rattle.tb_rowkey.proofs.row_keys.push_fields.Goals as goal

pub push_field-requires : goal.push_field-requires
push_field-requires c = subst (λ (d : Col). c.args.row < length (values d)) (sym c.index-columns-place.is)
    (c.requires.rows c.loop-place.place c.index-columns-place.result c.loop-place-test.true)

pub loop-place-init : goal.loop-place-init
loop-place-init c = record {
  bytes_so_far = refl;
  key_so_far = from_first (flag_of c.args.join_nulls.now) c.args.columns.now c.args.row;
}

pub loop-place-preserved : goal.loop-place-preserved
loop-place-preserved c =
    let cs = c.args.columns.now in
    let n = c.loop-place.place in
    let d = c.index-columns-place.result in
    let so_far = c.loop-place.invariant in
    record {
      bytes_so_far = bytes_read cs (flag_of c.args.join_nulls.now) c.args.row n d c.loop-place-test.true c.index-columns-place.is
          c.loop-place.bytes.items c.push_field.new.bytes.items _ c.in_ok-is_present.ensures.bytes so_far.bytes_so_far;
      key_so_far = key_read cs (flag_of c.args.join_nulls.now) c.args.row n d c.loop-place-test.true c.index-columns-place.is
          c.loop-place.has_key c.keeps_key-has_key.result _
          (c.keeps_key-has_key.ensures ∙ ap (λ b. c.loop-place.has_key && (b || flag_of c.args.join_nulls.now n)) c.in_ok-is_present.ensures.present) so_far.key_so_far;
    }

pub returns-clause-bytes : goal.returns-clause-bytes
returns-clause-bytes c = bytes_all c.args.columns.now (flag_of c.args.join_nulls.now) c.args.row c.loop-place.place (omega arith)
    c.loop-place.bytes.items _ c.loop-place.invariant.bytes_so_far

pub returns-clause-key : goal.returns-clause-key
returns-clause-key c = key_all c.args.columns.now (flag_of c.args.join_nulls.now) c.args.row c.loop-place.place (omega arith)
    c.loop-place.has_key _ c.loop-place.invariant.key_so_far
