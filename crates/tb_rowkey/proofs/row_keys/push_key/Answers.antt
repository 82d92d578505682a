use Rattle.std.proofs.Common.{◌++◌, ◌∙◌, ap, sym, arith}
use Rattle.std.proofs.lemmas.List.{append-nil}
use Rattle.tb_rowkey.specs.Promise.Columns.{row_bytes}
use Rattle.tb_rowkey.proofs.KeyRows.{grown, taken_back, no_key_written, key_written}
use Rattle.tb_rowkey.proofs.row_keys.push_key.Goals as goal
use Rattle.tb_rowkey.proofs.row_keys.push_key.Goals.{then-not-has_key, else-not-has_key}

pub overflow_sub-result : goal.overflow_sub-result
overflow_sub-result c =
    let more = grown c.args.bytes.now.items c.push_fields.new.bytes.items _ c.in_ok-has_key.ensures.bytes in
    omega (arith, more, c.len-start.ensures, c.len-end.ensures, c.args.bytes.now.ok.0, c.push_fields.new.bytes.ok.0)

pub returns-clause-len : goal.returns-clause-len
returns-clause-len c =
    let more = grown c.args.bytes.now.items c.push_fields.new.bytes.items _ c.in_ok-has_key.ensures.bytes in
    omega (arith, more, c.len-start.ensures, c.len-end.ensures, c.args.bytes.now.ok.0, c.push_fields.new.bytes.ok.0)

pub returns-clause-bytes : goal.returns-clause-bytes
returns-clause-bytes c =
    let before = c.args.bytes.now.items in
    let row = row_bytes c.args.columns.now c.args.row in
    let written = c.in_ok-has_key.ensures in
    elim c.if-not-has_key.branch [
      | then-not-has_key w ↦
          ap (λ v. v.items) w.bytes-is ∙ w.truncate.ensures.items
          ∙ taken_back before c.push_fields.new.bytes.items row c.len-start.result written.bytes (c.len-start.ensures ∙ c.args.bytes.now.ok.0)
          ∙ sym (append-nil before) ∙ ap (λ l. before ++ l) (sym (no_key_written _ row (sym written.key ∙ w.if-not-has_key.true)))
      | else-not-has_key w ↦
          ap (λ v. v.items) w.bytes-is ∙ written.bytes ∙ ap (λ l. before ++ l) (sym (key_written _ row (sym written.key ∙ w.if-not-has_key.false)))
    ]
