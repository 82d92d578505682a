use Rattle.std.proofs.Common.{◌≡◌, ◌∙◌, ◌++◌, List, Option, None, Some, option_map, cond, replicate, refl, sym, ap}
use Rattle.tb_tree.specs.View.{item_view}
use Rattle.tb_value.specs.Promise.Datum.{binary}
use Rattle.tb_value.specs.Promise.Kind as kind
use Rattle.tb_json.specs.Promise.Cells.{cell_in}
use Rattle.tb_json.proofs.CellForms.{cell-null, cell-text}
use Rattle.tb_json.proofs.Pushed.{rows_shown}
use Rattle.tb_json.proofs.read_texts.push_bytes.Goals as goal

pub returns-then-is_null : goal.returns-then-is_null
returns-then-is_null c =
    rw (cell-null kind.binary (item_view c.args.value) (sym c.is_null.ensures ∙ c.if-is_null.true))
    (refl, rows_shown binary c.args.builder.now.rows c.push_nulls.new.self.rows None c.args.times (ap (λ b. b.rows) c.in_ok-push_nulls.ensures.ok))

pub returns-in_ok-push_times : goal.returns-in_ok-push_times
returns-in_ok-push_times c =
    let bytes = c.decode_short.new.buffer.items in
    let read : cell_in kind.binary (item_view c.args.value) ≡ Some (binary bytes) =
    sym (cell-text kind.binary (item_view c.args.value) c.in-Some.digits.now c.in-Some.ensures)
    ∙ ap (option_map binary) (sym c.in_ok-pushed.ensures)
    ∙ ap (λ b. option_map binary (cond b (Some bytes) None)) c.if-pushed.true in
    rw read
    (c.if-pushed.true, rows_shown binary c.args.builder.now.rows c.push_times.new.self.rows (Some bytes) c.args.times (ap (λ b. b.rows) c.in_ok-push_times.ensures.ok ∙ ap (λ s. c.args.builder.now.rows ++ replicate c.args.times (Some s)) c.deref.ensures.value))
