use Rattle.std.proofs.Common.{◌≡◌, ◌∙◌, sym, ap, cond, Some, None, replicate, length, arith}
use Rattle.std.specs.Prelude.{is_some}
use Rattle.std.specs.List.{list_all}
use Rattle.serde_json.specs.Find.{as_null}
use Rattle.tb_tree.specs.View.{listed}
use Rattle.tb_value.specs.Promise.Datum.{null}
use Rattle.tb_json.proofs.ArrayWalks.{nulls-each}
use Rattle.tb_json.proofs.read_arrays.nulls_of.Goals as goal

pub returns-then-are_null : goal.returns-then-are_null
returns-then-are_null c =
    let ds = listed c.args.items in
    ap (λ n. Some (replicate n null)) c.len.ensures
    ∙ ap (λ b. cond b (Some (replicate (length ds) null)) None) (sym c.if-are_null.true ∙ c.are_null.ensures)
    ∙ nulls-each ds

pub returns-else-are_null : goal.returns-else-are_null
returns-else-are_null c =
    let ds = listed c.args.items in
    ap (λ b. cond b (Some (replicate (length ds) null)) None) (sym c.if-are_null.false ∙ c.are_null.ensures)
    ∙ nulls-each ds
