use Rattle.std.proofs.Common.{ℕ, length, arith, sym, subst}
use Rattle.std.specs.Prelude.{map}
use Rattle.std.proofs.lemmas.List.{length-map}
use Rattle.tb_build.specs.Packed.{key_rows}
use Rattle.tb_build.specs.TableView.{IsSmall, IsTableOf, tables_view}
use Rattle.tb_build.proofs.Parts.{whole-table, whole-small}
use Rattle.tb_build.proofs.tables.one_part_tables.Goals as goal

pub invariant_of-tables : goal.invariant_of-tables
invariant_of-tables g c =
    let eq = g.K.PartialEq.eq in
    let code = g.K.KeyCode.code in
    let keys = g.L.KeyList.list c.args.list.now in
    let p = c.in_ok-parts in
    subst (λ (len : ℕ). IsSmall eq code (tables_view (map (key_rows eq) p.parts.items) len c.args.join_nulls c.args.left_built)) (sym c.len.ensures)
    (whole-small code keys eq g.met.K.KeyCode.codes_agree 1 (map (key_rows eq) p.parts.items) p.ensures.tables c.args.join_nulls c.args.left_built
    g.met.K.KeyCode.code_fits (omega arith) (omega arith) c.requires)

pub returns-clause-table : goal.returns-clause-table
returns-clause-table g c =
    let eq = g.K.PartialEq.eq in
    let code = g.K.KeyCode.code in
    let keys = g.L.KeyList.list c.args.list.now in
    let p = c.in_ok-parts in
    subst (λ (len : ℕ). IsTableOf eq code keys (tables_view (map (key_rows eq) p.parts.items) len c.args.join_nulls c.args.left_built)) (sym c.len.ensures)
    (whole-table code keys eq g.met.K.KeyCode.codes_agree 1 (map (key_rows eq) p.parts.items) p.ensures.tables c.args.join_nulls c.args.left_built
    g.met.K.KeyCode.code_fits (omega arith))
