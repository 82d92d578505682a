use Rattle.std.proofs.Common.{◌<◌, ◌∙◌, ap, sym, arith, Some, None, map}
use Rattle.std.proofs.lemmas.List.Elements.{All-same}
use Rattle.std.proofs.lemmas.List.{length-map}
use Rattle.tb_build.specs.KeyRows.{KeyRows}
use Rattle.tb_build.specs.Promise.Codes.{part_of}
use Rattle.tb_build.specs.Packed.{key_rows}
use Rattle.tb_build.specs.TableView.{rows_at, tables_view}
use Rattle.tb_build.proofs.PackedParts.{rows-in_part, rows-bare}
use Rattle.tb_build.proofs.tables.Tables.rows.Goals as goal

pub returns-in-Some-clause-value : goal.returns-in-Some-clause-value
returns-in-Some-clause-value g c =
    let t = c.self.inside in
    let found = rows-in_part g.K.PartialEq.eq g.K.KeyCode.code t.parts.items t.built_len t.join_nulls t.left_built c.in-Some.key c.part_in-part.result
    c.index.result.now c.rows.result.now
    (c.part_in-part.ensures.value ∙ ap (λ n. part_of (g.K.KeyCode.code c.in-Some.key) n) (c.len.ensures ∙ t.parts.ok.0))
    (omega (arith, c.part_in-part.ensures.below, c.len.ensures, t.parts.ok.0)) c.index.ensures c.rows.ensures in
    rw (← c.self.view_is)
    (found
    ∙ ap (rows_at g.K.PartialEq.eq g.K.KeyCode.code (tables_view (map (key_rows g.K.PartialEq.eq) t.parts.items) t.built_len t.join_nulls t.left_built))
    (sym c.in-Some.is))

pub returns-in-Some-clause-below : goal.returns-in-Some-clause-below
returns-in-Some-clause-below g c =
    let t = c.self.inside in
    let found = rows-in_part g.K.PartialEq.eq g.K.KeyCode.code t.parts.items t.built_len t.join_nulls t.left_built c.in-Some.key c.part_in-part.result
    c.index.result.now c.rows.result.now
    (c.part_in-part.ensures.value ∙ ap (λ n. part_of (g.K.KeyCode.code c.in-Some.key) n) (c.len.ensures ∙ t.parts.ok.0))
    (omega (arith, c.part_in-part.ensures.below, c.len.ensures, t.parts.ok.0)) c.index.ensures c.rows.ensures in
    rw (← c.self.view_is) (All-same (λ row. row < t.built_len) _ _ found (c.self.invariant.below (Some c.in-Some.key)))

pub returns-in-None-clause-below : goal.returns-in-None-clause-below
returns-in-None-clause-below g c =
    let t = c.self.inside in
    let found = rows-bare g.K.PartialEq.eq g.K.KeyCode.code t.parts.items t.built_len t.join_nulls t.left_built c.index-in-None.result.now
    c.bare_rows.result.now c.if-self.true (omega (
      arith,
      c.self.invariant.parts,
      length-map t.parts.items (key_rows g.K.PartialEq.eq),
      length-map (map (key_rows g.K.PartialEq.eq) t.parts.items) (λ (t : KeyRows _). t.entries),
    ))
    c.index-in-None.ensures c.bare_rows.ensures in
    rw (← c.self.view_is) (All-same (λ row. row < t.built_len) _ _ found (c.self.invariant.below None))
