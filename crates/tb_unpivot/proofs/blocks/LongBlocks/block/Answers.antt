use Rattle.std.proofs.Common.{◌≡◌, ◌≤◌, ◌-◌, ◌∙◌, Bor, ℕ, List, ap, drop, length, subst, sym, take}
use Rattle.std.proofs.lemmas.Result.{IfOk-weaker}
use Rattle.std.specs.List.{All}
use Rattle.tb_value.specs.Promise.Kind.{Kind}
use Rattle.tb_value.specs.SeeKind.{kind_of}
use Rattle.tb_chunk.specs.Promise.Col.{Col}
use Rattle.tb_chunk.specs.Lent.{lent_columns}
use Rattle.tb_frame.specs.Promise.Table.{table_of}
use Rattle.tb_supertype.specs.Columns.{CastsTo}
use Rattle.tb_unpivot.specs.Blocks.{LongParts, block_table}
use Rattle.tb_unpivot.specs.Promise.Unpivot.{long_table}
use Rattle.tb_unpivot.proofs.LongParts.{part_few, part_is, part_level, part_refusal, part_typed, parts_width}
use Rattle.tb_unpivot.proofs.blocks.LongBlocks.block.Goals as goal

pub part-on-requires-clause-within : goal.part-on-requires-clause-within
part-on-requires-clause-within c =
    let self = c.self.inside in
    subst (λ (n : ℕ). c.args.last ≤ n)
    (ap (λ (p : LongParts). length p.on) (sym c.self.view_is) ∙ parts_width self.rows self.asked self.variable self.value ∙ ap length (sym c.deref.ensures.value)) c.requires.within

pub long_columns-requires-clause-few : goal.long_columns-requires-clause-few
long_columns-requires-clause-few c =
    let a = c.args.first in
    let b = c.args.last in
    part_few _ _ _ _ c.self.invariant a b c.part-on.result.now c.deref-2.result.now (c.part-on.ensures ∙ ap (λ (rs : List (Bor Col)). take (b - a) (drop a rs)) c.deref.ensures.value) c.deref-2.ensures.value

pub long_columns-requires-clause-level : goal.long_columns-requires-clause-level
long_columns-requires-clause-level c =
    let a = c.args.first in
    let b = c.args.last in
    part_level _ _ _ _ c.self.invariant a b c.part-on.result.now c.deref-2.result.now (c.part-on.ensures ∙ ap (λ (rs : List (Bor Col)). take (b - a) (drop a rs)) c.deref.ensures.value) c.deref-2.ensures.value

pub long_columns-requires-clause-typed : goal.long_columns-requires-clause-typed
long_columns-requires-clause-typed c =
    let a = c.args.first in
    let b = c.args.last in
    subst (λ (k : Kind). All (λ (r : Bor Col). CastsTo k r.now) c.part-on.result.now) (sym c.in_ok-dtype.ensures)
    (part_typed _ _ _ _ c.self.invariant a b c.part-on.result.now c.deref-2.result.now (c.part-on.ensures ∙ ap (λ (rs : List (Bor Col)). take (b - a) (drop a rs)) c.deref.ensures.value) c.deref-2.ensures.value)

pub level_table-requires : goal.level_table-requires
level_table-requires c =
    let a = c.args.first in
    let b = c.args.last in
    let on = table_of (lent_columns c.part-on.result.now) in
    let index = table_of (lent_columns c.deref-2.result.now) in
    let t = kind_of c.in_ok-dtype.dtype in
    part_refusal _ _ _ _ c.self.invariant a b c.part-on.result.now c.deref-2.result.now (c.part-on.ensures ∙ ap (λ (rs : List (Bor Col)). take (b - a) (drop a rs)) c.deref.ensures.value) c.deref-2.ensures.value
    t (table_of c.in_ok-columns.columns.items) (c.in_ok-columns.ensures ∙ (λ i. long_table t on index (c.as_str-variable.ensures i) (c.as_str-value.ensures i)))

pub returns : goal.returns
returns c =
    let a = c.args.first in
    let b = c.args.last in
    let on = table_of (lent_columns c.part-on.result.now) in
    let index = table_of (lent_columns c.deref-2.result.now) in
    let t = kind_of c.in_ok-dtype.dtype in
    let made : table_of c.in_ok-columns.columns.items ≡ block_table c.args.self.now a b =
    c.in_ok-columns.ensures
    ∙ (λ i. long_table t on index (c.as_str-variable.ensures i) (c.as_str-value.ensures i))
    ∙ part_is _ _ _ _ c.self.invariant a b c.part-on.result.now c.deref-2.result.now (c.part-on.ensures ∙ ap (λ (rs : List (Bor Col)). take (b - a) (drop a rs)) c.deref.ensures.value) c.deref-2.ensures.value t c.in_ok-dtype.ensures
    ∙ ap (λ (p : LongParts). block_table p a b) c.self.view_is
    in
    IfOk-weaker c.level_table.result (λ (t : List Col). t ≡ c.in_ok-columns.columns.items) (λ (t : List Col). table_of t ≡ block_table c.args.self.now a b) (λ t e. ap table_of e ∙ made) c.level_table.ensures
