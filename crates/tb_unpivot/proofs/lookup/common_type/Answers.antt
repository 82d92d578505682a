use Rattle.std.proofs.Common.{◌≡◌, ◌+◌, ◌∙◌, Bor, List, Ok, ap, arith, drop}
use Rattle.std.proofs.lemmas.List.{drop_all}
use Rattle.std.proofs.lemmas.Result.{err_from_is_err_and}
use Rattle.tb_value.specs.Promise.Kind as kind
use Rattle.tb_value.specs.SeeKind.{kind_of}
use Rattle.tb_chunk.specs.Promise.Col.{Col}
use Rattle.tb_chunk.specs.Lent.{lent_columns}
use Rattle.tb_frame.specs.Promise.Table.{plain_column, table_of}
use Rattle.tb_unpivot.specs.Promise.Unpivot.{common_kind}
use Rattle.tb_unpivot.proofs.CommonKinds.{kind_more, refused, refused_here}
use Rattle.tb_unpivot.proofs.Lists.{next_left}
use Rattle.tb_unpivot.proofs.lookup.common_type.Goals as goal

pub returns-in_err-dtype-clause-settles : goal.returns-in_err-dtype-clause-settles
returns-in_err-dtype-clause-settles c =
    let rs = c.args.columns.now in
    let i = c.loop-column.column-index in
    let r = c.column-item.result in
    let t = kind_of c.loop-column.dtype in
    let p = err_from_is_err_and c.from_residual.result c.from_residual.ensures.1 in
    rw (p.1, p.2) (refused_here t (plain_column r.now) (table_of (lent_columns (drop (i + 1) rs))) (table_of (lent_columns rs)) _ (c.loop-column.invariant ∙ ap (common_kind t) (next_left rs i r c.loop-column-test.true c.column-item.is)) c.in_err-dtype.ensures.settles)

pub loop-column-preserved : goal.loop-column-preserved
loop-column-preserved c =
    let rs = c.args.columns.now in
    let i = c.loop-column.column-index in
    let r = c.column-item.result in
    let t = kind_of c.loop-column.dtype in
    c.loop-column.invariant ∙ ap (common_kind t) (next_left rs i r c.loop-column-test.true c.column-item.is) ∙ kind_more t (kind_of c.in_ok-dtype.dtype) (plain_column r.now) (table_of (lent_columns (drop (i + 1) rs))) c.in_ok-dtype.ensures.value

pub returns-clause-value : goal.returns-clause-value
returns-clause-value c =
    let rs = c.args.columns.now in
    c.loop-column.invariant ∙ ap (λ (ds : List (Bor Col)). common_kind (kind_of c.loop-column.dtype) (table_of (lent_columns ds))) (drop_all c.loop-column.column-index rs (omega arith))

pub returns-clause-settles : goal.returns-clause-settles
returns-clause-settles c =
    let rs = c.args.columns.now in
    let value : common_kind kind.null (table_of (lent_columns rs)) ≡ Ok (kind_of c.loop-column.dtype) = c.loop-column.invariant ∙ ap (λ (ds : List (Bor Col)). common_kind (kind_of c.loop-column.dtype) (table_of (lent_columns ds))) (drop_all c.loop-column.column-index rs (omega arith)) in
    ap refused value
