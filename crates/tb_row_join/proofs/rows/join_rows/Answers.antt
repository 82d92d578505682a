use Rattle.std.proofs.Common.{◌≡◌, ◌∙◌, ℕ, Bool, Option, None, sym, get_or, length, arith}
use Rattle.std.proofs.lemmas.Result.{IfOk-weaker}
use Rattle.tb_build.specs.Keys.{rows_match}
use Rattle.tb_row_join.proofs.PairNumbers.{left-joined, right-joined}
use Rattle.tb_row_join.proofs.Turned.{match-turned}
use Rattle.tb_row_join.proofs.rows.join_rows.Goals as goal

pub returns-then-is_right-clause-joined : goal.returns-then-is_right-clause-joined
returns-then-is_right-clause-joined g c =
    let eq = g.K.PartialEq.eq in
    let ls = g.L.KeyList.list c.args.left.now in
    let rs = g.R.KeyList.list c.args.right.now in
    let nulls = c.args.join_nulls in
    IfOk-weaker c.probe_rows.result _ _
    (λ count w. right-joined (length ls) (length rs) (rows_match eq nulls ls rs) (rows_match eq nulls rs ls) (λ j i. match-turned eq g.met.K.Eq.laws nulls (get_or rs j None) (get_or ls i None))
    c.requires.few_left c.args.how (sym c.is_right.ensures ∙ c.if-is_right.true) c.args.left_room.now c.args.right_room.now c.probe_rows.new.built_room c.probe_rows.new.probed_room count w)
    c.probe_rows.ensures.written

pub returns-clause-joined : goal.returns-clause-joined
returns-clause-joined g c =
    let eq = g.K.PartialEq.eq in
    let ls = g.L.KeyList.list c.args.left.now in
    let rs = g.R.KeyList.list c.args.right.now in
    let nulls = c.args.join_nulls in
    IfOk-weaker c.probe_rows-2.result _ _
    (λ count w. left-joined (length ls) (length rs) (rows_match eq nulls ls rs)
    c.requires.few_right c.args.how (sym c.is_right.ensures ∙ c.if-is_right.false) c.args.left_room.now c.args.right_room.now c.probe_rows-2.new.probed_room c.probe_rows-2.new.built_room count w)
    c.probe_rows-2.ensures.written
