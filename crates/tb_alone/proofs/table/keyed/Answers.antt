use Rattle.std.proofs.Common.{◌++◌, ◌∷◌, [], refl, List, ℕ, sym, subst}
use Rattle.tb_value.specs.Promise.Pairs.{row_numbers}
use Rattle.tb_value.proofs.RowNumbers.{row_numbers_more}
use Rattle.tb_build.specs.Pieces.{AreItemsOf, AreKeyed, without_key}
use Rattle.tb_build.proofs.PieceItems.{keyed-more, keyed-bare}
use Rattle.tb_alone.proofs.table.keyed.Goals as goal
use Rattle.tb_alone.proofs.table.keyed.Goals.{in-Some+in_ok-push, in_default}

pub loop-row-preserved : goal.loop-row-preserved
loop-row-preserved g c =
    let eq = g.K.PartialEq.eq in
    let all = g.L.KeyList.list c.args.list.now in
    let i = c.loop-row.row in
    let rows = row_numbers i in
    let items = c.loop-row.items.items in
    let more = sym (row_numbers_more i) in
    let was : AreKeyed eq all rows items (without_key all rows) = record { there = c.loop-row.invariant; absent = refl } in
    elim c.match-key.branch [
      | in-Some+in_ok-push w ↦
          rw (w.items-is, w.in_ok-push.ensures.items)
          (subst (λ (rows : List ℕ). AreItemsOf eq all rows (items ++ (w.in-Some.key, i) ∷ [])) more
          (keyed-more eq all rows items (without_key all rows) was i w.in-Some.key w.in-Some.ensures).there)
      | in_default w ↦
          rw w.items-is
          (subst (λ (rows : List ℕ). AreItemsOf eq all rows items) more
          (keyed-bare eq all rows items (without_key all rows) was i w.in_default.ensures).there)
    ]
