use Rattle.std.proofs.Common.{◌∙◌, ◌-◌, ℕ, List, ap, subst, length, take, drop}
use Rattle.tb_build.specs.Packed.{IsRun, rows_of_key}
use Rattle.tb_alone.proofs.InOrder.{run-rows}
use Rattle.tb_alone.proofs.table.KeyTable.rows.Goals as goal

pub returns : goal.returns
returns g c =
    let t = c.self.inside in
    let eq = g.K.PartialEq.eq in
    let k = c.args.key.now in
    let from = c.run_of-from.result.0 in
    let to = c.run_of-from.result.1 in
    let run = subst (λ (ks : List g.row.K.Denot). IsRun (eq k) ks 0 (length ks) from to) c.as_slice.ensures.value c.run_of-from.ensures in
    c.part.ensures ∙ ap (λ (rows : List ℕ). take (to - from) (drop from rows)) c.as_slice-2.ensures.value
    ∙ run-rows eq t.keys.items t.rows.items c.self.invariant.long k from to run
    ∙ ap (λ (items : List (g.row.K.Denot × ℕ)). rows_of_key eq items k) c.self.view_is
