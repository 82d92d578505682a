-- A filter on a left column may stand before a Left join.
use Rattle.std.proofs.Common.{◌≡◌, ℕ, List, length, get_or, sym, subst, Some, None}
use Rattle.tb_value.specs.Promise.Datum.{null}
use Rattle.tb_value.specs.Promise.Names.{Name}
use Rattle.tb_frame.specs.declared.args.JoinArgs.{JoinArgs}
use Rattle.tb_frame.specs.declared.args.JoinType.TheVariants.{Left}
use Rattle.tb_frame.specs.declared.args.JoinValidation.TheVariants.{ManyToMany}
use Rattle.tb_frame.specs.Promise.Join.{by_names, column_named}
use Rattle.tb_frame.specs.Promise.Refusal.{join_refusal}
use Rattle.tb_frame.specs.Promise.Table.{IsTable, Table, TableColumn, height}
use Rattle.tb_filter.specs.Promise.Filtered.{Check, passes, rows_kept, with_rows}
use Rattle.tb_node.specs.Kept.{kept}
use Rattle.tb_plan.specs.Promise.Outcome.{the_answer}
use Rattle.tb_node.proofs.KeptAnswer.{kept_filter, named_holds, named_kind, named_some}
use Rattle.tb_node.proofs.KeptRefusal.{kept_refusal}
use Rattle.tb_node.proofs.PushedMeans.{table_with}
use Rattle.tb_plan.proofs.TheAnswer.{answers}

pub before_join : (l r : Table) (lo ro : List Name) (a : JoinArgs) (n : Name) (k : Check) (c d : TableColumn) → IsTable l → IsTable r
    → a.how ≡ Left → a.validation ≡ ManyToMany → a.slice ≡ None → column_named l n ≡ Some c
    → join_refusal (by_names l r lo ro a) ≡ None → column_named (the_answer (by_names l r lo ro a)) n ≡ Some d
    → (join_refusal (by_names (with_rows (rows_kept k c) l) r lo ro a) ≡ None)
    × (d.kind ≡ c.kind)
    × (with_rows (rows_kept k d) (the_answer (by_names l r lo ro a)) ≡ the_answer (by_names (with_rows (rows_kept k c) l) r lo ro a))
before_join l r lo ro a n k c d left right how many whole there valid found =
    let rows : List ℕ = rows_kept k c in
    let level : height l ≡ length c.values = sym (named_holds (λ (e : TableColumn). length e.values ≡ height l) l n c left.one_height there) in
    let few : join_refusal (by_names (with_rows rows l) r lo ro a) ≡ None =
    subst (λ (m : ℕ). join_refusal (by_names (with_rows (kept (λ i. passes k (get_or c.values i null)) m) l) r lo ro a) ≡ None) level
    (kept_refusal (λ i. passes k (get_or c.values i null)) l r lo ro a how many (named_some l n c there) valid) in
    let whole_is = answers l r lo ro a left right valid in
    let part_is = answers (with_rows rows l) r lo ro a (table_with rows l left) right few in (
      few,
      named_kind l r lo ro a n c d (the_answer (by_names l r lo ro a)) how whole whole_is there found,
      kept_filter l r lo ro a n k c d (the_answer (by_names l r lo ro a)) (the_answer (by_names (with_rows rows l) r lo ro a)) how whole left there whole_is part_is found,
    )
