-- What is asked with what is lent of a call is what is asked by the call.
use Rattle.std.proofs.Common.{◌≡◌, List, Option, Result, IfOk, subst}
use Rattle.std.specs.Borrow.{Bor}
use Rattle.std.specs.Option.{option_copied}
use Rattle.tb_value.specs.Promise.Names.{Name}
use Rattle.tb_value.specs.Refusals.{Settles}
use Rattle.tb_value.specs.declared.error.PolarsError.{PolarsError}
use Rattle.tb_chunk.specs.Promise.Col.{Col}
use Rattle.tb_frame.specs.Join as lent_join
use Rattle.tb_frame.specs.Promise.Join as joined
use Rattle.tb_frame.specs.Promise.Join.{IsAnswer}
use Rattle.tb_frame.specs.Promise.Refusal.{join_refusal}
use Rattle.tb_frame.specs.Promise.Table.{Table, table_of}
use Rattle.tb_pool.specs.Promise.ExecView.{ExecView}
use Rattle.tb_pairs.specs.Promise.Trace.{IsTraced}
use Rattle.tb_pairs.specs.declared.trace.JoinTrace.{JoinTrace}
use Rattle.tb_join.specs.Promise.Traced.{named_trace}
use Rattle.tb_dummies.specs.Lent as lent
use Rattle.tb_dummies.specs.Promise.Dummies as marked
use Rattle.tb_dummies.specs.Promise.Dummies.{dummies_refusal, dummies_table}
use Rattle.tb_pivot.specs.Lent as borrowed
use Rattle.tb_pivot.specs.Promise.Pivot.{pivot_table}
use Rattle.tb_pivot.specs.Promise.Refusal.{pivot_refusal}
use Rattle.tb_pivot.specs.Promise.Request.{way_of}
use Rattle.tb_label.specs.Promise.Label.{separator_or}
use Rattle.tb_pivot.specs.Promise.Request as wide
use Rattle.tb_calls.specs.declared.arguments.DummiesCall.{DummiesCall}
use Rattle.tb_calls.specs.declared.arguments.JoinCall.{JoinCall}
use Rattle.tb_calls.specs.declared.arguments.PivotCall.{PivotCall}
use Rattle.tb_calls.specs.Promise.Asked.{joined_of, marked_of, names_in, wide_of}

-- ---- joins

module _ (c : JoinCall) (left right : List Col) (left_on right_on : List Name) (l : left_on ≡ c.left_on.items) (r : right_on ≡ c.right_on.items) where
  joined_is : lent_join.lent_request left right left_on right_on c.args ≡ joined_of c (table_of left) (table_of right)
  joined_is = λ t. joined.by_names (table_of left) (table_of right) (l t) (r t) c.args

  pub join_settles : {A : Type 0} (result : Result A PolarsError) → Settles result (join_refusal (lent_join.lent_request left right left_on right_on c.args))
      → Settles result (join_refusal (joined_of c (table_of left) (table_of right)))
  join_settles result settles = subst (λ (q : joined.Request). Settles result (join_refusal q)) joined_is settles

  pub join_answers : {A : Type 0} (table : A → Table) (result : Result A PolarsError)
      → IfOk result (λ x. IsAnswer (lent_join.lent_request left right left_on right_on c.args) (table x))
      → IfOk result (λ x. IsAnswer (joined_of c (table_of left) (table_of right)) (table x))
  join_answers table result answers = subst (λ (q : joined.Request). IfOk result (λ x. IsAnswer q (table x))) joined_is answers

  pub join_tells : {A : Type 0} (exec : ExecView) (trace : A → JoinTrace) (result : Result A PolarsError)
      → IfOk result (λ x. IsTraced exec (named_trace left right left_on right_on c.args exec) (trace x))
      → IfOk result (λ x. IsTraced exec (named_trace left right c.left_on.items c.right_on.items c.args exec) (trace x))
  join_tells exec trace result tells =
      subst (λ (on : List Name). IfOk result (λ x. IsTraced exec (named_trace left right c.left_on.items on c.args exec) (trace x))) r
      (subst (λ (on : List Name). IfOk result (λ x. IsTraced exec (named_trace left right on right_on c.args exec) (trace x))) l tells)

-- ---- dummies

module _ (c : DummiesCall) (cs : List Col) (columns : Option (List Name)) (separator : Option (Bor Name)) (names : columns ≡ names_in c.columns) (given : option_copied separator ≡ c.separator) where
  marked_is : lent.lent_request cs columns separator c.drop_first ≡ marked_of c (table_of cs)
  marked_is = λ t. record { table = table_of cs; columns = names t; separator = separator_or (given t); drop_first = c.drop_first }

  pub dummies_settle : (result : Result (List Col) PolarsError) → Settles result (dummies_refusal (lent.lent_request cs columns separator c.drop_first))
      → Settles result (dummies_refusal (marked_of c (table_of cs)))
  dummies_settle result settles = subst (λ (q : marked.Request). Settles result (dummies_refusal q)) marked_is settles

  pub dummies_stand : (result : Result (List Col) PolarsError) → IfOk result (λ t. table_of t ≡ dummies_table (lent.lent_request cs columns separator c.drop_first))
      → IfOk result (λ t. table_of t ≡ dummies_table (marked_of c (table_of cs)))
  dummies_stand result stand = subst (λ (q : marked.Request). IfOk result (λ t. table_of t ≡ dummies_table q)) marked_is stand

-- ---- pivots

module _ (c : PivotCall) (cs : List Col) (on : List Name) (index values : Option (List Name)) (separator : Option (Bor Name))
    (keys : on ≡ c.on.items) (rows : index ≡ names_in c.index) (others : values ≡ names_in c.values) (given : option_copied separator ≡ c.separator) where
  wide_is : borrowed.lent_request cs on index values c.sort_columns (way_of c.agg) separator ≡ wide_of c (table_of cs)
  wide_is = λ t. record { table = table_of cs; on = keys t; index = rows t; values = others t; sorts = c.sort_columns; way = way_of c.agg; separator = separator_or (given t) }

  pub pivot_settles : (result : Result (List Col) PolarsError) → Settles result (pivot_refusal (borrowed.lent_request cs on index values c.sort_columns (way_of c.agg) separator))
      → Settles result (pivot_refusal (wide_of c (table_of cs)))
  pivot_settles result settles = subst (λ (q : wide.Request). Settles result (pivot_refusal q)) wide_is settles

  pub pivot_stands : (result : Result (List Col) PolarsError)
      → IfOk result (λ t. table_of t ≡ pivot_table (borrowed.lent_request cs on index values c.sort_columns (way_of c.agg) separator))
      → IfOk result (λ t. table_of t ≡ pivot_table (wide_of c (table_of cs)))
  pivot_stands result stands = subst (λ (q : wide.Request). IfOk result (λ t. table_of t ≡ pivot_table q)) wide_is stands
