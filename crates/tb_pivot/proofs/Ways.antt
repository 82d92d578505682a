-- One way in place of an equal one.
use Rattle.std.proofs.Common.{◌≡◌, IfOk, List, Option, Bool, Result, subst}
use Rattle.std.specs.Borrow.{Bor}
use Rattle.tb_value.specs.Promise.Names.{Name}
use Rattle.tb_value.specs.Refusals.{Settles}
use Rattle.tb_value.specs.declared.error.PolarsError.{PolarsError}
use Rattle.tb_chunk.specs.Promise.Col.{Col}
use Rattle.tb_frame.specs.Promise.Table.{table_of}
use Rattle.tb_pivot.specs.Lent.{lent_request}
use Rattle.tb_pivot.specs.Promise.Pivot.{pivot_table}
use Rattle.tb_pivot.specs.Promise.Refusal.{pivot_refusal}
use Rattle.tb_pivot.specs.Promise.Request.{Way}

module _ (cs : List Col) (on : List Name) (index values : Option (List Name)) (sorts : Bool) (separator : Option (Bor Name)) (r : Result (List Col) PolarsError) (v w : Way) (same : v ≡ w) where
  pub settles_alike : Settles r (pivot_refusal (lent_request cs on index values sorts v separator)) → Settles r (pivot_refusal (lent_request cs on index values sorts w separator))
  settles_alike h = subst (λ (x : Way). Settles r (pivot_refusal (lent_request cs on index values sorts x separator))) same h

  pub table_alike : IfOk r (λ t. table_of t ≡ pivot_table (lent_request cs on index values sorts v separator)) → IfOk r (λ t. table_of t ≡ pivot_table (lent_request cs on index values sorts w separator))
  table_alike h = subst (λ (x : Way). IfOk r (λ t. table_of t ≡ pivot_table (lent_request cs on index values sorts x separator))) same h
