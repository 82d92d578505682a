-- What is asked of a table, by what the program has of it.
use Rattle.std.proofs.Common.{◌≡◌, ◌∙◌, ◌⊎◌, ℕ, Bool, true, false, List, Option, Some, Result, IfOk, ap, sym, subst}
use Rattle.std.proofs.lemmas.Result.{IfOk-weaker}
use Rattle.tb_value.specs.Promise.Names.{Name}
use Rattle.tb_value.specs.declared.error.OutOfMemory.{OutOfMemory}
use Rattle.tb_value.specs.declared.error.PolarsError.{PolarsError}
use Rattle.tb_value.specs.declared.error.PolarsError.TheVariants as error
use Rattle.tb_chunk.specs.Promise.Col.{Col}
use Rattle.tb_frame.specs.Promise.Table.{Table, table_of}
use Rattle.tb_group.specs.Promise.Refusal.{group_refusal}
use Rattle.tb_group.specs.Promise.Request.{Request, lent_request}
use Rattle.tb_group.specs.declared.request.GroupAgg.{GroupAgg}
use Rattle.tb_group_front.specs.declared.call.GroupCall.{GroupCall}
use Rattle.tb_group_front.specs.Promise.Grouped.{asked_groups, in_asked_order}
use Rattle.tb_group_front.specs.Promise.Sorted.{sorted_table}

pub asked_is : (c : GroupCall) (t : List Col) (by : List Name) (aggs : List GroupAgg) → by ≡ c.by.items → aggs ≡ c.aggs.items → lent_request t by aggs ≡ asked_groups c (table_of t)
asked_is c t by aggs is also = λ i. record { table = table_of t; by = is i; aggs = also i }

-- what refuses the one refuses the other
pub refused_is : (q asked : Request) (e : PolarsError) → q ≡ asked → (e ≡ error.OutOfMemory) ⊎ (group_refusal q ≡ Some e) → (e ≡ error.OutOfMemory) ⊎ (group_refusal asked ≡ Some e)
refused_is q asked e is refused = subst (λ (r : Request). (e ≡ error.OutOfMemory) ⊎ (group_refusal r ≡ Some e)) is refused

-- the groups that are put in order, and those that stay as they come
pub put_in_order : (sorts : Bool) (n m : ℕ) (t : Table) (r : Result (List Col) OutOfMemory) → sorts ≡ true → m ≡ n → IfOk r (λ u. table_of u ≡ sorted_table m t) → IfOk r (λ u. table_of u ≡ in_asked_order sorts n t)
put_in_order sorts n m t r asked same made =
    IfOk-weaker r (λ u. table_of u ≡ sorted_table m t) (λ u. table_of u ≡ in_asked_order sorts n t)
    (λ u is. is ∙ ap (λ (k : ℕ). sorted_table k t) same ∙ sym (ap (λ (b : Bool). in_asked_order b n t) asked)) made

pub left_as_they_come : (sorts : Bool) (n : ℕ) (t : Table) → sorts ≡ false → t ≡ in_asked_order sorts n t
left_as_they_come sorts n t unasked = sym (ap (λ (b : Bool). in_asked_order b n t) unasked)
