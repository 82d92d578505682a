-- What is asked of the program's request is what is asked of the one that it stands for.
use Rattle.std.proofs.Common.{◌≡◌, ◌∙◌, ◌⊎◌, Bool, true, false, cond, List, Option, Some, None, refl, ap, sym, subst}
use Rattle.std.specs.Bool.{then_some}
use Rattle.tb_value.specs.Promise.Names.{Name}
use Rattle.tb_value.specs.declared.error.PolarsError.{PolarsError}
use Rattle.tb_value.specs.declared.error.PolarsError.TheVariants.{OutOfMemory}
use Rattle.tb_group.specs.Promise.Keys.{GroupedView, group_trace}
use Rattle.tb_group.specs.Promise.Refusal.{group_refusal}
use Rattle.tb_group.specs.Promise.Request.{Request, lent_request}
use Rattle.tb_group.specs.declared.request.GroupAgg.{GroupAgg}
use Rattle.tb_request.proofs.Unlaid.{table_unlaid}
use Rattle.tb_group_request.specs.declared.request.GroupRequest.{GroupRequest}
use Rattle.tb_group_request.specs.Promise.Answers.{asked_groups, trace_told}
use Rattle.tb_group_request.specs.Promise.Reading.{group_view}

pub asked_is : (q : GroupRequest) (by : List Name) (aggs : List GroupAgg) → by ≡ q.by.items → aggs ≡ q.aggs.items → lent_request q.table by aggs ≡ asked_groups (group_view q)
asked_is q by aggs is also = λ t. record { table = sym (table_unlaid q.table) t; by = is t; aggs = also t }

-- what refuses the one refuses the other
pub refused_is : (q : Request) (asked : Request) (e : PolarsError) → q ≡ asked → (e ≡ OutOfMemory) ⊎ (group_refusal q ≡ Some e) → (e ≡ OutOfMemory) ⊎ (group_refusal asked ≡ Some e)
refused_is q asked e is refused = subst (λ (r : Request). (e ≡ OutOfMemory) ⊎ (group_refusal r ≡ Some e)) is refused

some_if : {A : Type 0} (b : Bool) (x : A) → then_some b x ≡ cond b (Some x) None
some_if true x = refl
some_if false x = refl

-- the trace is told where it is asked
pub told_is : (q : GroupRequest) (lent : Request) (g : GroupedView) (told : Option GroupedView) → lent ≡ asked_groups (group_view q) → g ≡ group_trace q.exec lent → told ≡ then_some q.trace g → told ≡ trace_told (group_view q)
told_is q lent g told is traced e =
    e ∙ some_if q.trace g ∙ ap (λ (v : GroupedView). cond q.trace (Some v) None) (traced ∙ ap (group_trace q.exec) is)
