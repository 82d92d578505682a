-- What the pivot of a plan gives.
use Rattle.std.proofs.Common.{◌≡◌, ℕ, Bool, List, refl, ap, sym, ◌∙◌, Option, Some, None, Ok, Err}
use Rattle.std.specs.Prelude.{◌⊎◌}
use Rattle.std.specs.Borrow.{Bor}
use Rattle.std.specs.Option.{option_copied, option_map}
use Rattle.tb_value.specs.Promise.Names.{Name}
use Rattle.tb_value.specs.declared.error.PolarsError.{PolarsError}
use Rattle.tb_value.specs.declared.error.PolarsError.TheVariants as error
use Rattle.tb_chunk.specs.Promise.Col.{Col}
use Rattle.tb_frame.specs.Promise.Table.{Table, table_of}
use Rattle.tb_pivot.specs.Lent.{lent_request}
use Rattle.tb_pivot.specs.Promise.Pivot.{pivot_table}
use Rattle.tb_pivot.specs.Promise.Refusal.{pivot_refusal}
use Rattle.tb_pivot.specs.Promise.Request.{Request, Way}
use Rattle.tb_label.specs.Promise.Label.{separator_or}
use Rattle.tb_plan.specs.declared.faults.PlanFault.{PlanFault}
use Rattle.tb_plan.specs.declared.faults.PlanFault.TheVariants.{OutOfMemory}
use Rattle.tb_plan.specs.Gives.{fault_at}
use Rattle.tb_plan.specs.Promise.Outcome.{unless_refused, widened}
use Rattle.tb_plan.proofs.NodeLemmas.{refused_as, refused_at}

-- what is made of something that is lent
pub lent_as : {A B : Type 0} (f : A → B) (o : Option (Bor A)) (p : Option A) → option_copied o ≡ p → option_map (λ a. f a.now) o ≡ option_map f p
lent_as {A} {B} f o p e = at o ∙ ap (option_map f) e
  where
    at : (x : Option (Bor A)) → option_map (λ a. f a.now) x ≡ option_map f (option_copied x)
    at None = refl
    at (Some a) = refl

module _ (k : ℕ) (cs : List Col) (on ons : List Name) (index indexes values rest : Option (List Name)) (sorts : Bool) (way ways : Way) (lent : Option (Bor Name)) (separator : Option Name)
    (on_is : on ≡ ons) (index_is : index ≡ indexes) (values_are : values ≡ rest) (way_is : way ≡ ways) (separator_is : option_copied lent ≡ separator) where
  abbrev due : Request
  due = record { table = table_of cs; on = ons; index = indexes; values = rest; sorts = sorts; way = ways; separator = separator_or separator }

  same : lent_request cs on index values sorts way lent ≡ due
  same = λ i. record { table = table_of cs; on = on_is i; index = index_is i; values = values_are i; sorts = sorts; way = way_is i; separator = separator_or (separator_is i) }

  pub wide_given : (t : Table) → pivot_refusal (lent_request cs on index values sorts way lent) ≡ None → t ≡ pivot_table (lent_request cs on index values sorts way lent)
      → widened k due ≡ Ok t
  unfolding widened
  wide_given t none is =
      ap (λ (o : Option PolarsError). unless_refused k o (pivot_table due)) (sym (ap pivot_refusal same) ∙ none) ∙ ap (λ (u : Table). Ok u) (sym (is ∙ ap pivot_table same))

  pub wide_refused : (e : PolarsError) (f : PlanFault) → f ≡ fault_at k e → (e ≡ error.OutOfMemory) ⊎ (pivot_refusal (lent_request cs on index values sorts way lent) ≡ Some e)
      → (f ≡ OutOfMemory) ⊎ (widened k due ≡ Err f)
  unfolding widened
  wide_refused e f is h =
      refused_at k e f (unless_refused k (pivot_refusal due) (pivot_table due)) (pivot_refusal (lent_request cs on index values sorts way lent)) is h
      (λ x c. refused_as k (pivot_refusal due) (pivot_table due) x (sym (ap pivot_refusal same) ∙ c))
