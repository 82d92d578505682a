use Rattle.std.proofs.Common.{◌≡◌, ◌∙◌, false, sym}
use Rattle.tb_value.specs.Promise.Names.{same_name}
use Rattle.tb_value.specs.Promise.SameKind.{same_kind}
use Rattle.tb_frame.proofs.Equal.{plain-by_values, differ-names, differ-kinds}
use Rattle.tb_frame.proofs.equality.same_column.Goals as goal
use Rattle.tb_frame.proofs.equality.same_column.Goals.{then-eq, else-eq}

pub returns-then-same_type : goal.returns-then-same_type
returns-then-same_type c =
    let a = c.args.first.now in
    let b = c.args.second.now in
    let names : c.eq.result ≡ same_name a.name b.name = c.eq.ensures ∙ (λ i. same_name ((c.as_str.ensures ∙ c.name.ensures) i) ((c.as_str-2.ensures ∙ c.name-2.ensures) i)) in
    elim c.if-eq.branch [
      | then-eq w ↦
          let kinds : w.same_type.result ≡ same_kind a.kind b.kind = w.same_type.ensures ∙ (λ t. same_kind (w.as_materialized_series.ensures t).kind (w.as_materialized_series-then-eq.ensures t).kind) in
          plain-by_values a b c.same_values.result (sym names ∙ w.if-eq.true) (sym kinds ∙ sym w.value-is ∙ c.if-same_type.true) c.same_values.ensures
      | else-eq w ↦ let no : c.if-eq.value ≡ false = w.value-is ∙ w.if-eq.false in absurd (cc)
    ]

pub returns-else-same_type : goal.returns-else-same_type
returns-else-same_type c =
    let a = c.args.first.now in
    let b = c.args.second.now in
    let names : c.eq.result ≡ same_name a.name b.name = c.eq.ensures ∙ (λ i. same_name ((c.as_str.ensures ∙ c.name.ensures) i) ((c.as_str-2.ensures ∙ c.name-2.ensures) i)) in
    elim c.if-eq.branch [
      | then-eq w ↦
          let kinds : w.same_type.result ≡ same_kind a.kind b.kind = w.same_type.ensures ∙ (λ t. same_kind (w.as_materialized_series.ensures t).kind (w.as_materialized_series-then-eq.ensures t).kind) in
          (λ h. absurd (cc), λ e. absurd (differ-kinds a b (sym kinds ∙ sym w.value-is ∙ c.if-same_type.false) e))
      | else-eq w ↦ (λ h. absurd (cc), λ e. absurd (differ-names a b (sym names ∙ w.if-eq.false) e))
    ]
