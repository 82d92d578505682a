use Rattle.std.proofs.Common.{◌∙◌, Option, Some, None, inr, ap, sym}
use Rattle.std.specs.Option.{option_map}
use Rattle.tb_value.specs.Promise.Names.{Name}
use Rattle.tb_value.specs.SeeKind.{kind_of}
use Rattle.tb_value.specs.declared.dtype.DataType.{DataType}
use Rattle.tb_value.specs.declared.error.InvalidCause.TheVariants.{NoSupertype}
use Rattle.tb_value.specs.declared.error.PolarsError.TheVariants.{InvalidOperation}
use Rattle.tb_frame.specs.Promise.Table.{plain_column}
use Rattle.tb_unpivot.proofs.CommonKinds.{one_kind, refused}
use Rattle.tb_unpivot.proofs.lookup.next_type.Goals as goal

pub returns-in-Some-clause-value : goal.returns-in-Some-clause-value
returns-in-Some-clause-value c =
    one_kind (kind_of c.args.dtype.now) (kind_of c.dtype.result.now) (plain_column c.args.column.now) (Some (kind_of c.in-Some.dtype)) (ap (λ (o : Option DataType). option_map kind_of o) (sym c.in-Some.is) ∙ c.in_ok-common.ensures) c.dtype.ensures

pub returns-in-Some-clause-settles : goal.returns-in-Some-clause-settles
returns-in-Some-clause-settles c =
    ap refused (one_kind (kind_of c.args.dtype.now) (kind_of c.dtype.result.now) (plain_column c.args.column.now) (Some (kind_of c.in-Some.dtype)) (ap (λ (o : Option DataType). option_map kind_of o) (sym c.in-Some.is) ∙ c.in_ok-common.ensures) c.dtype.ensures)

pub returns-in_ok-copy-in-None-clause-settles : goal.returns-in_ok-copy-in-None-clause-settles
returns-in_ok-copy-in-None-clause-settles c =
    let none = one_kind (kind_of c.args.dtype.now) (kind_of c.dtype.result.now) (plain_column c.args.column.now) None (ap (λ (o : Option DataType). option_map kind_of o) (sym c.in-None.is) ∙ c.in_ok-common.ensures) c.dtype.ensures in
    inr (ap refused none ∙ ap (λ (n : Name). Some (InvalidOperation (NoSupertype n))) (sym (c.in_ok-copy-in-None.ensures ∙ c.name.ensures)))
