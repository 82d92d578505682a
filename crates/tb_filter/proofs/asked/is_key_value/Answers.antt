use Rattle.std.proofs.Common.{◌∙◌, ap, sym}
use Rattle.tb_value.specs.Promise.Datum.{is_null}
use Rattle.tb_value.specs.See.{datum}
use Rattle.tb_value.specs.SeeKind.{kind_of}
use Rattle.tb_filter.proofs.KeyValues.{key_by_type, no_key, no_value}
use Rattle.tb_filter.proofs.asked.is_key_value.Goals as goal

pub returns-then-not-is_key : goal.returns-then-not-is_key
returns-then-not-is_key c = no_key (kind_of c.args.dtype.now) (datum c.args.value.now) (sym c.is_key.ensures ∙ c.if-not-is_key.true)

pub returns-then-is_null : goal.returns-then-is_null
returns-then-is_null c = no_value (kind_of c.args.dtype.now) (datum c.args.value.now) (ap is_null (sym c.as_ref.ensures.value) ∙ sym c.is_null.ensures ∙ c.if-is_null.true)

pub returns : goal.returns
returns c =
    key_by_type (kind_of c.args.dtype.now) (datum c.args.value.now) c.is_of.result (sym c.is_key.ensures ∙ c.if-not-is_key.false)
    (ap is_null (sym c.as_ref.ensures.value) ∙ sym c.is_null.ensures ∙ c.if-is_null.false) c.is_of.ensures
