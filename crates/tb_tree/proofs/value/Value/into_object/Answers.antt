use Rattle.std.proofs.Common.{Some, sym, ap, ◌∙◌}
use Rattle.serde_json.specs.Find.{as_object}
use Rattle.tb_tree.specs.View.{view, members_view}
use Rattle.tb_tree.proofs.Views.{view-Object}
use Rattle.tb_tree.proofs.value.Value.into_object.Goals as goal

pub returns-in-Object : goal.returns-in-Object
returns-in-Object c = ap (λ m. Some (members_view m.entries)) c.into_inner.ensures ∙ sym (ap (λ v. as_object (view v)) c.in-Object.is ∙ ap as_object (view-Object _))
