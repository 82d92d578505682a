use Rattle.std.proofs.Common.{◌≡◌, codes, string_bytes, ap, sym, ◌∙◌, rules}
use Rattle.serde_json.specs.Data.{Data, object, put}
use Rattle.serde_json.specs.View.{view, members_view}
use Rattle.serde_json.proofs.Views.{members_view-insert_entry, view-Object}
use Rattle.tb_plan_request.specs.Promise.Texts.{at_node}
use Rattle.tb_plan_request.proofs.texts.at_node.Goals as goal

pub returns-in_ok-insert-in-Object : goal.returns-in_ok-insert-in-Object
returns-in_ok-insert-in-Object c =
    let old = c.in-Object.members.entries in
    let named : string_bytes c.in_ok-name-in-Object.name ≡ codes "node" = search rules in
    view-Object c.insert.new.self
    ∙ ap object (ap members_view c.in_ok-insert-in-Object.ensures.entries ∙ members_view-insert_entry old c.in_ok-name-in-Object.name c.from.result ∙ (λ i. put (named i) (c.from.ensures i) (members_view old)))
    ∙ ap (at_node c.args.node) (sym (view-Object c.in-Object.members))
    ∙ ap (λ v. at_node c.args.node (view v)) (sym c.in-Object.is)
