use Rattle.std.proofs.Common.{◌∙◌, [], ◌∷◌, ◌++◌, length, map, sym, ap}
use Rattle.std.proofs.lemmas.List.{length-map}
use Rattle.tb_request.specs.Columns.{relaid_column}
use Rattle.tb_request.specs.Lent.{written_views}
use Rattle.tb_request.proofs.TablesRead.{tables_level}
use Rattle.tb_request.proofs.tables.two_tables.Goals as goal

pub both-left-requires : goal.both-left-requires
both-left-requires c =
    c.in_ok-tables-2.field-0.tables.ok.0
    ∙ sym (length-map c.in_ok-tables-2.field-0.tables.items (map relaid_column))
    ∙ tables_level _ _ _ c.in_ok-tables-2.ensures.tables
    ∙ length-map _ written_views
    ∙ ap length (c.in_ok-push-2.ensures.items ∙ ap (λ ts. ts ++ c.args.right ∷ []) (c.in_ok-push.ensures.items ∙ ap (λ ts. ts ++ c.args.left ∷ []) c.in_ok-tables.ensures.items))
