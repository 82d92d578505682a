use Rattle.std.proofs.Common.{sym, ◌≡◌, ◌++◌, ap, ◌∙◌, codes, subst}
use Rattle.std.specs.Prelude.{IfOk}
use Rattle.tb_frame.specs.Promise.Table.{table_of}
use Rattle.tb_json.proofs.Runs.{behind_last, table_text}
use Rattle.tb_json.proofs.write_tables.into_text.Goals as goal

pub returns : goal.returns
returns c =
    subst (λ b. IfOk c.close.result (λ t. t ≡ b))
    (behind_last c.text.inside.full _ _ _ _ c.in_ok-push_str.ensures.bytes (sym c.text.view_is)
    ∙ ap (λ x. x ++ codes "}\n") c.in_ok-text.ensures ∙ table_text (table_of c.args.table))
    c.close.ensures
