use Rattle.std.proofs.Common.{◌≡◌, ◌++◌, ◌∷◌, [], ap, refl, subst, ◌∙◌}
use Rattle.std.specs.Prelude.{OnOk}
use Rattle.tb_value.specs.Promise.Datum.{list, items_of, is_present}
use Rattle.tb_value.specs.Promise.Kind as kind
use Rattle.tb_rowkey.specs.Promise.RowKey.{bit}
use Rattle.tb_rowkey.proofs.FieldBytes.{mark_code}
use Rattle.tb_rowkey.proofs.fields.ListChunkFieldChunk.push_field.Goals as goal

pub returns-clause-bytes : goal.returns-clause-bytes
returns-clause-bytes c = subst (λ l. OnOk c.push_mark.result (c.push_mark.new.bytes.items ≡ c.args.bytes.now.items ++ l))
    (ap (λ v. bit (is_present v) ∷ []) c.value.ensures.value
    ∙ mark_code (kind.list kind.null) (λ vs. list (items_of vs)) (λ _. refl) (λ _. refl) c.args.self.now.inner c.args.row c.requires.row) c.push_mark.ensures.bytes
