use Rattle.std.proofs.Common.{◌∙◌, ap}
use Rattle.std.specs.Prelude.{position}
use Rattle.tb_value.specs.Promise.Names.{same_name}
use Rattle.tb_csv.specs.Fields.{fields_in}
use Rattle.tb_csv.proofs.KeyWalks.{none_fields, some_fields}
use Rattle.tb_csv.proofs.keys.fields_named.Goals as goal

pub returns-in-Some : goal.returns-in-Some
returns-in-Some c = record {
  fields = λ rs h.
      some_fields c.args.records.now rs c.args.name.now c.in-Some.place (fields_in c.column.result) h
      (c.in-Some.ensures ∙ ap (position (λ n. same_name n c.args.name.now)) c.deref.ensures.value) c.column.ensures;
}

pub returns-in-None : goal.returns-in-None
returns-in-None c = record {
  fields = λ rs h. none_fields c.args.records.now rs c.args.name.now h (c.in-None.ensures ∙ ap (position (λ n. same_name n c.args.name.now)) c.deref.ensures.value);
}
