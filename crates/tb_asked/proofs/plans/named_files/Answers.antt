use Rattle.std.proofs.Common.{◌∙◌, [], ap, map, subst, sym, unwrap_or}
use Rattle.std.specs.Option.{IsSome}
use Rattle.tb_frame.specs.Promise.Refusal.{repeated_among}
use Rattle.tb_asked.specs.Plans.{file_named, named_file}
use Rattle.tb_asked.proofs.Repeats.{is_repeated, names_named}
use Rattle.tb_asked.proofs.plans.named_files.Goals as goal

pub returns-in-Err-Duplicate : goal.returns-in-Err-Duplicate
returns-in-Err-Duplicate c = (
  c.in_ok-names.names.items,
  (
    map named_file c.in_ok-files.files.items,
    c.in_ok-files.ensures ∙ ap (λ o. map file_named (unwrap_or o [])) c.get_strs-words.ensures,
    c.in_ok-names.ensures ∙ ap (map (λ f. f.name)) c.deref.ensures.value ∙ sym (names_named c.in_ok-files.files.items),
  ),
  subst (λ ns. IsSome (repeated_among ns)) c.deref-2.ensures.value (is_repeated c.deref-2.result.now _ _ c.in-Err-Duplicate.field-0-is c.in-Err-Duplicate.ensures),
)
