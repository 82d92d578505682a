use Rattle.std.proofs.Common.{◌||◌, true, cond, ap, ◌∙◌}
use Rattle.std.proofs.lemmas.Map.Text.{is_eq-slice_cmp}
use Rattle.tb_value.specs.Promise.Names.{Name, same_name}
use Rattle.tb_frame.specs.NameSets.{has_name}
use Rattle.tb_frame.proofs.Conds.{cond_or}
use Rattle.tb_frame.proofs.names.NameSet.insert.Goals as goal

pub returns-clause-names : goal.returns-clause-names
returns-clause-names c = λ n.
    c.in_ok-insert.ensures.updates.0 (record { ref_ptr = (0, 0); now = n })
    ∙ ap (λ b. cond b true (has_name c.args.self.now n)) (is_eq-slice_cmp c.as_str.result.now n)
    ∙ cond_or (same_name c.as_str.result.now n) (has_name c.args.self.now n) ∙ ap (λ (m : Name). same_name m n || has_name c.args.self.now n) c.as_str.ensures
