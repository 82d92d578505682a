use Rattle.std.proofs.Common.{◌≡◌, ◌==◌, ℕ, List, [], ◌∷◌, length, ap, sym, ◌∙◌, Some}
use Rattle.std.specs.List.{list_all, slice_get}
use Rattle.std.proofs.lemmas.List.Folds.{list_all-map}
use Rattle.tb_chunk.specs.Promise.Col.{Col, values}
use Rattle.tb_frame.specs.Promise.Table.{TableColumn, plain_column, table_of, height}
use Rattle.tb_frame.proofs.frame.is_level.Goals as goal

first-height : (cs : List Col) (c : Col) → Some c ≡ slice_get cs 0 → length (values c) ≡ height (table_of cs)
first-height [] c h = absurd (cc)
first-height (d ∷ ds) c h = let same : c ≡ d = cc in ap (λ (x : Col). length (values x)) same

pub returns-in-Some-clause-level : goal.returns-in-Some-clause-level
returns-in-Some-clause-level c =
    let cs = c.args.columns.now in
    c.have_len.ensures.level ∙ ap (λ (n : ℕ). list_all (λ (k : Col). length (values k) == n) cs) (c.len.ensures.len ∙ first-height cs c.in-Some.first.now c.in-Some.ensures.value)
    ∙ sym (list_all-map (λ (k : TableColumn). length k.values == height (table_of cs)) plain_column cs)
