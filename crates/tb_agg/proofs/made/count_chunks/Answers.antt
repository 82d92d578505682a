use Rattle.std.proofs.Common.{◌∙◌, ℕ, ◌∷◌, [], List, Option, Some, ap, map, pos}
use Rattle.tb_value.proofs.Loops.{map-map}
use Rattle.tb_value.specs.Promise.Datum.{Datum, int}
use Rattle.tb_cell.specs.Shown.{or_null}
use Rattle.tb_agg.proofs.made.count_chunks.Goals as goal

pub returns-clause-lists : goal.returns-clause-lists
returns-clause-lists c =
    ap (map (λ (cells : List (Option ℕ)). map (or_null (λ n. int (pos n))) cells)) (c.in_ok-one_chunk.ensures ∙ ap (λ (cells : List (Option ℕ)). cells ∷ []) c.from_vec-cells.ensures)
    ∙ ap (λ (vs : List Datum). vs ∷ []) (map-map (or_null (λ n. int (pos n))) Some c.args.counts.items)
