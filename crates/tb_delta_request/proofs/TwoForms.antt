-- Requests of both formats are read alike.
use Rattle.std.proofs.Common.{◌≡◌, ◌∙◌, List, [], ◌∷◌, map, Option, Some, None, option_map, refl, ap}
use Rattle.std.specs.Prelude.{ok_or, Result, Ok, Err}
use Rattle.serde_json.specs.Data.{Data}
use Rattle.serde_json.specs.View.{items_of}
use Rattle.tb_value.specs.Promise.Datum.{data_in}
use Rattle.tb_value.specs.Promise.Kind.{Part, parts_of}
use Rattle.tb_value.specs.declared.error.Side.{Side}
use Rattle.tb_value.specs.declared.error.Side.TheVariants as side
use Rattle.tb_value.proofs.Loops.{map-map}
use Rattle.tb_chunk.specs.Promise.Col.{Col}
use Rattle.tb_delta.specs.Promise.Steps.{Step}
use Rattle.tb_delta.specs.Promise.Steps as steps
use Rattle.tb_json.specs.Promise.Cells as cells
use Rattle.tb_json.specs.Promise.Lists.{each}
use Rattle.tb_request.specs.declared.request.Reason.{Reason}
use Rattle.tb_request.specs.declared.request.Reason.TheVariants as why
use Rattle.tb_request.specs.Forms.{expand, IsPastRows}
use Rattle.tb_request.specs.Promise.Reading.{◌>>=◌, first_table, request_tables, second_table}
use Rattle.tb_request.specs.Promise.Written.{standard_exec, Written}
use Rattle.tb_request.proofs.Expanded.{written_out}
use Rattle.tb_request.proofs.TwoForms.{tables_same}
use Rattle.tb_delta_request.specs.Laws.{TwoForms}
use Rattle.tb_delta_request.specs.Promise.Reading.{DeltaRequest, delta_in, part_of, step_in, steps_in}
use Rattle.tb_delta_request.specs.Promise.Written as written
use Rattle.tb_delta_request.specs.Promise.Written.{WrittenDelta, WrittenStep, delta_of, of_two}
use Rattle.tb_delta_request.proofs.SameShape.{delta_of_out, delta_out}

-- the values of steps hang on names and types of columns alone
parts_out : (d : Side) (l r : List Written) → map part_of (of_two d (map written_out l) (map written_out r)) ≡ map part_of (of_two d l r)
parts_out side.Left l r = map-map part_of written_out l
parts_out side.Right l r = map-map part_of written_out r

step_out : (l r : List Written) (s : WrittenStep) → step_in (map written_out l) (map written_out r) s ≡ step_in l r s
step_out l r (written.insert d row) = λ i. option_map (steps.insert d) (option_map data_in (cells.row_in (parts_of (parts_out d l r i)) (items_of row)))
step_out l r (written.remove d id) = refl

steps_out : (l r : List Written) (ss : List WrittenStep) → steps_in (map written_out l) (map written_out r) ss ≡ steps_in l r ss
steps_out l r ss = ap (λ (f : WrittenStep → Option Step). each f ss) (λ i s. step_out l r s i)

-- with the steps' values the request is what its tables are
abbrev delta_made : List Step → WrittenDelta → List (List Col) → DeltaRequest
delta_made ss w ts = record { left = first_table ts; right = second_table ts; left_on = w.left_on; right_on = w.right_on; join_nulls = w.join_nulls; steps = ss }

abbrev with_steps : WrittenDelta → Option (List Step) → Result DeltaRequest Reason
with_steps w steps = ok_or steps why.Value >>= λ ss. request_tables (w.left ∷ w.right ∷ []) standard_exec >>= λ ts. Ok (delta_made ss w ts)

abbrev delta_from : Option WrittenDelta → Result DeltaRequest Reason
delta_from o = ok_or o why.Shape >>= λ w. with_steps w (steps_in w.left w.right w.steps)

past : (w : WrittenDelta) (ss : List Step) (r : Result (List (List Col)) Reason) → IsPastRows (r >>= λ ts. Ok (delta_made ss w ts)) → IsPastRows r
past w ss (Ok ts) p = tt
past w ss (Err reason) p = p

with_steps_same : (w : WrittenDelta) (o : Option (List Step)) → IsPastRows (with_steps w o) → with_steps (delta_out w) o ≡ with_steps w o
with_steps_same w None p = absurd p
with_steps_same w (Some ss) p =
    ap (λ r. r >>= λ ts. Ok (delta_made ss w ts)) (tables_same (w.left ∷ w.right ∷ []) standard_exec (past w ss (request_tables (w.left ∷ w.right ∷ []) standard_exec) p))

delta_from_same : (o o' : Option WrittenDelta) → ((w : WrittenDelta) → o ≡ Some w → o' ≡ Some (delta_out w)) → IsPastRows (delta_from o) → delta_from o' ≡ delta_from o
delta_from_same None o' h p = absurd p
delta_from_same (Some w) o' h p =
    ap delta_from (h w refl)
    ∙ ap (with_steps (delta_out w)) (steps_out w.left w.right w.steps)
    ∙ with_steps_same w (steps_in w.left w.right w.steps) p

pub delta_same : TwoForms
unfolding delta_in
delta_same d e p = delta_from_same (delta_of d) (delta_of (expand d)) (λ w. delta_of_out d w e) p
