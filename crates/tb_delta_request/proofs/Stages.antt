-- What a value is, where each stage of its reading is known.
use Rattle.std.proofs.Common.{◌≡◌, List, [], ◌∷◌, Option, Some, None, refl}
use Rattle.std.specs.Prelude.{Result, Ok, Err}
use Rattle.serde_json.specs.Data.{Data}
use Rattle.tb_chunk.specs.Promise.Col.{Col}
use Rattle.tb_delta.specs.Promise.Steps.{Step}
use Rattle.tb_request.specs.declared.request.Reason.TheVariants as why
use Rattle.tb_request.specs.Promise.Reading.{◌>>=◌, first_table, request_tables, second_table}
use Rattle.tb_request.specs.Promise.Written.{standard_exec}
use Rattle.tb_delta_request.specs.Promise.Reading.{DeltaRequest, delta_in, steps_in}
use Rattle.tb_delta_request.specs.Promise.Written.{WrittenDelta, delta_of}

abbrev pub made : WrittenDelta → List Step → List (List Col) → DeltaRequest
made w ss ts = record { left = first_table ts; right = second_table ts; left_on = w.left_on; right_on = w.right_on; join_nulls = w.join_nulls; steps = ss }

pub no_values : (d : Data) (w : WrittenDelta) → delta_of d ≡ Some w → steps_in w.left w.right w.steps ≡ None → delta_in d ≡ Err why.Value
unfolding delta_in
no_values d w e none = rw (e, none) refl

-- with its steps' values the request is what its tables are
pub by_tables : (d : Data) (w : WrittenDelta) (ss : List Step) → delta_of d ≡ Some w → steps_in w.left w.right w.steps ≡ Some ss → delta_in d ≡ (request_tables (w.left ∷ w.right ∷ []) standard_exec >>= λ ts. Ok (made w ss ts))
unfolding delta_in
by_tables d w ss e is = rw (e, is) refl
