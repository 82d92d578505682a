-- What a value asks for, where its members are known.
use Rattle.std.proofs.Common.{◌≡◌, List, Some, refl}
use Rattle.std.specs.Prelude.{Ok}
use Rattle.std.specs.List.{zip}
use Rattle.serde_json.specs.Data.{Data}
use Rattle.tb_chunk.specs.Promise.Col.{Col}
use Rattle.tb_request.specs.declared.request.Reason.TheVariants as why
use Rattle.tb_request.specs.Promise.Reading.{◌>>=◌, request_tables}
use Rattle.tb_plan_request.specs.Promise.Reading.{PlanRequest, plan_in, table_columns, table_names}
use Rattle.tb_plan_request.specs.Promise.Written.{WrittenPlan, written_of}

abbrev pub made : WrittenPlan → List (List Col) → PlanRequest
made w ts = record { tables = zip (table_names w.tables) ts; root = w.root; pivot = w.pivot; push = w.push; exec = w.exec }

pub by_tables : (d : Data) (w : WrittenPlan) → written_of d ≡ Some w → plan_in d ≡ (request_tables (table_columns w.tables) w.exec >>= λ ts. Ok (made w ts))
unfolding plan_in
by_tables d w formed = rw formed refl
