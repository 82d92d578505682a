-- No trace has a float.
use Rattle.std.proofs.Common.{◌≡◌, false, refl}
use Rattle.serde_json.specs.Written.{has_float}
use Rattle.tb_pairs.specs.Promise.Trace.{Trace, hash, merge, plain}
use Rattle.tb_group_request.proofs.CountTexts.{counts}
use Rattle.tb_run.specs.Promise.Traces.{trace_data}

pub no_float : (t : Trace) → has_float (trace_data t) ≡ false
no_float (hash built) = rw (counts built.sizes) refl
no_float (merge sizes) = refl
no_float plain = refl
