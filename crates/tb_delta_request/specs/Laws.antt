-- What holds of requests.
use Rattle.std.specs.Prelude.{◌≡◌, Some}
use Rattle.serde_json.specs.Data.{Data}
use Rattle.tb_request.specs.declared.shape.Format.TheVariants.{Runs}
use Rattle.tb_request.specs.Forms.{expand, IsPastRows}
use Rattle.tb_request.specs.Promise.Written.{format_of}
use Rattle.tb_delta_request.specs.Promise.Reading.{delta_in}

-- where no reason up to `Rows` holds, a request of format 2 is that of format 1, or none for the same reason
abbrev pub TwoForms : Type 0
TwoForms = (d : Data) → format_of d ≡ Some Runs → IsPastRows (delta_in d)
    → delta_in (expand d) ≡ delta_in d
