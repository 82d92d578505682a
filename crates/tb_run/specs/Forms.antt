-- A request in runs, and the same one in chunks.
use Rattle.std.specs.Prelude.{◌≡◌, Result, Some}
use Rattle.serde_json.specs.Data.{Data}
use Rattle.tb_request.specs.declared.request.Reason.{Reason}
use Rattle.tb_request.specs.declared.shape.Format.TheVariants.{Runs}
use Rattle.tb_request.specs.Forms.{expand, IsPastRows}
use Rattle.tb_request.specs.Promise.Reading.{join_in, unpivot_in, dummies_in, pivot_in}
use Rattle.tb_request.specs.Promise.Written.{format_of}
use Rattle.tb_delta_request.specs.Promise.Reading.{delta_in}
use Rattle.tb_group_request.specs.Promise.Reading.{group_in}
use Rattle.tb_plan_request.specs.Forms.{expand_plan}
use Rattle.tb_plan_request.specs.Promise.Reading.{plan_in}
use Rattle.tb_run.specs.Promise.Requests.{Request, as_request, join, unpivot, dummies, pivot, plan, delta, group}
use Rattle.tb_run.specs.declared.words.Command.{Command}
use Rattle.tb_run.specs.declared.words.Command.TheVariants.{Join, Unpivot, Dummies, Pivot, Plan, Delta, Group}

-- the request of the command that a JSON value is, or the first reason why it is none
abbrev pub value_request : Command → Data → Result Request Reason
value_request Join d = as_request join (join_in d)
value_request Unpivot d = as_request unpivot (unpivot_in d)
value_request Dummies d = as_request dummies (dummies_in d)
value_request Pivot d = as_request pivot (pivot_in d)
value_request Plan d = as_request plan (plan_in d)
value_request Delta d = as_request delta (delta_in d)
value_request Group d = as_request group (group_in d)

-- a request of the command in format 1, by where its tables stand
abbrev pub expand_for : Command → Data → Data
expand_for Plan d = expand_plan d
expand_for _ d = expand d

-- where no reason up to `Rows` holds, a request of format 2 is that of format 1, or none for the same reason
abbrev pub TwoForms : Type 0
TwoForms = (c : Command) (d : Data) → format_of d ≡ Some Runs → IsPastRows (value_request c d)
    → value_request c (expand_for c d) ≡ value_request c d
