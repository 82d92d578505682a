-- A request in runs is that with its values written out, whichever command reads it.
use Rattle.std.proofs.Common.{◌≡◌, ap}
use Rattle.std.specs.Prelude.{Result, Ok, Err}
use Rattle.tb_request.specs.declared.request.Reason.{Reason}
use Rattle.tb_request.specs.Forms.{IsPastRows}
use Rattle.tb_request.proofs.TwoForms.{join_same, unpivot_same, dummies_same, pivot_same}
use Rattle.tb_plan_request.proofs.TwoForms.{plan_same}
use Rattle.tb_delta_request.proofs.TwoForms.{delta_same}
use Rattle.tb_group_request.proofs.TwoForms.{group_same}
use Rattle.tb_run.specs.Promise.Requests.{Request, as_request, join, unpivot, dummies, pivot, plan, delta, group}
use Rattle.tb_run.specs.declared.words.Command.TheVariants.{Join, Unpivot, Dummies, Pivot, Plan, Delta, Group}
use Rattle.tb_run.specs.Forms.{TwoForms}

past : {A : Type 0} (f : A → Request) (r : Result A Reason) → IsPastRows (as_request f r) → IsPastRows r
past f (Ok a) p = tt
past f (Err reason) p = p

pub two_forms : TwoForms
two_forms Join d e p = ap (as_request join) (join_same d e (past join _ p))
two_forms Unpivot d e p = ap (as_request unpivot) (unpivot_same d e (past unpivot _ p))
two_forms Dummies d e p = ap (as_request dummies) (dummies_same d e (past dummies _ p))
two_forms Pivot d e p = ap (as_request pivot) (pivot_same d e (past pivot _ p))
two_forms Plan d e p = ap (as_request plan) (plan_same d e (past plan _ p))
two_forms Delta d e p = ap (as_request delta) (delta_same d e (past delta _ p))
two_forms Group d e p = ap (as_request group) (group_same d e (past group _ p))
