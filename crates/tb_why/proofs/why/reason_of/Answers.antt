use Rattle.tb_request.specs.Promise.Reading.{dummies_request_of, dummies_view, join_request_of, pivot_request_of, pivot_view, request_view, unpivot_request_of, unpivot_view}
use Rattle.tb_plan_request.specs.Lent.{plan_view}
use Rattle.tb_plan_request.specs.Promise.Reading.{plan_request_of}
use Rattle.tb_delta_request.specs.Promise.Reading.{delta_request_of, delta_view}
use Rattle.tb_group_request.specs.Promise.Reading.{group_request_of, group_view}
use Rattle.tb_why.proofs.Told.{reason_told}
use Rattle.tb_why.proofs.why.reason_of.Goals as goal

pub returns-in-Join : goal.returns-in-Join
returns-in-Join c = rw c.in-Join.is (reason_told request_view c.join_request_of.result (join_request_of c.args.bytes.items) c.told.result c.join_request_of.ensures c.told.ensures)

pub returns-in-Unpivot : goal.returns-in-Unpivot
returns-in-Unpivot c = rw c.in-Unpivot.is (reason_told unpivot_view c.unpivot_request_of.result (unpivot_request_of c.args.bytes.items) c.told-in-Unpivot.result c.unpivot_request_of.ensures c.told-in-Unpivot.ensures)

pub returns-in-Dummies : goal.returns-in-Dummies
returns-in-Dummies c = rw c.in-Dummies.is (reason_told dummies_view c.dummies_request_of.result (dummies_request_of c.args.bytes.items) c.told-in-Dummies.result c.dummies_request_of.ensures c.told-in-Dummies.ensures)

pub returns-in-Pivot : goal.returns-in-Pivot
returns-in-Pivot c = rw c.in-Pivot.is (reason_told pivot_view c.pivot_request_of.result (pivot_request_of c.args.bytes.items) c.told-in-Pivot.result c.pivot_request_of.ensures c.told-in-Pivot.ensures)

pub returns-in-Plan : goal.returns-in-Plan
returns-in-Plan c = rw c.in-Plan.is (reason_told plan_view c.plan_request_of.result (plan_request_of c.args.bytes.items) c.told-in-Plan.result c.plan_request_of.ensures c.told-in-Plan.ensures)

pub returns-in-Delta : goal.returns-in-Delta
returns-in-Delta c = rw c.in-Delta.is (reason_told delta_view c.delta_request_of.result (delta_request_of c.args.bytes.items) c.told-in-Delta.result c.delta_request_of.ensures.request c.told-in-Delta.ensures)

pub returns-in-Group : goal.returns-in-Group
returns-in-Group c = rw c.in-Group.is (reason_told group_view c.group_request_of.result (group_request_of c.args.bytes.items) c.told-in-Group.result c.group_request_of.ensures c.told-in-Group.ensures)
