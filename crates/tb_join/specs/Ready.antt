-- What a join needs of its keys.
use Rattle.std.specs.Prelude.{◌≡◌, ◌<◌, ◌≤◌, true, None, length}
use Rattle.tb_frame.specs.Promise.Join.{Request, out}
use Rattle.tb_frame.specs.Join.{CoalescesAlike}
use Rattle.tb_frame.specs.Promise.Naming.{coalesces, coalesces_keys}
use Rattle.tb_frame.specs.Promise.Refusal.{first_unknown, key_types}
use Rattle.tb_keys.specs.Asked.{asked_request}
use Rattle.tb_keys.specs.declared.request.LentRequest.{LentRequest}

-- where keys are merged, there is a right one for each left one, they are columns of their tables, and two that are merged have one type
pub record CanCoalesceKeys (q : Request) : Type 0 where
  pub known : coalesces_keys q.args.how (coalesces q.args) ≡ true
      → first_unknown q.right q.right_on ≡ None
  pub many : coalesces_keys q.args.how (coalesces q.args) ≡ true
      → length q.left_on ≤ length q.right_on
  pub alike : CoalescesAlike q

-- as many keys on each side, one at least
pub record HaveKeys (r : LentRequest) : Type 0 where
  pub some : 0 < length r.left_keys.now
  pub as_many : length r.left_keys.now ≡ length r.right_keys.now

-- and the answer has a column, and keys of the same types can be coalesced where that is asked
pub record CanBeJoined (r : LentRequest) : Type 0 where
  pub keys : HaveKeys r
  pub wide : 0 < length (out (asked_request r))
  pub coalescing : key_types (asked_request r) ≡ None → CanCoalesceKeys (asked_request r)
