-- A join request and its answers.
use Rattle.std.specs.Prelude.{◌≡◌}
use Rattle.std.specs.Prelude.{List, All}
use Rattle.std.specs.Option.{ForSome}
use Rattle.tb_value.specs.Promise.Names.{Name}
pub use Rattle.tb_value.specs.Promise.Same.{agrees}
use Rattle.tb_chunk.specs.Promise.Col.{Col}
pub use Rattle.tb_chunk.specs.Promise.Coalesced.{or_else}
use Rattle.tb_frame.specs.declared.args.JoinArgs.{JoinArgs}
use Rattle.tb_frame.specs.Promise.Table.{TableColumn, table_of}
use Rattle.tb_frame.specs.Promise.Join.{Request, by_names, partner}

-- the request of `join` of two tables that are lent
abbrev pub lent_request : List Col → List Col → List Name → List Name → JoinArgs → Request
lent_request left right left_on right_on args =
    by_names (table_of left) (table_of right) left_on right_on args

-- where columns are coalesced, they have one type
abbrev pub CoalescesAlike : Request → Type 0
CoalescesAlike q =
    All (λ (c : TableColumn). ForSome (partner q c.name) (λ k. c.kind ≡ k.kind)) q.left
