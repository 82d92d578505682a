-- What columns are grouped for a request.
use Rattle.std.specs.Prelude.{◌≡◌, ℕ, ◌<◌, true, List, length, slice_index_or, IsSome}
use Rattle.std.specs.Borrow.{Bor}
use Rattle.std.specs.List.{All}
use Rattle.tb_value.specs.Promise.SameKind.{is_key}
use Rattle.tb_chunk.specs.Lent.{lent_columns}
use Rattle.tb_chunk.specs.Promise.Col.{Col}
use Rattle.tb_frame.specs.Promise.Table.{TableColumn, IsTable, height, table_of}
use Rattle.tb_agg.specs.Promise.Aggregates.{result_kind}
use Rattle.tb_group.specs.Asked.{Asked, asked_list, asked_of}
use Rattle.tb_group.specs.Promise.Request.{Request, by_columns}
use Rattle.tb_group.specs.declared.lookup.AskedColumn.{AskedColumn}

-- at a place stands the same aggregate of the same column
pub record IsSeat (made : List Asked) (seat : ℕ) (a : Asked) : Type 0 where
  pub there : seat < length made
  pub agg : (slice_index_or made seat a).0.agg ≡ a.0.agg
  pub column : (slice_index_or made seat a).1 ≡ a.1

-- each aggregate that is asked for has such a place among those that are made
pub record AreSeated (asked made : List Asked) (seats : List ℕ) : Type 0 where
  pub many : length seats ≡ length asked
  pub each : (k : ℕ) (a : Asked) → k < length asked → a ≡ slice_index_or asked k a
      → IsSeat made (slice_index_or seats k 0) a

-- the height of a table, the columns by which its rows are grouped, the aggregates that are asked for, those that are made, and for each that is asked for the place of the one that is made for it
pub record Wanted : Type 0 where
  pub height : ℕ
  pub by : List (Bor Col)
  pub asked : List AskedColumn
  pub made : List AskedColumn
  pub seats : List ℕ

abbrev pub wanted : ℕ → List (Bor Col) → List AskedColumn → List AskedColumn → List ℕ → Wanted
wanted height by asked made seats =
    record { height = height; by = by; asked = asked; made = made; seats = seats }

-- these columns and aggregates are what the request names, and of types that it may
pub record AreServed (q : Request) (w : Wanted) : Type 0 where
  pub by : table_of (lent_columns w.by) ≡ by_columns q
  pub asked : asked_list w.asked ≡ asked_of q.table q.aggs
  pub seated : AreSeated (asked_list w.asked) (asked_list w.made) w.seats
  pub high : w.height ≡ height q.table
  pub table : IsTable q.table
  pub some : 0 < length (by_columns q)
  pub keys : All (λ (c : TableColumn). is_key c.kind ≡ true) (by_columns q)
  pub level : All (λ (a : Asked). length a.1.values ≡ height q.table) (asked_list w.made)
  pub taken : All (λ (a : Asked). IsSome (result_kind a.0.agg a.1.kind)) (asked_list w.made)
