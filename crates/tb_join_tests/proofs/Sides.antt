-- Keys beside their tables.
use Rattle.std.proofs.Common.{◌≡◌, List, length, true, ap}
use Rattle.tb_value.specs.Promise.Kind.{Kind, int64}
use Rattle.tb_value.specs.Promise.SameKind.{is_key}
use Rattle.tb_chunk.specs.Promise.Col.{Col, values}
use Rattle.tb_frame.specs.Promise.Table.{height, table_of}
use Rattle.tb_dispatch.specs.Given.{AreKeys, StandBeside}

pub are_keys : (a b : Col) → is_key a.kind ≡ true → a.kind ≡ b.kind → AreKeys a b
are_keys a b key same = record { key = key; same = same }

pub stand_beside : (l r : List Col) (a b : Col) → AreKeys a b → length (values a) ≡ height (table_of l) → length (values b) ≡ height (table_of r) → StandBeside l r a b
stand_beside l r a b types left right = record { types = types; left_rows = left; right_rows = right }

pub has_keys : (k : Kind) → k ≡ int64 → is_key k ≡ true
has_keys k is = ap is_key is
