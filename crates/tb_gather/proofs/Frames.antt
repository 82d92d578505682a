-- What gathered tables are.
use Rattle.std.proofs.Common.{◌≡◌, ℕ, List, [], ◌∷◌, length, map, get_or, ap, sym, subst, Option, refl}
use Rattle.std.specs.Prelude.{All}
use Rattle.std.proofs.lemmas.List.Elements.{All-map}
use Rattle.tb_value.specs.Promise.Datum.{Datum}
use Rattle.tb_value.specs.Promise.Typed.{HasType}
use Rattle.tb_value.specs.declared.sorted.IsSorted.{IsSorted}
use Rattle.tb_chunk.specs.Promise.Col.{Col, values}
use Rattle.tb_frame.specs.Promise.Table.{Table, plain_column, table_of, IsTable, IsTyped}
use Rattle.tb_frame.specs.Frame.{lengths, opt_taken_rows}
use Rattle.tb_frame.proofs.Taking.{IsTable-made, IsTable-opt_taken, at_row}
use Rattle.tb_gather.specs.Ids.{Id, row_or_none}
use Rattle.tb_gather.specs.Gathered.{gathered_flag, named_rows, gathered_rows, value_of_id}
use Rattle.tb_gather.specs.declared.keep.Keep.{Keep}
use Rattle.tb_gather.proofs.Columns.{length-named, values-named}

module _ (keep : Keep) (ids : List Id) (sorted : IsSorted) where
  -- the rows that ids name which run so, over the buffers that are kept
  abbrev made : Col → Col
  made c = named_rows keep ids (gathered_flag c.flag sorted) c

  lengths-gathered : (cs : List Col) → All (λ (c : Col). length (values (made c)) ≡ length ids) cs
  lengths-gathered cs = λ k d low. length-named keep ids (gathered_flag (get_or cs k d).flag sorted) (get_or cs k d)

  typed-named : (flag : IsSorted) (c : Col) → IsTyped (plain_column c) → IsTyped (plain_column (named_rows keep ids flag c))
  typed-named flag c h = subst (λ (vs : List Datum). All (HasType c.kind) vs) (sym (values-named keep ids flag c)) (All-map (HasType c.kind) (value_of_id c.chunks) ids (λ k d low. at_row (HasType c.kind) (values c) (row_or_none (lengths c.chunks) (get_or ids k d)) tt h))

  pub IsTable-gathered : (cs : List Col) → IsTable (table_of cs) → IsTable (table_of (map (λ c. named_rows keep ids (gathered_flag c.flag sorted) c) cs))
  IsTable-gathered cs t = IsTable-made made (λ c. refl) (length ids) cs (lengths-gathered cs) (λ c h. typed-named (gathered_flag c.flag sorted) c h) t

-- what a table shows of rows doesn't depend on how they run
pub table-rows : (rows : List (Option ℕ)) (sorted : IsSorted) (cs : List Col) → table_of (map (gathered_rows rows sorted) cs) ≡ table_of (map (opt_taken_rows rows) cs)
table-rows rows sorted [] = refl
table-rows rows sorted (c ∷ cs) = ap (λ (t : Table). plain_column (opt_taken_rows rows c) ∷ t) (table-rows rows sorted cs)

pub IsTable-rows : (rows : List (Option ℕ)) (sorted : IsSorted) (cs : List Col) → IsTable (table_of cs) → IsTable (table_of (map (gathered_rows rows sorted) cs))
IsTable-rows rows sorted cs t = subst (λ (made : Table). IsTable made) (sym (table-rows rows sorted cs)) (IsTable-opt_taken rows cs t)
