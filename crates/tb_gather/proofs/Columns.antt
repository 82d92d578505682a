-- What gathered columns are.
use Rattle.std.proofs.Common.{arith, ◌≡◌, ◌∙◌, ◌≤◌, List, [], ◌∷◌, length, map, ap}
use Rattle.std.proofs.lemmas.List.{length-map, append-nil}
use Rattle.tb_value.specs.Promise.Typed.{HasType}
use Rattle.tb_value.specs.declared.sorted.IsSorted.{IsSorted}
use Rattle.tb_chunk.specs.Promise.Col.{Col, concatenation, values}
use Rattle.tb_chunk.specs.Col.{IsColumn}
use Rattle.tb_chunk.specs.Flag.{FlagHolds}
use Rattle.tb_chunk.proofs.Lists.{All-picked}
use Rattle.tb_gather.specs.Ids.{Id, row_or_none}
use Rattle.tb_frame.specs.Frame.{lens, lengths}
use Rattle.tb_gather.specs.Gathered.{value_of_id, named_rows, NameRows}
use Rattle.tb_gather.specs.Kept.{kept_view_array}
use Rattle.tb_gather.specs.declared.keep.Keep.{Keep}
use Rattle.tb_gather.proofs.Naming.{named-row}

pub values-named : (keep : Keep) (ids : List Id) (flag : IsSorted) (c : Col) → values (named_rows keep ids flag c) ≡ map (value_of_id c.chunks) ids
values-named keep ids flag c = append-nil (map (value_of_id c.chunks) ids)

pub length-named : (keep : Keep) (ids : List Id) (flag : IsSorted) (c : Col) → length (values (named_rows keep ids flag c)) ≡ length ids
length-named keep ids flag c = ap length (values-named keep ids flag c) ∙ length-map ids (value_of_id c.chunks)

-- what is gathered is a column, where its flag is true
pub IsColumn-named : (c d : Col) (ids : List Id) (flag : IsSorted) → IsColumn c → NameRows ids c → length ids ≤ 4294967294 → FlagHolds flag c.kind (map (value_of_id c.chunks) ids) → d.kind ≡ c.kind → d.chunks ≡ map (value_of_id c.chunks) ids ∷ [] → d.flag ≡ flag → IsColumn d
IsColumn-named c d ids flag column named few holds same_kind picked same_flag =
    let all : values d ≡ map (value_of_id c.chunks) ids = ap concatenation picked ∙ append-nil (map (value_of_id c.chunks) ids) in
    record {
      chunked = omega (arith, ap length picked);
      short = omega (arith, ap length all, length-map ids (value_of_id c.chunks));
      typed = rw (same_kind, all) (All-picked (HasType c.kind) (values c) (row_or_none (lengths c.chunks)) ids tt column.typed (λ k d low. named-row c.chunks _ (named k d low)));
      flag_holds = rw (same_kind, same_flag, all) holds;
    }

-- what its parts say of a column of the rows that ids name
pub named-is : (keep : Keep) (c d : Col) (ids : List Id) (flag : IsSorted) → d.name ≡ c.name → d.kind ≡ c.kind → d.chunks ≡ map (value_of_id c.chunks) ids ∷ [] → d.flag ≡ flag → d.view_arrays ≡ kept_view_array keep (lens c) ids c.view_arrays ∷ [] → d ≡ named_rows keep ids flag c
named-is keep c d ids flag same_name same_kind picked same_flag kept =
    λ i. let k : Col = record { name = same_name i; kind = same_kind i; chunks = picked i; flag = same_flag i; view_arrays = kept i } in k
