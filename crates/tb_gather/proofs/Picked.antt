-- Columns made of rows of the only chunk.
use Rattle.std.proofs.Common.{arith, ◌≡◌, ◌∙◌, ◌≤◌, ℕ, List, [], ◌∷◌, length, map, ap, append-nil, subst, Option}
use Rattle.std.specs.List.{All}
use Rattle.std.proofs.lemmas.List.{get_or-map, length-map}
use Rattle.tb_value.specs.Promise.Typed.{HasType}
use Rattle.tb_value.specs.declared.sorted.IsSorted.{IsSorted}
use Rattle.tb_chunk.specs.Changed.{opt_taken_rows}
use Rattle.tb_chunk.specs.Promise.Col.{Col, concatenation, values}
use Rattle.tb_chunk.specs.Col.{IsColumn}
use Rattle.tb_chunk.specs.Flag.{FlagHolds}
use Rattle.tb_chunk.specs.Lent.{in_one_chunk}
use Rattle.tb_chunk.specs.Rows.{IsRowOf, value_or_null}
use Rattle.tb_chunk.specs.ViewArrays.{picked_of, joined_view_array}
use Rattle.tb_chunk.proofs.Lists.{All-picked}
use Rattle.tb_chunk.proofs.ViewArrays.{whole-one}

-- what holds of each image holds of the image of each element
pub All-unmap : {X Y : Type 0} (P : Y → Type 0) (f : X → Y) (xs : List X) → All P (map f xs) → All (λ x. P (f x)) xs
All-unmap P f xs h k d low = subst P (get_or-map f xs k d (f d) low) (h k (f d) (omega (arith, low, length-map xs f)))

-- what is taken is a column, where its flag is true
pub IsColumn-rows : (c d : Col) (rows : List (Option ℕ)) (flag : IsSorted) → IsColumn c → All (IsRowOf (length (values c))) rows → length rows ≤ 4294967294 → FlagHolds flag c.kind (map (value_or_null (values c)) rows)
    → d.kind ≡ c.kind → d.chunks ≡ map (value_or_null (values c)) rows ∷ [] → d.flag ≡ flag → IsColumn d
IsColumn-rows c d rows flag column within few holds same_kind picked same_flag =
    let all : values d ≡ map (value_or_null (values c)) rows = ap concatenation picked ∙ append-nil (map (value_or_null (values c)) rows) in
    record {
      chunked = omega (arith, ap length picked);
      short = omega (arith, ap length all, length-map rows (value_or_null (values c)));
      typed = rw (same_kind, all) (All-picked (HasType c.kind) (values c) (λ r. r) rows tt column.typed within);
      flag_holds = rw (same_kind, same_flag, all) holds;
    }

-- rows of a column are those of the column in one chunk
pub taken-whole : (rows : List (Option ℕ)) (flag : IsSorted) (c : Col) → record (opt_taken_rows rows (in_one_chunk c)) { flag = flag } ≡ record (opt_taken_rows rows c) { flag = flag }
taken-whole rows flag c =
    λ i. let k : Col = record c { chunks = map (value_or_null (append-nil (values c) i)) rows ∷ []; flag = flag; view_arrays = picked_of (λ r. r) rows (whole-one (joined_view_array c.view_arrays) i) ∷ [] } in k
