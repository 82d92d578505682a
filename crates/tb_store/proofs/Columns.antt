-- What columns made of others are.
use Rattle.std.proofs.Common.{arith, inl, inr, ◌≡◌, ℕ, ◌<◌, ◌≤◌, List, [], ◌∷◌, length, map, Option, ap, sym, ◌∙◌, take, drop, length-take, length-drop}
use Rattle.std.specs.List.{All}
use Rattle.std.proofs.lemmas.Bool.{cases_lt}
use Rattle.std.proofs.lemmas.List.{length-map, append-nil, take_all}
use Rattle.tb_value.specs.Promise.Typed.{HasType}
use Rattle.tb_value.specs.declared.sorted.IsSorted.TheVariants.{Not}
use Rattle.tb_value.specs.declared.limits.TheConstants.{MAX_ROWS}
use Rattle.tb_chunk.specs.Promise.Col.{Col, concatenation, values}
use Rattle.tb_chunk.specs.Col.{IsColumn}
use Rattle.tb_chunk.specs.Changed.{part_of}
use Rattle.tb_chunk.specs.Lent.{in_one_chunk}
use Rattle.tb_chunk.specs.Rows.{IsRowOf, value_or_null}
use Rattle.tb_chunk.specs.ChunkViewArrays.{chunk_view_arrays}
use Rattle.tb_chunk.specs.Seen.{chunk_lists}
use Rattle.tb_chunk.specs.ViewArrays.{AreViewed, HaveFewBuffers, joined_view_array}
use Rattle.tb_chunk.specs.declared.chunks.Chunks.{Chunks}
use Rattle.tb_chunk.proofs.Flags.{flag_part}
use Rattle.tb_chunk.proofs.Lists.{All-picked}
use Rattle.tb_chunk.proofs.OneChunk.{one_chunk_is_column}
use Rattle.tb_chunk.proofs.ChunkViewArrays.{one_chunk_few}
use Rattle.tb_chunk.proofs.ViewArrays.{length-whole, window-all}
use Rattle.std.proofs.lemmas.List.Elements.{All-take, All-drop}

pub picked_column : {R : Type 0} (c d : Col) (number : R → Option ℕ) (rows : List R) → IsColumn c → All (λ r. IsRowOf (length (values c)) (number r)) rows → length rows ≤ MAX_ROWS → d.kind ≡ c.kind → d.chunks ≡ map (λ r. value_or_null (values c) (number r)) rows ∷ [] → d.flag ≡ Not → IsColumn d
picked_column c d number rows column within few same_kind picked not =
    one_chunk_is_column d c.kind (map (λ r. value_or_null (values c) (number r)) rows)
    (omega (arith, length-map rows (λ r. value_or_null (values c) (number r))))
    (All-picked (HasType c.kind) (values c) number rows tt column.typed within) same_kind picked not

pub part_column : (c d : Col) (start len : ℕ) → IsColumn c → d.kind ≡ c.kind → d.chunks ≡ take len (drop start (values c)) ∷ [] → d.flag ≡ c.flag → IsColumn d
part_column c d start len column same_kind cut same_flag =
    let all : values d ≡ take len (drop start (values c)) = ap concatenation cut ∙ append-nil (take len (drop start (values c))) in
    record {
      chunked = omega (arith, ap length cut);
      short = omega (arith, ap length all, length-take len (drop start (values c)), length-drop start (values c), column.short);
      typed = rw (same_kind, all) (All-take (HasType c.kind) len (drop start (values c)) (All-drop (HasType c.kind) start (values c) column.typed));
      flag_holds = rw (same_kind, same_flag, all) (flag_part c.flag c.kind (values c) start len column.flag_holds);
    }

-- all rows are the column in one chunk
pub part-all : (c : Col) (n : ℕ) → AreViewed c.chunks c.view_arrays → n ≡ length (values c) → part_of 0 n c ≡ in_one_chunk c
part-all c n viewed all =
    let vs = take_all n (values c) (omega (arith, all)) in
    let run = window-all (joined_view_array c.view_arrays) n (length-whole c.chunks c.view_arrays 0 viewed ∙ sym all) in
    λ i. record c { chunks = vs i ∷ []; view_arrays = run i ∷ [] }

-- the buffers of one chunk are always few
pub chunks_few : (c : Chunks) → (1 < length (chunk_lists c) → HaveFewBuffers (chunk_view_arrays c)) → HaveFewBuffers (chunk_view_arrays c)
chunks_few c many = elim (cases_lt 1 (length (chunk_lists c))) [
  | inl h ↦ many h
  | inr h ↦ one_chunk_few c h
]

-- one chunk is not more than one
pub one_alone : {X P : Type 0} (x : X) (xs : List X) → xs ≡ x ∷ [] → 1 < length xs → P
one_alone x xs one many = absurd (omega (arith, ap length one, many))
