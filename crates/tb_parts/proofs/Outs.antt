-- The row of an answer for a pair of a part is that for the pair in the whole.
use Rattle.std.proofs.Common.{◌≡◌, ℕ, Bool, true, false, cond, List, ◌++◌, get_or, map, refl, sym, ◌∙◌, Option, Some, None}
use Rattle.std.specs.Prelude.{All, position, slice_get}
use Rattle.std.specs.Option.{option_and_then, option_map}
use Rattle.std.proofs.lemmas.List.{map-append}
use Rattle.tb_value.specs.Promise.Datum.{Datum}
use Rattle.tb_value.specs.Promise.Names.{Name, same_name}
use Rattle.tb_value.specs.declared.index.JoinPair.{JoinPair}
use Rattle.tb_value.proofs.Kept.{filter-map}
use Rattle.tb_value.proofs.Loops.{map-map}
use Rattle.tb_chunk.specs.Promise.Coalesced.{or_else}
use Rattle.tb_frame.specs.Promise.Naming.{coalesces, coalesces_keys, keeps_left, shows_right}
use Rattle.tb_frame.specs.Promise.Table.{TableColumn, Table, names_of}
use Rattle.tb_frame.specs.Promise.Join.{Out, Request, column_named, kept_left_columns, left_field, left_out, out_row, partner, right_key, right_out, shown_right_columns, value_at}
use Rattle.tb_parts.specs.Promise.Parts.{column_among, request_among, table_among, whole_pair}
use Rattle.tb_parts.proofs.Among.{IsAmong, at_among, named_among}
use Rattle.tb_parts.proofs.Lists.{map-alike}

-- a pair of some rows
pub record IsPairAmong (ls rs : List ℕ) (pair : JoinPair) : Type 0 where
  pub left : IsAmong ls pair.left
  pub right : IsAmong rs pair.right

module _ (q : Request) where
  -- the fields that these columns give for a pair
  abbrev fields_of : (Name → Option TableColumn) → Table → Table → JoinPair → List Datum
  fields_of beside lefts rights pair = map (λ (c : TableColumn). left_field (beside c.name) c pair) lefts ++ map (λ (c : TableColumn). value_at c pair.right) rights

  row_is : (pair : JoinPair) → out_row q pair ≡ fields_of (partner q) (kept_left_columns q) (shown_right_columns q) pair
  row_is pair =
      let at : Out → Datum = λ o. o.at pair in
      let on_right : TableColumn → Out = right_out (names_of (kept_left_columns q)) q.args.suffix in
      map-append at (map (left_out q) (kept_left_columns q)) (map on_right (shown_right_columns q))
      ∙ (λ t. map-map at (left_out q) (kept_left_columns q) t ++ map-map at on_right (shown_right_columns q) t)

module _ (q : Request) (ls rs : List ℕ) where
  abbrev some : Request
  some = request_among q ls rs

  kept_among : kept_left_columns some ≡ table_among ls (kept_left_columns q)
  kept_among = filter-map (column_among ls) (λ (c : TableColumn). keeps_left q.args q.left_on c.name) q.left

  shown_among : shown_right_columns some ≡ table_among rs (shown_right_columns q)
  shown_among = filter-map (column_among rs) (λ (c : TableColumn). shows_right q.args q.right_on c.name) q.right

  partner_among : (n : Name) → partner some n ≡ option_map (column_among rs) (partner q n)
  partner_among n = at (coalesces_keys q.args.how (coalesces q.args)) (position (same_name n) q.left_on)
    where
      key : (o : Option Name) → option_and_then (column_named (table_among rs q.right)) o ≡ option_map (column_among rs) (option_and_then (column_named q.right) o)
      key None = refl
      key (Some m) = named_among rs q.right m

      at : (b : Bool) (o : Option ℕ) → cond b (option_and_then (right_key some) o) None ≡ option_map (column_among rs) (cond b (option_and_then (right_key q) o) None)
      at true (Some p) = key (slice_get q.right_on p)
      at true None = refl
      at false o = refl

  field_is : (k : Option TableColumn) (c : TableColumn) (pair : JoinPair) → IsPairAmong ls rs pair
      → left_field (option_map (column_among rs) k) (column_among ls c) pair ≡ left_field k c (whole_pair ls rs pair)
  field_is None c pair among = at_among ls c pair.left among.left
  field_is (Some k) c pair among = λ t. or_else (at_among ls c pair.left among.left t) (at_among rs k pair.right among.right t)

  out_among : (pair : JoinPair) → IsPairAmong ls rs pair → out_row some pair ≡ out_row q (whole_pair ls rs pair)
  out_among pair among =
      let lefts : Table = kept_left_columns q in
      let rights : Table = shown_right_columns q in
      row_is some pair
      ∙ (λ t. map (λ (c : TableColumn). left_field (partner some c.name) c pair) (kept_among t) ++ map (λ (c : TableColumn). value_at c pair.right) (shown_among t))
      ∙ (λ t. map-map (λ (c : TableColumn). left_field (partner some c.name) c pair) (column_among ls) lefts t ++ map-map (λ (c : TableColumn). value_at c pair.right) (column_among rs) rights t)
      ∙ (λ t. map (λ (c : TableColumn). left_field (partner_among c.name t) (column_among ls c) pair) lefts ++ map (λ (c : TableColumn). at_among rs c pair.right among.right t) rights)
      ∙ (λ t. map (λ (c : TableColumn). field_is (partner q c.name) c pair among t) lefts ++ map (λ (c : TableColumn). value_at c (whole_pair ls rs pair).right) rights)
      ∙ sym (row_is q (whole_pair ls rs pair))

  pub outs_among : (ps : List JoinPair) → All (IsPairAmong ls rs) ps → map (out_row some) ps ≡ map (out_row q) (map (whole_pair ls rs) ps)
  outs_among ps among =
      map-alike (out_row some) (λ pair. out_row q (whole_pair ls rs pair)) ps (λ k d low. out_among (get_or ps k d) (among k d low))
      ∙ sym (map-map (out_row q) (whole_pair ls rs) ps)
