-- The columns over pairs, as tables.
use Rattle.std.proofs.Common.{◌≡◌, ℕ, ◌<◌, ◌≤◌, ◌++◌, Bool, true, false, cond, List, [], ◌∷◌, length, get_or, map, refl, ap, sym, ◌∙◌, subst, append-nil, arith, Option, Some, None}
use Rattle.std.specs.Prelude.{All, slice_get, position, unwrap_or}
use Rattle.std.specs.Option.{option_and_then, option_map}
use Rattle.std.proofs.lemmas.List.Elements.{All-weaker}
use Rattle.std.proofs.lemmas.List.Quantifiers.{position-Some}
use Rattle.std.proofs.lemmas.Option.{slice_get-get_or}
use Rattle.tb_value.specs.Promise.Datum.{Datum}
use Rattle.tb_value.specs.Promise.Names.{Name, same_name}
use Rattle.tb_value.specs.declared.index.JoinPair.{JoinPair}
use Rattle.tb_chunk.specs.Promise.Col.{Col, values}
use Rattle.tb_chunk.specs.Coalesced.{coalesced_values}
use Rattle.tb_chunk.specs.Rows.{IsRowOf}
use Rattle.tb_frame.specs.Answer.{fill}
use Rattle.tb_frame.specs.Frame.{opt_taken_rows, without_names}
use Rattle.tb_frame.specs.Promise.Join.{Request, columns_where, left_field, left_out, out, partner, right_key, value_at}
use Rattle.tb_frame.specs.Join.{or_else}
use Rattle.tb_frame.specs.Promise.Naming.{coalesces, default_suffix, keeps_left, coalesces_keys, shows_right}
use Rattle.tb_frame.specs.RightColumns.{gone_left, gone_right, right_columns, right_side}
use Rattle.tb_frame.specs.Promise.Table.{TableColumn, Table, plain_column, table_of, names_of}
use Rattle.tb_frame.proofs.Filled.{columns-made as filled, values-side}
use Rattle.tb_frame.proofs.JoinedNames.{left-kept, right-shown}
use Rattle.tb_keys.specs.Coalescing.{left_column, coalesced_key}
use Rattle.tb_keys.specs.Rows.{HasRows}

-- ROWS IN RANGE

-- rows in range are rows of each column with so many
pub in_columns : (n : ℕ) (rows : List (Option ℕ)) (cs : List Col) → All (IsRowOf n) rows → HasRows n cs → All (λ (c : Col). All (IsRowOf (length (values c))) rows) cs
in_columns n rows cs h level = All-weaker (λ (c : Col). length (values c) ≡ n) (λ (c : Col). All (IsRowOf (length (values c))) rows)
    (λ c e. subst (λ (k : ℕ). All (IsRowOf k) rows) (sym e) h) cs level

-- COLUMNS OVER PAIRS

-- two lists over the pairs are coalesced pair by pair
merged-map : (f g : JoinPair → Datum) (ps : List JoinPair) → coalesced_values (map f ps) (map g ps) ≡ map (λ (p : JoinPair). or_else (f p) (g p)) ps
merged-map f g [] = refl
merged-map f g (p ∷ ps) = λ t. or_else (f p) (g p) ∷ merged-map f g ps t

-- the keys' own columns are those that left columns are coalesced with
module _ (q : Request) (keys : List Col) (own : (p : ℕ) (d : Col) → p < length keys → right_key q p ≡ Some (plain_column (get_or keys p d)))
    (many : length q.left_on ≤ length keys) where
  at_place : (n : Name) (d : Col) (o : Option ℕ) → position (same_name n) q.left_on ≡ o → option_and_then (right_key q) o ≡ option_map plain_column (option_and_then (λ p. slice_get keys p) o)
  at_place n d None e = refl
  at_place n d (Some p) e =
      let first = position-Some (same_name n) q.left_on p [] e in
      let low : p < length keys = omega (arith, many, first.0) in
      own p d low ∙ ap (option_map plain_column) (sym (slice_get-get_or keys p d low))

  pub partner-key : (d : Col) (n : Name) → partner q n ≡ option_map plain_column (coalesced_key (coalesces_keys q.args.how (coalesces q.args)) q.left_on keys n)
  partner-key d n = at (coalesces_keys q.args.how (coalesces q.args))
    where
      at : (b : Bool) → cond b (option_and_then (right_key q) (position (same_name n) q.left_on)) None ≡ option_map plain_column (coalesced_key b q.left_on keys n)
      at true = at_place n d (position (same_name n) q.left_on) refl
      at false = refl

-- the columns over the pairs, by those that left columns are coalesced with
module _ (q : Request) (beside : Name → Option Col) (is : (c : Col) → partner q c.name ≡ option_map plain_column (beside c.name)) (ps : List JoinPair) where
  abbrev ls : List (Option ℕ)
  ls = map (λ (p : JoinPair). p.left) ps

  abbrev rs : List (Option ℕ)
  rs = map (λ (p : JoinPair). p.right) ps

  -- a left column whose fields are filled up from another
  abbrev with_partner : Col → Option TableColumn → TableColumn
  with_partner c o = record { name = c.name; kind = c.kind; values = map (left_field o (plain_column c)) ps }

  one_left : (c : Col) (o : Option Col) → plain_column (left_column ls rs o c) ≡ with_partner c (option_map plain_column o)
  one_left c None = λ t. record { name = c.name; kind = c.kind; values = values-side (λ (p : JoinPair). p.left) ps c t }
  one_left c (Some k) =
      let f : JoinPair → Datum = λ pair. value_at (plain_column c) pair.left in
      let g : JoinPair → Datum = λ pair. value_at (plain_column k) pair.right in
      let both : coalesced_values (values (opt_taken_rows ls c)) (values (opt_taken_rows rs k)) ≡ map (λ (pair : JoinPair). or_else (f pair) (g pair)) ps =
      (λ t. coalesced_values (values-side (λ (pair : JoinPair). pair.left) ps c t) (values-side (λ (pair : JoinPair). pair.right) ps k t)) ∙ merged-map f g ps
      in
      let all : values (left_column ls rs (Some k) c) ≡ map (left_field (Some (plain_column k)) (plain_column c)) ps = append-nil (coalesced_values (values (opt_taken_rows ls c)) (values (opt_taken_rows rs k))) ∙ both in
      λ t. record { name = c.name; kind = c.kind; values = all t }

  abbrev made : Col → Col
  made c = left_column ls rs (beside c.name) c

  left-made : (cs : List Col) → table_of (map made cs) ≡ map (λ (k : TableColumn). fill ps (left_out q k)) (table_of cs)
  left-made [] = refl
  left-made (c ∷ cs) = λ t. (one_left c (beside c.name) ∙ ap (with_partner c) (sym (is c))) t ∷ left-made cs t

  -- the columns that are made are those of the answer, filled over the pairs
  pub columns-made : (left right kept : List Col) → table_of left ≡ q.left → table_of right ≡ q.right → kept ≡ without_names (gone_left q.args q.left_on) left
      → table_of (map made kept ++ right_columns (names_of (table_of kept)) (unwrap_or q.args.suffix default_suffix) (gone_right q.args q.right_on) rs (right_side q.args.how right)) ≡ map
      (fill ps) (out q)
  columns-made left right kept is_left is_right is_kept =
      let kept_is = ap table_of is_kept ∙ sym (left-kept q.args q.left_on left) ∙ ap (λ (t : Table). columns_where (keeps_left q.args q.left_on) t) is_left in
      filled q ps (map made kept) (without_names (gone_right q.args q.right_on) (right_side q.args.how right)) (names_of (table_of kept))
      (left-made kept ∙ ap (λ (t : Table). map (λ (k : TableColumn). fill ps (left_out q k)) t) kept_is)
      (sym (right-shown q.args q.right_on right) ∙ ap (λ (t : Table). columns_where (shows_right q.args q.right_on) t) is_right)
      (ap names_of kept_is)
