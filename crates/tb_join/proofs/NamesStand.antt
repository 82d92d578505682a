-- What a request has whose names are not refused.
use Rattle.std.proofs.Common.{◌≡◌, ◌==◌, ◌<◌, ◌++◌, List, length, get_or, min, ap, sym, ◌∙◌, subst, arith, Option, Some, None}
use Rattle.std.specs.Prelude.{All, not, slice_get}
use Rattle.std.specs.List.{filter_map, find}
use Rattle.std.specs.Option.{ForSome, option_and_then, option_map}
use Rattle.std.proofs.lemmas.Bool.{eqb-true}
use Rattle.std.proofs.lemmas.List.Elements.{All-map}
use Rattle.tb_value.specs.Promise.Pairs.{row_numbers}
use Rattle.tb_value.specs.Promise.SameKind.{same_kind}
use Rattle.tb_value.specs.declared.error.ComputeCause.TheVariants.{KeyTypes}
use Rattle.tb_value.specs.declared.error.InvalidCause.TheVariants.{NoKeys, KeyCounts}
use Rattle.tb_value.specs.declared.error.PolarsError.{PolarsError}
use Rattle.tb_value.specs.declared.error.PolarsError.TheVariants.{ColumnNotFound, ComputeError, InvalidOperation}
use Rattle.tb_chunk.specs.Promise.Col.{Col}
use Rattle.tb_frame.specs.Promise.Frame.{selected_columns}
use Rattle.tb_frame.specs.Promise.Join.{Request, column_named, out, partner, places}
use Rattle.tb_frame.specs.Promise.Naming.{coalesces, coalesces_keys}
use Rattle.tb_frame.specs.Promise.Refusal.{first_unknown, key_types, kind_at, list_causes, name_causes}
use Rattle.tb_frame.specs.Promise.Table.{IsTable, Table, TableColumn, plain_column, table_of}
use Rattle.tb_frame.proofs.Causes.{has_column, map_none, no_cause, some_keys, some_right_keys}
use Rattle.tb_frame.proofs.Frames.{when_not}
use Rattle.tb_frame.proofs.Outs.{out_wide}
use Rattle.tb_frame.proofs.Selected.{selected-table}
use Rattle.tb_keys.specs.Causes.{names_refusal}
use Rattle.tb_keys.specs.Coalescing.{coalesced_key}
use Rattle.tb_keys.proofs.CoalescedKeys.{merged_kinds}
use Rattle.tb_keys.proofs.KeysNamed.{keys_many, keys_own}
use Rattle.tb_keys.proofs.CoalescedColumns.{partner-key}
use Rattle.tb_join.specs.Ready.{CanCoalesceKeys}

-- all keys are columns, and there are as many on each side, one at least
pub record NamesStand (q : Request) : Type 0 where
  pub known_left : first_unknown q.left q.left_on ≡ None
  pub known_right : first_unknown q.right q.right_on ≡ None
  pub some_left : 0 < length q.left_on
  pub some_right : 0 < length q.right_on
  pub counts : length q.left_on ≡ length q.right_on

pub names_stand : (q : Request) → names_refusal q.left q.right q.args.join_nulls q.left_on q.right_on ≡ None → NamesStand q
names_stand q none =
    let causes : List (Option PolarsError) = name_causes q.left q.right q.left_on q.right_on ++ list_causes q.args.join_nulls q.left_on q.right_on in
    let each : All (λ (o : Option PolarsError). o ≡ None) causes = no_cause causes none in
    record {
      known_left = map_none (λ m. ColumnNotFound m) (first_unknown q.left q.left_on) (each 0 None (omega arith));
      known_right = map_none (λ m. ColumnNotFound m) (first_unknown q.right q.right_on) (each 1 None (omega arith));
      some_left = some_keys q.left_on q.right_on (InvalidOperation NoKeys) (each 2 None (omega arith));
      some_right = some_right_keys q.left_on q.right_on (InvalidOperation NoKeys) (each 2 None (omega arith));
      counts = eqb-true (length q.left_on) (length q.right_on) (when_not (length q.left_on == length q.right_on) (InvalidOperation (KeyCounts (length q.left_on) (length q.right_on))) (each 3 None (omega arith)));
    }

-- so the answer has a column
pub wide_out : (q : Request) → NamesStand q → 0 < length (out q)
wide_out q stand = out_wide q (has_column q.left q.left_on stand.some_left stand.known_left) (has_column q.right q.right_on stand.some_right stand.known_right)

module _ (q : Request) (left right : List Col) (is_left : table_of left ≡ q.left) (is_right : table_of right ≡ q.right) (stand : NamesStand q) where
  abbrev lk : List Col
  lk = selected_columns q.left_on left

  abbrev rk : List Col
  rk = selected_columns q.right_on right

  known_left : first_unknown (table_of left) q.left_on ≡ None
  known_left = ap (λ (t : Table). first_unknown t q.left_on) is_left ∙ stand.known_left

  known_right : first_unknown (table_of right) q.right_on ≡ None
  known_right = ap (λ (t : Table). first_unknown t q.right_on) is_right ∙ stand.known_right

  partner-is : (c : Col) → partner q c.name ≡ option_map plain_column (coalesced_key (coalesces_keys q.args.how (coalesces q.args)) q.left_on rk c.name)
  partner-is c =
      let many = keys_many right rk q.right_on (selected-table q.right_on right) known_right in
      let counts = stand.counts in
      partner-key q rk (λ p d low. ap (λ (t : Table). option_and_then (column_named t) (slice_get q.right_on p)) (sym is_right) ∙ keys_own right rk q.right_on (selected-table q.right_on right) known_right p d low) (omega (arith, many, counts)) c c.name

  same_kinds : (c : Col) → ForSome (coalesced_key (coalesces_keys q.args.how (coalesces q.args)) q.left_on rk c.name) (λ k. c.kind ≡ k.kind) → ForSome (partner q c.name) (λ k. c.kind ≡ k.kind)
  same_kinds c h = subst (λ (o : Option TableColumn). ForSome o (λ k. c.kind ≡ k.kind)) (sym (partner-is c)) (at (coalesced_key (coalesces_keys q.args.how (coalesces q.args)) q.left_on rk c.name) h)
    where
      at : (o : Option Col) → ForSome o (λ k. c.kind ≡ k.kind) → ForSome (option_map plain_column o) (λ k. c.kind ≡ k.kind)
      at None h = λ k e. absurd (cc)
      at (Some x) h = λ k e. let here : plain_column x ≡ k = cc in h x (λ _. Some x) ∙ ap (λ (y : TableColumn). y.kind) here

  -- where the keys' types agree, two columns that are merged have one type
  pub can_merge : IsTable (table_of left) → q.left_keys ≡ filter_map (column_named q.left) q.left_on → q.right_keys ≡ filter_map (column_named q.right) q.right_on → key_types q ≡ None → CanCoalesceKeys q
  can_merge table of_left of_right types =
      let left_is : q.left_keys ≡ table_of lk = of_left ∙ ap (λ (t : Table). filter_map (column_named t) q.left_on) (sym is_left) ∙ sym (selected-table q.left_on left) in
      let right_is : q.right_keys ≡ table_of rk = of_right ∙ ap (λ (t : Table). filter_map (column_named t) q.right_on) (sym is_right) ∙ sym (selected-table q.right_on right) in
      let none = map_none (λ p. ComputeError (KeyTypes p)) (find (λ p. not (same_kind (kind_at q.left_keys p) (kind_at q.right_keys p))) (places q)) types in
      let here = subst (λ (t : Table). find (λ p. not (same_kind (kind_at t p) (kind_at (table_of rk) p))) (row_numbers (min (length t) (length (table_of rk)))) ≡ None) left_is
      (subst (λ (t : Table). find (λ p. not (same_kind (kind_at q.left_keys p) (kind_at t p))) (row_numbers (min (length q.left_keys) (length t))) ≡ None) right_is none) in
      let kinds = merged_kinds left lk rk q.left_on table.distinct (selected-table q.left_on left) known_left here (coalesces_keys q.args.how (coalesces q.args)) in
      record {
        known = λ merges. stand.known_right;
        many = λ merges. let counts = stand.counts in omega (arith, counts);
        alike = subst (λ (t : Table). All (λ (c : TableColumn). ForSome (partner q c.name) (λ k. c.kind ≡ k.kind)) t) is_left (All-map (λ (c : TableColumn). ForSome (partner q c.name) (λ k. c.kind ≡ k.kind)) plain_column left (λ i d low. same_kinds (get_or left i d) (kinds i d low)));
      }
