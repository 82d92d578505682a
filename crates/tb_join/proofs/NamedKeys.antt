-- The keys of a request by names, where no cause refuses the names.
use Rattle.std.proofs.Common.{◌≡◌, ◌==◌, ◌<◌, ◌++◌, List, length, ap, sym, ◌∙◌, arith, Option, None}
use Rattle.std.specs.Prelude.{All}
use Rattle.std.specs.Borrow.{Bor}
use Rattle.std.proofs.lemmas.Bool.{eqb-true}
use Rattle.std.proofs.lemmas.List.{length-map}
use Rattle.tb_value.specs.declared.error.InvalidCause.TheVariants.{NoKeys, KeyCounts}
use Rattle.tb_value.specs.declared.error.PolarsError.{PolarsError}
use Rattle.tb_value.specs.declared.error.PolarsError.TheVariants.{ColumnNotFound, InvalidOperation}
use Rattle.tb_chunk.specs.Promise.Col.{Col}
use Rattle.tb_chunk.specs.Lent.{lent_columns}
use Rattle.tb_frame.specs.Promise.Join.{Request}
use Rattle.tb_frame.specs.Promise.Refusal.{first_unknown, list_causes, name_causes}
use Rattle.tb_frame.specs.Promise.Table.{Table, plain_column, table_of}
use Rattle.tb_frame.proofs.Causes.{map_none, no_cause, some_keys}
use Rattle.tb_frame.proofs.Frames.{when_not}
use Rattle.tb_keys.specs.Asked.{AreKeysOf, asked_request, asked_by_names}
use Rattle.tb_keys.specs.Causes.{names_refusal}
use Rattle.tb_keys.specs.declared.request.LentRequest.{LentRequest}
use Rattle.tb_keys.specs.declared.request.NamedRequest.{NamedRequest}
use Rattle.tb_keys.proofs.KeysNamed.{keys_many}

-- as many are lent as there are in a list of the same columns
as_lent : (rs : List (Bor Col)) (ks : List Col) (t : Table) → table_of (lent_columns rs) ≡ t → table_of ks ≡ t → length rs ≡ length ks
as_lent rs ks t is of =
    sym (length-map rs (λ (b : Bor Col). b.now)) ∙ sym (length-map (lent_columns rs) plain_column) ∙ ap (λ (cs : Table). length cs) (is ∙ sym of) ∙ length-map ks plain_column

module _ (n : NamedRequest) (r : LentRequest) (lk rk : List Col) (is : asked_request r ≡ asked_by_names n) (none : names_refusal (table_of n.left.now) (table_of n.right.now) n.args.now.join_nulls n.left_on.now n.right_on.now ≡ None)
    (of_left : AreKeysOf n.left.now n.left_on.now lk) (of_right : AreKeysOf n.right.now n.right_on.now rk) where
  abbrev causes : List (Option PolarsError)
  causes =
      name_causes (table_of n.left.now) (table_of n.right.now) n.left_on.now n.right_on.now
      ++ list_causes n.args.now.join_nulls n.left_on.now n.right_on.now

  each : All (λ (o : Option PolarsError). o ≡ None) causes
  each = no_cause causes none

  -- there is a key for each name
  left_many : length r.left_keys.now ≡ length n.left_on.now
  left_many =
      as_lent r.left_keys.now lk (asked_by_names n).left_keys (ap (λ (q : Request). q.left_keys) is) of_left.of_names
      ∙ keys_many n.left.now lk n.left_on.now of_left.of_names (map_none (λ m. ColumnNotFound m) (first_unknown (table_of n.left.now) n.left_on.now) (each 0 None (omega arith)))

  right_many : length r.right_keys.now ≡ length n.right_on.now
  right_many =
      as_lent r.right_keys.now rk (asked_by_names n).right_keys (ap (λ (q : Request). q.right_keys) is) of_right.of_names
      ∙ keys_many n.right.now rk n.right_on.now of_right.of_names (map_none (λ m. ColumnNotFound m) (first_unknown (table_of n.right.now) n.right_on.now) (each 1 None (omega arith)))

  -- one at least, and as many on each side
  pub keys_there : 0 < length r.left_keys.now
  keys_there =
      let some = some_keys n.left_on.now n.right_on.now (InvalidOperation NoKeys) (each 2 None (omega arith)) in
      let long = left_many in
      omega (arith, some, long)

  pub keys_as_many : length r.left_keys.now ≡ length r.right_keys.now
  keys_as_many =
      let counts = when_not (length n.left_on.now == length n.right_on.now) (InvalidOperation (KeyCounts (length n.left_on.now) (length n.right_on.now))) (each 3 None (omega arith)) in
      left_many ∙ eqb-true (length n.left_on.now) (length n.right_on.now) counts ∙ sym right_many
