-- Requests of both formats are read alike.
use Rattle.std.proofs.Common.{◌≡◌, ◌∙◌, ◌+◌, ◌≤◌, List, [], ◌∷◌, map, Bool, true, false, Option, Some, None, refl, sym, ap, arith}
use Rattle.std.specs.Prelude.{ok_or, Result, Ok, Err}
use Rattle.std.proofs.lemmas.Bool.{le-leb, leb-true}
use Rattle.serde_json.specs.Data.{Data}
use Rattle.tb_pool.specs.Promise.ExecView.{ExecView}
use Rattle.tb_chunk.specs.Promise.Col.{Col}
use Rattle.tb_json.specs.Promise.Lists.{each}
use Rattle.tb_request.specs.declared.request.Reason.{Reason}
use Rattle.tb_request.specs.declared.request.Reason.TheVariants as why
use Rattle.tb_request.specs.declared.runs.TheConstants.{MAX_RUN_VALUES}
use Rattle.tb_request.specs.declared.shape.Format.TheVariants.{Runs}
use Rattle.tb_request.specs.Forms.{expand, IsPastRows}
use Rattle.tb_request.specs.Promise.Columns.{columns_from, rows_in, rows_in_tables, tables_fit}
use Rattle.tb_request.specs.Promise.Reading.{◌>>=◌, are_tables, dummies_in, DummiesRequest, first_table, join_in, JoinRequest, may_stand, only_if, pivot_in, PivotRequest, request_tables, second_table, unpivot_in, UnpivotRequest}
use Rattle.tb_request.specs.Promise.Written.{dummies_of, format_of, join_of, pivot_of, standard_exec, unpivot_of, Written, WrittenDummies, WrittenJoin, WrittenPivot, WrittenUnpivot}
use Rattle.tb_request.proofs.EachRun.{each_more, parts}
use Rattle.tb_request.proofs.Expanded.{columns_out, rows_out, written_out}
use Rattle.tb_request.proofs.RoomLeft.{tables_more}
use Rattle.tb_request.proofs.SameShape.{dummies_of_out, dummies_out, join_of_out, join_out, pivot_of_out, pivot_out, unpivot_of_out, unpivot_out}

-- ---- the tables of a request

abbrev pub tables_out : List (List Written) → List (List Written)
tables_out ws = map (map written_out) ws

no_rows_out : (ws : List (List Written)) → rows_in_tables (tables_out ws) ≡ 0
no_rows_out [] = refl
no_rows_out (w ∷ ws) = tables_more (map written_out w) (tables_out ws) ∙ (λ i. rows_out w i + no_rows_out ws i)

fit_out : (ws : List (List Written)) → tables_fit (tables_out ws) ≡ true
fit_out ws = le-leb (rows_in_tables (tables_out ws)) MAX_RUN_VALUES (omega (arith, no_rows_out ws))

all_out : (ws : List (List Written)) (ts : List (List Col)) → rows_in_tables ws ≤ MAX_RUN_VALUES → each columns_from ws ≡ Some ts → each columns_from (tables_out ws) ≡ Some ts
all_out [] ts few e = e
all_out (w ∷ ws) ts few e =
    let s = parts (columns_from w) (each columns_from ws) ts e in
    let sum = tables_more w ws in
    each_more columns_from (map written_out w) (tables_out ws) s.0 s.1
    (columns_out w s.0 (omega (arith, few, sum)) s.2)
    (all_out ws s.1 (omega (arith, few, sum)) s.3)
    ∙ ap Some (sym s.4)

abbrev tables_after : ExecView → Option (List (List Col)) → Bool → Result (List (List Col)) Reason
tables_after exec tables fit = do
  ts ← ok_or tables why.Value
  f ← only_if fit why.Rows
  standing ← only_if (may_stand exec) why.Exec
  valid ← are_tables ts
  Ok ts

tables_after_same : (ws : List (List Written)) (exec : ExecView) (o : Option (List (List Col))) (fit : Bool) → each columns_from ws ≡ o → tables_fit ws ≡ fit → IsPastRows (tables_after exec o fit) → tables_after exec (each columns_from (tables_out ws)) (tables_fit (tables_out ws)) ≡ tables_after exec o fit
tables_after_same ws exec None fit a b p = absurd p
tables_after_same ws exec (Some ts) false a b p = absurd p
tables_after_same ws exec (Some ts) true a b p = λ i. tables_after exec (all_out ws ts (leb-true (rows_in_tables ws) MAX_RUN_VALUES b) a i) (fit_out ws i)

pub tables_same : (ws : List (List Written)) (exec : ExecView) → IsPastRows (request_tables ws exec) → request_tables (tables_out ws) exec ≡ request_tables ws exec
unfolding request_tables
tables_same ws exec p = tables_after_same ws exec (each columns_from ws) (tables_fit ws) refl refl p

-- ---- a request, by its tables

module _ {W R : Type 0} (tables : W → List (List Written)) (exec : W → ExecView) (made : W → List (List Col) → R) (out : W → W)
    (tables_are : (w : W) → tables (out w) ≡ tables_out (tables w)) (exec_is : (w : W) → exec (out w) ≡ exec w) (made_is : (w : W) (ts : List (List Col)) → made (out w) ts ≡ made w ts) where
  abbrev pub request_from : Option W → Result R Reason
  request_from o = ok_or o why.Shape >>= λ w. request_tables (tables w) (exec w) >>= λ ts. Ok (made w ts)

  past : (w : W) (r : Result (List (List Col)) Reason) → IsPastRows (r >>= λ ts. Ok (made w ts)) → IsPastRows r
  past w (Ok ts) p = tt
  past w (Err reason) p = p

  pub request_same : (o o' : Option W) → ((w : W) → o ≡ Some w → o' ≡ Some (out w)) → IsPastRows (request_from o) → request_from o' ≡ request_from o
  request_same None o' h p = absurd p
  request_same (Some w) o' h p =
      let same = (λ i. request_tables (tables_are w i) (exec_is w i)) ∙ tables_same (tables w) (exec w) (past w (request_tables (tables w) (exec w)) p) in
      ap request_from (h w refl) ∙ (λ i. same i >>= λ ts. Ok (made_is w ts i))

abbrev join_made : WrittenJoin → List (List Col) → JoinRequest
join_made w ts = record { left = first_table ts; right = second_table ts; left_on = w.left_on; right_on = w.right_on; args = w.args; exec = w.exec; trace = w.trace }

pub join_same : (d : Data) → format_of d ≡ Some Runs → IsPastRows (join_in d) → join_in (expand d) ≡ join_in d
unfolding join_in
join_same d e p = request_same (λ (w : WrittenJoin). w.left ∷ w.right ∷ []) (λ w. w.exec) join_made join_out (λ w. refl) (λ w. refl) (λ w ts. refl) (join_of d) (join_of (expand d)) (λ w. join_of_out d w e) p

abbrev unpivot_made : WrittenUnpivot → List (List Col) → UnpivotRequest
unpivot_made w ts = record { table = first_table ts; on = w.on; index = w.index; variable_name = w.variable_name; value_name = w.value_name }

pub unpivot_same : (d : Data) → format_of d ≡ Some Runs → IsPastRows (unpivot_in d) → unpivot_in (expand d) ≡ unpivot_in d
unfolding unpivot_in
unpivot_same d e p = request_same (λ (w : WrittenUnpivot). w.table ∷ []) (λ w. standard_exec) unpivot_made unpivot_out (λ w. refl) (λ w. refl) (λ w ts. refl) (unpivot_of d) (unpivot_of (expand d)) (λ w. unpivot_of_out d w e) p

abbrev dummies_made : WrittenDummies → List (List Col) → DummiesRequest
dummies_made w ts = record { table = first_table ts; columns = w.columns; separator = w.separator; drop_first = w.drop_first }

pub dummies_same : (d : Data) → format_of d ≡ Some Runs → IsPastRows (dummies_in d) → dummies_in (expand d) ≡ dummies_in d
unfolding dummies_in
dummies_same d e p = request_same (λ (w : WrittenDummies). w.table ∷ []) (λ w. standard_exec) dummies_made dummies_out (λ w. refl) (λ w. refl) (λ w ts. refl) (dummies_of d) (dummies_of (expand d)) (λ w. dummies_of_out d w e) p

abbrev pivot_made : WrittenPivot → List (List Col) → PivotRequest
pivot_made w ts = record { table = first_table ts; on = w.on; index = w.index; values = w.values; sort_columns = w.sort_columns; agg = w.agg; separator = w.separator }

pub pivot_same : (d : Data) → format_of d ≡ Some Runs → IsPastRows (pivot_in d) → pivot_in (expand d) ≡ pivot_in d
unfolding pivot_in
pivot_same d e p = request_same (λ (w : WrittenPivot). w.table ∷ []) (λ w. standard_exec) pivot_made pivot_out (λ w. refl) (λ w. refl) (λ w ts. refl) (pivot_of d) (pivot_of (expand d)) (λ w. pivot_of_out d w e) p
