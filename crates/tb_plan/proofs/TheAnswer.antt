-- The one answer to a join by names whose order is fixed.
use Rattle.std.proofs.Common.{◌≡◌, ◌++◌, List, [], ◌∷◌, Bool, true, false, if◌then◌else◌, map, refl, ap, sym, ◌∙◌, subst, Option, Some, None, inl}
use Rattle.std.specs.Prelude.{◌≢◌, ◌↔◌, IsPermutation}
use Rattle.std.specs.Ordering.{is_lt}
use Rattle.std.specs.declared.cmp.Ordering.{Ordering}
use Rattle.std.proofs.lemmas.List.{append-nil}
use Rattle.std.proofs.lemmas.List.Sorted.{IsPermutation-append_comm, IsPermutation-append_left, IsPermutation-cons, IsPermutation-refl, IsPermutation-trans}
use Rattle.tb_value.specs.Promise.Pairs.{left_first, right_first}
use Rattle.tb_value.specs.Promise.Refusals.{first_cause}
use Rattle.tb_value.specs.Promise.Names.{Name}
use Rattle.tb_value.specs.declared.error.PolarsError.{PolarsError}
use Rattle.tb_value.specs.declared.index.JoinPair.{JoinPair}
use Rattle.tb_value.specs.declared.sorted.IsSorted.TheVariants.{Not}
use Rattle.tb_value.proofs.Orders.{left_first_total, right_first_total}
use Rattle.tb_chunk.specs.Promise.Col.{Col}
use Rattle.tb_frame.specs.declared.args.Direction.{Direction}
use Rattle.tb_frame.specs.declared.args.Direction.TheVariants.{Free, ByLeft, ByRight}
use Rattle.tb_frame.specs.declared.args.JoinArgs.{JoinArgs}
use Rattle.tb_frame.specs.declared.args.JoinType.{JoinType}
use Rattle.tb_frame.specs.declared.args.JoinType.TheVariants.{Inner, Left, Right, Full, Semi, Anti}
use Rattle.tb_frame.specs.declared.args.MaintainOrderJoin.{MaintainOrderJoin}
use Rattle.tb_frame.specs.declared.args.MaintainOrderJoin.TheVariants.{LeftRight}
use Rattle.tb_frame.specs.Join.{CoalescesAlike}
use Rattle.tb_frame.specs.Promise.Join.{Ascends, IsAnswer, IsOrdered, Request, by_names, cut, direction, listing, out, out_row}
use Rattle.tb_frame.specs.Promise.Refusal.{column_causes, join_valid, key_causes, row_causes}
use Rattle.tb_frame.specs.Promise.Table.{IsTable, Table, TableColumn, plain_column, rows_of, table_of}
use Rattle.tb_frame.proofs.AnswerLemmas.{answer_of, table-fill}
use Rattle.tb_frame.proofs.Ordered.{one_order}
use Rattle.tb_frame.proofs.Outs.{names_distinct, outs_typed}
use Rattle.tb_frame.proofs.Tables.{same_table}
use Rattle.tb_frame.proofs.Validity.{names_apart, same_types, some_out}
use Rattle.tb_rows.specs.Promise.InOrder.{in_order, put}
use Rattle.tb_rows.proofs.InOrder.{in_order-sorted}
use Rattle.tb_join.proofs.NamesStand.{NamesStand, can_merge, names_stand}
use Rattle.tb_node.specs.Promise.Settled.{settled, settled_order}
use Rattle.tb_plan.specs.Promise.Outcome.{pairs_by, the_answer}

-- A LIST PUT IN AN ORDER

put-permutation : {X : Type 0} (cmp : X → X → Ordering) (x : X) (xs : List X) → IsPermutation (x ∷ xs) (put cmp x xs)
put-permutation cmp x [] = IsPermutation-refl (x ∷ [])
put-permutation {X} cmp x (y ∷ ys) = at (is_lt (cmp y x)) (put-permutation cmp x ys)
  where
    at : (b : Bool) → IsPermutation (x ∷ ys) (put cmp x ys) → IsPermutation (x ∷ y ∷ ys) (if b then y ∷ put cmp x ys else x ∷ y ∷ ys)
    at false h = IsPermutation-refl (x ∷ y ∷ ys)
    at true h =
        IsPermutation-trans (x ∷ y ∷ ys) (y ∷ x ∷ ys) (y ∷ put cmp x ys)
        (IsPermutation-append_left ys (x ∷ y ∷ []) (y ∷ x ∷ []) (IsPermutation-append_comm (x ∷ []) (y ∷ [])))
        (IsPermutation-cons y (x ∷ ys) (put cmp x ys) h)

in_order-permutation : {X : Type 0} (cmp : X → X → Ordering) (xs : List X) → IsPermutation xs (in_order cmp xs)
in_order-permutation cmp [] = IsPermutation-refl []
in_order-permutation cmp (x ∷ xs) =
    IsPermutation-trans (x ∷ xs) (x ∷ in_order cmp xs) (put cmp x (in_order cmp xs)) (IsPermutation-cons x xs (in_order cmp xs) (in_order-permutation cmp xs)) (put-permutation cmp x (in_order cmp xs))

by-permutation : (d : Direction) (ps : List JoinPair) → IsPermutation ps (pairs_by d ps)
by-permutation Free ps = IsPermutation-refl ps
by-permutation ByLeft ps = in_order-permutation left_first ps
by-permutation ByRight ps = in_order-permutation right_first ps

by-ascends : (d : Direction) (ps : List JoinPair) → Ascends d (pairs_by d ps)
by-ascends Free ps = tt
by-ascends ByLeft ps = in_order-sorted left_first left_first_total ps
by-ascends ByRight ps = in_order-sorted right_first right_first_total ps

pub by-ordered : (q : Request) → IsOrdered q.args.how q.args.maintain_order (pairs_by (direction q.args.how q.args.maintain_order) (listing q)) (listing q)
by-ordered q = record {
  permutation = by-permutation (direction q.args.how q.args.maintain_order) (listing q);
  ascends = by-ascends (direction q.args.how q.args.maintain_order) (listing q);
}

-- AN ANSWER, AND THE ONLY ONE

pub is_answer : (q : Request) → join_valid q → IsTable q.left → IsTable q.right → CoalescesAlike q → IsAnswer q (the_answer q)
is_answer q valid left right alike =
    let pairs : List JoinPair = pairs_by (direction q.args.how q.args.maintain_order) (listing q) in
    answer_of q pairs
    (table-fill (cut q.args.slice pairs) (out q) (names_distinct q (names_apart q valid)) (outs_typed q left.typed right.typed alike))
    (inl (some_out q valid)) (by-ordered q)

pub one_answer : (q : Request) (s t : Table) → direction q.args.how q.args.maintain_order ≢ Free → IsAnswer q s → IsAnswer q t → s ≡ t
one_answer q s t fixed a b =
    let pairs : a.pairs ≡ b.pairs = one_order (direction q.args.how q.args.maintain_order) fixed a.pairs b.pairs (listing q) a.ordered.permutation b.ordered.permutation a.ordered.ascends b.ordered.ascends in
    let rows : rows_of s ≡ rows_of t = a.rows ∙ ap (λ (ps : List JoinPair). map (out_row q) (cut q.args.slice ps)) pairs ∙ sym b.rows in
    same_table s t a.table b.table (a.columns ∙ sym b.columns) rows

-- KEYS BY NAMES

-- the columns of a table, each in one chunk
col_of : TableColumn → Col
col_of c = record { name = c.name; kind = c.kind; chunks = c.values ∷ []; flag = Not; view_arrays = [] }

col-plain : (c : TableColumn) → plain_column (col_of c) ≡ c
unfolding col_of
col-plain c = λ t. record { name = c.name; kind = c.kind; values = append-nil c.values t }

cols-plain : (t : Table) → table_of (map col_of t) ≡ t
cols-plain [] = refl
cols-plain (c ∷ cs) = λ t. col-plain c t ∷ cols-plain cs t

front_none : (xs ys : List (Option PolarsError)) → first_cause (xs ++ ys) ≡ None → first_cause xs ≡ None
front_none [] ys h = refl
front_none (None ∷ xs) ys h = front_none xs ys h
front_none (Some e ∷ xs) ys h = absurd (cc)

pub alike : (l r : Table) (lo ro : List Name) (a : JoinArgs) → join_valid (by_names l r lo ro a) → IsTable l → CoalescesAlike (by_names l r lo ro a)
alike l r lo ro a valid left =
    let q : Request = by_names l r lo ro a in
    let stand : NamesStand q = names_stand q (front_none (key_causes q) (column_causes q) (front_none (key_causes q ++ column_causes q) (row_causes q) valid)) in
    (can_merge q (map col_of l) (map col_of r) (cols-plain l) (cols-plain r) stand (subst IsTable (sym (cols-plain l)) left) refl refl (same_types q valid)).alike

pub answers : (l r : Table) (lo ro : List Name) (a : JoinArgs) → IsTable l → IsTable r → join_valid (by_names l r lo ro a) → IsAnswer (by_names l r lo ro a) (the_answer (by_names l r lo ro a))
answers l r lo ro a left right valid = is_answer (by_names l r lo ro a) valid left right (alike l r lo ro a valid left)

pub the_one : (l r : Table) (lo ro : List Name) (a : JoinArgs) (t : Table) → IsTable l → IsTable r → direction a.how a.maintain_order ≢ Free
    → join_valid (by_names l r lo ro a) → IsAnswer (by_names l r lo ro a) t ↔ (t ≡ the_answer (by_names l r lo ro a))
the_one l r lo ro a t left right fixed valid =
    let q : Request = by_names l r lo ro a in
    let is = answers l r lo ro a left right valid in
    (λ h. one_answer q t (the_answer q) fixed h is, λ e. subst (IsAnswer q) (sym e) is)

-- NO ORDER IS FREE

left_right : (h : JoinType) → direction h LeftRight ≢ Free
left_right Inner e = absurd (cc)
left_right Left e = absurd (cc)
left_right Right e = absurd (cc)
left_right Full e = absurd (cc)
left_right Semi e = absurd (cc)
left_right Anti e = absurd (cc)

settles : (h : JoinType) (o : MaintainOrderJoin) (d : Direction) → direction h o ≡ d → direction h (settled_order d o) ≢ Free
settles h o Free is = left_right h
settles h o ByLeft is = λ e. absurd (cc)
settles h o ByRight is = λ e. absurd (cc)

pub none_free : (a : JoinArgs) → direction (settled a).how (settled a).maintain_order ≢ Free
none_free a = settles a.how a.maintain_order (direction a.how a.maintain_order) refl
