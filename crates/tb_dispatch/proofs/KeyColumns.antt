-- Requests by one key column of each side.
use Rattle.std.proofs.Common.{◌≡◌, ◌<◌, ◌+◌, Bool, true, false, cond, not, ◌&&◌, ◌⊎◌, inl, inr, List, [], ◌∷◌, length, map, refl, ap, arith}
use Rattle.std.specs.Prelude.{IsTrue, filter}
use Rattle.std.proofs.lemmas.List.{length-append, length-map}
use Rattle.std.proofs.lemmas.List.Elements.{All-cons, All-nil}
use Rattle.tb_value.specs.Promise.Kind.{Kind}
use Rattle.tb_value.specs.Promise.Names.{Name}
use Rattle.tb_value.specs.Promise.SameKind.{is_key}
use Rattle.tb_chunk.specs.Promise.Col.{Col}
use Rattle.tb_frame.specs.declared.args.JoinArgs.{JoinArgs}
use Rattle.tb_frame.specs.declared.args.JoinType.TheVariants.{Full}
use Rattle.tb_frame.specs.Promise.Join.{Out, Request, kept_left_columns, left_out, listing, out, right_out, shown_right_columns}
use Rattle.tb_frame.specs.Promise.Naming.{coalesces, is_among, shows_right}
use Rattle.tb_frame.specs.Sides.{asking}
use Rattle.tb_frame.specs.Promise.Table.{Table, TableColumn, names_of, plain_column, table_of}
use Rattle.tb_frame.proofs.Causes.{has_column}
use Rattle.tb_frame.proofs.Outs.{out_wide}
use Rattle.tb_join.specs.Ready.{CanCoalesceKeys}
use Rattle.tb_pairs.specs.KeyColumns.{AreAlike}
use Rattle.tb_dispatch.specs.Given.{AreKeys, CanCoalesce, by_series}

pub alike_one : (l r : Col) → AreKeys l r → AreAlike (l ∷ []) (r ∷ [])
alike_one l r h = record {
  some = omega arith;
  types = ap (λ (k : Kind). k ∷ []) h.same;
  keys = All-cons (λ (c : Col). IsTrue (is_key c.kind)) l [] h.key (All-nil (λ (c : Col). IsTrue (is_key c.kind)));
}

first_kept : (p : TableColumn → Bool) (c : TableColumn) (cs : Table) → p c ≡ true → 0 < length (filter p (c ∷ cs))
first_kept p c cs h = at (p c) h
  where
    at : (b : Bool) → b ≡ true → 0 < length (cond b (c ∷ filter p cs) (filter p cs))
    at true e = omega arith
    at false e = absurd (cc)

module _ (left right : List Col) (l r : Col) (args : JoinArgs) where
  abbrev q : Request
  q = by_series Full left right l r args

  pub can_merge : CanCoalesce q → CanCoalesceKeys q
  can_merge h = record { known = h.known_right; many = λ merges. omega arith; alike = h.alike }

  -- as many columns as are kept of both sides
  wide : length (out q) ≡ length (kept_left_columns q) + length (shown_right_columns q)
  wide =
      let ls : List Out = map (left_out q) (kept_left_columns q) in
      let rs : List Out = map (right_out (names_of (kept_left_columns q)) q.args.suffix) (shown_right_columns q) in
      let both = length-append ls rs in
      let on_left = length-map (kept_left_columns q) (left_out q) in
      let on_right = length-map (shown_right_columns q) (right_out (names_of (kept_left_columns q)) q.args.suffix) in
      omega (arith, both, on_left, on_right)

-- where columns are put side by side and none is coalesced, that of a side is one of the answer
module _ (left right : List Col) (l r : Col) (args : JoinArgs) (apart : coalesces (by_series Full left right l r args).args ≡ false) where
  apart_wide : (ls rs : List Col) → ls ≡ left → rs ≡ right → (0 < length (out (by_series Full ls rs l r args))) ⊎ (listing (by_series Full ls rs l r args) ≡ [])
  apart_wide [] [] is_l is_r = inr refl
  apart_wide [] (c ∷ cs) is_l is_r =
      let x : Request = by_series Full [] (c ∷ cs) l r args in
      let some = first_kept (λ (k : TableColumn). shows_right x.args x.right_on k.name) (plain_column c) (table_of cs) (ap (λ (b : Bool). not (b && is_among x.right_on c.name)) apart) in
      let n = wide [] (c ∷ cs) l r args in
      inl (omega (arith, some, n))
  apart_wide (c ∷ cs) rs is_l is_r =
      inl (omega arith)

-- the answer to a Full join has a column, or there is no pair
pub full_wide : (left right : List Col) (l r : Col) (args : JoinArgs) → CanCoalesce (by_series Full left right l r args) → (0 < length (out (by_series Full left right l r args))) ⊎ (listing (by_series Full left right l r args) ≡ [])
full_wide left right l r args h = at (coalesces (by_series Full left right l r args).args) refl
  where
    at : (b : Bool) → coalesces (by_series Full left right l r args).args ≡ b → (0 < length (out (by_series Full left right l r args))) ⊎ (listing (by_series Full left right l r args) ≡ [])
    at false e = apart_wide left right l r args e left right refl refl
    at true e = inl (out_wide (by_series Full left right l r args) (has_column (table_of left) (l.name ∷ []) (omega arith) (h.known_left e)) (has_column (table_of right) (r.name ∷ []) (omega arith) (h.known_right e)))

-- the request by lists of one name each, which are those of the keys
pub series_is : (left right : List Col) (l r : Col) (args : JoinArgs) (left_on right_on : List Name) → left_on ≡ l.name ∷ [] → right_on ≡ r.name ∷ []
    → asking Full (record { left = table_of left; right = table_of right; left_on = left_on; right_on = right_on; left_keys = table_of (l ∷ []); right_keys = table_of (r ∷ []); args = args }) ≡ by_series Full left right l r args
series_is left right l r args left_on right_on a b = λ t. asking Full (record { left = table_of left; right = table_of right; left_on = a t; right_on = b t; left_keys = table_of (l ∷ []); right_keys = table_of (r ∷ []); args = args })
