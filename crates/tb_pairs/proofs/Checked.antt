-- Keys whose number and types no cause refuses are alike.
use Rattle.std.proofs.Common.{◌≡◌, ◌<◌, ℕ, Bool, true, false, not, min, List, length, get_or, ap, sym, ◌∙◌, arith, None}
use Rattle.std.specs.List.{find}
use Rattle.std.proofs.lemmas.List.{ext_get_or, get_or-map, length-map}
use Rattle.std.proofs.lemmas.List.FromFn.{length-range_with_len, get_or-range_with_len}
use Rattle.tb_value.specs.Promise.Kind.{Kind}
use Rattle.tb_value.specs.Promise.Kind as kind
use Rattle.tb_value.specs.Promise.Pairs.{row_numbers}
use Rattle.tb_value.specs.Proved.TypeTests.{same_kind-Decides}
use Rattle.tb_value.specs.Promise.SameKind.{is_key, same_kind}
use Rattle.tb_value.specs.declared.error.ComputeCause.TheVariants.{KeyTypes}
use Rattle.tb_value.specs.declared.error.InvalidCause.TheVariants.{KeyKind}
use Rattle.tb_value.specs.declared.error.PolarsError.TheVariants.{ComputeError, InvalidOperation}
use Rattle.tb_value.proofs.Loops.{map-map}
use Rattle.tb_chunk.specs.Promise.Col.{Col}
use Rattle.tb_frame.specs.Promise.Join.{Request}
use Rattle.tb_frame.specs.Promise.Refusal.{key_kind, key_types, kind_at}
use Rattle.tb_frame.specs.Promise.Table.{TableColumn, plain_column, table_of}
use Rattle.tb_frame.proofs.Causes.{find_none, map_none}
use Rattle.tb_rowkey.specs.Promise.Columns.{kinds}
use Rattle.tb_pairs.specs.KeyColumns.{AreAlike}

not_not : (b : Bool) → not b ≡ false → b ≡ true
not_not true e = cc
not_not false e = cc

-- a test whose negation holds at no row number
everywhere : (test : ℕ → Bool) (n : ℕ) → find (λ p. not (test p)) (row_numbers n) ≡ None → (p : ℕ) → p < n → test p ≡ true
everywhere test n none p low =
    let long = length-range_with_len 0 n in
    let at : get_or (row_numbers n) p 0 ≡ p = get_or-range_with_len 0 n p 0 low ∙ omega arith in
    not_not (test p) (ap (λ k. not (test k)) (sym at) ∙ find_none (λ k. not (test k)) (row_numbers n) none p 0 (omega (arith, long, low)))

kind_of_place : (cs : List Col) (p : ℕ) → kind_at (table_of cs) p ≡ get_or (kinds cs) p kind.null
kind_of_place cs p = ap (λ (ts : List Kind). get_or ts p kind.null) (map-map (λ (c : TableColumn). c.kind) plain_column cs)

pub checked_alike : (q : Request) (ls rs : List Col) → q.left_keys ≡ table_of ls → q.right_keys ≡ table_of rs → 0 < length ls → length ls ≡ length rs → key_types q ≡ None → key_kind q ≡ None → AreAlike ls rs
checked_alike q ls rs left right some many types keys =
    let n : ℕ = min (length q.left_keys) (length q.right_keys) in
    let long = ap (λ (cs : List TableColumn). length cs) left ∙ length-map ls plain_column in
    let wide = ap (λ (cs : List TableColumn). length cs) right ∙ length-map rs plain_column in
    let in_keys : (p : ℕ) → p < length ls → p < n = λ p low. omega (arith, long, wide, many, low) in
    let left_at : (p : ℕ) → kind_at q.left_keys p ≡ get_or (kinds ls) p kind.null = λ p. ap (λ (cs : List TableColumn). kind_at cs p) left ∙ kind_of_place ls p in
    let right_at : (p : ℕ) → kind_at q.right_keys p ≡ get_or (kinds rs) p kind.null = λ p. ap (λ (cs : List TableColumn). kind_at cs p) right ∙ kind_of_place rs p in
    let left_long = length-map ls (λ (c : Col). c.kind) in
    let right_long = length-map rs (λ (c : Col). c.kind) in
    let same : (p : ℕ) → p < n → same_kind (kind_at q.left_keys p) (kind_at q.right_keys p) ≡ true = everywhere (λ p. same_kind (kind_at q.left_keys p) (kind_at q.right_keys p)) n (map_none (λ p. ComputeError (KeyTypes p)) _ types) in
    let key : (p : ℕ) → p < n → is_key (kind_at q.left_keys p) ≡ true = everywhere (λ p. is_key (kind_at q.left_keys p)) n (map_none (λ p. InvalidOperation (KeyKind p)) _ keys) in
    record {
      some = some;
      types = ext_get_or kind.null (kinds ls) (kinds rs) (omega (arith, left_long, right_long, many)) (λ p low. sym (left_at p) ∙ (same_kind-Decides (kind_at q.left_keys p) (kind_at q.right_keys p)).0 (same p (in_keys p (omega (arith, left_long, low)))) ∙ right_at p);
      keys = λ k d low. ap is_key (sym (get_or-map (λ (c : Col). c.kind) ls k d kind.null low) ∙ sym (left_at k)) ∙ key k (in_keys k low);
    }
