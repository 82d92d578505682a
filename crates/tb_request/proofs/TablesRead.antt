-- The tables that are read are those that are written.
use Rattle.std.proofs.Common.{◌≡◌, ◌∙◌, List, [], ◌∷◌, length, suc, Bool, true, false, Option, Some, None, sym, ap}
use Rattle.std.specs.Prelude.{ok_or, Result, Ok, Err, ⊤}
use Rattle.tb_chunk.specs.Promise.Col.{Col}
use Rattle.tb_pool.specs.Promise.ExecView.{ExecView}
use Rattle.tb_json.specs.Promise.Lists.{each}
use Rattle.tb_request.specs.declared.request.Reason.{Reason}
use Rattle.tb_request.specs.declared.request.Reason.TheVariants as why
use Rattle.tb_request.specs.Promise.Columns.{columns_from, tables_fit}
use Rattle.tb_request.specs.Promise.Reading.{◌>>=◌, are_tables, may_stand, only_if, request_tables}
use Rattle.tb_request.specs.Promise.Written.{Written}
use Rattle.tb_request.proofs.EachRun.{parts}

abbrev Tables : Type 0
Tables = List (List Col)

last : (v : Result ⊤ Reason) (us ts : Tables) → (v >>= λ _. Ok us) ≡ Ok ts → Some us ≡ Some ts
last (Ok a) us ts e = let same : us ≡ ts = cc in ap Some same
last (Err reason) us ts e = absurd (cc)

there : (o : Option Tables) (fit standing : Bool) (ts : Tables) → (ok_or o why.Value >>= λ us. only_if fit why.Rows >>= λ _. only_if standing why.Exec >>= λ _. are_tables us >>= λ _. Ok us) ≡ Ok ts → o ≡ Some ts
there None fit standing ts e = absurd (cc)
there (Some us) false standing ts e = absurd (cc)
there (Some us) true false ts e = absurd (cc)
there (Some us) true true ts e = last (are_tables us) us ts e

pub tables_there : (ws : List (List Written)) (exec : ExecView) (ts : Tables) → request_tables ws exec ≡ Ok ts → each columns_from ws ≡ Some ts
unfolding request_tables
tables_there ws exec ts e = there (each columns_from ws) (tables_fit ws) (may_stand exec) ts e

each_level : (ws : List (List Written)) (ts : Tables) → each columns_from ws ≡ Some ts → length ts ≡ length ws
each_level [] ts e = let none : [] ≡ ts = cc in ap length (sym none)
each_level (w ∷ ws) ts e =
    let s = parts (columns_from w) (each columns_from ws) ts e in
    ap length s.4 ∙ ap suc (each_level ws s.1 s.3)

-- there are as many of both
pub tables_level : (ws : List (List Written)) (exec : ExecView) (ts : Tables) → request_tables ws exec ≡ Ok ts → length ts ≡ length ws
tables_level ws exec ts e = each_level ws ts (tables_there ws exec ts e)

first_is : (x y : List Col) (xs ys : Tables) → x ∷ xs ≡ y ∷ ys → y ≡ x
first_is x y xs ys e = cc

rest_is : (x y : List Col) (xs ys : Tables) → x ∷ xs ≡ y ∷ ys → xs ≡ ys
rest_is x y xs ys e = cc

-- of two tables each is that of its columns
pub both_there : (ls rs : List Written) (l r : List Col) (exec : ExecView) → request_tables (ls ∷ rs ∷ []) exec ≡ Ok (l ∷ r ∷ []) → (columns_from ls ≡ Some l) × (columns_from rs ≡ Some r)
both_there ls rs l r exec e =
    let s = parts (columns_from ls) (each columns_from (rs ∷ [])) (l ∷ r ∷ []) (tables_there (ls ∷ rs ∷ []) exec (l ∷ r ∷ []) e) in
    let t = parts (columns_from rs) (each columns_from []) s.1 s.3 in
    let left = first_is l s.0 (r ∷ []) s.1 s.4 in
    let right = first_is r t.0 [] t.1 (rest_is l s.0 (r ∷ []) s.1 s.4 ∙ t.4) in
    (s.2 ∙ ap Some left, t.2 ∙ ap Some right)
