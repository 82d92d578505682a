-- Tables that are kept by their names, one after another.
use Rattle.std.proofs.Common.{◌≡◌, ℕ, ◌+◌, ◌<◌, Bool, true, false, cond, List, [], ◌∷◌, ◌++◌, length, get_or, take, refl, ap, sym, ◌∙◌, subst, Option, Some, None, Bor, is_some, unwrap_or}
use Rattle.std.specs.BTreeMap.{BTreeMap, Updates, get, get_by, is_at}
use Rattle.std.specs.Cmp.Lexicographic.{slice_cmp}
use Rattle.std.specs.List.{find}
use Rattle.std.specs.Map.{lookup}
use Rattle.std.specs.Option.{option_copied, option_map, option_or}
use Rattle.std.specs.Ordering.{nat_cmp}
use Rattle.std.specs.declared.cmp.Ordering.{Ordering}
use Rattle.std.proofs.lemmas.List.{take_more}
use Rattle.std.proofs.lemmas.Map.Text.{is_eq-slice_cmp}
use Rattle.std.proofs.lemmas.Slice.Eq.{bytes_eq-Decides}
use Rattle.tb_value.specs.Promise.Names.{Name, same_name}
use Rattle.tb_chunk.specs.Promise.Col.{Col}
use Rattle.tb_frame.specs.Promise.Table.{Table, table_of}
use Rattle.tb_node.specs.declared.tables.NamedTable.{NamedTable}
use Rattle.tb_node.specs.Promise.Tables.{table_named}
use Rattle.tb_node.specs.Seen.{given_tables}

abbrev Columns : Type 0
Columns = List Col

some-or : (o : Option Columns) (c : Columns) → Some (unwrap_or o c) ≡ option_or o (Some c)
some-or None c = refl
some-or (Some d) c = refl

or-none : (o : Option Columns) → o ≡ option_or o None
or-none None = refl
or-none (Some d) = refl

-- the first of some tables under that name
abbrev pub given : Name → List NamedTable → Option Columns
given n ts = option_map (λ (t : NamedTable). t.table) (find (λ (t : NamedTable). same_name t.name n) ts)

given-append : (n : Name) (xs ys : List NamedTable) → given n (xs ++ ys) ≡ option_or (given n xs) (given n ys)
given-append n [] ys = or-first (given n ys)
  where
    or-first : (o : Option Columns) → o ≡ option_or None o
    or-first o = refl
given-append n (x ∷ xs) ys = at (same_name x.name n) (given-append n xs ys)
  where
    at : (b : Bool) → given n (xs ++ ys) ≡ option_or (given n xs) (given n ys)
        → option_map (λ (t : NamedTable). t.table) (cond b (Some x) (find (λ (t : NamedTable). same_name t.name n) (xs ++ ys)))
        ≡ option_or (option_map (λ (t : NamedTable). t.table) (cond b (Some x) (find (λ (t : NamedTable). same_name t.name n) xs))) (given n ys)
    at true h = refl
    at false h = h

-- what is kept after one more table, where of two of one name the first is kept
module _ (ts : List NamedTable) (i : ℕ) (t : NamedTable) (low : i < length ts) (is : t ≡ get_or ts i t) where
  pub kept_more : (old new : Name → Option Columns) → ((n : Name) → old n ≡ given n (take i ts)) → ((n : Name) → new n ≡ cond (same_name t.name n) (Some (unwrap_or (old t.name) t.table)) (old n))
      → (n : Name) → new n ≡ given n (take (i + 1) ts)
  kept_more old new was grown n =
      grown n
      ∙ at (same_name t.name n) refl
      ∙ sym (ap (given n) (take_more ts i t low) ∙ given-append n (take i ts) (get_or ts i t ∷ []) ∙ ap (λ (k : NamedTable). option_or (given n (take i ts)) (given n (k ∷ []))) (sym is))
    where
      at : (b : Bool) → same_name t.name n ≡ b → cond b (Some (unwrap_or (old t.name) t.table)) (old n) ≡ option_or (given n (take i ts)) (option_map (λ (k : NamedTable). k.table) (cond b (Some t) None))
      at true h = ap (λ (o : Option Columns). Some (unwrap_or o t.table)) (ap old ((bytes_eq-Decides t.name n).0 h) ∙ was n) ∙ some-or (given n (take i ts)) t.table
      at false h = was n ∙ or-none (given n (take i ts))

-- and as tables
pub given-table : (n : Name) (ts : List NamedTable) → option_map table_of (given n ts) ≡ table_named (given_tables ts) n
given-table n [] = refl
given-table n (x ∷ xs) = at (same_name x.name n) (given-table n xs)
  where
    at : (b : Bool) → option_map table_of (given n xs) ≡ table_named (given_tables xs) n
        → option_map table_of (option_map (λ (t : NamedTable). t.table) (cond b (Some x) (find (λ (t : NamedTable). same_name t.name n) xs)))
        ≡ option_map (λ (t : Name × Table). t.1) (cond b (Some (x.name, table_of x.table)) (find (λ (t : Name × Table). same_name t.0 n) (given_tables xs)))
    at true h = refl
    at false h = h

abbrev by_bytes : Bor Name → Bor Name → Ordering
by_bytes a b = slice_cmp nat_cmp a.now b.now

abbrev under : BTreeMap (Bor Name) (Bor Columns) → Name → Option Columns
under m n = option_copied (get_by (λ (k : Bor Name). slice_cmp nat_cmp n k.now) m)

pub kept-none : (m : BTreeMap (Bor Name) (Bor Columns)) (n : Name) → m.entries ≡ [] → under m n ≡ None
kept-none m n e = ap (λ (es : List (Bor Name × Bor Columns)). option_copied (lookup (is_at (λ (k : Bor Name). slice_cmp nat_cmp n k.now)) es)) e

copied-case : (b : Bool) (v : Bor Columns) (f : Option (Bor Columns)) (w : Columns) → v.now ≡ w → option_copied (cond b (Some v) f) ≡ cond b (Some w) (option_copied f)
copied-case true v f w e = ap Some e
copied-case false v f w e = refl

copied-or : (o : Option (Bor Columns)) (c : Bor Columns) → (unwrap_or o c).now ≡ unwrap_or (option_copied o) c.now
copied-or None c = refl
copied-or (Some d) c = refl

kept_new : (m n : BTreeMap (Bor Name) (Bor Columns)) (k : Bor Name) (c v : Bor Columns) (name : Name) → Updates by_bytes m n k (Some v)
    → v ≡ unwrap_or (get by_bytes m k) c → k.now ≡ name
    → (q : Name) → under n q ≡ cond (same_name name q) (Some (unwrap_or (under m name) c.now)) (under m q)
kept_new m n k c v name u e named q =
    let bor : Bor Name = record { ref_ptr = (0, 0); now = q } in
    ap option_copied (u.0 bor)
    ∙ ap (λ (b : Bool). option_copied (cond b (Some v) (get by_bytes m bor))) (is_eq-slice_cmp k.now q)
    ∙ copied-case (same_name k.now q) v (get by_bytes m bor) (unwrap_or (under m k.now) c.now) (ap (λ (b : Bor Columns). b.now) e ∙ copied-or (get by_bytes m k) c)
    ∙ ap (λ (x : Name). cond (same_name x q) (Some (unwrap_or (under m x) c.now)) (under m q)) named

none_or : (o : Option (Bor Columns)) (c : Bor Columns) → is_some o ≡ false → c ≡ unwrap_or o c
none_or None c h = refl
none_or (Some d) c h = absurd (cc)

-- what is kept after a table is put under a name that no other has
pub kept_fresh : (m n : BTreeMap (Bor Name) (Bor Columns)) (k : Bor Name) (c : Bor Columns) (name : Name) → Updates by_bytes m n k (Some c)
    → is_some (get by_bytes m k) ≡ false → k.now ≡ name
    → (q : Name) → under n q ≡ cond (same_name name q) (Some (unwrap_or (under m name) c.now)) (under m q)
kept_fresh m n k c name u free named = kept_new m n k c c name u (none_or (get by_bytes m k) c free) named

some_or : (o : Option (Bor Columns)) (c : Columns) → is_some o ≡ true → option_copied o ≡ Some (unwrap_or (option_copied o) c)
some_or None c h = absurd (cc)
some_or (Some d) c h = refl

-- a name that a table has keeps it
pub kept_there : (m : BTreeMap (Bor Name) (Bor Columns)) (k : Bor Name) (c : Columns) (name : Name) → is_some (get by_bytes m k) ≡ true → k.now ≡ name
    → (q : Name) → under m q ≡ cond (same_name name q) (Some (unwrap_or (under m name) c)) (under m q)
kept_there m k c name has named q =
    at (same_name name q) refl
  where
    at : (b : Bool) → same_name name q ≡ b → under m q ≡ cond b (Some (unwrap_or (under m name) c)) (under m q)
    at true h = ap (λ (x : Name). under m x) (sym ((bytes_eq-Decides name q).0 h)) ∙ subst (λ (x : Name). under m x ≡ Some (unwrap_or (under m x) c)) named (some_or (get by_bytes m k) c has)
    at false h = refl
