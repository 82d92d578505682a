-- The ids in the group of a row's key are its partners.
use Rattle.std.proofs.Common.{◌≡◌, ℕ, zero, suc, ◌+◌, ◌<◌, nat_lt, nat_eq, not, min, Bool, true, false, cond, ◌&&◌, List, [], ◌∷◌, length, get_or, map, Option, Some, None, refl, ap, arith, sym, ◌∙◌}
use Rattle.std.specs.Prelude.{filter, option_map, position, unwrap_or}
use Rattle.std.specs.List.{cons_option, enumerate_from, list_all, position_or_len, range_with_len}
use Rattle.std.specs.Map.{lookup}
use Rattle.std.proofs.lemmas.List.{get_or-map}
use Rattle.std.proofs.lemmas.List.Quantifiers.{position-Some}
use Rattle.tb_value.specs.Promise.Datum.{Datum, null}
use Rattle.tb_value.specs.Promise.Kind.{Kind}
use Rattle.tb_value.specs.Promise.Kind as kind
use Rattle.tb_value.specs.Promise.Names.{Name, same_name}
use Rattle.tb_value.specs.Promise.Pairs.{row_numbers}
use Rattle.tb_value.specs.Promise.Same.{agrees}
use Rattle.tb_value.specs.declared.error.Side.{Side}
use Rattle.tb_value.specs.declared.error.Side.TheVariants as side
use Rattle.tb_value.proofs.Kept.{filter-map}
use Rattle.tb_value.proofs.Loops.{map-map}
use Rattle.tb_frame.specs.Promise.Join.{by_names, column_named, field, matches}
use Rattle.tb_frame.specs.Promise.Table.{Table, TableColumn}
use Rattle.tb_delta.specs.Inside.{agreeing, key_of, place_of}
use Rattle.tb_delta.specs.Promise.Now.{column_now, kept_args, now, partners, partners_at, table_now}
use Rattle.tb_delta.specs.Promise.State.{Row, SideState, State, of_side, other, row_of}
use Rattle.tb_delta.proofs.Agreeing.{agrees-turned}

and_true : (b : Bool) → (b && true) ≡ b
and_true true = refl
and_true false = refl

-- rows match by one key on each side where their fields in it agree
pub one_key : (l r : Table) (n m : Name) (nulls : Bool) (c d : TableColumn) (i j : ℕ) → column_named l n ≡ Some c → column_named r m ≡ Some d
    → matches (by_names l r (n ∷ []) (m ∷ []) (kept_args nulls)) i j ≡ agrees nulls (get_or c.values i null) (get_or d.values j null)
one_key l r n m nulls c d i j left right =
    (λ t. let lk : List TableColumn = cons_option (left t) [] in let rk : List TableColumn = cons_option (right t) [] in
    list_all (λ p. agrees nulls (field lk p i) (field rk p j)) (row_numbers (min (length lk) (length rk))))
    ∙ and_true (agrees nulls (get_or c.values i null) (get_or d.values j null))

-- THE COLUMN OF A NAME

found_at : (rows : List Row) (n : Name) (cs : List (Name × Kind)) (k p : ℕ) (d : Name × Kind) → p < length cs → same_name (get_or cs p d).0 n ≡ true → ((j : ℕ) → j < p → same_name (get_or cs j d).0 n ≡ false)
    → column_named (map (column_now rows) (enumerate_from k cs)) n ≡ Some (column_now rows (k + p, get_or cs p d))
found_at rows n [] k p d low here before = absurd (omega (arith, low))
found_at rows n (c ∷ cs) k zero d low here before =
    let same : k ≡ k + zero = omega arith in
    ap (λ b. cond b (Some (column_now rows (k, c))) (column_named (map (column_now rows) (enumerate_from (k + 1) cs)) n)) here
    ∙ ap (λ i. Some (column_now rows (i, c))) same
found_at rows n (c ∷ cs) k (suc p) d low here before =
    let same : (k + 1) + p ≡ k + suc p = omega arith in
    ap (λ b. cond b (Some (column_now rows (k, c))) (column_named (map (column_now rows) (enumerate_from (k + 1) cs)) n)) (before 0 (omega arith))
    ∙ found_at rows n cs (k + 1) p d (omega (arith, low)) here (λ j less. before (suc j) (omega (arith, less)))
    ∙ ap (λ i. Some (column_now rows (i, get_or cs p d))) same

pub named_now : (s : SideState) (p : ℕ) → place_of s.columns s.key ≡ Some p → column_named (table_now s) s.key ≡ Some (column_now s.rows (p, get_or s.columns p ([], kind.null)))
named_now s p is =
    let there = position-Some (λ (c : Name × Kind). same_name c.0 s.key) s.columns p ([], kind.null) is in
    found_at s.rows s.key s.columns 0 p ([], kind.null) there.0 there.1 there.2
    ∙ ap (λ i. Some (column_now s.rows (i, get_or s.columns p ([], kind.null)))) (omega arith)

-- THE ROW OF AN ID

first_place : {X : Type 0} (p : X → Bool) (xs : List X) (b : Bool)
    → cond (nat_lt (cond (not b) (1 + position_or_len p xs) 0) (suc (length xs))) (Some (cond (not b) (1 + position_or_len p xs) 0)) None ≡ cond b (Some 0) (option_map suc (position p xs))
first_place p xs true = let first : nat_lt 0 (suc (length xs)) ≡ true = grind (arith) in ap (λ c. cond c (Some 0) None) first
first_place p xs false =
    let n : ℕ = position_or_len p xs in
    let deeper : nat_lt (1 + n) (suc (length xs)) ≡ nat_lt n (length xs) = grind (arith) in
    let next : 1 + n ≡ suc n = omega arith in
    (λ t. cond (deeper t) (Some (next t)) None) ∙ moved n (nat_lt n (length xs))
  where
    moved : (n : ℕ) (b : Bool) → cond b (Some (suc n)) None ≡ option_map suc (cond b (Some n) None)
    moved n true = refl
    moved n false = refl

pub position_step : {X : Type 0} (p : X → Bool) (x : X) (xs : List X) → position p (x ∷ xs) ≡ cond (p x) (Some 0) (option_map suc (position p xs))
position_step p x xs = first_place p xs (p x)

by_place : {Y : Type 0} (id : ℕ) (rows : List Row) (f : List Datum → Y) (g : ℕ → Y) → ((i : ℕ) (d : Row) → i < length rows → f (get_or rows i d).1 ≡ g i)
    → option_map f (lookup (nat_eq id) rows) ≡ option_map g (position (nat_eq id) (map (λ (r : Row). r.0) rows))
by_place id [] f g same = refl
by_place {Y} id (r ∷ rows) f g same =
    at (nat_eq id r.0) (by_place id rows f (λ i. g (suc i)) (λ i d low. same (suc i) d (omega (arith, low))))
    ∙ sym (ap (option_map g) (position_step (nat_eq id) r.0 (map (λ (x : Row). x.0) rows)))
  where
    later : (o : Option ℕ) → option_map (λ i. g (suc i)) o ≡ option_map g (option_map suc o)
    later None = refl
    later (Some i) = refl

    at : (b : Bool) → option_map f (lookup (nat_eq id) rows) ≡ option_map (λ i. g (suc i)) (position (nat_eq id) (map (λ (x : Row). x.0) rows))
        → option_map f (cond b (Some r.1) (lookup (nat_eq id) rows)) ≡ option_map g (cond b (Some 0) (option_map suc (position (nat_eq id) (map (λ (x : Row). x.0) rows))))
    at true rest = ap Some (same 0 r (omega arith))
    at false rest = rest ∙ later (position (nat_eq id) (map (λ (x : Row). x.0) rows))

-- THE IDS AT THE ROWS THAT MATCH

shifted : (a n : ℕ) → range_with_len (suc a) n ≡ map suc (range_with_len a n)
shifted a zero = refl
shifted a (suc n) = let next : suc a + 1 ≡ suc (a + 1) = omega arith in
    ap (λ (l : List ℕ). suc a ∷ l) (ap (λ b. range_with_len b n) next ∙ shifted (a + 1) n)

pub picked : (f : Row → ℕ) (g : Row → Datum) (t : Datum → Bool) (ps : List Row)
    → map (λ i. get_or (map f ps) i 0) (filter (λ i. t (get_or (map g ps) i null)) (row_numbers (length ps))) ≡ map f (filter (λ p. t (g p)) ps)
picked f g t [] = refl
picked f g t (p ∷ ps) =
    let here : ℕ → ℕ = λ i. get_or (map f (p ∷ ps)) i 0 in
    let test : ℕ → Bool = λ i. t (get_or (map g (p ∷ ps)) i null) in
    let rest : List ℕ = filter (λ i. t (get_or (map g ps) i null)) (row_numbers (length ps)) in
    let later : filter test (range_with_len 1 (length ps)) ≡ map suc rest = ap (filter test) (shifted 0 (length ps)) ∙ filter-map suc test (row_numbers (length ps)) in
    let values : map here (map suc rest) ≡ map f (filter (λ q. t (g q)) ps) = map-map here suc rest ∙ picked f g t ps in
    ap (λ (l : List ℕ). map here (cond (t (g p)) (0 ∷ l) l)) later ∙ at here rest refl values (t (g p))
  where
    at : (here : ℕ → ℕ) (rest : List ℕ) → here 0 ≡ f p → map here (map suc rest) ≡ map f (filter (λ q. t (g q)) ps) → (b : Bool) → map here (cond b (0 ∷ map suc rest) (map suc rest)) ≡ map f (cond b (p ∷ filter (λ q. t (g q)) ps) (filter (λ q. t (g q)) ps))
    at here rest z e true = λ i. z i ∷ e i
    at here rest z e false = e

module _ (s : State) (p q : ℕ) (left : place_of s.left.columns s.left.key ≡ Some p) (right : place_of s.right.columns s.right.key ≡ Some q) where
  abbrev in_left : Row → Datum
  in_left r = get_or r.1 p null

  abbrev in_right : Row → Datum
  in_right r = get_or r.1 q null

  left_key : (r : Row) → in_left r ≡ key_of s.left r.1
  left_key r = ap (λ o. get_or r.1 (unwrap_or o 0) null) (sym left)

  right_key : (r : Row) → in_right r ≡ key_of s.right r.1
  right_key r = ap (λ o. get_or r.1 (unwrap_or o 0) null) (sym right)

  meets : (i j : ℕ) → matches (now s) i j ≡ agrees s.join_nulls (get_or (map in_left s.left.rows) i null) (get_or (map in_right s.right.rows) j null)
  meets i j = one_key (table_now s.left) (table_now s.right) s.left.key s.right.key s.join_nulls
      (column_now s.left.rows (p, get_or s.left.columns p ([], kind.null))) (column_now s.right.rows (q, get_or s.right.columns q ([], kind.null))) i j
      (named_now s.left p left) (named_now s.right q right)

  pub of_left : (i : ℕ) (d : Row) → i < length s.left.rows → agreeing s.join_nulls s.right (key_of s.left (get_or s.left.rows i d).1) ≡ partners_at s side.Left i
  of_left i d low =
      let nulls : Bool = s.join_nulls in
      let k : Datum = get_or (map in_left s.left.rows) i null in
      let key : k ≡ key_of s.left (get_or s.left.rows i d).1 = get_or-map in_left s.left.rows i d null low ∙ left_key (get_or s.left.rows i d) in
      sym ((λ t. map (λ j. get_or (map (λ (r : Row). r.0) s.right.rows) j 0) (filter (λ j. meets i j t) (row_numbers (length s.right.rows))))
      ∙ picked (λ r. r.0) in_right (agrees nulls k) s.right.rows
      ∙ (λ t. map (λ (r : Row). r.0) (filter (λ (r : Row). agrees-turned nulls k (in_right r) t) s.right.rows))
      ∙ (λ t. map (λ (r : Row). r.0) (filter (λ (r : Row). agrees nulls (right_key r t) (key t)) s.right.rows)))

  of_right : (j : ℕ) (d : Row) → j < length s.right.rows → agreeing s.join_nulls s.left (key_of s.right (get_or s.right.rows j d).1) ≡ partners_at s side.Right j
  of_right j d low =
      let nulls : Bool = s.join_nulls in
      let k : Datum = get_or (map in_right s.right.rows) j null in
      let key : k ≡ key_of s.right (get_or s.right.rows j d).1 = get_or-map in_right s.right.rows j d null low ∙ right_key (get_or s.right.rows j d) in
      sym ((λ t. map (λ i. get_or (map (λ (r : Row). r.0) s.left.rows) i 0) (filter (λ i. meets i j t) (row_numbers (length s.left.rows))))
      ∙ picked (λ r. r.0) in_left (λ v. agrees nulls v k) s.left.rows
      ∙ (λ t. map (λ (r : Row). r.0) (filter (λ (r : Row). agrees nulls (left_key r t) (key t)) s.left.rows)))

  pub partners_are : (d : Side) (id : ℕ) → option_map (λ row. agreeing s.join_nulls (of_side (other d) s) (key_of (of_side d s) row)) (row_of (of_side d s) id) ≡ partners s d id
  partners_are side.Left id = by_place id s.left.rows (λ row. agreeing s.join_nulls s.right (key_of s.left row)) (partners_at s side.Left) of_left
  partners_are side.Right id = by_place id s.right.rows (λ row. agreeing s.join_nulls s.left (key_of s.right row)) (partners_at s side.Right) of_right
