-- The columns of an answer: their names, their types, and that there is one.
use Rattle.std.proofs.Common.{◌≡◌, ◌<◌, Bool, true, false, cond, not, ◌&&◌, List, [], ◌∷◌, ◌++◌, length, get_or, map, refl, ap, arith, sym, ◌∙◌, subst, ℕ, Option, Some, None}
use Rattle.std.specs.Prelude.{All, AllPairs, ◌≢◌, filter, position, slice_get}
use Rattle.std.specs.Option.{ForSome, option_and_then}
use Rattle.std.proofs.lemmas.List.{map-append, length-map, length-append}
use Rattle.std.proofs.lemmas.List.Elements.{All-append, All-filter, All-map}
use Rattle.tb_value.proofs.Ascending.{AllPairs-thinned}
use Rattle.tb_value.proofs.Loops.{map-map}
use Rattle.tb_value.specs.Promise.Datum.{Datum, is_null}
use Rattle.tb_value.specs.Promise.Kind.{Kind}
use Rattle.tb_value.specs.Promise.Names.{Name, same_name}
use Rattle.tb_value.specs.Promise.Typed.{HasType}
use Rattle.tb_value.specs.declared.index.JoinPair.{JoinPair}
use Rattle.tb_frame.specs.declared.args.JoinType.{JoinType}
use Rattle.tb_frame.specs.declared.args.JoinType.TheVariants.{Inner, Left, Right, Full, Semi, Anti}
use Rattle.tb_frame.specs.Promise.Table.{TableColumn, Table, IsTyped, names_of, schema_of}
use Rattle.tb_frame.specs.Promise.Join.{Request, Out, kept_left_columns, shown_right_columns, column_named, partner, right_key, value_at, left_field, left_out, right_out, out, out_columns}
use Rattle.tb_frame.specs.Join.{CoalescesAlike}
use Rattle.tb_frame.specs.Promise.Naming.{Field, coalesces, drops_left_keys, drops_right_keys, has_right, is_among, joined_names, keeps_left, keeps_right, left_names, coalesces_keys, right_name, shows_right}
use Rattle.tb_frame.proofs.Causes.{found_holds}
use Rattle.tb_value.proofs.Kept.{filter-map}
use Rattle.tb_frame.proofs.Taking.{at_place}

-- TESTS

filter-and : {X : Type 0} (p q : X → Bool) (xs : List X) → filter (λ x. p x && q x) xs ≡ filter q (filter p xs)
filter-and p q [] = refl
filter-and {X} p q (x ∷ xs) = at (p x) (filter-and p q xs)
  where
    at : (b : Bool) → filter (λ y. p y && q y) xs ≡ filter q (filter p xs) → cond (b && q x) (x ∷ filter (λ y. p y && q y) xs) (filter (λ y. p y && q y) xs) ≡ filter q (cond b (x ∷ filter p xs) (filter p xs))
    at true e = ap (λ (l : List X). cond (q x) (x ∷ l) l) e
    at false e = e

-- NAMES AND TYPES

module _ (q : Request) where
  abbrev names : List Name
  names = names_of (kept_left_columns q)

  -- the names of the kept left columns are the kept names of the left table
  pub names-kept : names ≡ left_names q.args q.left_on (names_of q.left)
  names-kept = sym (filter-map (λ (c : TableColumn). c.name) (keeps_left q.args q.left_on) q.left)

  names-out : map (λ (o : Out). o.name) (out q) ≡ left_names q.args q.left_on (names_of q.left) ++ map (right_name (left_names q.args q.left_on (names_of q.left)) q.args.suffix) (filter (shows_right q.args q.right_on) (names_of q.right))
  names-out =
      let name : Out → Name = λ o. o.name in
      let right : List Name → List Name = λ ns. map (right_name ns q.args.suffix) (map (λ (c : TableColumn). c.name) (shown_right_columns q)) in
      map-append name (map (left_out q) (kept_left_columns q)) (map (right_out names q.args.suffix) (shown_right_columns q))
      ∙ (λ t. map-map name (left_out q) (kept_left_columns q) t ++ (map-map name (right_out names q.args.suffix) (shown_right_columns q) ∙ sym (map-map (right_name names q.args.suffix) (λ (c : TableColumn). c.name) (shown_right_columns q))) t)
      ∙ (λ t. names-kept t ++ map (right_name (names-kept t) q.args.suffix) (sym (filter-map (λ (c : TableColumn). c.name) (shows_right q.args q.right_on) q.right) t))

  pub schema-out : map (λ (o : Out). (o.name, o.kind)) (out q) ≡ out_columns q
  schema-out =
      let field : Out → Field = λ o. (o.name, o.kind) in
      let own : TableColumn → Field = λ c. (c.name, c.kind) in
      let called : List Name → Field → Field = λ ns f. (right_name ns q.args.suffix f.0, f.1) in
      let taken : names ≡ left_names q.args q.left_on (map (λ (f : Field). f.0) (schema_of q.left)) = names-kept ∙ ap (left_names q.args q.left_on) (sym (map-map (λ (f : Field). f.0) own q.left)) in
      map-append field (map (left_out q) (kept_left_columns q)) (map (right_out names q.args.suffix) (shown_right_columns q))
      ∙ (λ t. map-map field (left_out q) (kept_left_columns q) t ++ (map-map field (right_out names q.args.suffix) (shown_right_columns q) ∙ sym (map-map (called names) own (shown_right_columns q))) t)
      ∙ (λ t. sym (filter-map own (λ (f : Field). keeps_left q.args q.left_on f.0) q.left) t ++ map (called (taken t)) (sym (filter-map own (λ (f : Field). shows_right q.args q.right_on f.0) q.right) t))

  -- where the joined names are distinct, so are the answer's, which are some of them
  pub names_distinct : AllPairs (λ (a b : Name). a ≢ b) (joined_names q.args q.left_on q.right_on (names_of q.left) (names_of q.right)) → AllPairs (λ (a b : Name). a ≢ b) (map (λ (o : Out). o.name) (out q))
  names_distinct apart =
      let distinct : List Name → Type 0 = λ ns. AllPairs (λ (a b : Name). a ≢ b) ns in
      let left : List Name = left_names q.args q.left_on (names_of q.left) in
      let stays : Name → Bool = λ n. not (coalesces_keys q.args.how (coalesces q.args) && is_among q.right_on n) in
      let right : List Name = filter (keeps_right q.args q.right_on) (names_of q.right) in
      let all : map (λ (o : Out). o.name) (out q) ≡ left ++ map (right_name left q.args.suffix) (filter stays right) =
      names-out ∙ ap (λ (ns : List Name). left ++ map (right_name left q.args.suffix) ns) (filter-and (keeps_right q.args q.right_on) stays (names_of q.right))
      in
      subst distinct (sym all) (AllPairs-thinned (λ (a b : Name). a ≢ b) (right_name left q.args.suffix) stays left right apart)

-- SOME COLUMN

pub kept_some : (t : Table) → 0 < length t → 0 < length (filter (λ (c : TableColumn). true) t)
kept_some [] h = h
kept_some (c ∷ cs) h = omega arith

-- the columns of each side, by the kind and whether it coalesces
abbrev lefts : Request → JoinType → Bool → Table
lefts q how c = filter (λ (k : TableColumn). not (drops_left_keys how c && is_among q.left_on k.name)) q.left

abbrev rights : Request → JoinType → Bool → Table
rights q how c = filter (λ (k : TableColumn). (has_right how && not (drops_right_keys how c && is_among q.right_on k.name)) && not (coalesces_keys how c && is_among q.right_on k.name)) q.right

module _ (q : Request) (on_right : TableColumn → Out) where
  pub first : (xs ys : Table) → 0 < length xs → 0 < length (map (left_out q) xs ++ map on_right ys)
  first xs ys h = let a = length-append (map (left_out q) xs) (map on_right ys) in let b = length-map xs (left_out q) in omega (arith, a, b, h)

  pub second : (xs ys : Table) → 0 < length ys → 0 < length (map (left_out q) xs ++ map on_right ys)
  second xs ys h = let a = length-append (map (left_out q) xs) (map on_right ys) in let b = length-map ys on_right in omega (arith, a, b, h)

  wide : 0 < length q.left → 0 < length q.right → (how : JoinType) (c : Bool) → 0 < length (map (left_out q) (lefts q how c) ++ map on_right (rights q how c))
  wide l r Inner c = first (lefts q Inner c) (rights q Inner c) (kept_some q.left l)
  wide l r Left c = first (lefts q Left c) (rights q Left c) (kept_some q.left l)
  wide l r Right c = second (lefts q Right c) (rights q Right c) (kept_some q.right r)
  wide l r Full c = first (lefts q Full c) (rights q Full c) (kept_some q.left l)
  wide l r Semi c = first (lefts q Semi c) (rights q Semi c) (kept_some q.left l)
  wide l r Anti c = first (lefts q Anti c) (rights q Anti c) (kept_some q.left l)

-- with a column on each side the answer has one
pub out_wide : (q : Request) → 0 < length q.left → 0 < length q.right → 0 < length (out q)
out_wide q l r = wide q (right_out (names_of (kept_left_columns q)) q.args.suffix) l r q.args.how (coalesces q.args)

-- TYPES OF FIELDS

value_typed : (c : TableColumn) → IsTyped c → (o : Option ℕ) → HasType c.kind (value_at c o)
value_typed c h None = tt
value_typed c h (Some i) = at_place (HasType c.kind) c.values i tt h

one_of_two : (P : Datum → Type 0) (b : Bool) (x y : Datum) → P x → P y → P (cond b y x)
one_of_two P true x y p q = q
one_of_two P false x y p q = p

left_typed : (c : TableColumn) → IsTyped c → (o : Option TableColumn) → ForSome o IsTyped → ForSome o (λ k. c.kind ≡ k.kind) → (pair : JoinPair) → HasType c.kind (left_field o c pair)
left_typed c h None typed alike pair = value_typed c h pair.left
left_typed c h (Some k) typed alike pair =
    one_of_two (HasType c.kind) (is_null (value_at c pair.left)) (value_at c pair.left) (value_at k pair.right) (value_typed c h pair.left)
    (subst (λ (t : Kind). HasType t (value_at k pair.right)) (sym (alike k refl)) (value_typed k (typed k refl) pair.right))

key_typed : (t : Table) → All IsTyped t → (o : Option Name) → ForSome (option_and_then (column_named t) o) IsTyped
key_typed t typed (Some n) = found_holds IsTyped (λ (c : TableColumn). same_name c.name n) t typed
key_typed t typed None = λ k e. absurd (cc)

partner_typed : (q : Request) → All IsTyped q.right → (n : Name) → ForSome (partner q n) IsTyped
partner_typed q typed n = λ k e. at (coalesces_keys q.args.how (coalesces q.args)) (position (same_name n) q.left_on) k e
  where
    at : (b : Bool) (o : Option ℕ) (k : TableColumn) → cond b (option_and_then (right_key q) o) None ≡ Some k → IsTyped k
    at true (Some p) k e = key_typed q.right typed (slice_get q.right_on p) k e
    at true None k e = absurd (cc)
    at false o k e = absurd (cc)

-- a column of the answer has fields of its type
abbrev pub HasTypedFields : Out → Type 0
HasTypedFields o = (pair : JoinPair) → HasType o.kind (o.at pair)

pub outs_typed : (q : Request) → All IsTyped q.left → All IsTyped q.right → CoalescesAlike q → All HasTypedFields (out q)
outs_typed q left right alike =
    let on_right : TableColumn → Out = right_out (names_of (kept_left_columns q)) q.args.suffix in
    let each : All (λ (c : TableColumn). HasTypedFields (left_out q c)) q.left = λ i d low. left_typed (get_or q.left i d) (left i d low) (partner q (get_or q.left i d).name) (partner_typed q right (get_or q.left i d).name) (alike i d low) in
    let other : All (λ (c : TableColumn). HasTypedFields (on_right c)) q.right = λ i d low pair. value_typed (get_or q.right i d) (right i d low) pair.right in
    All-append HasTypedFields (map (left_out q) (kept_left_columns q)) (map on_right (shown_right_columns q))
    (All-map HasTypedFields (left_out q) (kept_left_columns q) (All-filter (λ (c : TableColumn). keeps_left q.args q.left_on c.name) (λ (c : TableColumn). HasTypedFields (left_out q c)) q.left each))
    (All-map HasTypedFields on_right (shown_right_columns q) (All-filter (λ (c : TableColumn). shows_right q.args q.right_on c.name) (λ (c : TableColumn). HasTypedFields (on_right c)) q.right other))
