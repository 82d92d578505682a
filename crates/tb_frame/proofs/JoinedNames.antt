-- The names of the columns that a join puts side by side, as code makes them by lists of names that go.
use Rattle.std.proofs.Common.{◌≡◌, Bool, true, false, cond, not, ◌&&◌, ◌||◌, List, [], ◌∷◌, ◌++◌, map, refl, ap, sym, ◌∙◌}
use Rattle.std.specs.Prelude.{filter, unwrap_or}
use Rattle.std.proofs.lemmas.List.{map-append}
use Rattle.tb_value.specs.Promise.Names.{Name}
use Rattle.tb_value.proofs.Loops.{map-map}
use Rattle.tb_chunk.specs.Promise.Col.{Col}
use Rattle.tb_frame.specs.declared.args.JoinArgs.{JoinArgs}
use Rattle.tb_frame.specs.Frame.{without_names}
use Rattle.tb_frame.specs.Promise.Join.{columns_where}
use Rattle.tb_frame.specs.Promise.Naming.{Field, answer_fields, coalesces, default_suffix, drops_left_keys, drops_right_keys, has_right, is_among, joined_names, keeps_left, keeps_right, left_names, coalesces_keys, right_name, shows_right}
use Rattle.tb_frame.specs.Naming.{answer_names}
use Rattle.tb_frame.specs.RightColumns.{beside, gone_beside, gone_left, gone_right, names_without, right_side}
use Rattle.tb_frame.specs.Promise.Table.{TableColumn, plain_column, table_of, names_of}
use Rattle.tb_value.proofs.Kept.{filter-map}
use Rattle.tb_frame.proofs.Frames.{without-table}

-- TESTS

-- a name stays where it is not among the names that go, if any go
stays_if : (b : Bool) (keys : List Name) (n : Name) → not (b && is_among keys n) ≡ not (is_among (cond b keys []) n)
stays_if true keys n = refl
stays_if false keys n = refl

pub keeps_left-is : (a : JoinArgs) (keys : List Name) → keeps_left a keys ≡ (λ n. not (is_among (gone_left a keys) n))
keeps_left-is a keys = λ t n. stays_if (drops_left_keys a.how (coalesces a)) keys n t

-- of a kind with right columns
shows-if : (d m : Bool) (keys : List Name) (n : Name) → (not (d && is_among keys n) && not (m && is_among keys n)) ≡ not (is_among (cond (d || m) keys []) n)
shows-if true m keys n = both (m) (is_among keys n)
  where
    both : (m x : Bool) → (not x && not (m && x)) ≡ not x
    both true true = refl
    both true false = refl
    both false true = refl
    both false false = refl
shows-if false true keys n = refl
shows-if false false keys n = refl

shows_right-is : (a : JoinArgs) (keys : List Name) → shows_right a keys ≡ (λ n. has_right a.how && not (is_among (gone_right a keys) n))
shows_right-is a keys =
    let d = drops_right_keys a.how (coalesces a) in
    let m = coalesces_keys a.how (coalesces a) in
    λ t n. (assoc (has_right a.how) (not (d && is_among keys n)) (not (m && is_among keys n)) ∙ ap (λ (b : Bool). has_right a.how && b) (shows-if d m keys n)) t
  where
    assoc : (x y z : Bool) → ((x && y) && z) ≡ (x && (y && z))
    assoc true y z = refl
    assoc false y z = refl

filter-none : {X : Type 0} (xs : List X) → filter (λ x. false) xs ≡ []
filter-none [] = refl
filter-none (x ∷ xs) = filter-none xs

-- COLUMNS

-- the columns of a side that pass a test, where the side has columns in the answer
side_where : (b : Bool) (test : Name → Bool) (cs : List Col) → columns_where (λ n. b && test n) (table_of cs) ≡ table_of (filter (λ (c : Col). test c.name) (cond b cs []))
side_where true test cs = filter-map plain_column (λ (c : TableColumn). test c.name) cs
side_where false test cs = filter-none (table_of cs)

side_names : (b : Bool) (test : Name → Bool) (ns : List Name) → filter (λ n. b && test n) ns ≡ filter test (cond b ns [])
side_names true test ns = refl
side_names false test ns = filter-none ns

-- the names of the columns of a side
pub names-side : (b : Bool) (cs : List Col) → names_of (table_of (cond b cs [])) ≡ cond b (names_of (table_of cs)) []
names-side true cs = refl
names-side false cs = refl

module _ (a : JoinArgs) (keys : List Name) (cs : List Col) where
  -- the kept left columns, before or after chunks and flags are
  pub left-kept : columns_where (keeps_left a keys) (table_of cs) ≡ table_of (without_names (gone_left a keys) cs)
  left-kept = ap (λ (f : Name → Bool). columns_where f (table_of cs)) (keeps_left-is a keys) ∙ sym (without-table (gone_left a keys) cs)

  -- and the right ones that are shown
  pub right-shown : columns_where (shows_right a keys) (table_of cs) ≡ table_of (without_names (gone_right a keys) (right_side a.how cs))
  right-shown = ap (λ (f : Name → Bool). columns_where f (table_of cs)) (shows_right-is a keys) ∙ side_where (has_right a.how) (λ n. not (is_among (gone_right a keys) n)) cs

module _ (a : JoinArgs) (keys : List Name) (ns : List Name) where
  pub left-names : left_names a keys ns ≡ names_without (gone_left a keys) ns
  left-names = ap (λ (f : Name → Bool). filter f ns) (keeps_left-is a keys)

  beside-names : filter (keeps_right a keys) ns ≡ names_without (gone_beside a keys) (right_side a.how ns)
  beside-names =
      let test : Name → Bool = λ n. not (is_among (gone_beside a keys) n) in
      let is : keeps_right a keys ≡ (λ n. has_right a.how && test n) = λ t n. has_right a.how && stays_if (drops_right_keys a.how (coalesces a)) keys n t in
      ap (λ (f : Name → Bool). filter f ns) is ∙ side_names (has_right a.how) test ns

  shown-names : filter (shows_right a keys) ns ≡ names_without (gone_right a keys) (right_side a.how ns)
  shown-names = ap (λ (f : Name → Bool). filter f ns) (shows_right-is a keys) ∙ side_names (has_right a.how) (λ n. not (is_among (gone_right a keys) n)) ns

-- the names that are put side by side, and those of the answer
pub names-joined : (left right lo ro : List Name) (a : JoinArgs) → joined_names a lo ro left right
    ≡ beside left (gone_left a lo) (right_side a.how right) (gone_beside a ro) (unwrap_or a.suffix default_suffix)
names-joined left right lo ro a = λ t. left-names a lo left t ++ map (right_name (left-names a lo left t) a.suffix) (beside-names a ro right t)

pub names-answered : (left right lo ro : List Name) (a : JoinArgs) → answer_names a lo ro left right
    ≡ beside left (gone_left a lo) (right_side a.how right) (gone_right a ro) (unwrap_or a.suffix default_suffix)
names-answered left right lo ro a = λ t. left-names a lo left t ++ map (right_name (left-names a lo left t) a.suffix) (shown-names a ro right t)

-- names are the first components of names and types
pub names-fields : (a : JoinArgs) (lo ro : List Name) (left right : List Field) → map (λ (f : Field). f.0) (answer_fields a lo ro left right) ≡ answer_names a lo ro (map (λ (f : Field). f.0) left) (map (λ (f : Field). f.0) right)
names-fields a lo ro left right =
    let name : Field → Name = λ f. f.0 in
    let taken = left_names a lo (map name left) in
    let shown = filter (λ (f : Field). shows_right a ro f.0) right in
    let called : Field → Field = λ f. (right_name taken a.suffix f.0, f.1) in
    map-append name (filter (λ (f : Field). keeps_left a lo f.0) left) (map called shown)
    ∙ (λ t. sym (filter-map name (keeps_left a lo) left) t
    ++ (map-map name called shown ∙ sym (map-map (right_name taken a.suffix) name shown) ∙ ap (map (right_name taken a.suffix)) (sym (filter-map name (shows_right a ro) right))) t)
