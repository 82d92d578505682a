-- The columns over the listed pairs are those of the answer.
use Rattle.std.proofs.Common.{◌≡◌, ℕ, Bool, true, false, cond, not, ◌||◌, List, [], ◌∷◌, ◌++◌, get_or, map, refl, ap, sym, ◌∙◌, subst, arith, Option, Some, None}
use Rattle.std.specs.Prelude.{All, position, slice_get}
use Rattle.std.specs.List.{cons_option, find}
use Rattle.std.specs.Option.{ForSome, option_and_then, option_map}
use Rattle.std.proofs.lemmas.List.{length-map, map-append}
use Rattle.std.proofs.lemmas.Option.{slice_get-map}
use Rattle.std.proofs.lemmas.List.Elements.{All-map}
use Rattle.tb_value.specs.Promise.Names.{Name, same_name}
use Rattle.tb_value.specs.declared.index.JoinPair.{JoinPair}
use Rattle.tb_value.specs.declared.sorted.IsSorted.{IsSorted}
use Rattle.tb_value.proofs.Loops.{map-map}
use Rattle.tb_chunk.specs.Promise.Col.{Col}
use Rattle.tb_frame.specs.declared.args.JoinType.{JoinType}
use Rattle.tb_frame.specs.declared.args.JoinType.TheVariants.{Inner, Left, Right, Full, Semi, Anti}
use Rattle.tb_frame.specs.Answer.{fill}
use Rattle.tb_frame.specs.Promise.Frame.{selected_columns}
use Rattle.tb_frame.specs.Frame.{opt_taken_rows, without_names}
use Rattle.tb_frame.specs.Promise.Join.{Request, column_named, out, partner, right_key}
use Rattle.tb_frame.specs.Promise.Naming.{coalesces, drops_left_keys, drops_right_keys, has_right, is_among, coalesces_keys}
use Rattle.tb_frame.specs.Promise.Refusal.{first_unknown}
use Rattle.tb_frame.specs.RightColumns.{gone_left, gone_right, right_column, right_columns, right_side}
use Rattle.tb_frame.specs.Promise.Table.{Table, plain_column, table_of, names_of}
use Rattle.tb_value.proofs.Kept.{filter-map}
use Rattle.tb_frame.proofs.Selected.{found, selected-table}
use Rattle.tb_frame.proofs.Taking.{all_plain as plain_all, length-opt_taken, names-made, names-opt_taken}
use Rattle.tb_keys.specs.Coalescing.{key_beside, left_column, coalesced_key}
use Rattle.tb_keys.proofs.KeysNamed.{keys_many, keys_own}
use Rattle.tb_keys.proofs.CoalescedColumns.{columns-made, partner-key}
use Rattle.tb_gather.specs.Gathered.{gathered_rows}
use Rattle.tb_gather.proofs.Frames.{table-rows}
use Rattle.tb_join.specs.AnswerColumns.{Fits, answer_columns, column_called, filled_column, coalesced_part, side_by_side, suffix_in}
use Rattle.tb_join.specs.Ready.{CanCoalesceKeys}
use Rattle.tb_join.specs.RowOrder.{left_order_asked, right_order_asked}
use Rattle.tb_join.proofs.KeptColumns.{without_names_none}

-- rows that are taken of right columns, beside left columns of these names
beside-taken : (ls xs : List Col) (names : List Name) (suffix : Name) (rows : List (Option ℕ)) → names_of (table_of ls) ≡ names → side_by_side suffix ls (map (opt_taken_rows rows) xs) ≡ ls ++ map (right_column names suffix rows) xs
beside-taken ls xs names suffix rows is =
    ap (λ (ns : List Name). ls ++ map (column_called ns suffix) (map (opt_taken_rows rows) xs)) is ∙ ap (λ (cs : List Col). ls ++ cs) (map-map (column_called names suffix) (opt_taken_rows rows) xs)

-- flags don't show in the columns of an answer
called-rows : (names : List Name) (suffix : Name) (rows : List (Option ℕ)) (sorted : IsSorted) (cs : List Col) → table_of (map (column_called names suffix) (map (gathered_rows rows sorted) cs)) ≡ table_of (map (column_called names suffix) (map (opt_taken_rows rows) cs))
called-rows names suffix rows sorted [] = refl
called-rows names suffix rows sorted (c ∷ cs) = ap (λ (t : Table). plain_column (column_called names suffix (opt_taken_rows rows c)) ∷ t) (called-rows names suffix rows sorted cs)

flags-aside : (suffix : Name) (lefts rights : List (Option ℕ)) (s t : IsSorted) (xs ys : List Col)
    → table_of (side_by_side suffix (map (gathered_rows lefts s) xs) (map (gathered_rows rights t) ys)) ≡ table_of (side_by_side suffix (map (opt_taken_rows lefts) xs) (map (opt_taken_rows rights) ys))
flags-aside suffix lefts rights s t xs ys =
    let kept : List Col = map (gathered_rows lefts s) xs in
    let plainly : List Col = map (opt_taken_rows lefts) xs in
    let beside : Table → Table = λ left. left ++ table_of (map (column_called (names_of left) suffix) (map (gathered_rows rights t) ys)) in
    map-append plain_column kept (map (column_called (names_of (table_of kept)) suffix) (map (gathered_rows rights t) ys))
    ∙ ap beside (table-rows lefts s xs)
    ∙ ap (λ (right : Table). table_of plainly ++ right) (called-rows (names_of (table_of plainly)) suffix rights t ys)
    ∙ sym (map-append plain_column plainly (map (column_called (names_of (table_of plainly)) suffix) (map (opt_taken_rows rights) ys)))

-- where keys are not merged, no column has a partner
alone : (q : Request) → coalesces_keys q.args.how (coalesces q.args) ≡ false → (n : Name) → partner q n ≡ None
alone q apart n = ap (λ (b : Bool). cond b (option_and_then (right_key q) (position (same_name n) q.left_on)) None) apart

pub columns-are : (q : Request) (left right : List Col) (ps : List JoinPair) → coalesces_keys q.args.how (coalesces q.args) ≡ false → table_of left ≡ q.left → table_of right ≡ q.right
    → table_of (answer_columns q.args q.left_on q.right_on ps left right) ≡ map (fill ps) (out q)
columns-are q left right ps apart is_left is_right =
    let kept : List Col = without_names (gone_left q.args q.left_on) left in
    let lefts : List (Option ℕ) = map (λ (p : JoinPair). p.left) ps in
    let rights : List (Option ℕ) = map (λ (p : JoinPair). p.right) ps in
    let beside : List Col = without_names (gone_right q.args q.right_on) (right_side q.args.how right) in
    flags-aside (suffix_in q.args) lefts rights (left_order_asked q.args) (right_order_asked q.args) kept beside
    ∙ ap table_of (beside-taken (map (opt_taken_rows lefts) kept) beside (names_of (table_of kept)) (suffix_in q.args) rights (names-opt_taken lefts kept))
    ∙ columns-made q (λ n. None) (λ c. alone q apart c.name) ps left right kept is_left is_right refl

-- MERGED KEYS

-- what is left out where keys are merged
record IsMerging (how : JoinType) (c : Bool) : Type 0 where
  no_left : drops_left_keys how c ≡ false
  right : (drops_right_keys how c || coalesces_keys how c) ≡ true
  side : has_right how ≡ true

is_merging : (how : JoinType) (c : Bool) → coalesces_keys how c ≡ true → IsMerging how c
is_merging Full c h = record { no_left = refl; right = h; side = refl }
is_merging Inner c h = absurd (cc)
is_merging Left c h = absurd (cc)
is_merging Right c h = absurd (cc)
is_merging Semi c h = absurd (cc)
is_merging Anti c h = absurd (cc)

module _ (rows : List (Option ℕ)) where
  -- rows are taken of the columns of a name, or the columns of a name of those whose rows are taken
  found-taken : (n : Name) (cs : List Col) → found n (map (opt_taken_rows rows) cs) ≡ option_map (opt_taken_rows rows) (found n cs)
  found-taken n [] = refl
  found-taken n (c ∷ cs) = at (same_name c.name n) (found-taken n cs)
    where
      at : (b : Bool) → found n (map (opt_taken_rows rows) cs) ≡ option_map (opt_taken_rows rows) (found n cs) → cond b (Some (opt_taken_rows rows c)) (found n (map (opt_taken_rows rows) cs)) ≡ option_map (opt_taken_rows rows) (cond b (Some c) (found n cs))
      at true e = refl
      at false e = e

  cons-taken : (o : Option Col) (cs : List Col) → cons_option (option_map (opt_taken_rows rows) o) (map (opt_taken_rows rows) cs) ≡ map (opt_taken_rows rows) (cons_option o cs)
  cons-taken None cs = refl
  cons-taken (Some c) cs = refl

  selected-taken : (names : List Name) (cs : List Col) → selected_columns names (map (opt_taken_rows rows) cs) ≡ map (opt_taken_rows rows) (selected_columns names cs)
  selected-taken [] cs = refl
  selected-taken (n ∷ ns) cs = (λ t. cons_option (found-taken n cs t) (selected-taken ns cs t)) ∙ cons-taken (found n cs) (selected_columns ns cs)

  key-taken : (names : List Name) (cs : List Col) (n : Name) → key_beside names (map (opt_taken_rows rows) cs) n ≡ option_map (opt_taken_rows rows) (key_beside names cs n)
  key-taken names cs n = at (position (same_name n) names)
    where
      at : (o : Option ℕ) → option_and_then (λ p. slice_get (map (opt_taken_rows rows) cs) p) o ≡ option_map (opt_taken_rows rows) (option_and_then (λ p. slice_get cs p) o)
      at None = refl
      at (Some p) = slice_get-map (opt_taken_rows rows) cs p

  -- the column that is beside a name, with its rows
  pub beside_is : (lo ro : List Name) (cs : List Col) (n : Name) → key_beside lo (selected_columns ro (map (opt_taken_rows rows) cs)) n ≡ option_map (opt_taken_rows rows) (key_beside lo (selected_columns ro cs) n)
  beside_is lo ro cs n = ap (λ (ks : List Col). key_beside lo ks n) (selected-taken ro cs) ∙ key-taken lo (selected_columns ro cs) n

module _ (q : Request) (left right : List Col) (is_left : table_of left ≡ q.left) (is_right : table_of right ≡ q.right) (merges : coalesces_keys q.args.how (coalesces q.args) ≡ true) (can : CanCoalesceKeys q) where
  abbrev keys : List Col
  keys = selected_columns q.right_on right

  known : first_unknown (table_of right) q.right_on ≡ None
  known = ap (λ (t : Table). first_unknown t q.right_on) is_right ∙ can.known merges

  partner-is : (c : Col) → partner q c.name ≡ option_map plain_column (coalesced_key (coalesces_keys q.args.how (coalesces q.args)) q.left_on keys c.name)
  partner-is c =
      let many = keys_many right keys q.right_on (selected-table q.right_on right) known in
      let enough = can.many merges in
      partner-key q keys (λ p d low. ap (λ (t : Table). option_and_then (column_named t) (slice_get q.right_on p)) (sym is_right) ∙ keys_own right keys q.right_on (selected-table q.right_on right) known p d low) (omega (arith, many, enough)) c c.name

  module _ (ps : List JoinPair) where
    abbrev ls : List (Option ℕ)
    ls = map (λ (p : JoinPair). p.left) ps

    abbrev rs : List (Option ℕ)
    rs = map (λ (p : JoinPair). p.right) ps

    abbrev made : Col → Col
    made c = left_column ls rs (coalesced_key (coalesces_keys q.args.how (coalesces q.args)) q.left_on keys c.name) c

    filled : (c : Col) (o : Option Col) → filled_column (option_map (opt_taken_rows rs) o) (opt_taken_rows ls c) ≡ left_column ls rs o c
    filled c None = refl
    filled c (Some k) = refl

    one : (c : Col) → filled_column (key_beside q.left_on (selected_columns q.right_on (map (opt_taken_rows rs) right)) c.name) (opt_taken_rows ls c) ≡ made c
    one c =
        ap (λ (o : Option Col). filled_column o (opt_taken_rows ls c)) (beside_is rs q.left_on q.right_on right c.name)
        ∙ filled c (key_beside q.left_on keys c.name) ∙ ap (λ (b : Bool). left_column ls rs (coalesced_key b q.left_on keys c.name) c) (sym merges)

    left-is : coalesced_part q.left_on (selected_columns q.right_on (map (opt_taken_rows rs) right)) (map (opt_taken_rows ls) left) ≡ map made left
    left-is = map-map (λ (c : Col). filled_column (key_beside q.left_on (selected_columns q.right_on (map (opt_taken_rows rs) right)) c.name) c) (opt_taken_rows ls) left ∙ (λ t. map (λ (c : Col). one c t) left)

    name_stays : (c : Col) (o : Option Col) → (left_column ls rs o c).name ≡ c.name
    name_stays c None = refl
    name_stays c (Some k) = refl

    pub merged-are : table_of (side_by_side (suffix_in q.args) (coalesced_part q.left_on (selected_columns q.right_on (map (opt_taken_rows rs) right)) (map (opt_taken_rows ls) left)) (without_names q.right_on (map (opt_taken_rows rs) right))) ≡ map (fill ps) (out q)
    merged-are =
        let is = is_merging q.args.how (coalesces q.args) merges in
        let kept : left ≡ without_names (gone_left q.args q.left_on) left = sym (ap (λ (b : Bool). without_names (cond b q.left_on []) left) is.no_left ∙ without_names_none left) in
        let gone : gone_right q.args q.right_on ≡ q.right_on = ap (λ (b : Bool). cond b q.right_on []) is.right in
        let side : right_side q.args.how right ≡ right = ap (λ (b : Bool). cond b right []) is.side in
        let rest : without_names q.right_on (map (opt_taken_rows rs) right) ≡ map (opt_taken_rows rs) (without_names q.right_on right) = filter-map (opt_taken_rows rs) (λ (c : Col). not (is_among q.right_on c.name)) right in
        ap table_of
        ((λ t. side_by_side (suffix_in q.args) (left-is t) (rest t))
        ∙ beside-taken (map made left) (without_names q.right_on right) (names_of (table_of left)) (suffix_in q.args) rs (names-made made (λ c. name_stays c (coalesced_key (coalesces_keys q.args.how (coalesces q.args)) q.left_on keys c.name)) left)
        ∙ (λ t. map made left ++ right_columns (names_of (table_of left)) (suffix_in q.args) (sym gone t) rs (sym side t)))
        ∙ columns-made q (λ n. coalesced_key (coalesces_keys q.args.how (coalesces q.args)) q.left_on keys n) partner-is ps left right left is_left is_right kept

    -- each left column and the one that it is merged with have one type and one length
    pub all_fit : All (λ (c : Col). ForSome (key_beside q.left_on (selected_columns q.right_on (map (opt_taken_rows rs) right)) c.name) (Fits c)) (map (opt_taken_rows ls) left)
    all_fit = All-map (λ (c : Col). ForSome (key_beside q.left_on (selected_columns q.right_on (map (opt_taken_rows rs) right)) c.name) (Fits c)) (opt_taken_rows ls) left (λ i d low k e. at (get_or left i d) (alike i d low) (key_beside q.left_on keys (get_or left i d).name) refl k (sym (beside_is rs q.left_on q.right_on right (get_or left i d).name) ∙ e))
      where
        alike : All (λ (c : Col). ForSome (partner q c.name) (λ k. c.kind ≡ k.kind)) left
        alike = plain_all (λ c. ForSome (partner q c.name) (λ k. c.kind ≡ k.kind)) left (subst (λ (t : Table). All (λ c. ForSome (partner q c.name) (λ k. c.kind ≡ k.kind)) t) (sym is_left) can.alike)

        at : (c : Col) → ForSome (partner q c.name) (λ k. c.kind ≡ k.kind) → (o : Option Col) → key_beside q.left_on keys c.name ≡ o → (k : Col) → option_map (opt_taken_rows rs) o ≡ Some k → Fits (opt_taken_rows ls c) k
        at c same None is k e = absurd (cc)
        at c same (Some x) is k e =
            let here : opt_taken_rows rs x ≡ k = cc in
            let partnered : partner q c.name ≡ Some (plain_column x) = partner-is c ∙ ap (λ (b : Bool). option_map plain_column (coalesced_key b q.left_on keys c.name)) merges ∙ ap (option_map plain_column) is in
            subst (Fits (opt_taken_rows ls c)) here (same (plain_column x) partnered, length-opt_taken ls c ∙ length-map ps (λ (p : JoinPair). p.left) ∙ sym (length-map ps (λ (p : JoinPair). p.right)) ∙ sym (length-opt_taken rs x))

-- the names that are known are those of the columns with their rows
pub known-taken : (rows : List (Option ℕ)) (cs : List Col) (names : List Name) → first_unknown (table_of cs) names ≡ None → first_unknown (table_of (map (opt_taken_rows rows) cs)) names ≡ None
known-taken rows cs names h = ap (λ (ns : List Name). find (λ n. not (is_among ns n)) names) (names-opt_taken rows cs) ∙ h
