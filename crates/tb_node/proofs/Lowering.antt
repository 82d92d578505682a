-- How far down filters may stand, by widths.
use Rattle.std.proofs.Common.{◌≡◌, ℕ, suc, ◌+◌, ◌-◌, ◌<◌, ◌≤◌, ◌==◌, Bool, true, false, cond, not, ◌&&◌, ◌||◌, if◌then◌else◌, List, [], ◌∷◌, ◌++◌, length, map, take, refl, ap, sym, ◌∙◌, arith, Option, Some, None, is_some, unwrap_or}
use Rattle.std.specs.Prelude.{filter, is_none, nat_le, nat_lt, position}
use Rattle.std.specs.List.{position_or_len}
use Rattle.std.specs.Cmp.{first_so}
use Rattle.std.proofs.Math.Seq.{take-nil}
use Rattle.std.proofs.lemmas.List.Sums.{prefix_len-le-length}
use Rattle.tb_value.specs.Promise.Names.{Name, same_name}
use Rattle.tb_frame.specs.declared.args.JoinArgs.{JoinArgs}
use Rattle.tb_frame.specs.declared.args.JoinType.{JoinType}
use Rattle.tb_frame.specs.declared.args.JoinType.TheVariants.{Left}
use Rattle.tb_frame.specs.Naming.{answer_names}
use Rattle.tb_frame.specs.Promise.Naming.{coalesces, drops_left_keys, is_among, left_names, right_name, shows_right}
use Rattle.tb_filter.specs.Promise.Filtered.{Check}
use Rattle.tb_node.specs.Lowered.{joins_over, lowered, passed, width_of, width_over, widths}
use Rattle.tb_node.specs.Promise.Tables.{Tables}
use Rattle.tb_node.specs.Promise.Pushed.{is_left, is_many, is_of_left, is_plain_left, names_beside, names_under, sink}
use Rattle.tb_node.specs.Promise.Trees.{Tree, table, join}
use Rattle.tb_node.specs.Promise.Trees as tree
use Rattle.tb_node.proofs.PushedMeans.{left_only_kind}
use Rattle.tb_node.proofs.PushedNames.{sink-names}

-- A PLACE OR THE END

place_or_end : (b : Bool) (k n : ℕ) → nat_lt k n ≡ b → k ≤ n → unwrap_or (cond b (Some k) None) n ≡ k
place_or_end true k n h low = refl
place_or_end false k n h low = grind (arith, h, low)

pub position_or_end : {X : Type 0} (p : X → Bool) (xs : List X) → unwrap_or (position p xs) (length xs) ≡ position_or_len p xs
position_or_end p xs = place_or_end (nat_lt (position_or_len p xs) (length xs)) (position_or_len p xs) (length xs) refl (prefix_len-le-length (λ x. not (p x)) xs)

-- A SUNK FILTER IS BELOW THE JOINS THAT IT PASSES

pub sink-lowered : (ts : Tables) (c : Name) (k : Check) (n : Tree) → sink ts c k n ≡ lowered (passed ts c n) c k n
sink-lowered ts c k (table n) = refl
sink-lowered ts c k (tree.filter i d q) = refl
sink-lowered ts c k (join l r lo ro a) = at (is_plain_left a && is_of_left (names_under ts l) (names_under ts r) c) (sink-lowered ts c k l)
  where
    at : (b : Bool) → sink ts c k l ≡ lowered (passed ts c l) c k l
        → (if b then join (sink ts c k l) r lo ro a else tree.filter (join l r lo ro a) c k)
        ≡ (let j : ℕ = (if b then passed ts c l + 1 else 0) in if j == 0 then tree.filter (join l r lo ro a) c k else join (lowered (j - 1) c k l) r lo ro a)
    at false h = refl
    at true h = over (passed ts c l) h
      where
        over : (m : ℕ) → sink ts c k l ≡ lowered m c k l → join (sink ts c k l) r lo ro a ≡ (if m + 1 == 0 then tree.filter (join l r lo ro a) c k else join (lowered (m + 1 - 1) c k l) r lo ro a)
        over m e =
            let back : m + 1 - 1 ≡ m = omega arith in
            let some : (m + 1 == 0) ≡ false = grind arith in
            ap (λ (u : Tree). join u r lo ro a) (e ∙ ap (λ (i : ℕ). lowered i c k l) (sym back))
            ∙ sym (ap (λ (b : Bool). if b then tree.filter (join l r lo ro a) c k else join (lowered (m + 1 - 1) c k l) r lo ro a) some)

-- THE NAMES OF A PLAIN LEFT JOIN BEGIN WITH THE LEFT ONES

all_kept : (c : Bool) (lo ls : List Name) → filter (λ n. not (drops_left_keys Left c && is_among lo n)) ls ≡ ls
all_kept c lo [] = refl
all_kept c lo (n ∷ ls) = ap (λ (ns : List Name). n ∷ ns) (all_kept c lo ls)

pub left_first_names : (a : JoinArgs) (lo ro ls rs : List Name) → a.how ≡ Left
    → answer_names a lo ro ls rs ≡ ls ++ map (right_name (left_names a lo ls) a.suffix) (filter (shows_right a ro) rs)
left_first_names a lo ro ls rs how =
    let more : List Name = map (right_name (left_names a lo ls) a.suffix) (filter (shows_right a ro) rs) in
    ap (λ (ns : List Name). ns ++ more) (ap (λ (h : JoinType). filter (λ n. not (drops_left_keys h (coalesces a) && is_among lo n)) ls) how ∙ all_kept (coalesces a) lo ls)

-- PLACES

-- where a name is not among some, its place lies behind them
behind : (c : Name) (ls more : List Name) → is_among ls c ≡ false → length ls ≤ position_or_len (same_name c) (ls ++ more)
behind c [] more h = omega arith
behind c (n ∷ ls) more h = at (same_name c n) (behind c ls more) h
  where
    at : (b : Bool) → (is_among ls c ≡ false → length ls ≤ position_or_len (same_name c) (ls ++ more)) → (b || is_among ls c) ≡ false
        → length (n ∷ ls) ≤ cond (not b) (1 + position_or_len (same_name c) (ls ++ more)) 0
    at true up h = absurd (cc)
    at false up h = let rest = up h in omega (arith, rest)

-- where it is, it has the same place, within them
within : (c : Name) (ls more : List Name) → is_among ls c ≡ true → (position_or_len (same_name c) (ls ++ more) ≡ position_or_len (same_name c) ls) × (position_or_len (same_name c) ls < length ls)
within c [] more h = absurd (cc)
within c (n ∷ ls) more h = at (same_name c n) (within c ls more) h
  where
    at : (b : Bool) → (is_among ls c ≡ true → (position_or_len (same_name c) (ls ++ more) ≡ position_or_len (same_name c) ls) × (position_or_len (same_name c) ls < length ls)) → (b || is_among ls c) ≡ true
        → (cond (not b) (1 + position_or_len (same_name c) (ls ++ more)) 0 ≡ cond (not b) (1 + position_or_len (same_name c) ls) 0) × (cond (not b) (1 + position_or_len (same_name c) ls) 0 < length (n ∷ ls))
    at true up h = (refl, omega arith)
    at false up h =
        let rest = up h in
        let low = rest.1 in
        (ap (λ (k : ℕ). 1 + k) rest.0, omega (arith, low))

-- HOW MANY JOINS ARE PASSED

abbrev wide : ℕ → List ℕ → ℕ
wide p ws = position_or_len (λ w. nat_le w p) ws

-- over one plain Left join whose tables are all there
over_one : (a : JoinArgs) (lo ro ls rs : List Name) (c : Name) (ws : List ℕ) (below : ℕ) → a.how ≡ Left → wide (position_or_len (same_name c) ls) ws ≡ below
    → wide (position_or_len (same_name c) (answer_names a lo ro ls rs)) (length ls ∷ ws) ≡ (if is_among ls c then below + 1 else 0)
over_one a lo ro ls rs c ws below how h =
    let more : List Name = map (right_name (left_names a lo ls) a.suffix) (filter (shows_right a ro) rs) in
    ap (λ (ns : List Name). wide (position_or_len (same_name c) ns) (length ls ∷ ws)) (left_first_names a lo ro ls rs how)
    ∙ at more (is_among ls c) refl
  where
    at : (more : List Name) (b : Bool) → is_among ls c ≡ b → wide (position_or_len (same_name c) (ls ++ more)) (length ls ∷ ws) ≡ (if b then below + 1 else 0)
    at more true e =
        let p = within c ls more e in
        let low = p.1 in
        let narrow : nat_le (length ls) (position_or_len (same_name c) ls) ≡ false = grind (arith, low) in
        ap (λ (k : ℕ). wide k (length ls ∷ ws)) p.0
        ∙ ap (λ (b : Bool). cond (not b) (1 + wide (position_or_len (same_name c) ls) ws) 0) narrow
        ∙ ap (λ (k : ℕ). 1 + k) h
        ∙ omega arith
    at more false e =
        let far = behind c ls more e in
        let broad : nat_le (length ls) (position_or_len (same_name c) (ls ++ more)) ≡ true = grind (arith, far) in
        ap (λ (b : Bool). cond (not b) (1 + wide (position_or_len (same_name c) (ls ++ more)) ws) 0) broad

none_over : (o : Option (List Name)) (c : Name) → joins_over o c [] ≡ 0
none_over None c = refl
none_over (Some ns) c = refl

plain_is_left : (a : JoinArgs) → is_plain_left a ≡ true → a.how ≡ Left
plain_is_left a e = left_only_kind a.how (first_so (is_left a.how) (is_many a.validation) (first_so (is_left a.how && is_many a.validation) (is_none a.slice) e))

over_join : (a : JoinArgs) (lo ro : List Name) (c : Name) (ws : List ℕ) (below : ℕ) (l r : Option (List Name)) (b : Bool) → is_plain_left a ≡ b → joins_over l c ws ≡ below
    → joins_over (names_beside a lo ro l r) c (width_over b (names_beside a lo ro l r) l ws) ≡ (if b && is_of_left l r c then below + 1 else 0)
over_join a lo ro c ws below (Some ls) (Some rs) true plain h = over_one a lo ro ls rs c ws below (plain_is_left a plain) h
over_join a lo ro c ws below (Some ls) (Some rs) false plain h = refl
over_join a lo ro c ws below (Some ls) None true plain h = refl
over_join a lo ro c ws below (Some ls) None false plain h = refl
over_join a lo ro c ws below None (Some rs) true plain h = refl
over_join a lo ro c ws below None (Some rs) false plain h = refl
over_join a lo ro c ws below None None true plain h = refl
over_join a lo ro c ws below None None false plain h = refl

pub joins-passed : (ts : Tables) (c : Name) (n : Tree) → joins_over (names_under ts n) c (widths ts n) ≡ passed ts c n
joins-passed ts c (table n) = none_over (names_under ts (table n)) c
joins-passed ts c (tree.filter i d k) = none_over (names_under ts i) c
joins-passed ts c (join l r lo ro a) = over_join a lo ro c (widths ts l) (passed ts c l) (names_under ts l) (names_under ts r) (is_plain_left a) refl (joins-passed ts c l)

-- THE WIDTHS ABOVE A SUNK FILTER

cut_over : (b : Bool) (w : ℕ) (ws : List ℕ) (j : ℕ) → (if b then w ∷ take j ws else []) ≡ take (j + 1) (if b then w ∷ ws else [])
cut_over true w ws j = let s : suc j ≡ j + 1 = omega arith in ap (λ (m : ℕ). take m (w ∷ ws)) s
cut_over false w ws j = sym (take-nil (j + 1))

pub sink-widths : (ts : Tables) (c : Name) (k : Check) (n : Tree) → widths ts (sink ts c k n) ≡ take (passed ts c n) (widths ts n)
sink-widths ts c k (table n) = refl
sink-widths ts c k (tree.filter i d q) = refl
sink-widths ts c k (join l r lo ro a) = at (is_plain_left a && is_of_left (names_under ts l) (names_under ts r) c) (sink-widths ts c k l)
  where
    at : (b : Bool) → widths ts (sink ts c k l) ≡ take (passed ts c l) (widths ts l) → widths ts (if b then join (sink ts c k l) r lo ro a else tree.filter (join l r lo ro a) c k)
        ≡ take (if b then passed ts c l + 1 else 0) (width_over (is_plain_left a) (names_beside a lo ro (names_under ts l) (names_under ts r)) (names_under ts l) (widths ts l))
    at false h = refl
    at true h =
        ap (λ (o : Option (List Name)). width_over (is_plain_left a) (names_beside a lo ro o (names_under ts r)) o (widths ts (sink ts c k l))) (sink-names ts c k l)
        ∙ ap (width_over (is_plain_left a) (names_beside a lo ro (names_under ts l) (names_under ts r)) (names_under ts l)) h
        ∙ cut_over (is_plain_left a && is_some (names_beside a lo ro (names_under ts l) (names_under ts r))) (width_of (names_under ts l)) (widths ts l) (passed ts c l)
