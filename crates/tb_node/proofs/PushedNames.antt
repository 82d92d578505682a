-- Pushing changes no name, and leaves as many nodes.
use Rattle.std.proofs.Common.{◌≡◌, ℕ, ◌+◌, Bool, ◌&&◌, if◌then◌else◌, List, Option, refl, ap, ◌∙◌, arith, ⊎_elim}
use Rattle.std.proofs.lemmas.Bool.{cases_Bool}
use Rattle.tb_value.specs.Promise.Names.{Name}
use Rattle.tb_filter.specs.Promise.Filtered.{Check}
use Rattle.tb_node.specs.Promise.Tables.{Tables}
use Rattle.tb_node.specs.Promise.Trees.{Tree, table, join, size}
use Rattle.tb_node.specs.Promise.Trees as tree
use Rattle.tb_node.specs.Promise.Pushed.{is_of_left, is_plain_left, names_beside, names_under, pushed, sink}

pub sink-names : (ts : Tables) (c : Name) (k : Check) (n : Tree) → names_under ts (sink ts c k n) ≡ names_under ts n
sink-names ts c k (table n) = refl
sink-names ts c k (tree.filter i d q) = refl
sink-names ts c k (join l r lo ro a) =
    let b : Bool = is_plain_left a && is_of_left (names_under ts l) (names_under ts r) c in
    let beside : Option (List Name) → Option (List Name) = λ o. names_beside a lo ro o (names_under ts r) in
    ⊎_elim
    (λ e. ap (λ t. names_under ts (if t then join (sink ts c k l) r lo ro a else tree.filter (join l r lo ro a) c k)) e ∙ ap beside (sink-names ts c k l))
    (λ e. ap (λ t. names_under ts (if t then join (sink ts c k l) r lo ro a else tree.filter (join l r lo ro a) c k)) e)
    (cases_Bool b)

pub pushed-names : (ts : Tables) (n : Tree) → names_under ts (pushed ts n) ≡ names_under ts n
pushed-names ts (table n) = refl
pushed-names ts (tree.filter i c k) = sink-names ts c k (pushed ts i) ∙ pushed-names ts i
pushed-names ts (join l r lo ro a) = λ t. names_beside a lo ro (pushed-names ts l t) (pushed-names ts r t)

-- SIZES

sink-size : (ts : Tables) (c : Name) (k : Check) (n : Tree) → size (sink ts c k n) ≡ size n + 1
sink-size ts c k (table n) = refl
sink-size ts c k (tree.filter i d q) = refl
sink-size ts c k (join l r lo ro a) =
    let b : Bool = is_plain_left a && is_of_left (names_under ts l) (names_under ts r) c in
    let below = sink-size ts c k l in
    let through : size (sink ts c k l) + size r + 1 ≡ size l + size r + 1 + 1 = omega (arith, below) in
    ⊎_elim
    (λ e. ap (λ t. size (if t then join (sink ts c k l) r lo ro a else tree.filter (join l r lo ro a) c k)) e ∙ through)
    (λ e. ap (λ t. size (if t then join (sink ts c k l) r lo ro a else tree.filter (join l r lo ro a) c k)) e)
    (cases_Bool b)

pub pushed-size : (ts : Tables) (n : Tree) → size (pushed ts n) ≡ size n
pushed-size ts (table n) = refl
pushed-size ts (tree.filter i c k) = sink-size ts c k (pushed ts i) ∙ ap (λ (m : ℕ). m + 1) (pushed-size ts i)
pushed-size ts (join l r lo ro a) = λ t. pushed-size ts l t + pushed-size ts r t + 1
