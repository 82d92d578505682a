-- What is known where no spot is found.
use Rattle.std.proofs.Common.{◌≡◌, ℕ, ◌+◌, ◌-◌, ◌≤◌, List, [], ◌∷◌, Bool, true, false, Option, Some, None, cond, is_eq, nat_cmp, Ordering, Less, Equal, Greater, refl, ap, sym, ◌∙◌, arith}
use Rattle.std.specs.Prelude.{is_some, option_and_then, option_map, unwrap_or, sum_by, ⊤}
use Rattle.std.specs.Cmp.Lexicographic.{slice_cmp}
use Rattle.std.specs.Ordering.{match_ordering}
use Rattle.std.specs.Str.{bytes_eq}
use Rattle.std.proofs.lemmas.List.Sums.{sum_by-cons}
use Rattle.std.proofs.lemmas.Map.Text.{is_eq-slice_cmp}
use Rattle.std.proofs.lemmas.Slice.Eq.{bytes_eq-Decides}
use Rattle.serde_json.specs.Data.{Data, null, boolean, number, string, array, object, Members, no_members, member}
use Rattle.serde_json.specs.Find.{as_object, get, get_member}
use Rattle.tb_value.specs.Promise.Names.{Name}
use Rattle.tb_json.specs.Promise.Lists.{as_list, are_among, each, has_only, is_among}
use Rattle.tb_request.specs.Promise.Written as written
use Rattle.tb_why.specs.declared.spot.Expected.{Expected}
use Rattle.tb_why.specs.declared.spot.Expected.TheVariants as expected
use Rattle.tb_request.specs.declared.known.Form.{Form}
use Rattle.tb_request.specs.declared.known.Form.TheVariants as form
use Rattle.tb_request.specs.Promise.HasForm.{has_form}
use Rattle.tb_request.specs.Promise.Members.{Known, names_of, needed_member, possible_member}
use Rattle.tb_why.specs.declared.spot.Step.{Step}
use Rattle.tb_why.specs.declared.spot.Step.TheVariants.{Member, Index}
use Rattle.tb_why.specs.Spots.{Spot, first_at, first_in_room, inside, or_else, spot_here, under, unless}
use Rattle.tb_why.specs.Columns.{items_at, items_of}
use Rattle.tb_why.specs.Members.{each_known, fault_of, members_spot, unknown_among, unknown_in, unknown_spot}

-- ---- spots

pub neither : (a b : Option Spot) → or_else a b ≡ None → (a ≡ None) × (b ≡ None)
neither None b h = (refl, h)
neither (Some p) b h = absurd (cc)

pub not_under : (s : Step) (o : Option Spot) → under s o ≡ None → o ≡ None
not_under s None h = refl
not_under s (Some p) h = absurd (cc)

pub so : (b : Bool) (e : Expected) → unless b e ≡ None → b ≡ true
so true e h = refl
so false e h = absurd (cc)

-- ---- the members of an object

only_among : (names : List Name) (k : Name) (b : Bool) (o : Option Name) (rest : Bool) → (o ≡ None → rest ≡ true) → cond b o (Some k) ≡ None → cond b rest false ≡ true
only_among names k true o rest more h = more h
only_among names k false o rest more h = absurd (cc)

all_among : (names : List Name) (ms : Members) → unknown_among names ms ≡ None → are_among names ms ≡ true
all_among names no_members h = refl
all_among names (member k d ms) h = only_among names k (is_among k names) (unknown_among names ms) (are_among names ms) (all_among names ms) h

only_known : (names : List Name) (d : Data) → is_some (as_object d) ≡ true → unknown_in names d ≡ None → has_only names d ≡ true
only_known names null o h = absurd (cc)
only_known names (boolean b) o h = absurd (cc)
only_known names (number n) o h = absurd (cc)
only_known names (string s) o h = absurd (cc)
only_known names (array ds) o h = absurd (cc)
only_known names (object ms) o h = all_among names ms h

known_name : (names : List Name) (o : Option Name) → option_and_then (λ (k : Name). under (Member k) (spot_here expected.NoMember)) o ≡ None → o ≡ None
known_name names None h = refl
known_name names (Some k) h = absurd (cc)

-- what is known of the members of an object
pub record Fits (ks : List Known) (d : Data) : Type 0 where
  pub only : has_only (names_of ks) d ≡ true
  pub members : each_known ks d ≡ None

pub fits : (ks : List Known) (d : Data) → members_spot ks d ≡ None → Fits ks d
fits ks d h =
    let outer : (unless (has_form form.Object d) (expected.Form form.Object) ≡ None) × (or_else (unknown_spot (names_of ks) d) (each_known ks d) ≡ None) = neither _ _ h in
    let inner : (unknown_spot (names_of ks) d ≡ None) × (each_known ks d ≡ None) = neither _ _ outer.1 in
    record {
      only = only_known (names_of ks) d (so (has_form form.Object d) _ outer.0) (known_name (names_of ks) (unknown_in (names_of ks) d) inner.0);
      members = inner.1;
    }

-- each of the members fits
abbrev pub EachFits : List Known → Data → Type 0
EachFits [] d = ⊤
EachFits (k ∷ ks) d = (fault_of k (get k.name d) ≡ None) × EachFits ks d

pub each_of_them : (ks : List Known) (d : Data) → each_known ks d ≡ None → EachFits ks d
each_of_them [] d h = tt
each_of_them (k ∷ ks) d h =
    let both : (under (Member k.name) (fault_of k (get k.name d)) ≡ None) × (each_known ks d ≡ None) = neither _ _ h in
    (not_under (Member k.name) (fault_of k (get k.name d)) both.0, each_of_them ks d both.1)

-- a member that must be there is read, where each value of its form is
pub needed_reads : {A : Type 0} (n : Name) (f : Form) (read : Data → Option A) (o : Option Data) → fault_of (needed_member n f) o ≡ None
    → ((m : Data) → o ≡ Some m → has_form f m ≡ true → is_some (read m) ≡ true) → is_some (option_and_then read o) ≡ true
needed_reads n f read None h reads = absurd (cc)
needed_reads n f read (Some m) h reads = reads m refl (so (has_form f m) (expected.Form f) h)

pub optional_reads : {A : Type 0} (n : Name) (f : Form) (absent : A) (read : Data → Option A) (o : Option Data) → fault_of (possible_member n f) o ≡ None
    → ((m : Data) → o ≡ Some m → has_form f m ≡ true → is_some (read m) ≡ true) → is_some (written.optional_member absent read o) ≡ true
optional_reads n f absent read None h reads = refl
optional_reads n f absent read (Some m) h reads = reads m refl (so (has_form f m) (expected.Form f) h)

-- a word is read, where it is one of its choice
pub word_reads : {A : Type 0} (named : List ℕ → Option A) (o : Option (List ℕ)) → unwrap_or (option_map (λ s. is_some (named s)) o) false ≡ true → is_some (option_and_then named o) ≡ true
word_reads named None h = absurd (cc)
word_reads named (Some s) h = h

-- ---- steps that may fail

-- a value, which is there
abbrev pub Given : {A : Type 0} → Option A → Type 0
Given {A} o = (x : A) × (o ≡ Some x)

pub given : {A : Type 0} (o : Option A) → is_some o ≡ true → Given o
given None h = absurd (cc)
given (Some x) h = (x, refl)

pub two_steps : {A B C : Type 0} (f : A → Option B) (g : B → Option C) (o : Option A) → is_some (option_and_then (λ x. option_and_then g (f x)) o) ≡ true → is_some (option_and_then g (option_and_then f o)) ≡ true
two_steps f g None h = h
two_steps f g (Some x) h = h

pub then_some : {A B : Type 0} (f : A → B) (o : Option A) → is_some o ≡ true → is_some (option_and_then (λ x. Some (f x)) o) ≡ true
then_some f None h = h
then_some f (Some x) h = refl

pub mapped : {A B : Type 0} (f : A → B) (o : Option A) → is_some o ≡ true → is_some (option_map f o) ≡ true
mapped f None h = h
mapped f (Some x) h = refl

-- ---- values in a list

pub at_member : (n : Name) (f : Data → Option Spot) (o : Option Data) (m : Data) → o ≡ Some m → under (Member n) (option_and_then f o) ≡ None → f m ≡ None
at_member n f None m e h = absurd (cc)
at_member n f (Some d) m e h =
    let same : d ≡ m = cc in
    ap f (sym same) ∙ not_under (Member n) (f d) h

pub one_more : {B : Type 0} (o : Option B) (r : Option (List B)) → is_some o ≡ true → is_some r ≡ true → is_some (option_and_then (λ y. option_map (λ ys. y ∷ ys) r) o) ≡ true
one_more None r h k = absurd (cc)
one_more (Some y) None h k = absurd (cc)
one_more (Some y) (Some ys) h k = refl

pub each_reads : {B : Type 0} (f : Data → Option B) (g : Data → Option Spot) (i : ℕ) (ds : List Data) → first_at g i ds ≡ None → ((d : Data) → g d ≡ None → is_some (f d) ≡ true) → is_some (each f ds) ≡ true
each_reads f g i [] h reads = refl
each_reads f g i (d ∷ ds) h reads =
    let both : (under (Index i) (g d) ≡ None) × (first_at g (i + 1) ds ≡ None) = neither _ _ h in
    one_more (f d) (each f ds) (reads d (not_under (Index i) (g d) both.0)) (each_reads f g (i + 1) ds both.1 reads)

pub list_reads : {B : Type 0} (f : Data → Option B) (g : Data → Option Spot) (o : Option (List Data)) → is_some o ≡ true → first_at g 0 (unwrap_or o []) ≡ None → ((d : Data) → g d ≡ None → is_some (f d) ≡ true) → is_some (option_and_then (each f) o) ≡ true
list_reads f g None some h reads = absurd (cc)
list_reads f g (Some ds) some h reads = each_reads f g 0 ds h reads

-- what is not found in the values of a member that is a list
pub inside_items : (n : Name) (find : List Data → Option Spot) (d : Data) → find [] ≡ None → inside n (λ m. find (items_of m)) d ≡ None → find (items_at n d) ≡ None
inside_items n find d none h = of_member (get n d) h where
  of_member : (o : Option Data) → under (Member n) (option_and_then (λ m. find (items_of m)) o) ≡ None → find (unwrap_or (option_and_then as_list o) []) ≡ None
  of_member None k = none
  of_member (Some m) k = not_under (Member n) _ k

-- where nothing is found in the room that is left to each, all of them have room
pub in_room : (size : Data → ℕ) (f : ℕ → Data → Option Spot) → ((room : ℕ) (d : Data) → f room d ≡ None → size d ≤ room) → (room i : ℕ) (ds : List Data) → first_in_room size f room i ds ≡ None → sum_by size ds ≤ room
in_room size f one room i [] h = omega arith
in_room size f one room i (d ∷ ds) h =
    let both : (under (Index i) (f room d) ≡ None) × (first_in_room size f (room - size d) (i + 1) ds ≡ None) = neither _ _ h in
    let first : size d ≤ room = one room d (not_under (Index i) (f room d) both.0) in
    let rest : sum_by size ds ≤ room - size d = in_room size f one (room - size d) (i + 1) ds both.1 in
    omega (arith, sum_by-cons size d ds)

-- ---- members that objects have

given_name : (name k : Name) → bytes_eq name k ≡ true → name ≡ k
given_name name k e = (bytes_eq-Decides name k).0 e

cond_false : (b c : Bool) → c ≡ false → cond b c false ≡ false
cond_false true c h = h
cond_false false c h = refl

other_then : (o : Ordering) (names : List Name) (name k : Name) (d m : Data) (ms : Members) → (is_eq o ≡ true → name ≡ k) → is_among name names ≡ false
    → (get_member name ms ≡ Some m → are_among names ms ≡ false) → match_ordering o (get_member name ms) (Some d) (get_member name ms) ≡ Some m → cond (is_among k names) (are_among names ms) false ≡ false
other_then Less names name k d m ms same lacks rest is = cond_false (is_among k names) (are_among names ms) (rest is)
other_then Equal names name k d m ms same lacks rest is = ap (λ b. cond b (are_among names ms) false) (ap (λ n. is_among n names) (sym (same refl)) ∙ lacks)
other_then Greater names name k d m ms same lacks rest is = cond_false (is_among k names) (are_among names ms) (rest is)

another_among : (names : List Name) (name : Name) (m : Data) (ms : Members) → is_among name names ≡ false → get_member name ms ≡ Some m → are_among names ms ≡ false
another_among names name m no_members lacks is = absurd (cc)
another_among names name m (member k d ms) lacks is =
    other_then (slice_cmp nat_cmp name k) names name k d m ms (λ e. given_name name k (sym (is_eq-slice_cmp name k) ∙ e)) lacks (another_among names name m ms lacks) is

-- an object with another member has not only these
pub has_another : (names : List Name) (name : Name) (d m : Data) → is_among name names ≡ false → get name d ≡ Some m → has_only names d ≡ false
has_another names name null m lacks is = refl
has_another names name (boolean b) m lacks is = refl
has_another names name (number n) m lacks is = refl
has_another names name (string s) m lacks is = refl
has_another names name (array ds) m lacks is = refl
has_another names name (object ms) m lacks is = another_among names name m ms lacks is

-- a member that must be there is
pub there : (n : Name) (f : Form) (o : Option Data) → fault_of (needed_member n f) o ≡ None → Given o
there n f None h = absurd (cc)
there n f (Some m) h = (m, refl)

pub has_the_form : (n : Name) (f : Form) (o : Option Data) (m : Data) → o ≡ Some m → fault_of (needed_member n f) o ≡ None → has_form f m ≡ true
has_the_form n f None m is h = absurd (cc)
has_the_form n f (Some d) m is h =
    let same : d ≡ m = cc in
    ap (has_form f) (sym same) ∙ so (has_form f d) (expected.Form f) h
