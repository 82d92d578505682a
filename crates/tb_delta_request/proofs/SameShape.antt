-- The members of a request of format 2, and of the same one in format 1.
use Rattle.std.proofs.Common.{◌≡◌, ◌∙◌, ℕ, List, map, length, Bool, true, false, cond, Option, Some, None, option_and_then, option_map, codes, refl, sym, ap}
use Rattle.std.specs.Prelude.{◌==◌, is_some}
use Rattle.std.proofs.lemmas.List.{length-map}
use Rattle.serde_json.specs.Data.{array, boolean, Data, Members, null, number, object, string}
use Rattle.serde_json.specs.Find.{as_bool, as_str, get, get_member}
use Rattle.tb_value.specs.Promise.Names.{Name}
use Rattle.tb_value.specs.declared.error.Side.{Side}
use Rattle.tb_value.specs.declared.error.Side.TheVariants as side
use Rattle.tb_json.specs.Promise.Lists.{◌>>=◌, are_among, as_list, check, has_only, list_of}
use Rattle.tb_request.specs.declared.shape.Format.{Format}
use Rattle.tb_request.specs.declared.shape.Format.TheVariants.{Chunks, Runs}
use Rattle.tb_request.specs.Forms.{expand, expand_member}
use Rattle.tb_request.specs.Promise.Members.{names_of}
use Rattle.tb_request.specs.Promise.Written.{format_of, optional_member, table_at, Written}
use Rattle.tb_request.proofs.Expanded.{names_out, written_out}
use Rattle.tb_request.proofs.SameShape.{format_out, GoOut, same_member, side_out, some_is}
use Rattle.tb_delta_request.specs.Promise.Members.{delta_members, insert_members}
use Rattle.tb_delta_request.specs.Promise.Written.{WrittenDelta, WrittenStep, delta_of, insert, insert_of, of_two, remove_of, side_at, step_of}

-- ---- steps, which ask for the number of columns alone

width_out : (d : Side) (l r : List Written) → length (of_two d (map written_out l) (map written_out r)) ≡ length (of_two d l r)
width_out side.Left l r = length-map l written_out
width_out side.Right l r = length-map r written_out

insert_same : (l r : List Written) (d : Data) → insert_of (map written_out l) (map written_out r) d ≡ insert_of l r d
unfolding insert_of
insert_same l r d = λ i. check (has_only (names_of insert_members) d) >>= λ known. side_at (codes "insert") d >>= λ s. (get (codes "row") d >>= as_list) >>= λ row. check (length row == width_out s l r i) >>= λ whole. Some (insert s row)

step_same : (l r : List Written) (d : Data) → step_of (map written_out l) (map written_out r) d ≡ step_of l r d
step_same l r d = ap (λ o. cond (is_some (get (codes "insert") d)) o (remove_of d)) (insert_same l r d)

-- ---- the request

abbrev pub delta_out : WrittenDelta → WrittenDelta
delta_out w = record w { left = map written_out w.left; right = map written_out w.right }

abbrev Steps : Type 0
Steps = List Written → List Written → Option (List WrittenStep)

abbrev sides_with : Bool → Name → Name → Option (List Written) → Option (List Written) → Steps → Option WrittenDelta
sides_with join_nulls left_on right_on left right steps = do
  l ← left
  r ← right
  ss ← steps l r
  Some (record { left = l; left_on = left_on; right = r; right_on = right_on; join_nulls = join_nulls; steps = ss })

abbrev delta_with : Bool → Option Format → Option Bool → Option Name → Option Name → (Format → Option (List Written)) → (Format → Option (List Written)) → Steps → Option WrittenDelta
delta_with known format join_nulls left_on right_on left right steps = do
  k ← check known
  f ← format
  n ← join_nulls
  lo ← left_on
  ro ← right_on
  sides_with n lo ro (left f) (right f) steps

abbrev SameSteps : Steps → Type 0
SameSteps steps = (ls rs : List Written) → steps (map written_out ls) (map written_out rs) ≡ steps ls rs

sides_go : (n : Bool) (lo ro : Name) (l l' r r' : Option (List Written)) (steps : Steps) (w : WrittenDelta) → GoOut l l' → GoOut r r' → SameSteps steps → sides_with n lo ro l r steps ≡ Some w → sides_with n lo ro l' r' steps ≡ Some (delta_out w)
sides_go n lo ro None l' r r' steps w h k same x = absurd (cc)
sides_go n lo ro (Some ls) l' None r' steps w h k same x = absurd (cc)
sides_go n lo ro (Some ls) l' (Some rs) r' steps w h k same x =
    (λ i. sides_with n lo ro (h ls refl i) (k rs refl i) steps)
    ∙ (λ i. same ls rs i >>= λ ss. Some (record { left = map written_out ls; left_on = lo; right = map written_out rs; right_on = ro; join_nulls = n; steps = ss }))
    ∙ done (steps ls rs) x
  where
    done : (o : Option (List WrittenStep)) → (o >>= λ ss. Some (record { left = ls; left_on = lo; right = rs; right_on = ro; join_nulls = n; steps = ss })) ≡ Some w
        → (o >>= λ ss. Some (record { left = map written_out ls; left_on = lo; right = map written_out rs; right_on = ro; join_nulls = n; steps = ss })) ≡ Some (delta_out w)
    done None x = absurd (cc)
    done (Some ss) x = ap (λ (u : WrittenDelta). Some (delta_out u)) (some_is (record { left = ls; left_on = lo; right = rs; right_on = ro; join_nulls = n; steps = ss }) w x)

delta_goes : (known : Bool) (n : Option Bool) (lo ro : Option Name) (l l' r r' : Format → Option (List Written)) (steps : Steps) (w : WrittenDelta) → GoOut (l Runs) (l' Chunks) → GoOut (r Runs) (r' Chunks) → SameSteps steps
    → delta_with known (Some Runs) n lo ro l r steps ≡ Some w → delta_with known (Some Chunks) n lo ro l' r' steps ≡ Some (delta_out w)
delta_goes false n lo ro l l' r r' steps w h k same x = absurd (cc)
delta_goes true None lo ro l l' r r' steps w h k same x = absurd (cc)
delta_goes true (Some n) None ro l l' r r' steps w h k same x = absurd (cc)
delta_goes true (Some n) (Some lo) None l l' r r' steps w h k same x = absurd (cc)
delta_goes true (Some n) (Some lo) (Some ro) l l' r r' steps w h k same x = sides_go n lo ro (l Runs) (l' Chunks) (r Runs) (r' Chunks) steps w h k same x

abbrev delta_names : List Name
delta_names = names_of delta_members

-- by the values of the members
abbrev delta_by : Bool → Option Format → (List ℕ → Option Data) → (Format → List ℕ → Option (List Written)) → Option WrittenDelta
delta_by known format at side =
    delta_with known format (optional_member false as_bool (at (codes "join_nulls"))) (at (codes "left_on") >>= as_str) (at (codes "right_on") >>= as_str)
    (λ f. side f (codes "left")) (λ f. side f (codes "right")) (λ l r. at (codes "steps") >>= list_of (step_of l r))

pub delta_of_out : (d : Data) (w : WrittenDelta) → format_of d ≡ Some Runs → delta_of d ≡ Some w → delta_of (expand d) ≡ Some (delta_out w)
unfolding delta_of
delta_of_out null w e x = absurd (cc)
delta_of_out (boolean b) w e x = absurd (cc)
delta_of_out (number n) w e x = absurd (cc)
delta_of_out (string s) w e x = absurd (cc)
delta_of_out (array ds) w e x = absurd (cc)
delta_of_out (object ms) w e x =
    (λ i. delta_with (names_out expand_member delta_names ms i)
    (format_out expand_member ms (λ d. refl) e i)
    (optional_member false as_bool (same_member expand_member (codes "join_nulls") ms (λ d. refl) i))
    (same_member expand_member (codes "left_on") ms (λ d. refl) i >>= as_str)
    (same_member expand_member (codes "right_on") ms (λ d. refl) i >>= as_str)
    (λ f. table_at f (codes "left") (expand (object ms)))
    (λ f. table_at f (codes "right") (expand (object ms)))
    (λ l r. same_member expand_member (codes "steps") ms (λ d. refl) i >>= list_of (step_of l r)))
    ∙ delta_goes (are_among delta_names ms) (optional_member false as_bool (get_member (codes "join_nulls") ms)) (get_member (codes "left_on") ms >>= as_str) (get_member (codes "right_on") ms >>= as_str)
    (λ f. table_at f (codes "left") (object ms)) (λ f. table_at f (codes "left") (expand (object ms)))
    (λ f. table_at f (codes "right") (object ms)) (λ f. table_at f (codes "right") (expand (object ms)))
    (λ l r. get_member (codes "steps") ms >>= list_of (step_of l r))
    w (side_out expand_member (codes "left") ms (λ d. refl)) (side_out expand_member (codes "right") ms (λ d. refl))
    (λ ls rs. ap (λ (f : Data → Option WrittenStep). get_member (codes "steps") ms >>= list_of f) (λ i d. step_same ls rs d i))
    (ap (λ o. delta_by (are_among delta_names ms) o (λ name. get_member name ms) (λ f name. table_at f name (object ms))) (sym e) ∙ x)
