-- Lists of values inside a JSON value, and steps that may fail.
use Rattle.std.specs.Prelude.{ℕ, List, [], ◌∷◌, Bool, true, false, if◌then◌else◌, Option, Some, None, option_map, option_and_then, unwrap_or, ⊤}
use Rattle.std.specs.Str.{bytes_eq}
use Rattle.serde_json.specs.Data.{Data, null, boolean, number, string, array, object, Items, no_items, item, Members, no_members, member}

infixl 10 ◌>>=◌
abbrev pub ◌>>=◌ : {A B : Type 0} → Option A → (A → Option B) → Option B
o >>= f = option_and_then f o

-- goes on only where b is true
abbrev pub check : Bool → Option ⊤
check b = if b then Some tt else None

-- f of each, where f gives each one
abbrev pub each : {A B : Type 0} → (A → Option B) → List A → Option (List B)
each f [] = Some []
each f (x ∷ xs) = option_and_then (λ y. option_map (λ ys. y ∷ ys) (each f xs)) (f x)

abbrev pub list_from : Items → List Data
list_from no_items = []
list_from (item d ds) = d ∷ list_from ds

-- the values of an array
abbrev pub as_list : Data → Option (List Data)
as_list null = None
as_list (boolean b) = None
as_list (number n) = None
as_list (string s) = None
as_list (array ds) = Some (list_from ds)
as_list (object ms) = None

-- the same, and none of any other value
abbrev pub list_in : Data → List Data
list_in d = unwrap_or (as_list d) []

-- an array, each of whose values f gives
abbrev pub list_of : {A : Type 0} → (Data → Option A) → Data → Option (List A)
list_of f d = as_list d >>= each f

abbrev pub is_among : List ℕ → List (List ℕ) → Bool
is_among name [] = false
is_among name (n ∷ ns) = if bytes_eq name n then true else is_among name ns

abbrev pub are_among : List (List ℕ) → Members → Bool
are_among names no_members = true
are_among names (member k d ms) = if is_among k names then are_among names ms else false

-- an object without a member of another name than these
abbrev pub has_only : List (List ℕ) → Data → Bool
has_only names null = false
has_only names (boolean b) = false
has_only names (number n) = false
has_only names (string s) = false
has_only names (array ds) = false
has_only names (object ms) = are_among names ms
