-- The members that the objects of a request have, and the form of each.
use Rattle.std.specs.Prelude.{ℕ, List, [], ◌∷◌, map, Bool, true, false, codes}
use Rattle.tb_value.specs.Promise.Names.{Name}
use Rattle.tb_request.specs.declared.known.Form.{Form}
use Rattle.tb_request.specs.declared.known.Form.TheVariants as form
use Rattle.tb_request.specs.declared.known.Known as rust
use Rattle.tb_request.specs.declared.known.Known.TheVariants.{Needed, Optional}
use Rattle.tb_request.specs.declared.known.Word.TheVariants as word
use Rattle.tb_request.specs.declared.shape.Format.{Format}
use Rattle.tb_request.specs.declared.shape.Format.TheVariants.{Chunks, Runs}

-- a member that an object may have, or must
pub record Known : Type 0 where
  pub name : Name
  pub needed : Bool
  pub form : Form

abbrev pub needed_member : List ℕ → Form → Known
needed_member name f = record { name = name; needed = true; form = f }

abbrev pub possible_member : List ℕ → Form → Known
possible_member name f = record { name = name; needed = false; form = f }

abbrev pub known_view : rust.Known → Known
known_view (Needed name f) = needed_member name.now f
known_view (Optional name f) = possible_member name.now f

abbrev pub known_views : List rust.Known → List Known
known_views ks = map known_view ks

abbrev pub names_of : List Known → List Name
names_of ks = map (λ (k : Known). k.name) ks

-- ---- the objects of a request

abbrev pub column_members : Format → List Known
column_members Chunks =
    needed_member (codes "chunks") form.Chunks
    ∷ needed_member (codes "name") form.Text
    ∷ possible_member (codes "sorted") (form.Word word.Sorted)
    ∷ needed_member (codes "type") form.Type
    ∷ []
column_members Runs =
    needed_member (codes "name") form.Text
    ∷ needed_member (codes "runs") form.Runs
    ∷ possible_member (codes "sorted") (form.Word word.Sorted)
    ∷ needed_member (codes "type") form.Type
    ∷ []

abbrev pub table_members : List Known
table_members = needed_member (codes "columns") form.Values ∷ []

abbrev pub args_members : List Known
args_members =
    possible_member (codes "coalesce") (form.Word word.Coalesce)
    ∷ needed_member (codes "how") (form.Word word.How)
    ∷ possible_member (codes "join_nulls") form.Nulls
    ∷ possible_member (codes "maintain_order") (form.Word word.Order)
    ∷ possible_member (codes "slice") form.Slice
    ∷ possible_member (codes "suffix") form.Text
    ∷ possible_member (codes "validation") (form.Word word.Validation)
    ∷ []

-- the numbers by which work is run, where counts of workers and a divisor have these forms
abbrev pub exec_with : Form → Form → List Known
exec_with workers divisor =
    needed_member (codes "den") divisor
    ∷ needed_member (codes "num") form.Count
    ∷ needed_member (codes "partitions") workers
    ∷ needed_member (codes "small") form.Count
    ∷ needed_member (codes "workers") workers
    ∷ []

abbrev pub exec_members : List Known
exec_members = exec_with form.Count form.Count

-- the same, where they make an `Exec`
abbrev pub standing_members : List Known
standing_members = exec_with form.Workers form.Divisor

abbrev pub join_members : List Known
join_members =
    needed_member (codes "args") form.Object
    ∷ possible_member (codes "exec") form.Object
    ∷ possible_member (codes "format") form.Format
    ∷ needed_member (codes "left") form.Object
    ∷ needed_member (codes "left_on") form.Texts
    ∷ needed_member (codes "right") form.Object
    ∷ needed_member (codes "right_on") form.Texts
    ∷ possible_member (codes "trace") form.Truth
    ∷ []

abbrev pub unpivot_members : List Known
unpivot_members =
    possible_member (codes "format") form.Format
    ∷ needed_member (codes "index") form.Texts
    ∷ needed_member (codes "on") form.Texts
    ∷ needed_member (codes "table") form.Object
    ∷ possible_member (codes "value_name") form.Text
    ∷ possible_member (codes "variable_name") form.Text
    ∷ []

abbrev pub dummies_members : List Known
dummies_members =
    possible_member (codes "columns") form.Texts
    ∷ possible_member (codes "drop_first") form.Truth
    ∷ possible_member (codes "format") form.Format
    ∷ possible_member (codes "separator") form.Text
    ∷ needed_member (codes "table") form.Object
    ∷ []

abbrev pub pivot_members : List Known
pivot_members =
    possible_member (codes "agg") (form.Word word.Aggregate)
    ∷ possible_member (codes "format") form.Format
    ∷ possible_member (codes "index") form.Texts
    ∷ needed_member (codes "on") form.Texts
    ∷ possible_member (codes "separator") form.Text
    ∷ possible_member (codes "sort_columns") form.Truth
    ∷ needed_member (codes "table") form.Object
    ∷ possible_member (codes "values") form.Texts
    ∷ []
