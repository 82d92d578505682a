-- The members that the objects of a request have, and the form of each.
use Rattle.std.specs.Prelude.{List, [], ◌∷◌, codes}
use Rattle.tb_request.specs.declared.known.Form.TheVariants as form
use Rattle.tb_request.specs.declared.known.Word.TheVariants as word
use Rattle.tb_request.specs.Promise.Members.{Known, needed_member, possible_member}

abbrev pub plan_members : List Known
plan_members =
    possible_member (codes "exec") form.Object
    ∷ possible_member (codes "format") form.Format
    ∷ possible_member (codes "pivot") form.Object
    ∷ possible_member (codes "push") form.Truth
    ∷ needed_member (codes "root") form.Object
    ∷ needed_member (codes "tables") form.Values
    ∷ []

-- those of a table under its name
abbrev pub entry_members : List Known
entry_members =
    needed_member (codes "name") form.Text
    ∷ needed_member (codes "table") form.Object
    ∷ []

abbrev pub pivot_args_members : List Known
pivot_args_members =
    possible_member (codes "agg") (form.Word word.Aggregate)
    ∷ possible_member (codes "index") form.Texts
    ∷ needed_member (codes "on") form.Texts
    ∷ possible_member (codes "separator") form.Text
    ∷ possible_member (codes "sort_columns") form.Truth
    ∷ possible_member (codes "values") form.Texts
    ∷ []

-- ---- the three forms of a node

abbrev pub table_node_members : List Known
table_node_members = needed_member (codes "table") form.Text ∷ []

abbrev pub filter_members : List Known
filter_members =
    needed_member (codes "column") form.Text
    ∷ needed_member (codes "input") form.Object
    ∷ needed_member (codes "test") form.Test
    ∷ []

abbrev pub join_node_members : List Known
join_node_members =
    needed_member (codes "args") form.Object
    ∷ needed_member (codes "left") form.Object
    ∷ needed_member (codes "left_on") form.Texts
    ∷ needed_member (codes "right") form.Object
    ∷ needed_member (codes "right_on") form.Texts
    ∷ []

-- ---- the two forms of a comparison

abbrev pub eq_members : List Known
eq_members = needed_member (codes "eq") form.Compared ∷ []

abbrev pub less_members : List Known
less_members = needed_member (codes "less") form.Compared ∷ []
