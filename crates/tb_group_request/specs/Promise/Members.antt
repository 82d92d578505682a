-- The members that the objects of a request have, and the form of each.
use Rattle.std.specs.Prelude.{List, [], ◌∷◌, codes}
use Rattle.tb_request.specs.declared.known.Form.TheVariants as form
use Rattle.tb_request.specs.declared.known.Word.TheVariants as word
use Rattle.tb_request.specs.Promise.Members.{Known, needed_member, possible_member}

abbrev pub group_members : List Known
group_members =
    needed_member (codes "aggs") form.Values
    ∷ needed_member (codes "by") form.Texts
    ∷ possible_member (codes "exec") form.Object
    ∷ possible_member (codes "format") form.Format
    ∷ needed_member (codes "table") form.Object
    ∷ possible_member (codes "trace") form.Truth
    ∷ []

-- those of a column that is made
abbrev pub agg_members : List Known
agg_members =
    needed_member (codes "agg") (form.Word word.Aggregate)
    ∷ needed_member (codes "column") form.Text
    ∷ needed_member (codes "name") form.Text
    ∷ []
