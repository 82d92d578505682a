-- The members that the objects of a request have, and the form of each.
use Rattle.std.specs.Prelude.{List, [], ◌∷◌, codes}
use Rattle.tb_request.specs.declared.known.Form.TheVariants as form
use Rattle.tb_request.specs.declared.known.Word.TheVariants as word
use Rattle.tb_request.specs.Promise.Members.{Known, needed_member, possible_member}

abbrev pub delta_members : List Known
delta_members =
    possible_member (codes "format") form.Format
    ∷ possible_member (codes "join_nulls") form.Truth
    ∷ needed_member (codes "left") form.Object
    ∷ needed_member (codes "left_on") form.Text
    ∷ needed_member (codes "right") form.Object
    ∷ needed_member (codes "right_on") form.Text
    ∷ needed_member (codes "steps") form.Values
    ∷ []

-- those of a step that puts a row in, and of one that takes a row out
abbrev pub insert_members : List Known
insert_members =
    needed_member (codes "insert") (form.Word word.Side)
    ∷ needed_member (codes "row") form.Values
    ∷ []

abbrev pub remove_members : List Known
remove_members =
    needed_member (codes "id") form.Count
    ∷ needed_member (codes "remove") (form.Word word.Side)
    ∷ []
