-- The arguments of a join that are at fault.
use Rattle.std.specs.Prelude.{Option, codes}
use Rattle.serde_json.specs.Data.{Data}
use Rattle.tb_request.specs.declared.known.Form.TheVariants as form
use Rattle.tb_request.specs.Promise.HasForm.{has_form}
use Rattle.tb_request.specs.Promise.Members.{args_members}
use Rattle.tb_why.specs.declared.spot.Expected.TheVariants as expected
use Rattle.tb_why.specs.Columns.{items_of}
use Rattle.tb_why.specs.Members.{members_spot}
use Rattle.tb_why.specs.Spots.{Spot, first_at, inside, or_else, unless}

abbrev pub flag_spot : Data → Option Spot
flag_spot d = unless (has_form form.Truth d) (expected.Form form.Truth)

-- the first of a list that is neither true nor false
abbrev pub flags_spot : Data → Option Spot
flags_spot d = first_at flag_spot 0 (items_of d)

-- the first argument of a join, or part of one, that is at fault
abbrev pub args_spot : Data → Option Spot
args_spot d = or_else (members_spot args_members d) (inside (codes "join_nulls") flags_spot d)
