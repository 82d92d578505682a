-- A request of a plan in format 2 as one of format 1.
use Rattle.std.specs.Prelude.{ℕ, List, if◌then◌else◌, codes}
use Rattle.std.specs.Str.{bytes_eq}
use Rattle.serde_json.specs.Data.{Data, array, number, object, unsigned}
use Rattle.tb_request.specs.Forms.{each_item, each_member, expand_table}

-- the members of a table under its name
abbrev pub expand_named : List ℕ → Data → Data
expand_named k d = if bytes_eq k (codes "table") then expand_table d else d

abbrev pub expand_entry : Data → Data
expand_entry (object ms) = object (each_member expand_named ms)
expand_entry d = d

abbrev pub expand_tables : Data → Data
expand_tables (array ds) = array (each_item expand_entry ds)
expand_tables d = d

abbrev pub expand_plan_member : List ℕ → Data → Data
expand_plan_member k d =
    if bytes_eq k (codes "format") then number (unsigned 1)
    else if bytes_eq k (codes "tables") then expand_tables d
    else d

-- the request in format 1
abbrev pub expand_plan : Data → Data
expand_plan (object ms) = object (each_member expand_plan_member ms)
expand_plan d = d
