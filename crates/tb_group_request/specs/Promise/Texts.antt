-- The texts of answers.
use Rattle.std.specs.Prelude.{ℕ, List, map, codes, Option, Some, None}
use Rattle.serde_json.specs.Data.{Data, number, unsigned, array, object, member, no_members}
use Rattle.serde_json.specs.View.{items_of}
use Rattle.tb_frame.specs.Promise.Table.{Table}
use Rattle.tb_group.specs.Promise.Group.{group_table}
use Rattle.tb_group.specs.Promise.Keys.{GroupedView}
use Rattle.tb_json.specs.Promise.Text.{text_of, traced_text_of}
use Rattle.tb_group_request.specs.Promise.Answers.{asked_groups, trace_told}
use Rattle.tb_group_request.specs.Promise.Reading.{GroupRequest}

-- counts, as numbers
abbrev pub count_data : ℕ → Data
count_data n = number (unsigned n)

abbrev pub counts_data : List ℕ → Data
counts_data ns = array (items_of (map count_data ns))

-- how many keys each part has, how many parts there are, and how many rows each has
abbrev pub grouped_data : GroupedView → Data
grouped_data g = object (member (codes "groups") (counts_data g.groups)
    (member (codes "parts") (count_data g.parts)
    (member (codes "sizes") (counts_data g.sizes) no_members)))

-- the text of a table, with the trace where it is told
abbrev pub grouped_text : Table → Option GroupedView → List ℕ
grouped_text t None = text_of t
grouped_text t (Some g) = traced_text_of t (grouped_data g)

-- the text that answers a request
abbrev pub answer_text : GroupRequest → List ℕ
answer_text r = grouped_text (group_table (asked_groups r)) (trace_told r)
