-- What a text tells of how a join went.
use Rattle.std.specs.Prelude.{ℕ, List, Bool, if◌then◌else◌, codes}
use Rattle.serde_json.specs.Data.{Data, null, boolean, string, object, member, no_members}
use Rattle.tb_frame.specs.Promise.Table.{Table}
use Rattle.tb_json.specs.Promise.Text.{text_of, traced_text_of}
use Rattle.tb_pairs.specs.Promise.Trace.{Trace, hash, merge, plain}
use Rattle.tb_join.specs.Promise.Traced.{named_trace}
use Rattle.tb_request.specs.Promise.Reading.{JoinRequest}
use Rattle.tb_group_request.specs.Promise.Texts.{count_data, counts_data}

-- how a request is to be joined: by its tables, keys, flags and `exec`
abbrev pub due_trace : JoinRequest → Trace
due_trace r = named_trace r.left r.right r.left_on r.right_on r.args r.exec

-- what was built, or how much was merged. Of fields that were compared one by one nothing is told
abbrev pub trace_data : Trace → Data
trace_data (hash built) = object (member (codes "left_built") (boolean built.left_built)
    (member (codes "parts") (count_data built.parts)
    (member (codes "path") (string (codes "hash")) (member (codes "sizes") (counts_data built.sizes) no_members))))
trace_data (merge sizes) = object (member (codes "left_len") (count_data sizes.left_len)
    (member (codes "pairs") (count_data sizes.pairs)
    (member (codes "path") (string (codes "merge")) (member (codes "right_len") (count_data sizes.right_len) no_members))))
trace_data plain = null

-- the text of a joined table, with the trace where it is asked
abbrev pub joined_text : Bool → Table → Trace → List ℕ
joined_text asks t trace = (if asks then traced_text_of t (trace_data trace) else text_of t)
