use Rattle.std.proofs.Common.{◌≡◌, drop, fold}
use Rattle.tb_rows.specs.Fields.{fed_fields, fields_at}
use Rattle.tb_rows.proofs.fields.hash_fields.Given as goal

-- what is left is fed to the state so far
abbrev pub invariant-loop-column : goal.invariant-loop-column
invariant-loop-column g l =
    fold g.H.Hasher.write l.state (fed_fields (fields_at (drop l.column-index l.columns) l.row)) ≡ fold g.H.Hasher.write l.fn.state (fed_fields (fields_at l.columns l.row))
