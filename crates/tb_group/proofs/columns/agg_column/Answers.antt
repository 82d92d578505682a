use Rattle.std.proofs.Common.{◌≡◌, ◌∙◌, ◌<◌, ap, arith, get_or, length, map, unwrap_or}
use Rattle.std.proofs.lemmas.List.{length-map}
use Rattle.tb_value.specs.Promise.Kind as kind
use Rattle.tb_chunk.specs.Promise.Col.{values}
use Rattle.tb_frame.specs.Promise.Table.{plain_column}
use Rattle.tb_agg.specs.Kept.{kept_kind, kept_values, shown_kept}
use Rattle.tb_group.specs.Asked.{asked_as}
use Rattle.tb_group.specs.Parts.{PartView, shown_part}
use Rattle.tb_group.specs.Whole.{placed}
use Rattle.tb_group.proofs.KeptColumns.{column_seen}
use Rattle.tb_group.proofs.Pieces.{un_mapped}
use Rattle.tb_group.proofs.columns.agg_column.Goals as goal

pub placed-requires-clause-there : goal.placed-requires-clause-there
placed-requires-clause-there c = λ k d low.
    let parts = c.args.parts.now in
    let there = un_mapped (λ (v : PartView). c.args.seat < length v.kept) shown_part parts c.requires.there k d low in
    omega (arith, there, length-map (get_or parts k d).kept.items shown_kept)

pub returns-in-Some-clause-column : goal.returns-in-Some-clause-column
returns-in-Some-clause-column c =
    let column = c.args.made.now.column.now in
    let made = rw c.in-Some.is at c.in_ok-column.ensures in
    let is : shown_kept c.in_ok-kept.kept ≡ placed (asked_as c.args.made.now) c.args.seat (map shown_part c.args.parts.now) c.args.places.now
    = c.in_ok-kept.ensures in
    ap plain_column c.into_column.ensures
    ∙ column_seen c.in_ok-copy.field-0 column (shown_kept c.in_ok-kept.kept) c.in-Some.column made.1
    ∙ (λ t. record { name = c.in_ok-copy.ensures t; kind = unwrap_or (kept_kind column.kind (is t)) kind.null; values = kept_values (values column) (is t) })
