use Rattle.std.proofs.Common.{◌∙◌, ap, sym}
use Rattle.tb_csv.specs.Places.{has_quote}
use Rattle.tb_csv.proofs.BareRows.{bare_full, bare_read}
use Rattle.tb_csv.proofs.Unquoted.{none_stripped}
use Rattle.tb_csv.proofs.run.bare_run.Goals as goal

pub plain_rows-requires : goal.plain_rows-requires
plain_rows-requires c = ap has_quote c.behind_mark.ensures ∙ none_stripped c.args.piece.now (sym c.has_quote.ensures ∙ c.if-has_quote.false)

pub field_columns-requires : goal.field_columns-requires
field_columns-requires c =
    let bare = sym c.has_quote.ensures ∙ c.if-has_quote.false in
    let are = rw c.behind_mark.ensures at (rw c.in-Some.is at c.in_ok-rows.ensures) in
    record { full = bare_full c.args.separator c.args.width c.args.piece.now c.in-Some.rows bare are }

pub returns-in-Some-2 : goal.returns-in-Some-2
returns-in-Some-2 c =
    let bare = sym c.has_quote.ensures ∙ c.if-has_quote.false in
    let are = rw c.behind_mark.ensures at (rw c.in-Some.is at c.in_ok-rows.ensures) in
    let columns = rw c.in-Some-2.is at c.in_ok-columns.ensures.fields in
    let texts = rw c.in-Some-2.is at c.in_ok-columns.ensures.texts in
    bare_read c.args.separator c.args.width c.args.piece.now c.in-Some.rows bare are c.in-Some-2.columns columns texts
