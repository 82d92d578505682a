use Rattle.std.proofs.Common.{◌≡◌, ◌∙◌, ap, max, min, rules, sym}
use Rattle.std.specs.List.{fold}
use Rattle.std.proofs.lemmas.List.{nil_from_length}
use Rattle.tb_chunk.specs.Promise.Col.{values}
use Rattle.tb_layout.specs.Promise.Characters.{shown_text, width_of}
use Rattle.tb_layout.proofs.WidthPieces.{all_widths}
use Rattle.tb_layout.proofs.measured.column_width.Goals as goal

pub returns : goal.returns
returns g c =
    let column = c.args.column.now in
    let name = width_of (shown_text column.name) in
    let given : c.into_iter-width-iterator.result.rest.items ≡ c.in_ok-widths.widths.items = search rules in
    let left : c.loop-width.width-iterator.rest.len ≡ 0 = c.in-None.ensures.steps.0 in
    let done : c.loop-width.widest ≡ fold max c.width_within-widest.result c.in_ok-widths.widths.items =
    ap (fold max c.loop-width.widest) (sym (nil_from_length c.loop-width.width-iterator.rest.items (sym c.loop-width.invariant.rest_len ∙ left))) ∙ c.loop-width.invariant.widest ∙ ap (fold max c.width_within-widest.result) given in
    let wide = c.width_within-widest.ensures ∙ ap (λ cs. min c.args.line (width_of (shown_text cs))) (c.as_str.ensures ∙ c.name.ensures) in
    done
    ∙ ap (λ w. fold max w c.in_ok-widths.widths.items) wide
    ∙ ap (fold max (min c.args.line name)) c.in_ok-widths.ensures
    ∙ all_widths c.args.line column.kind name (values column)
