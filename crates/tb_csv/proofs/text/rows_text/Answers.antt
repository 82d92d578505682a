use Rattle.std.proofs.Common.{◌≡◌, ◌-◌, ◌<◌, ◌≤◌, ◌++◌, ◌∙◌, List, ap, arith, inl, inr, length, refl, subst, sym, ⊎_elim}
use Rattle.std.specs.List.{All}
use Rattle.tb_chunk.specs.Promise.Col.{Col, values}
use Rattle.tb_frame.specs.Promise.Table.{table_of}
use Rattle.tb_csv.specs.Promise.Texts.{record_text, row_fields}
use Rattle.tb_pieces.specs.Rows.{rows_bytes}
use Rattle.tb_csv.specs.Texts.{row_text}
use Rattle.tb_pieces.proofs.RowPieces.{rows_more}
use Rattle.tb_csv.proofs.text.rows_text.Goals as goal

pub push_row-requires : goal.push_row-requires
push_row-requires c = subst (λ (cs : List Col). All (λ (k : Col). c.loop-index.index < length (values k)) cs) (sym (c.deref.ensures.value ∙ c.in_ok-lent.ensures)) (λ i d low. omega (arith, c.loop-index-test.true, c.requires i d low))

pub loop-index-init : goal.loop-index-init
loop-index-init c = record { from = omega arith; to = inr refl; text = let none : c.args.start - c.args.start ≡ 0 = omega arith in rw none c.in_ok-text.ensures.items }

pub loop-index-preserved : goal.loop-index-preserved
loop-index-preserved c = record {
  from = omega (arith, c.loop-index.invariant.from);
  to = inl (omega (arith, c.loop-index-test.true));
  text = rows_more (row_text c.args.separator (table_of c.args.columns.now)) c.args.start c.loop-index.index _ _ c.loop-index.invariant.from
      (subst (λ (cs : List Col). c.push_row.new.text.items ≡ c.loop-index.text.items ++ record_text c.args.separator (row_fields (table_of cs) c.loop-index.index)) (c.deref.ensures.value ∙ c.in_ok-lent.ensures) c.in_ok-push_row.ensures)
      c.loop-index.invariant.text;
}

pub returns : goal.returns
returns c =
    let from = c.loop-index.invariant.from in
    let past = c.loop-index-test.false in
    let all : c.loop-index.index - c.args.start ≡ c.args.end - c.args.start = ⊎_elim
    (λ (le : c.loop-index.index ≤ c.args.end). omega (arith, le, past, from))
    (λ (e : c.loop-index.index ≡ c.args.start). omega (arith, e, past, from))
    c.loop-index.invariant.to in
    c.loop-index.invariant.text ∙ ap (rows_bytes (row_text c.args.separator (table_of c.args.columns.now)) c.args.start) all
