use Rattle.std.proofs.Common.{◌≡◌, ℕ, Bool, Bor, List, not, arith, sym, ◌∙◌, ap}
use Rattle.std.specs.Option.{option_map}
use Rattle.tb_value.specs.Promise.SameKind.{is_key}
use Rattle.tb_value.specs.declared.error.PolarsError.TheVariants.{InvalidOperation}
use Rattle.tb_value.specs.declared.error.InvalidCause.TheVariants.{KeyKind}
use Rattle.tb_value.proofs.Finds.{find_row_more, find_row_stop}
use Rattle.tb_chunk.specs.Lent.{lent_columns}
use Rattle.tb_chunk.specs.Promise.Col.{Col}
use Rattle.tb_frame.specs.Promise.Refusal.{kind_at}
use Rattle.tb_frame.specs.Promise.Table.{table_of}
use Rattle.tb_split.proofs.KeyRows.{kind_lent, many_lent}
use Rattle.tb_split.proofs.keys.check_kinds.Goals as goal
use Rattle.tb_split.proofs.keys.check_kinds.Goals.{After-is_key}

abbrev no_key_at : List (Bor Col) → ℕ → Bool
no_key_at cs p = not (is_key (kind_at (table_of (lent_columns cs)) p))

here : (c : After-is_key) → not c.is_key.result ≡ no_key_at c.args.columns.now c.loop-place.place
here c =
    let k = c.dtype.ensures ∙ kind_lent c.args.columns.now c.loop-place.place c.index-columns-place.result (omega arith) c.index-columns-place.is in
    ap not (c.is_key.ensures ∙ ap is_key k)

pub returns-then-not-is_key : goal.returns-then-not-is_key
returns-then-not-is_key c = ap (option_map (λ (p : ℕ). InvalidOperation (KeyKind p)))
    (find_row_stop (no_key_at c.args.columns.now) c.loop-place.place _ (omega (arith, many_lent c.args.columns.now)) c.loop-place.invariant
    (sym (here (goal.at.returns-then-not-is_key c).After-is_key) ∙ ap not c.if-not-is_key.true))

pub loop-place-preserved : goal.loop-place-preserved
loop-place-preserved c = find_row_more (no_key_at c.args.columns.now) c.loop-place.place _ c.loop-place-test.true c.loop-place.invariant
    (sym (here (goal.at.loop-place-preserved c).After-is_key) ∙ ap not c.if-not-is_key.false)
