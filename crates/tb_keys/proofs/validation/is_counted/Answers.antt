use Rattle.std.proofs.Common.{◌≡◌, length, arith, sym, ◌∙◌, ap}
use Rattle.std.specs.Prelude.{◌||◌}
use Rattle.tb_value.specs.Promise.Datum.{is_present}
use Rattle.tb_value.proofs.RowNumbers.{all_more, all_stop}
use Rattle.tb_frame.specs.Promise.Join.{flag_at}
use Rattle.tb_frame.specs.Promise.Table.{table_of}
use Rattle.tb_chunk.proofs.Lent.{lent_has}
use Rattle.tb_chunk.specs.Lent.{lent_columns}
use Rattle.tb_keys.specs.Rows.{HasRow}
use Rattle.tb_keys.proofs.KeyFields.{lent_field, lent_many, counts_at, counted_to}
use Rattle.tb_keys.proofs.validation.is_counted.Goals as goal
use Rattle.tb_keys.proofs.validation.is_counted.Goals.{After-counts}

here : (c : After-counts) → c.counts.result ≡ counts_at (flag_at c.args.nulls.now) (table_of (lent_columns c.args.keys.now)) c.args.i c.loop-p.p
here c =
    let field = c.get.ensures.value ∙ lent_field c.args.keys.now c.loop-p.p c.index-keys-p.result (omega arith) c.index-keys-p.is c.args.i in
    c.counts.ensures ∙ (λ t. is_present (field t) || c.flag_at.ensures t)

pub returns-then-not-counts : goal.returns-then-not-counts
returns-then-not-counts c =
    let keys = table_of (lent_columns c.args.keys.now) in
    let long = lent_many c.args.keys.now in
    all_stop (counts_at (flag_at c.args.nulls.now) keys c.args.i) c.loop-p.p (length keys) (omega (arith, long)) (sym (here (goal.at.returns-then-not-counts c).After-counts) ∙ c.if-not-counts.true)

pub loop-p-preserved : goal.loop-p-preserved
loop-p-preserved c = all_more (counts_at (flag_at c.args.nulls.now) (table_of (lent_columns c.args.keys.now)) c.args.i) c.loop-p.p c.loop-p.invariant
    (sym (here (goal.at.loop-p-preserved c).After-counts) ∙ c.if-not-counts.false)

pub returns : goal.returns
returns c =
    let keys = table_of (lent_columns c.args.keys.now) in
    let long = lent_many c.args.keys.now in
    let all : c.loop-p.p ≡ length keys = omega (arith, long) in
    sym (ap (counted_to (flag_at c.args.nulls.now) keys c.args.i) (sym all) ∙ c.loop-p.invariant)

pub get-requires : goal.get-requires
get-requires c = lent_has c.args.keys.now c.loop-p.p c.index-keys-p.result c.loop-p-test.true c.index-keys-p.is (HasRow c.args.i) c.requires
