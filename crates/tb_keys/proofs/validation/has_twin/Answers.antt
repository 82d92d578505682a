use Rattle.std.proofs.Common.{sym, ◌∙◌}
use Rattle.tb_value.proofs.RowNumbers.{any_more, any_stop}
use Rattle.tb_frame.specs.Promise.Join.{flag_at}
use Rattle.tb_frame.specs.Promise.Refusal.{are_twins}
use Rattle.tb_frame.specs.Promise.Table.{table_of}
use Rattle.tb_chunk.specs.Lent.{lent_columns}
use Rattle.tb_keys.proofs.validation.has_twin.Goals as goal

pub returns-then-are_twins : goal.returns-then-are_twins
returns-then-are_twins c = any_stop (are_twins (flag_at c.args.nulls.now) (table_of (lent_columns c.args.keys.now)) c.args.i) c.loop-j.j c.args.n c.loop-j-test.true
    (sym c.are_twins.ensures ∙ c.if-are_twins.true)

pub loop-j-preserved : goal.loop-j-preserved
loop-j-preserved c = any_more (are_twins (flag_at c.args.nulls.now) (table_of (lent_columns c.args.keys.now)) c.args.i) c.loop-j.j c.loop-j.invariant
    (sym c.are_twins.ensures ∙ c.if-are_twins.false)
