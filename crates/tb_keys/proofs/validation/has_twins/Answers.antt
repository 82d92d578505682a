use Rattle.std.proofs.Common.{ℕ, Bool, List, sym, ◌∙◌}
use Rattle.std.specs.List.{list_any}
use Rattle.tb_value.specs.Promise.Pairs.{row_numbers}
use Rattle.tb_value.proofs.RowNumbers.{any_more, any_stop}
use Rattle.tb_frame.specs.Promise.Join.{flag_at}
use Rattle.tb_frame.specs.Promise.Refusal.{are_twins}
use Rattle.tb_frame.specs.Promise.Table.{TableColumn, table_of}
use Rattle.tb_chunk.specs.Lent.{lent_columns}
use Rattle.tb_keys.proofs.validation.has_twins.Goals as goal

abbrev has_twin : (ℕ → Bool) → List TableColumn → ℕ → ℕ → Bool
has_twin nulls keys n i = list_any (are_twins nulls keys i) (row_numbers n)

pub returns-then-has_twin : goal.returns-then-has_twin
returns-then-has_twin c = any_stop (has_twin (flag_at c.args.nulls.now) (table_of (lent_columns c.args.keys.now)) c.args.n) c.loop-i.i c.args.n c.loop-i-test.true
    (sym c.has_twin.ensures ∙ c.if-has_twin.true)

pub loop-i-preserved : goal.loop-i-preserved
loop-i-preserved c = any_more (has_twin (flag_at c.args.nulls.now) (table_of (lent_columns c.args.keys.now)) c.args.n) c.loop-i.i c.loop-i.invariant (sym c.has_twin.ensures ∙ c.if-has_twin.false)
