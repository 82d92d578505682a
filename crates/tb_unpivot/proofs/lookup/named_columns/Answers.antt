use Rattle.std.proofs.Common.{◌≡◌, IfOk, List, subst}
use Rattle.tb_value.specs.Refusals.{Settles}
use Rattle.tb_chunk.specs.Promise.Col.{Col}
use Rattle.tb_chunk.specs.Lent.{lent_columns}
use Rattle.tb_frame.specs.Promise.Frame.{selected_columns}
use Rattle.tb_frame.specs.Promise.Refusal.{unknown_key}
use Rattle.tb_frame.specs.Promise.Table.{table_of}
use Rattle.tb_unpivot.proofs.lookup.named_columns.Goals as goal

pub returns-clause-settles : goal.returns-clause-settles
returns-clause-settles c = subst (λ (cs : List Col). Settles c.lend_columns.result (unknown_key (table_of cs) c.args.names.now)) c.get_columns.ensures.columns c.lend_columns.ensures.settles

pub returns-clause-columns : goal.returns-clause-columns
returns-clause-columns c = subst (λ (cs : List Col). IfOk c.lend_columns.result (λ v. lent_columns v.items ≡ selected_columns c.args.names.now cs)) c.get_columns.ensures.columns c.lend_columns.ensures.columns
