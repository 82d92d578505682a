use Rattle.std.proofs.Common.{◌≡◌, IfOk, subst, sym}
use Rattle.tb_frame.specs.Promise.Table.{table_of}
use Rattle.tb_unpivot.specs.Promise.Unpivot.{unpivot_refusal, unpivot_table}
use Rattle.tb_calls.specs.Promise.Asked.{long_of}
use Rattle.tb_value.specs.Promise.Refusals.{first_cause}
use Rattle.tb_front.specs.declared.options.TextForm.{TextForm}
use Rattle.tb_front.specs.Promise.Asked.{unpivot_faults}
use Rattle.tb_front.specs.Promise.Faults.{Settles}
use Rattle.tb_front.specs.Promise.Texts.{text_in}
use Rattle.tb_front.proofs.Outcomes.{table_settles, table_text}
use Rattle.tb_front.proofs.asking.long_text.Goals as goal

pub returns-in-Csv-clause-settles : goal.returns-in-Csv-clause-settles
returns-in-Csv-clause-settles g c =
    subst (λ (f : TextForm). Settles c.long_csv.result (first_cause (unpivot_faults f c.args.call (table_of c.args.table)))) (sym c.in-Csv.is) c.long_csv.ensures.settles

pub returns-in-Csv-clause-answer : goal.returns-in-Csv-clause-answer
returns-in-Csv-clause-answer g c =
    subst (λ (f : TextForm). IfOk c.long_csv.result (λ s. s ≡ text_in f c.args.options.now.csv.separator (unpivot_table (long_of c.args.call (table_of c.args.table))))) (sym c.in-Csv.is) c.long_csv.ensures.text

pub returns-in_default-clause-settles : goal.returns-in_default-clause-settles
returns-in_default-clause-settles g c =
    table_settles c.args.options.now.form c.args.options.now.csv.separator _ _ (unpivot_refusal (long_of c.args.call (table_of c.args.table))) (unpivot_table (long_of c.args.call (table_of c.args.table)))
    c.made_long-outcome.ensures.settles c.made_long-outcome.ensures.table c.written.ensures

pub returns-in_default-clause-answer : goal.returns-in_default-clause-answer
returns-in_default-clause-answer g c =
    table_text c.args.options.now.form c.args.options.now.csv.separator _ _ (unpivot_table (long_of c.args.call (table_of c.args.table))) c.made_long-outcome.ensures.table c.written.ensures
