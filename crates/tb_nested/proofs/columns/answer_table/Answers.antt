use Rattle.std.proofs.Common.{Option, inl, subst}
use Rattle.tb_value.specs.Refusals.{Settles}
use Rattle.tb_value.specs.declared.error.PolarsError.{PolarsError}
use Rattle.tb_frame.specs.Promise.Table.{table_of}
use Rattle.tb_frame.proofs.Assembled.{few_listed, makes_frame, pairs_in_range, table_answers}
use Rattle.tb_frame.proofs.Validity.{few_pairs, names_apart, some_out}
use Rattle.tb_keys.specs.Asked.{asked_request}
use Rattle.tb_nested.proofs.columns.answer_table.Goals as goal

pub answer_columns-requires-clause-pairs : goal.answer_columns-requires-clause-pairs
answer_columns-requires-clause-pairs c = pairs_in_range (asked_request c.args.request.now) c.args.pairs.now c.requires.listed

pub answer_columns-requires-clause-few : goal.answer_columns-requires-clause-few
answer_columns-requires-clause-few c = few_listed (asked_request c.args.request.now) c.args.pairs.now (few_pairs (asked_request c.args.request.now) c.requires.valid) c.requires.listed

pub returns-clause-settles : goal.returns-clause-settles
returns-clause-settles c =
    let q = asked_request c.args.request.now in
    subst (λ (o : Option PolarsError). Settles c.new.result o)
    (makes_frame q c.args.pairs.now (table_of c.in_ok-columns.columns.items) c.in_ok-columns.ensures (names_apart q c.requires.valid)) c.new.ensures.settles

pub returns-clause-answer : goal.returns-clause-answer
returns-clause-answer c =
    let q = asked_request c.args.request.now in
    table_answers q c.args.pairs.now _ c.new.result c.in_ok-columns.ensures (inl (some_out q c.requires.valid)) c.requires.listed c.new.ensures.columns c.new.ensures.table
