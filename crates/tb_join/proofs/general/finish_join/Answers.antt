use Rattle.std.proofs.Common.{None}
use Rattle.std.proofs.lemmas.Result.{err_from_is_err_and}
use Rattle.tb_value.specs.declared.error.PolarsError.TheVariants.{Duplicate}
use Rattle.tb_frame.specs.Promise.Naming.{joined_names}
use Rattle.tb_frame.specs.Promise.Refusal.{first_repeated}
use Rattle.tb_frame.specs.Promise.Join.{matches}
use Rattle.tb_frame.specs.Promise.Table.{height, names_of}
use Rattle.tb_frame.proofs.Assembled.{few_listed, makes_frame, pairs_in_range, table_answers}
use Rattle.tb_frame.proofs.Causes.{distinct_names, map_none}
use Rattle.tb_keys.specs.Asked.{asked_request}
use Rattle.tb_join.proofs.Finishing.{settled}
use Rattle.tb_join.proofs.Running.{run-as-asked}
use Rattle.tb_join.proofs.general.finish_join.Goals as goal

pub answer_columns-requires-clause-pairs : goal.answer_columns-requires-clause-pairs
answer_columns-requires-clause-pairs g c κs within = pairs_in_range (asked_request c.args.request.now) c.args.pairs.now c.requires.listed

pub answer_columns-requires-clause-few : goal.answer_columns-requires-clause-few
answer_columns-requires-clause-few g c κs within = few_listed (asked_request c.args.request.now) c.args.pairs.now c.requires.few c.requires.listed

pub answer_columns-requires-clause-in_order : goal.answer_columns-requires-clause-in_order
answer_columns-requires-clause-in_order g c κs within =
    let q = asked_request c.args.request.now in
    run-as-asked q.args (height q.left) (height q.right) (matches q) c.args.pairs.now c.requires.listed

pub returns-in_err-columns : goal.returns-in_err-columns
returns-in_err-columns g c =
    let p = err_from_is_err_and c.from_residual.result c.from_residual.ensures.1 in
    rw (p.1, p.2) (record { settles = c.in_err-columns.ensures.settles; answer = tt })

pub returns : goal.returns
returns g c =
    let q = asked_request c.args.request.now in
    let names = joined_names q.args q.left_on q.right_on (names_of q.left) (names_of q.right) in
    let apart = distinct_names names (map_none (λ n. Duplicate n) (first_repeated names) c.requires.named) in
    let columns = c.in_ok-columns.ensures.columns in
    record {
      settles = settled c.new.result _ None (makes_frame q c.args.pairs.now _ columns apart) c.new.ensures.settles;
      answer = table_answers q c.args.pairs.now _ c.new.result columns c.requires.some c.requires.listed c.new.ensures.columns c.new.ensures.table;
    }
