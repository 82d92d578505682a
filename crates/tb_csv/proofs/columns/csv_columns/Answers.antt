use Rattle.std.proofs.Common.{◌≡◌, ◌<◌, ◌+◌, ◌-◌, ◌++◌, ◌∷◌, [], length, arith, refl, subst}
use Rattle.std.specs.List.{AllZip, range_with_len}
use Rattle.std.proofs.lemmas.Result.{err_from_is_err_and}
use Rattle.std.proofs.lemmas.List.{length-append, map_push}
use Rattle.std.proofs.lemmas.List.FromFn.{map-range_with_len_more}
use Rattle.tb_csv.specs.Promise.Faults.{typed_fault}
use Rattle.tb_csv.specs.Promise.Tables.{csv_column}
use Rattle.tb_csv.specs.Read.{IsReadColumn}
use Rattle.tb_csv.proofs.Causes.{fault_at, none_more}
use Rattle.tb_csv.proofs.ReadColumns.{next_of, none_of}
use Rattle.tb_csv.proofs.columns.csv_columns.Goals as goal

pub returns-in_err-column-clause-settles : goal.returns-in_err-column-clause-settles
returns-in_err-column-clause-settles g c rows are =
    let names = c.args.records.now.names.items in
    let read_as = IsReadColumn c.args.types.now names rows in
    let j = length c.loop-column.yielded in
    let so_far = c.loop-column.invariant rows are in
    let left = next_of read_as j (length names - j) c.in-Some.column _ (subst (AllZip read_as (range_with_len j (length names - j))) c.in-Some.ensures.steps.0 so_far.3) in
    let read = rw c.in_err-column.was at left.1 in
    let low : j < length names = omega (arith, left.0) in
    let p = err_from_is_err_and c.from_residual-in_err-column.result c.from_residual-in_err-column.ensures.1 in
    rw (p.1, p.2) (fault_at (typed_fault c.args.types.now names rows) j (length names) _ so_far.1 low read.0)

pub loop-column-preserved : goal.loop-column-preserved
loop-column-preserved g c rows are =
    let names = c.args.records.now.names.items in
    let read_as = IsReadColumn c.args.types.now names rows in
    let j = length c.loop-column.yielded in
    let so_far = c.loop-column.invariant rows are in
    let left = next_of read_as j (length names - j) c.in-Some.column _ (subst (AllZip read_as (range_with_len j (length names - j))) c.in-Some.ensures.steps.0 so_far.3) in
    let read = rw c.in_ok-column.was at left.1 in
    let more : length (c.loop-column.yielded ++ c.in-Some.column ∷ []) ≡ j + 1 = length-append c.loop-column.yielded (c.in-Some.column ∷ []) in
    let at : 0 + j ≡ j = omega arith in
    let less : length names - j - 1 ≡ length names - (j + 1) = omega arith in
    let made = csv_column c.args.types.now names rows in
    rw more (
      rw (c.in_ok-push.ensures.items, map_push, map-range_with_len_more made 0 j j at, so_far.0, read.1) refl,
      none_more (typed_fault c.args.types.now names rows) j so_far.1 read.0,
      omega (arith, left.0),
      subst (λ m. AllZip read_as (range_with_len (j + 1) m) c.next.new.self.rest.items) less left.2,
    )

pub returns-clause-settles : goal.returns-clause-settles
returns-clause-settles g c rows are =
    let names = c.args.records.now.names.items in
    let read_as = IsReadColumn c.args.types.now names rows in
    let j = length c.loop-column.yielded in
    let so_far = c.loop-column.invariant rows are in
    let rest = c.loop-column.column-iterator.rest in
    let none = none_of read_as j (length names - j) rest.items (omega (arith, rest.ok.0, c.in-None.ensures.steps.0)) so_far.3 in
    let end : length names ≡ j = omega (arith, none, so_far.2) in
    rw end so_far.1

pub returns-clause-columns : goal.returns-clause-columns
returns-clause-columns g c rows are =
    let names = c.args.records.now.names.items in
    let read_as = IsReadColumn c.args.types.now names rows in
    let j = length c.loop-column.yielded in
    let so_far = c.loop-column.invariant rows are in
    let rest = c.loop-column.column-iterator.rest in
    let none = none_of read_as j (length names - j) rest.items (omega (arith, rest.ok.0, c.in-None.ensures.steps.0)) so_far.3 in
    let end : length names ≡ j = omega (arith, none, so_far.2) in
    rw end so_far.0
