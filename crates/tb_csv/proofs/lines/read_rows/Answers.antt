use Rattle.std.proofs.Common.{◌≡◌, ◌+◌, ◌-◌, ◌∙◌, ◌∷◌, ◌++◌, [], ℕ, List, arith, sym, subst, ◌<◌, ◌≤◌, Bor}
use Rattle.std.proofs.lemmas.List.{append-nil, length-append}
use Rattle.std.proofs.lemmas.Result.{err_from_is_err_and}
use Rattle.csv.specs.Records.{fields_of}
use Rattle.csv.specs.Reading.{records_from}
use Rattle.csv.specs.declared.reader.Reader.{Reader}
use Rattle.tb_csv.specs.Left.{Leaves}
use Rattle.tb_csv.specs.Promise.Records.{Line, form}
use Rattle.tb_csv.proofs.RecordWalks.{all_more, row_passes, row_split, row_stops}
use Rattle.tb_csv.proofs.lines.read_rows.Goals as goal

-- what is read in no turn
none_left : (separator turns turn : ℕ) (rest : List Line) (r : Reader (Bor (List ℕ))) → turns ≤ turn → Leaves (form separator) (turns - turn) rest r → rest ≡ []
unfolding records_from
none_left separator turns turn rest r past h =
    let zero : turns - turn ≡ 0 = omega arith in sym (rw zero at h.5)

-- one turn more is left
turn_left : (separator turns turn : ℕ) (rest : List Line) (r : Reader (Bor (List ℕ))) → turn < turns → Leaves (form separator) (turns - turn) rest r → Leaves (form separator) ((turns - (turn + 1)) + 1) rest r
turn_left separator turns turn rest r low h =
    let more : turns - turn ≡ (turns - (turn + 1)) + 1 = omega arith in subst (λ (n : ℕ). Leaves (form separator) n rest r) more h

pub returns-then-not-branch-clause-settles : goal.returns-then-not-branch-clause-settles
returns-then-not-branch-clause-settles c separator records h =
    let (done, rest, is, count, left, fields, none) = c.loop-turn.invariant separator records h in
    let n = rw c.if-not-branch.true at (c.in_ok-next_record.ensures separator (c.args.turns - (c.loop-turn.turn + 1)) rest (turn_left separator c.args.turns c.loop-turn.turn rest c.loop-turn.reader c.loop-turn-test.true left)) in
    rw (is, n, append-nil done) none

pub returns-then-not-branch-clause-rows : goal.returns-then-not-branch-clause-rows
returns-then-not-branch-clause-rows c separator records h =
    let (done, rest, is, count, left, fields, none) = c.loop-turn.invariant separator records h in
    let n = rw c.if-not-branch.true at (c.in_ok-next_record.ensures separator (c.args.turns - (c.loop-turn.turn + 1)) rest (turn_left separator c.args.turns c.loop-turn.turn rest c.loop-turn.reader c.loop-turn-test.true left)) in
    rw (is, n, append-nil done) (sym count, fields)

pub returns-in_err-push_line-clause-settles : goal.returns-in_err-push_line-clause-settles
returns-in_err-push_line-clause-settles c separator records h =
    let (done, rest, is, count, left, fields, none) = c.loop-turn.invariant separator records h in
    let n = rw c.if-not-branch.false at (c.in_ok-next_record.ensures separator (c.args.turns - (c.loop-turn.turn + 1)) rest (turn_left separator c.args.turns c.loop-turn.turn rest c.loop-turn.reader c.loop-turn-test.true left)) in
    let p = err_from_is_err_and c.from_residual-in_err-push_line.result c.from_residual-in_err-push_line.ensures.1 in
    rw (p.1, p.2) (row_stops c.args.width c.loop-turn.turn done rest records (fields_of c.next_record.new.row) n.0 c.in_err-push_line.field-0.0 is n.1 count none c.in_err-push_line.ensures.settles)

pub loop-turn-preserved : goal.loop-turn-preserved
loop-turn-preserved c separator records h =
    let (done, rest, is, count, left, fields, none) = c.loop-turn.invariant separator records h in
    let n = rw c.if-not-branch.false at (c.in_ok-next_record.ensures separator (c.args.turns - (c.loop-turn.turn + 1)) rest (turn_left separator c.args.turns c.loop-turn.turn rest c.loop-turn.reader c.loop-turn-test.true left)) in
    let row = fields_of c.next_record.new.row in (
      done ++ row ∷ [],
      n.0,
      row_split done rest records row n.0 is n.1,
      length-append done (row ∷ []) ∙ omega (arith, count),
      n.2,
      all_more done row (fields_of c.args.fields.now) (fields_of c.loop-turn.fields) (fields_of c.push_line.new.fields) c.in_ok-push_line.ensures.fields fields,
      row_passes c.args.width c.loop-turn.turn done row count none c.in_ok-push_line.ensures.settles,
    )

pub returns-clause-settles : goal.returns-clause-settles
returns-clause-settles c separator records h =
    let (done, rest, is, count, left, fields, none) = c.loop-turn.invariant separator records h in
    let n = none_left separator c.args.turns c.loop-turn.turn rest c.loop-turn.reader (omega arith) left in
    rw (is, n, append-nil done) none

pub returns-clause-rows : goal.returns-clause-rows
returns-clause-rows c separator records h =
    let (done, rest, is, count, left, fields, none) = c.loop-turn.invariant separator records h in
    let n = none_left separator c.args.turns c.loop-turn.turn rest c.loop-turn.reader (omega arith) left in
    rw (is, n, append-nil done) (omega (arith, count), fields)
