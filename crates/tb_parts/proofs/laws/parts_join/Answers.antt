use Rattle.tb_parts.specs.Promise.Parts.{left_rows, right_rows}
use Rattle.tb_frame.specs.Promise.Join.{by_names, direction}
use Rattle.tb_parts.proofs.Causes.{column_causes_among, columns_among, key_causes_among, left_stands, parts_valid, right_stands}
use Rattle.tb_parts.proofs.Merged.{merged}
use Rattle.tb_parts.proofs.Requests.{listed_in_all, listed_in_part, request_named}
use Rattle.tb_parts.proofs.Together.{together_answer, together_rows}
use Rattle.tb_parts.proofs.laws.parts_join.Goals as goal

pub returns-clause-each : goal.returns-clause-each
returns-clause-each c = λ part q p long. listed_in_part part q p long

pub returns-clause-listing : goal.returns-clause-listing
returns-clause-listing c = λ part n q parted. listed_in_all part q n parted

pub returns-clause-order : goal.returns-clause-order
returns-clause-order c = λ part q p ps qs long fixed up ups. merged part q p long ps qs up.permutation ups.permutation (direction q.args.how q.args.maintain_order) fixed up.ascends ups.ascends

pub returns-clause-names : goal.returns-clause-names
returns-clause-names c = λ part l r left_on right_on args p.
    request_named l r left_on right_on args (left_rows part (by_names l r left_on right_on args) p) (right_rows part (by_names l r left_on right_on args) p)

pub returns-clause-columns : goal.returns-clause-columns
returns-clause-columns c = λ part q p. columns_among q (left_rows part q p) (right_rows part q p)

pub returns-clause-rows : goal.returns-clause-rows
returns-clause-rows c = λ part n q t answers parted uncut a each. together_rows part q uncut answers n parted each t a

pub returns-clause-answer : goal.returns-clause-answer
returns-clause-answer c = λ part n q t answers parted uncut free each table columns rows. together_answer part q uncut answers n parted each free t table columns rows

pub returns-clause-validation : goal.returns-clause-validation
returns-clause-validation c = λ part n q parted. (left_stands part n q parted, right_stands part n q parted)

pub returns-clause-causes : goal.returns-clause-causes
returns-clause-causes c = λ part q p. (key_causes_among q (left_rows part q p) (right_rows part q p), column_causes_among q (left_rows part q p) (right_rows part q p))

pub returns-clause-valid : goal.returns-clause-valid
returns-clause-valid c = λ part n q parted valid p low. parts_valid part n q parted valid p low
