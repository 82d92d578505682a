use Rattle.std.proofs.Common.{◌≡◌, List, map, ap, sym, ◌∙◌}
use Rattle.tb_value.specs.declared.index.JoinPair.{JoinPair}
use Rattle.tb_frame.specs.Promise.Table.{rows_of}
use Rattle.tb_frame.specs.Promise.Join.{cut, direction, listing, out_row}
use Rattle.tb_frame.proofs.Tables.{same_table}
use Rattle.tb_frame.proofs.Ordered.{one_order}
use Rattle.tb_join.proofs.laws.one_answer.Goals as goal

pub returns : goal.returns
returns c = λ q s t fixed a b.
    let pairs : a.pairs ≡ b.pairs = one_order (direction q.args.how q.args.maintain_order) fixed a.pairs b.pairs (listing q) a.ordered.permutation b.ordered.permutation a.ordered.ascends b.ordered.ascends in
    let rows : rows_of s ≡ rows_of t = a.rows ∙ ap (λ (ps : List JoinPair). map (out_row q) (cut q.args.slice ps)) pairs ∙ sym b.rows in
    same_table s t a.table b.table (a.columns ∙ sym b.columns) rows
