use Rattle.std.proofs.Common.{◌∙◌, ◌++◌, ℕ, List, [], ap, sym, arith, length, take, drop, length-append, get_or}
use Rattle.std.proofs.lemmas.List.{take_all}
use Rattle.tb_row_join.specs.Lists.{concatenated}
use Rattle.tb_row_join.proofs.Rooms.{concatenated-more, list-fits, put-more}
use Rattle.tb_row_join.proofs.writing.write_lists.Goals as goal

pub put-requires : goal.put-requires
put-requires c =
    let fits = list-fits c.args.lists.now c.loop-list.list-index (record { ref_ptr = (0, 0); now = [] }) c.loop-list-test.true in
    omega (arith, fits, c.loop-list.invariant.at, c.requires, c.loop-list.auto.room)

pub loop-list-preserved : goal.loop-list-preserved
loop-list-preserved c =
    let lists = c.args.lists.now in
    let i = c.loop-list.list-index in
    let done = concatenated (take i lists) in
    let rows = (get_or lists i (record { ref_ptr = (0, 0); now = [] })).now in
    let more = concatenated-more lists i (record { ref_ptr = (0, 0); now = [] }) c.loop-list-test.true in
    record {
      at = omega (arith, c.loop-list.invariant.at, ap length more, length-append done rows);
      room = put-more c.args.room.now done rows c.loop-list.room c.put.new.room c.loop-list.at c.loop-list.invariant.room c.loop-list.invariant.at c.put.ensures
          ∙ ap (λ (l : List ℕ). l ++ drop (length l) c.args.room.now) (sym more);
    }

pub returns : goal.returns
returns c =
    let lists = c.args.lists.now in
    let i = c.loop-list.list-index in
    let all = take_all i lists c.loop-list-test.false in
    put-more c.args.room.now (concatenated (take i lists)) c.args.behind.now c.loop-list.room c.put-2.new.room c.loop-list.at c.loop-list.invariant.room c.loop-list.invariant.at c.put-2.ensures
    ∙ ap (λ ls. (concatenated ls ++ c.args.behind.now) ++ drop (length (concatenated ls ++ c.args.behind.now)) c.args.room.now) all
