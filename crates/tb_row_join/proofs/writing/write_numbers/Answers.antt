use Rattle.std.proofs.Common.{◌∙◌, ◌++◌, ℕ, List, [], ap, sym, arith, length, take, drop, length-append, get_or}
use Rattle.std.specs.Prelude.{replicate}
use Rattle.std.proofs.lemmas.List.{length-replicate, take_all}
use Rattle.tb_row_join.specs.Lists.{concatenated, no_row, repeated}
use Rattle.tb_row_join.proofs.Rooms.{length-repeated, list-fits, repeat-more, repeated-more}
use Rattle.tb_row_join.proofs.writing.write_numbers.Goals as goal

pub repeat-requires : goal.repeat-requires
repeat-requires c =
    let lists = c.args.lists.now in
    let i = c.loop-row.row in
    let fits = list-fits lists i (record { ref_ptr = (0, 0); now = [] }) c.loop-row-test.true in
    omega (arith, fits, length-repeated 0 (take i lists), c.loop-row.invariant.at, c.requires.room, c.loop-row.auto.room)

pub loop-row-preserved : goal.loop-row-preserved
loop-row-preserved c =
    let lists = c.args.lists.now in
    let i = c.loop-row.row in
    let done = repeated 0 (take i lists) in
    let times = length (get_or lists i (record { ref_ptr = (0, 0); now = [] })).now in
    let more = repeated-more lists i (record { ref_ptr = (0, 0); now = [] }) c.loop-row-test.true in
    record {
      at = omega (arith, c.loop-row.invariant.at, ap length more, length-append done (replicate times i), length-replicate times i);
      room = repeat-more c.args.room.now done c.loop-row.room c.repeat.new.room c.loop-row.at times i c.loop-row.invariant.room c.loop-row.invariant.at c.repeat.ensures
          ∙ ap (λ (l : List ℕ). l ++ drop (length l) c.args.room.now) (sym more);
    }

pub repeat-requires-2 : goal.repeat-requires-2
repeat-requires-2 c =
    let lists = c.args.lists.now in
    let i = c.loop-row.row in
    let all = ap (λ ls. length (repeated 0 ls)) (take_all i lists c.loop-row-test.false) in
    omega (arith, all, length-repeated 0 lists, c.loop-row.invariant.at, c.requires.room, c.loop-row.auto.room)

pub returns : goal.returns
returns c =
    let lists = c.args.lists.now in
    let i = c.loop-row.row in
    let alone = replicate c.args.behind no_row in
    let all = take_all i lists c.loop-row-test.false in
    repeat-more c.args.room.now (repeated 0 (take i lists)) c.loop-row.room c.repeat-2.new.room c.loop-row.at c.args.behind no_row c.loop-row.invariant.room c.loop-row.invariant.at c.repeat-2.ensures
    ∙ ap (λ ls. (repeated 0 ls ++ alone) ++ drop (length (repeated 0 ls ++ alone)) c.args.room.now) all
