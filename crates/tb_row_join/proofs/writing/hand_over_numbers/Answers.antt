use Rattle.std.proofs.Common.{◌++◌, ◌+◌, ◌≤◌, ◌<◌, arith, length, length-append, refl}
use Rattle.std.specs.Prelude.{replicate}
use Rattle.std.proofs.lemmas.List.{length-replicate}
use Rattle.tb_row_join.specs.Lists.{concatenated, no_row, repeated}
use Rattle.tb_row_join.proofs.Rooms.{length-repeated}
use Rattle.tb_row_join.proofs.writing.hand_over_numbers.Goals as goal

pub returns-else-count-room : goal.returns-else-count-room
returns-else-count-room c =
    let lists = c.args.lists.now in
    let alone = replicate c.args.behind no_row in
    let many = length-append (repeated 0 lists) alone in
    let short = length-repeated 0 lists in
    let alone_many = length-replicate c.args.behind no_row in
    ((λ fits. absurd (omega (arith, many, short, alone_many, c.requires.count, c.if-count-room.false, fits))), λ _. refl)
