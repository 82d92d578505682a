use Rattle.std.proofs.Common.{arith, ◌≡◌, ◌≤◌, ◌<◌, ◌-◌, inl, inr, ◌++◌, Some, ap, length, map, refl}
use Rattle.std.specs.Prelude.{◌⊎◌}
use Rattle.tb_cell.proofs.Blocks.{block_shown, no_block, some_block}
use Rattle.tb_cell.proofs.cells.Cells.append_values.Goals as goal
use Rattle.tb_cell.proofs.cells.Cells.append_values.Goals.{then-rest-gt0-via-then-rest-gt0, then-rest-gt0-via-else-rest-gt0+then-from-values}

pub returns-clause-shown : goal.returns-clause-shown
returns-clause-shown g c =
    let mine = c.self.inside in
    let theirs = c.other.inside in
    let none : length mine.rest.items ≡ 0 = omega (arith, ap length c.as_slice-rest.ensures.value) in
    block_shown g.N.Cell.shows c.append_copies.new.to.items mine.values.items c.as_slice-values.result.now theirs.values.items mine.rest.items theirs.rest.items
    (map Some c.append_copies.new.to.items ++ mine.rest.items) c.args.self.now c.args.other.now c.args.from (c.min-end.result - c.args.from)
    none (omega (arith, ap length c.as_slice-values.ensures.value)) c.as_slice-values.ensures.value c.in_ok-append_copies.ensures.ok refl c.self.view_is c.other.view_is

pub returns-then-rest-gt0-clause-exact : goal.returns-then-rest-gt0-clause-exact
returns-then-rest-gt0-clause-exact g c =
    let mine = c.self.inside in
    let theirs = c.other.inside in
    let some : (0 < length mine.rest.items) ⊎ (length theirs.values.items ≤ c.args.from) = elim c.then-rest-gt0.branch [
      | then-rest-gt0-via-then-rest-gt0 w ↦ inl (omega (arith, w.if-rest-gt0.true, ap length c.as_slice-rest.ensures.value))
      | then-rest-gt0-via-else-rest-gt0+then-from-values w ↦ inr (omega (arith, w.if-from-values.true, ap length c.as_slice-values.ensures.value))
    ] in
    no_block mine.values.items theirs.values.items mine.rest.items theirs.rest.items c.args.self.now c.args.other.now c.args.from c.args.count
    c.self.invariant.0 c.other.invariant.0 c.self.view_is c.other.view_is some

pub returns-clause-exact : goal.returns-clause-exact
returns-clause-exact g c =
    let mine = c.self.inside in
    let theirs = c.other.inside in
    some_block mine.values.items theirs.values.items mine.rest.items theirs.rest.items c.args.self.now c.args.other.now c.args.from c.args.count (c.min-end.result - c.args.from)
    (omega (arith, ap length c.as_slice-rest.ensures.value)) c.other.invariant.0 c.self.view_is c.other.view_is
    (omega (arith, c.min-end.ensures, ap length c.as_slice-values.ensures.value))
