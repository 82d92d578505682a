use Rattle.std.proofs.Common.{arith, ◌≡◌, ◌≤◌, ◌+◌, ◌∙◌, ◌++◌, Option, None, ap, length, replicate, sym}
use Rattle.std.proofs.lemmas.List.{length-replicate}
use Rattle.tb_value.specs.Promise.Datum.{null}
use Rattle.tb_view.specs.declared.view.View.{View}
use Rattle.tb_chunk.proofs.PlainRows.{all_equal, equal_more, equal_part}
use Rattle.tb_chunk.proofs.chunk.UsizeChunk.append_block.Goals as goal

pub returns-clause-shown : goal.returns-clause-shown
returns-clause-shown c =
    let within : c.args._from + c.args.count ≤ c.args._other.now = omega (arith, c.requires.within, length-replicate c.args._other.now null) in
    equal_more null c.args.self.now c.args.count ∙ ap (λ vs. replicate c.args.self.now null ++ vs) (sym (equal_part null c.args._from c.args.count c.args._other.now within))

pub returns-clause-views : goal.returns-clause-views
returns-clause-views c =
    let within : c.args._from + c.args.count ≤ c.args._other.now = omega (arith, c.requires.within, length-replicate c.args._other.now null) in
    let none : Option View = None in
    equal_more none c.args.self.now c.args.count ∙ ap (λ vs. replicate c.args.self.now none ++ vs) (sym (equal_part none c.args._from c.args.count c.args._other.now within))

pub returns-clause-none : goal.returns-clause-none
returns-clause-none c =
    let within : c.args._from + c.args.count ≤ c.args._other.now = omega (arith, c.requires.within, length-replicate c.args._other.now null) in
    let none : Option View = None in
    rw (equal_part none c.args._from c.args.count c.args._other.now within) (all_equal none c.args.count)
