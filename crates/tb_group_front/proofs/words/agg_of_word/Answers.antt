use Rattle.std.proofs.Common.{◌≡◌, ◌∙◌, List, ℕ, Option, Some, None, ap, sym, arith}
use Rattle.std.specs.Prelude.{option_and_then, option_map}
use Rattle.tb_agg.specs.declared.table.Aggregate.{Aggregate}
use Rattle.tb_group.specs.declared.request.GroupAgg.{GroupAgg}
use Rattle.tb_group_front.specs.Promise.Words.{agg_made, agg_of_word, parts_at}
use Rattle.tb_request.specs.Promise.Written.{agg_named}
use Rattle.tb_group_front.proofs.Parted.{parted, whole}
use Rattle.tb_group_front.proofs.words.agg_of_word.Goals as goal

abbrev parts_of : Option (List ℕ × List ℕ) → Option GroupAgg
parts_of o = option_and_then (λ (parts : List ℕ × List ℕ). option_and_then (agg_made parts.0) (parts_at 58 parts.1)) o

pub returns-in_default : goal.returns-in_default
returns-in_default c = sym (ap parts_of (whole 61 c.args.word.now c.split_once.result c.split_once.ensures.cases (omega arith) c.in_default.is))

pub returns-in_default-split_once : goal.returns-in_default-split_once
returns-in_default-split_once c =
    sym
    (ap parts_of (parted 61 c.args.word.now c.split_once.result c.split_once.ensures.cases (omega arith) (c.in-Some.name, c.in-Some.made) c.in-Some.is)
    ∙ ap (option_and_then (agg_made c.in-Some.name.now)) (whole 58 c.in-Some.made.now c.split_once-2.result c.split_once-2.ensures.cases (omega arith) c.in_default-split_once.is))

pub returns : goal.returns
returns c =
    let x = c.in-Some-split_once in
    sym
    (ap parts_of (parted 61 c.args.word.now c.split_once.result c.split_once.ensures.cases (omega arith) (c.in-Some.name, c.in-Some.made) c.in-Some.is)
    ∙ ap (option_and_then (agg_made c.in-Some.name.now)) (parted 58 c.in-Some.made.now c.split_once-2.result c.split_once-2.ensures.cases (omega arith) (x.agg, x.column) x.is)
    ∙ ap (option_map (λ (agg : Aggregate). record { column = x.column.now; agg = agg; name = c.in-Some.name.now })) (sym c.agg_named.ensures ∙ c.in-Some-agg_named.is)
    ∙ (λ i. Some (record { column = sym c.in_ok-from_str.ensures i; agg = c.in-Some-agg_named.agg; name = sym c.in_ok-from_str-2.ensures i })))
