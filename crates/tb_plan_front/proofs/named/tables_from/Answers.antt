use Rattle.std.proofs.Common.{◌≡◌, ◌∙◌, ◌++◌, ◌∷◌, ◌+◌, [], ℕ, List, Result, Ok, Err, ap, sym, arith, rules, length}
use mathlib.Core.Logic.{inl, inr}
use Rattle.std.proofs.lemmas.List.{map_push}
use Rattle.tb_value.specs.Promise.Names.{Name}
use Rattle.tb_frame.specs.Promise.Table.{Table, table_of}
use Rattle.tb_node.specs.Seen.{given_tables}
use Rattle.tb_node.specs.declared.tables.NamedTable.{NamedTable}
use Rattle.tb_plan_front.specs.Plans.{given_texts}
use Rattle.tb_front.specs.declared.fault.FrontFault.{FrontFault}
use Rattle.tb_front.specs.declared.fault.Place.TheVariants.{Named}
use Rattle.tb_plan_front.specs.declared.named.NamedText.{NamedText}
use Rattle.tb_front.specs.Promise.Due.{◌>>=◌, each_from}
use Rattle.tb_front.specs.Promise.Texts.{table_at}
use Rattle.tb_plan_front.specs.Promise.Plans.{named_table}
use Rattle.tb_front.proofs.Dues.{due_as, ends_here}
use Rattle.tb_front.proofs.Each.{behind, begins, goes, stops, ends, none_left, stopped}
use Rattle.tb_plan_front.proofs.named.tables_from.Goals as goal

pub loop-number-init : goal.loop-number-init
loop-number-init g c =
    let f = named_table c.args.options.now in
    let rest : c.into_iter-number-iterator.result.iter.rest.items ≡ c.args.texts.items = search rules in
    let none : c.into_iter-number-iterator.result.count ≡ 0 = search rules in
    let empty : c.in_ok-tables.tables.items ≡ [] = search rules in
    begins f 0 (given_texts c.args.texts.items) ∙ (λ i. behind (given_tables (sym empty i)) (each_from f (sym none i) (given_texts (sym rest i))))

pub loop-number-preserved : goal.loop-number-preserved
loop-number-preserved g c =
    let o = c.args.options.now in
    let f = named_table o in
    let k = c.loop-number.number-iterator.count in
    let made = given_tables c.loop-number.tables.items in
    let name = c.in-Some.given.name in
    let text = c.in-Some.given.text.items in
    let left = c.next.new.self.iter.rest.items in
    let took : c.loop-number.number-iterator.iter.rest.items ≡ c.in-Some.given ∷ left = search rules in
    let same : c.in-Some.number ≡ k = search rules in
    let next : c.next.new.self.count ≡ k + 1 = search rules in
    let is : f k (name, text) ≡ Ok (name, table_of c.in-Ok.table) =
    ap (λ (r : Result Table FrontFault). r >>= λ t. Ok (name, t)) (ap (λ n. table_at o (Named n) text) (sym same) ∙ c.in-Ok.ensures) in
    let pushed : given_tables c.push.new.self.items ≡ made ++ (name, table_of c.in-Ok.table) ∷ [] =
    ap given_tables c.in_ok-push-in-Ok.ensures.items ∙ map_push (λ (t : NamedTable). (t.name, table_of t.table)) c.loop-number.tables.items (record { name = name; table = c.in-Ok.table }) in
    c.loop-number.invariant
    ∙ ap (λ (ts : List NamedText). behind made (each_from f k (given_texts ts))) took
    ∙ goes f made k (name, text) (given_texts left) (name, table_of c.in-Ok.table) is
    ∙ (λ i. behind (sym pushed i) (each_from f (sym next i) (given_texts left)))

pub returns-in-Err : goal.returns-in-Err
returns-in-Err g c =
    let o = c.args.options.now in
    let f = named_table o in
    let k = c.loop-number.number-iterator.count in
    let made = given_tables c.loop-number.tables.items in
    let name = c.in-Some.given.name in
    let text = c.in-Some.given.text.items in
    let left = c.next.new.self.iter.rest.items in
    let took : c.loop-number.number-iterator.iter.rest.items ≡ c.in-Some.given ∷ left = search rules in
    let same : c.in-Some.number ≡ k = search rules in
    due_as _ _ c.in-Err.fault (c.loop-number.invariant ∙ ap (λ (ts : List NamedText). behind made (each_from f k (given_texts ts))) took)
    (stopped f made k (name, text) (given_texts left) c.in-Err.fault
    (due_as (f k (name, text)) (f c.in-Some.number (name, text)) c.in-Err.fault (ap (λ n. f n (name, text)) (sym same))
    (ends_here (table_at o (Named c.in-Some.number) text) (λ t. Ok (name, t)) c.in-Err.fault c.in-Err.ensures)))

pub returns : goal.returns
returns g c =
    let f = named_table c.args.options.now in
    let k = c.loop-number.number-iterator.count in
    let made = given_tables c.loop-number.tables.items in
    let over : c.loop-number.number-iterator.iter.rest.len ≡ 0 = search rules in
    let empty = none_left c.loop-number.number-iterator.iter.rest.items (omega (arith, over, c.loop-number.number-iterator.iter.rest.ok.0)) in
    c.loop-number.invariant ∙ ap (λ (ts : List NamedText). behind made (each_from f k (given_texts ts))) empty ∙ ends f made k
