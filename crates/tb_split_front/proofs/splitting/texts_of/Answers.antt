use Rattle.std.proofs.Common.{◌≡◌, ◌∙◌, ◌++◌, ◌∷◌, ◌+◌, [], ℕ, List, ap, sym, arith, rules, length, map}
use Rattle.tb_chunk.specs.Promise.Col.{Col}
use Rattle.tb_frame.specs.Promise.Table.{table_of}
use Rattle.tb_front.specs.Promise.Due.{each_from}
use Rattle.tb_front.proofs.Dues.{due_as}
use Rattle.tb_front.proofs.Each.{behind, begins, goes, ends, none_left, stopped}
use Rattle.tb_split_front.specs.Texts.{written_text}
use Rattle.tb_split_front.proofs.splitting.texts_of.Goals as goal

pub loop-table-init : goal.loop-table-init
loop-table-init g c =
    let f = written_text c.args.separator in
    let rest : c.into_iter-table-iterator.result.rest.items ≡ c.args.tables.items = search rules in
    let empty : c.in_ok-texts.texts.items ≡ [] = search rules in
    begins f 0 (map table_of c.args.tables.items) ∙ (λ i. behind (sym empty i) (each_from f (length (sym empty i)) (map table_of (sym rest i))))

pub loop-table-preserved : goal.loop-table-preserved
loop-table-preserved g c =
    let f = written_text c.args.separator in
    let k = length c.loop-table.texts.items in
    let made = c.loop-table.texts.items in
    let left = c.next.new.self.rest.items in
    let took : c.loop-table.table-iterator.rest.items ≡ c.in-Some.table ∷ left = search rules in
    let pushed = c.in_ok-push-in-Ok.ensures.items in
    let longer : length c.push.new.self.items ≡ k + 1 = search rules in
    c.loop-table.invariant
    ∙ ap (λ (ts : List (List Col)). behind made (each_from f k (map table_of ts))) took
    ∙ goes f made k (table_of c.in-Some.table) (map table_of left) c.in-Ok.text c.in-Ok.ensures
    ∙ (λ i. behind (sym pushed i) (each_from f (sym longer i) (map table_of left)))

pub returns-in-Err : goal.returns-in-Err
returns-in-Err g c =
    let f = written_text c.args.separator in
    let k = length c.loop-table.texts.items in
    let made = c.loop-table.texts.items in
    let left = c.next.new.self.rest.items in
    let took : c.loop-table.table-iterator.rest.items ≡ c.in-Some.table ∷ left = search rules in
    due_as _ _ c.in-Err.fault (c.loop-table.invariant ∙ ap (λ (ts : List (List Col)). behind made (each_from f k (map table_of ts))) took)
    (stopped f made k (table_of c.in-Some.table) (map table_of left) c.in-Err.fault c.in-Err.ensures)

pub returns : goal.returns
returns g c =
    let f = written_text c.args.separator in
    let k = length c.loop-table.texts.items in
    let over : c.loop-table.table-iterator.rest.len ≡ 0 = search rules in
    let empty = none_left c.loop-table.table-iterator.rest.items (omega (arith, over, c.loop-table.table-iterator.rest.ok.0)) in
    c.loop-table.invariant ∙ ap (λ (ts : List (List Col)). behind c.loop-table.texts.items (each_from f k (map table_of ts))) empty ∙ ends f c.loop-table.texts.items k
