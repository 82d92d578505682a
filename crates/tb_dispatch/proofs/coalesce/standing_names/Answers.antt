use Rattle.std.proofs.Common.{◌≡◌, ◌∙◌, ◌++◌, ◌∷◌, [], suc, ◌+◌, List, map, take, ap, sym, arith}
use Rattle.std.specs.List.{zip}
use Rattle.std.proofs.lemmas.List.{take_all}
use Rattle.tb_value.specs.Promise.Names.{Name}
use Rattle.tb_chunk.specs.Promise.Col.{Col}
use Rattle.tb_frame.specs.Promise.Naming.{is_among}
use Rattle.tb_frame.specs.Promise.Table.{names_of, table_of}
use Rattle.tb_dispatch.specs.Standing.{stands_as}
use Rattle.tb_dispatch.proofs.Standing.{zip-more}
use Rattle.tb_dispatch.proofs.coalesce.standing_names.Goals as goal

pub bounds-keys_right-place : goal.bounds-keys_right-place
bounds-keys_right-place c = let many = c.requires in omega (arith, c.loop-place-test.true, many)

pub loop-place-preserved : goal.loop-place-preserved
loop-place-preserved c =
    let ls = c.args.keys_left.now in
    let rs = c.args.keys_right.now in
    let p = c.loop-place.place in
    let f : Name × Name → Name = stands_as (names_of (table_of c.args.df_left.now)) c.args.suffix.now in
    let x = c.index-keys_left-place.result in
    let y = c.index-keys_right-place.result in
    let next : p + 1 ≡ suc p = omega arith in
    let made = c.in_ok-standing_name.ensures (names_of (table_of c.args.df_left.now)) (λ n. c.in_ok-taken.ensures n ∙ ap (λ (cs : List Col). is_among (names_of (table_of cs)) n) c.get_columns.ensures.columns) in
    c.in_ok-push.ensures.items ∙ (λ t. c.loop-place.invariant t ++ made t ∷ [])
    ∙ sym (zip-more f ls rs p x y c.requires (omega (arith, c.loop-place-test.true)) c.index-keys_left-place.is c.index-keys_right-place.is)
    ∙ (λ t. map f (zip (take (sym next t) ls) (take (sym next t) rs)))

pub returns : goal.returns
returns c =
    let ls = c.args.keys_left.now in
    let rs = c.args.keys_right.now in
    let f : Name × Name → Name = stands_as (names_of (table_of c.args.df_left.now)) c.args.suffix.now in
    let many = c.requires in
    c.loop-place.invariant ∙ (λ t. map f (zip (take_all c.loop-place.place ls (omega arith) t) (take_all c.loop-place.place rs (omega (arith, many)) t)))
