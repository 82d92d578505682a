use Rattle.std.proofs.Common.{◌≡◌, ◌∙◌, ◌<◌, [], ap, sym, subst, List, if◌then◌else◌, refl, length, arith}
use Rattle.std.proofs.lemmas.List.{length-map}
use Rattle.tb_value.specs.Promise.Datum.{Datum}
use Rattle.tb_value.specs.Promise.Typed.{FitsFields}
use Rattle.tb_value.specs.See.{datum, data_of}
use Rattle.tb_value.specs.declared.any_value.AnyValue.{AnyValue}
use Rattle.tb_value.specs.declared.error.Side.{Side}
use Rattle.tb_delta.specs.Changing.{IsChanging}
use Rattle.tb_delta.specs.Groups.{ids_at}
use Rattle.tb_delta.specs.Inside.{agreeing, key_of, side_state}
use Rattle.tb_delta.specs.Late.{ids_left}
use Rattle.tb_delta.specs.declared.late.LateGroups.{LateGroups}
use Rattle.tb_delta.proofs.Placed.{key_at, key_low}
use Rattle.tb_delta.proofs.Changed.{among_others, inserted, kept_ids, not_put, own_rows, pushed, told_last, unchanged, where_told}
use Rattle.tb_delta.proofs.changing.insert_row.Goals as goal

pub index-requires : goal.index-requires
index-requires c =
    let own = c.args.own.now in
    let row : List Datum = data_of c.args.row.items in
    let fits : FitsFields (side_state own).columns row = subst (λ (vs : List AnyValue). FitsFields (side_state own).columns (data_of vs)) c.deref.ensures.value c.in_ok-check.ensures.0 in
    omega (arith, key_low own c.requires.own_placed row fits, length-map c.args.row.items datum, c.args.row.ok.0)

pub put_row-requires-clause-keyed : goal.put_row-requires-clause-keyed
put_row-requires-clause-keyed c =
    let own = c.args.own.now in
    let row : List Datum = data_of c.args.row.items in
    let fits : FitsFields (side_state own).columns row = subst (λ (vs : List AnyValue). FitsFields (side_state own).columns (data_of vs)) c.deref.ensures.value c.in_ok-check.ensures.0 in
    let low : own.key < length c.args.row.items = omega (arith, key_low own c.requires.own_placed row fits, length-map c.args.row.items datum) in
    c.in-Ok.ensures ∙ key_at own c.requires.own_placed c.args.row.items c.index.result.now low c.index.ensures

pub put_row-requires-clause-fits : goal.put_row-requires-clause-fits
put_row-requires-clause-fits c = subst (λ (vs : List AnyValue). FitsFields (side_state c.args.own.now).columns (data_of vs)) c.deref.ensures.value c.in_ok-check.ensures.0

pub put_row-requires-clause-below : goal.put_row-requires-clause-below
put_row-requires-clause-below c = λ k.
    let own = c.args.own.now in
    let others = c.args.others.now in
    let row : List Datum = data_of c.args.row.items in
    let settled : LateGroups = c.settle_told.new.self in
    let mid : IsChanging c.args.side own others c.args.join_nulls settled = kept_ids c.args.side own others c.args.join_nulls c.args.groups.now settled c.requires c.settle_told.ensures.keeps in
    let fits : FitsFields (side_state own).columns row = subst (λ (vs : List AnyValue). FitsFields (side_state own).columns (data_of vs)) c.deref.ensures.value c.in_ok-check.ensures.0 in
    (mid.own_below k).0

pub returns-in-Ok-put_row-clause-changing : goal.returns-in-Ok-put_row-clause-changing
returns-in-Ok-put_row-clause-changing c =
    let own = c.args.own.now in
    let others = c.args.others.now in
    let row : List Datum = data_of c.args.row.items in
    let settled : LateGroups = c.settle_told.new.self in
    let mid : IsChanging c.args.side own others c.args.join_nulls settled = kept_ids c.args.side own others c.args.join_nulls c.args.groups.now settled c.requires c.settle_told.ensures.keeps in
    let fits : FitsFields (side_state own).columns row = subst (λ (vs : List AnyValue). FitsFields (side_state own).columns (data_of vs)) c.deref.ensures.value c.in_ok-check.ensures.0 in
    let new = c.put_row.new.rows in
    let late : LateGroups = record { groups = c.put_row.new.groups; gone = settled.gone } in
    pushed own others new c.args.join_nulls settled c.put_row.new.groups row c.in-Ok-put_row.ensures.rows c.args.side mid fits c.in_ok-check.ensures.1 c.put_row.ensures.placed c.in-Ok-put_row.ensures.groups

pub returns-in-Ok-put_row-clause-done : goal.returns-in-Ok-put_row-clause-done
returns-in-Ok-put_row-clause-done c =
    let own = c.args.own.now in
    let others = c.args.others.now in
    let row : List Datum = data_of c.args.row.items in
    let settled : LateGroups = c.settle_told.new.self in
    let mid : IsChanging c.args.side own others c.args.join_nulls settled = kept_ids c.args.side own others c.args.join_nulls c.args.groups.now settled c.requires c.settle_told.ensures.keeps in
    let fits : FitsFields (side_state own).columns row = subst (λ (vs : List AnyValue). FitsFields (side_state own).columns (data_of vs)) c.deref.ensures.value c.in_ok-check.ensures.0 in
    let new = c.put_row.new.rows in
    let late : LateGroups = record { groups = c.put_row.new.groups; gone = settled.gone } in
    let nulls = c.args.join_nulls in
    let put : IsChanging c.args.side new others nulls late =
    pushed own others new nulls settled c.put_row.new.groups row c.in-Ok-put_row.ensures.rows c.args.side mid fits c.in_ok-check.ensures.1 c.put_row.ensures.placed c.in-Ok-put_row.ensures.groups in
    let key = c.in-Ok.key in
    let low : own.key < length c.args.row.items = omega (arith, key_low own c.requires.own_placed row fits, length-map c.args.row.items datum) in
    let keyed : datum key.value ≡ key_of (side_state own) row = c.in-Ok.ensures ∙ key_at own c.requires.own_placed c.args.row.items c.index.result.now low c.index.ensures in
    inserted own others new nulls row fits c.in_ok-check.ensures.1 c.args.tells c.args.side late own.ever c.in-Ok-put_row.ids put c.in-Ok-put_row.ensures.rows refl
    (c.in-Ok-put_row.ensures.told
    ∙ sym (ap (λ (d : Side). if c.args.tells then ids_at settled.groups d key else []) c.other.ensures)
    ∙ c.settle_told.ensures.settled
    ∙ ap (λ (d : Side). if c.args.tells then ids_left c.args.groups.now d key else []) c.other.ensures
    ∙ where_told c.args.tells (among_others c.args.side own others nulls c.args.groups.now c.requires key
    ∙ ap (agreeing nulls (side_state others)) keyed
    ∙ told_last own others new nulls row (own_rows c.args.side own others nulls c.args.groups.now c.requires) c.in-Ok-put_row.ensures.rows))

pub returns-in-Err-clause-changing : goal.returns-in-Err-clause-changing
returns-in-Err-clause-changing c =
    let own = c.args.own.now in
    let others = c.args.others.now in
    let row : List Datum = data_of c.args.row.items in
    let settled : LateGroups = c.settle_told.new.self in
    let mid : IsChanging c.args.side own others c.args.join_nulls settled = kept_ids c.args.side own others c.args.join_nulls c.args.groups.now settled c.requires c.settle_told.ensures.keeps in
    let fits : FitsFields (side_state own).columns row = subst (λ (vs : List AnyValue). FitsFields (side_state own).columns (data_of vs)) c.deref.ensures.value c.in_ok-check.ensures.0 in
    let new = c.put_row.new.rows in
    let late : LateGroups = record { groups = c.put_row.new.groups; gone = settled.gone } in
    unchanged c.args.side own new others c.args.join_nulls settled c.put_row.new.groups mid c.put_row.ensures.placed c.in-Err.ensures.rows_stay c.in-Err.ensures.groups_stay

pub returns-in-Err-clause-done : goal.returns-in-Err-clause-done
returns-in-Err-clause-done c =
    let own = c.args.own.now in
    let others = c.args.others.now in
    let row : List Datum = data_of c.args.row.items in
    let settled : LateGroups = c.settle_told.new.self in
    let mid : IsChanging c.args.side own others c.args.join_nulls settled = kept_ids c.args.side own others c.args.join_nulls c.args.groups.now settled c.requires c.settle_told.ensures.keeps in
    let fits : FitsFields (side_state own).columns row = subst (λ (vs : List AnyValue). FitsFields (side_state own).columns (data_of vs)) c.deref.ensures.value c.in_ok-check.ensures.0 in
    let new = c.put_row.new.rows in
    let late : LateGroups = record { groups = c.put_row.new.groups; gone = settled.gone } in
    not_put own others new c.args.join_nulls row fits c.in_ok-check.ensures.1 c.args.side c.in-Err.ensures.rows_stay
