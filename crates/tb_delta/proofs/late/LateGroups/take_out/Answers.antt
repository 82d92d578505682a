use Rattle.std.proofs.Common.{◌∙◌, ap, sym, refl, Bool, if◌then◌else◌, ◌&&◌}
use Rattle.tb_value.specs.See.{datum}
use Rattle.tb_delta.specs.Groups.{ids_at, is_side, ties, without_where}
use Rattle.tb_delta.specs.Late.{KeepsIds}
use Rattle.tb_delta.specs.declared.late.LateGroups.{LateGroups}
use Rattle.tb_delta.proofs.Grouped.{either}
use Rattle.tb_delta.proofs.LateGroups.{same_groups, taken_after, takes}
use Rattle.tb_delta.proofs.late.LateGroups.take_out.Goals as goal

pub take_few-told-requires : goal.take_few-told-requires
take_few-told-requires c = c.settle_told.ensures.keeps.ascend

pub returns-then-is_out-clause-taken : goal.returns-then-is_out-clause-taken
returns-then-is_out-clause-taken c =
    let mid : LateGroups = c.settle_told.new.self in
    let few = c.take_few-told in
    let key = datum c.args.key.now.value in
    taken_after c.args.self.now mid (record { groups = few.new.self; gone = mid.gone }) c.args.side (ties key) c.args.id c.settle_told.ensures.keeps
    (takes mid few.new.self mid.gone c.args.side c.args.key.now c.args.id c.settle_told.ensures.keeps.ascend (λ s k. refl)
    (λ s k. few.ensures.ids s k ∙ ap (λ (b : Bool). if is_side c.args.side s && ties key (datum k.value) then without_where b c.args.id (ids_at mid.groups s k) else ids_at mid.groups s k) c.if-is_out.true))

pub take_out_later-requires : goal.take_out_later-requires
take_out_later-requires c =
    let mid : LateGroups = c.settle_told.new.self in
    let few = c.take_few-told in
    let key = datum c.args.key.now.value in
    let same : KeepsIds mid (record { groups = few.new.self; gone = mid.gone }) = same_groups mid few.new.self c.settle_told.ensures.keeps.ascend
    (λ s k. few.ensures.ids s k ∙ ap (λ (b : Bool). if is_side c.args.side s && ties key (datum k.value) then without_where b c.args.id (ids_at mid.groups s k) else ids_at mid.groups s k) c.if-is_out.false
    ∙ sym (either (is_side c.args.side s && ties key (datum k.value)) (ids_at mid.groups s k))) in
    same.ascend

pub returns-clause-taken : goal.returns-clause-taken
returns-clause-taken c =
    let mid : LateGroups = c.settle_told.new.self in
    let few = c.take_few-told in
    let key = datum c.args.key.now.value in
    let same : KeepsIds mid (record { groups = few.new.self; gone = mid.gone }) = same_groups mid few.new.self c.settle_told.ensures.keeps.ascend
    (λ s k. few.ensures.ids s k ∙ ap (λ (b : Bool). if is_side c.args.side s && ties key (datum k.value) then without_where b c.args.id (ids_at mid.groups s k) else ids_at mid.groups s k) c.if-is_out.false
    ∙ sym (either (is_side c.args.side s && ties key (datum k.value)) (ids_at mid.groups s k))) in
    taken_after c.args.self.now mid c.take_out_later.new.self c.args.side (ties key) c.args.id c.settle_told.ensures.keeps
    (taken_after mid (record { groups = few.new.self; gone = mid.gone }) c.take_out_later.new.self c.args.side (ties key) c.args.id same c.take_out_later.ensures)
