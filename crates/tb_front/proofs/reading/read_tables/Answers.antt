use Rattle.std.proofs.Common.{◌∙◌, ap, sym, subst, Result, List}
use Rattle.std.proofs.lemmas.Result.{err_from_is_err_and}
use Rattle.tb_csv.specs.Promise.Keys.{types_with_keys}
use Rattle.tb_csv.specs.Promise.Records.{records_of}
use Rattle.tb_csv.specs.declared.options.TypeOf.{TypeOf}
use Rattle.tb_csv.specs.declared.records.Records.{Records}
use Rattle.tb_front.specs.Promise.Faults.{no_table, unknown_type}
use Rattle.tb_front.specs.Tables.{AreJoined}
use Rattle.tb_front.specs.Texts.{AreRecordsAt}
use Rattle.tb_front.specs.declared.fault.FrontFault.{FrontFault}
use Rattle.tb_front.specs.declared.fault.Place.TheVariants.{First, Second}
use Rattle.tb_front.proofs.Read.{apart, both_pass, left_refused, passed_by, refused_by, right_refused}
use Rattle.tb_front.proofs.reading.read_tables.Goals as goal

pub returns-in-Some-clause-settles : goal.returns-in-Some-clause-settles
returns-in-Some-clause-settles g c =
    let o = c.args.options.now in
    let l = c.args.left.items in
    let r = c.args.right.items in
    let ls = records_of o.separator l in
    let rs = records_of o.separator r in
    let first = subst (λ (x : Result Records FrontFault). AreRecordsAt o First l x) c.in_ok-first.was (rw c.deref.ensures.value at c.read_both-first.ensures.left) in
    let second = subst (λ (x : Result Records FrontFault). AreRecordsAt o Second r x) c.in_ok-second.was (rw c.deref-2.ensures.value at c.read_both-first.ensures.right) in
    let known = (λ i. unknown_type (sym c.as_slice-given.ensures.value i) (sym (c.names_of.ensures ls first.read) i) (sym (c.names_of-2.ensures rs second.read) i)) ∙ c.in_ok-check_types.ensures in
    let joined = subst (λ (ts : List TypeOf). AreJoined ts c.args.left_on.now c.args.right_on.now ls rs c.in-Some.tables) c.as_slice-given.ensures.value
    (c.in-Some.ensures ls rs first.read second.read (apart o First l first.settles) (apart o Second r second.settles)) in
    both_pass o l r c.args.left_on.now c.args.right_on.now first.settles second.settles known (ap (no_table o.separator First l) joined.left.sound) (ap (no_table o.separator Second r) joined.right.sound)

pub returns-in-Some-clause-left : goal.returns-in-Some-clause-left
returns-in-Some-clause-left g c =
    let o = c.args.options.now in
    let l = c.args.left.items in
    let r = c.args.right.items in
    let ls = records_of o.separator l in
    let rs = records_of o.separator r in
    let first = subst (λ (x : Result Records FrontFault). AreRecordsAt o First l x) c.in_ok-first.was (rw c.deref.ensures.value at c.read_both-first.ensures.left) in
    let second = subst (λ (x : Result Records FrontFault). AreRecordsAt o Second r x) c.in_ok-second.was (rw c.deref-2.ensures.value at c.read_both-first.ensures.right) in
    let joined = subst (λ (ts : List TypeOf). AreJoined ts c.args.left_on.now c.args.right_on.now ls rs c.in-Some.tables) c.as_slice-given.ensures.value
    (c.in-Some.ensures ls rs first.read second.read (apart o First l first.settles) (apart o Second r second.settles)) in
    joined.left.table

pub returns-in-Some-clause-right : goal.returns-in-Some-clause-right
returns-in-Some-clause-right g c =
    let o = c.args.options.now in
    let l = c.args.left.items in
    let r = c.args.right.items in
    let ls = records_of o.separator l in
    let rs = records_of o.separator r in
    let first = subst (λ (x : Result Records FrontFault). AreRecordsAt o First l x) c.in_ok-first.was (rw c.deref.ensures.value at c.read_both-first.ensures.left) in
    let second = subst (λ (x : Result Records FrontFault). AreRecordsAt o Second r x) c.in_ok-second.was (rw c.deref-2.ensures.value at c.read_both-first.ensures.right) in
    let joined = subst (λ (ts : List TypeOf). AreJoined ts c.args.left_on.now c.args.right_on.now ls rs c.in-Some.tables) c.as_slice-given.ensures.value
    (c.in-Some.ensures ls rs first.read second.read (apart o First l first.settles) (apart o Second r second.settles)) in
    joined.right.table

pub returns-in_err-left-clause-settles : goal.returns-in_err-left-clause-settles
returns-in_err-left-clause-settles g c =
    let o = c.args.options.now in
    let l = c.args.left.items in
    let r = c.args.right.items in
    let ls = records_of o.separator l in
    let rs = records_of o.separator r in
    let first = subst (λ (x : Result Records FrontFault). AreRecordsAt o First l x) c.in_ok-first.was (rw c.deref.ensures.value at c.read_both-first.ensures.left) in
    let second = subst (λ (x : Result Records FrontFault). AreRecordsAt o Second r x) c.in_ok-second.was (rw c.deref-2.ensures.value at c.read_both-first.ensures.right) in
    let known = (λ i. unknown_type (sym c.as_slice-given.ensures.value i) (sym (c.names_of.ensures ls first.read) i) (sym (c.names_of-2.ensures rs second.read) i)) ∙ c.in_ok-check_types.ensures in
    let left_types = c.deref-3.ensures.value ∙ c.in_ok-left_types.ensures.types ls rs first.read second.read ∙ (λ i. types_with_keys (c.as_slice-given.ensures.value i) ls rs c.args.left_on.now c.args.right_on.now) in
    let p = err_from_is_err_and c.from_residual-in_err-left.result c.from_residual-in_err-left.ensures.1 in
    rw (p.1, p.2) (left_refused o l r c.args.left_on.now c.args.right_on.now first.settles second.settles known _ (refused_by o.separator First l ls c.kept_both-left.result.0 _ _ left_types _ (c.in_err-left.ensures.settles ls l first.read) (c.kept_both-left.ensures.left c.args.left_on.now c.args.right_on.now (apart o First l first.settles))))

pub returns-in_err-right-clause-settles : goal.returns-in_err-right-clause-settles
returns-in_err-right-clause-settles g c =
    let o = c.args.options.now in
    let l = c.args.left.items in
    let r = c.args.right.items in
    let ls = records_of o.separator l in
    let rs = records_of o.separator r in
    let first = subst (λ (x : Result Records FrontFault). AreRecordsAt o First l x) c.in_ok-first.was (rw c.deref.ensures.value at c.read_both-first.ensures.left) in
    let second = subst (λ (x : Result Records FrontFault). AreRecordsAt o Second r x) c.in_ok-second.was (rw c.deref-2.ensures.value at c.read_both-first.ensures.right) in
    let known = (λ i. unknown_type (sym c.as_slice-given.ensures.value i) (sym (c.names_of.ensures ls first.read) i) (sym (c.names_of-2.ensures rs second.read) i)) ∙ c.in_ok-check_types.ensures in
    let left_types = c.deref-3.ensures.value ∙ c.in_ok-left_types.ensures.types ls rs first.read second.read ∙ (λ i. types_with_keys (c.as_slice-given.ensures.value i) ls rs c.args.left_on.now c.args.right_on.now) in
    let right_types = c.deref-4.ensures.value ∙ c.in_ok-right_types.ensures.types rs ls second.read first.read ∙ (λ i. types_with_keys (c.as_slice-given.ensures.value i) rs ls c.args.right_on.now c.args.left_on.now) in
    let none = passed_by o.separator First l ls c.kept_both-left.result.0 _ _ left_types (c.in_ok-left.ensures.settles ls l first.read) (c.kept_both-left.ensures.left c.args.left_on.now c.args.right_on.now (apart o First l first.settles)) in
    let p = err_from_is_err_and c.from_residual-in_err-right.result c.from_residual-in_err-right.ensures.1 in
    rw (p.1, p.2) (right_refused o l r c.args.left_on.now c.args.right_on.now first.settles second.settles known _ none (refused_by o.separator Second r rs c.kept_both-left.result.1 _ _ right_types _ (c.in_err-right.ensures.settles rs r second.read) (c.kept_both-left.ensures.right c.args.left_on.now c.args.right_on.now (apart o Second r second.settles))))

pub returns-clause-settles : goal.returns-clause-settles
returns-clause-settles g c =
    let o = c.args.options.now in
    let l = c.args.left.items in
    let r = c.args.right.items in
    let ls = records_of o.separator l in
    let rs = records_of o.separator r in
    let first = subst (λ (x : Result Records FrontFault). AreRecordsAt o First l x) c.in_ok-first.was (rw c.deref.ensures.value at c.read_both-first.ensures.left) in
    let second = subst (λ (x : Result Records FrontFault). AreRecordsAt o Second r x) c.in_ok-second.was (rw c.deref-2.ensures.value at c.read_both-first.ensures.right) in
    let known = (λ i. unknown_type (sym c.as_slice-given.ensures.value i) (sym (c.names_of.ensures ls first.read) i) (sym (c.names_of-2.ensures rs second.read) i)) ∙ c.in_ok-check_types.ensures in
    let left_types = c.deref-3.ensures.value ∙ c.in_ok-left_types.ensures.types ls rs first.read second.read ∙ (λ i. types_with_keys (c.as_slice-given.ensures.value i) ls rs c.args.left_on.now c.args.right_on.now) in
    let right_types = c.deref-4.ensures.value ∙ c.in_ok-right_types.ensures.types rs ls second.read first.read ∙ (λ i. types_with_keys (c.as_slice-given.ensures.value i) rs ls c.args.right_on.now c.args.left_on.now) in
    both_pass o l r c.args.left_on.now c.args.right_on.now first.settles second.settles known (passed_by o.separator First l ls c.kept_both-left.result.0 _ _ left_types (c.in_ok-left.ensures.settles ls l first.read) (c.kept_both-left.ensures.left c.args.left_on.now c.args.right_on.now (apart o First l first.settles)))
    (passed_by o.separator Second r rs c.kept_both-left.result.1 _ _ right_types (c.in_ok-right.ensures.settles rs r second.read) (c.kept_both-left.ensures.right c.args.left_on.now c.args.right_on.now (apart o Second r second.settles)))
