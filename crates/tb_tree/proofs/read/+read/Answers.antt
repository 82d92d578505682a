use Rattle.std.proofs.Common.{option_map, ◌≡◌, ◌-◌, ◌<◌, [], ◌∷◌, ◌++◌, map, length, Some, None, refl, to_z, of_z, w64, string_bytes, sym, ap, ap₂, ◌∙◌, arith, rules}
use Rattle.std.proofs.lemmas.List.{map_push}
use Rattle.json.specs.Token.{Token}
use Rattle.json.specs.Json.{parse_map, after_end_array, read_key, items, members, value}
use Rattle.json.specs.Reads.{token_of}
use Rattle.json.proofs.Grammar.{value_is, value-begin_array, value-begin_object, read_key-shorter}
use Rattle.serde_json.specs.Data.{null, boolean, array, object, put}
use Rattle.serde_json.specs.Read.{of_json, of_members, converted}
use Rattle.serde_json.specs.View.{items_of}
use Rattle.tb_tree.specs.Arrays.{array_after}
use Rattle.tb_tree.specs.Begun.{begun_view}
use Rattle.tb_tree.specs.View.{view, items_view, members_view, whole}
use Rattle.tb_tree.specs.declared.value.Value.{Bool, Null, Empty, the_lemmas}
use Rattle.tb_tree.proofs.Views.{view-Array, view-Object, view-Wholes, members_view-insert_entry}
use Rattle.tb_tree.proofs.Reading.{converted-array, converted-object, member_read, member_refused, key_refused, members_over, array_after-more, array_after-refused, array_after-end, array_after-none}
use Rattle.tb_tree.proofs.read.+read.Goals as goal

pub read-returns-in_err-token-clause-err : goal.read-returns-in_err-token-clause-err
read-returns-in_err-token-clause-err t c refused =
    let empty : c.args.reader.now ≡ [] = grind arith in
    ap (converted of_json) (ap (value c.args.depth) empty ∙ value_is c.args.depth [])

pub read-returns-clause-ok : goal.read-returns-clause-ok
read-returns-clause-ok t c =
    let first : c.args.reader.now ≡ token_of c.in_ok-token.token ∷ c.next.new.self = grind arith in
    rw (ap (λ ts. converted of_json (value c.args.depth ts)) first) c.read_from.ensures.ok

pub read-returns-clause-err : goal.read-returns-clause-err
read-returns-clause-err t c refused =
    let first : c.args.reader.now ≡ token_of c.in_ok-token.token ∷ c.next.new.self = grind arith in
    ap (λ ts. converted of_json (value c.args.depth ts)) first ∙ c.read_from.ensures.err refused

-- ---- behind the first token

pub read_from-returns-then-depth-eq0-clause-err : goal.read_from-returns-then-depth-eq0-clause-err
unfolding value
read_from-returns-then-depth-eq0-clause-err t c never =
    let none : c.args.depth ≡ 0 = omega arith in
    ap (converted of_json) (ap₂ value none (ap (λ k. token_of k ∷ c.args.reader.now) c.in-BeginArray.is))

pub read_from-returns-then-depth-eq0-2-clause-err : goal.read_from-returns-then-depth-eq0-2-clause-err
unfolding value
read_from-returns-then-depth-eq0-2-clause-err t c never =
    let none : c.args.depth ≡ 0 = omega arith in
    ap (converted of_json) (ap₂ value none (ap (λ k. token_of k ∷ c.args.reader.now) c.in-BeginObject.is))

pub read_from-returns-in_ok-text_of-in-String-clause-ok : goal.read_from-returns-in_ok-text_of-in-String-clause-ok
read_from-returns-in_ok-text_of-in-String-clause-ok t c =
    ap (λ k. converted of_json (value c.args.depth (token_of k ∷ c.args.reader.now))) c.in-String.is ∙ ap (converted of_json) (value_is c.args.depth _)
    ∙ ap (λ d. Some (d, c.args.reader.now)) (sym c.in_ok-text_of-in-String.ensures)

pub read_from-returns-in_ok-number_in-in-Number-clause-ok : goal.read_from-returns-in_ok-number_in-in-Number-clause-ok
read_from-returns-in_ok-number_in-in-Number-clause-ok t c =
    ap (λ k. converted of_json (value c.args.depth (token_of k ∷ c.args.reader.now))) c.in-Number.is ∙ ap (converted of_json) (value_is c.args.depth _)
    ∙ ap (option_map (λ d. (d, c.args.reader.now))) c.in_ok-number_in-in-Number.ensures.ok

pub read_from-returns-in_err-number_in-in-Number-clause-err : goal.read_from-returns-in_err-number_in-in-Number-clause-err
read_from-returns-in_err-number_in-in-Number-clause-err t c refused =
    ap (λ k. converted of_json (value c.args.depth (token_of k ∷ c.args.reader.now))) c.in-Number.is ∙ ap (converted of_json) (value_is c.args.depth _)
    ∙ ap (option_map (λ d. (d, c.args.reader.now))) c.in_err-number_in-in-Number.ensures.err

pub read_from-returns-in-Bool-clause-ok : goal.read_from-returns-in-Bool-clause-ok
read_from-returns-in-Bool-clause-ok t c =
    let seen : view (Bool c.in-Bool.b) ≡ boolean c.in-Bool.b = search (rules, the_lemmas) in
    ap (λ k. converted of_json (value c.args.depth (token_of k ∷ c.args.reader.now))) c.in-Bool.is ∙ ap (converted of_json) (value_is c.args.depth _)
    ∙ ap (λ d. Some (d, c.args.reader.now)) (sym seen)

pub read_from-returns-in-Null-clause-ok : goal.read_from-returns-in-Null-clause-ok
read_from-returns-in-Null-clause-ok t c =
    let seen : view (Null) ≡ null = search (rules, the_lemmas) in
    ap (λ k. converted of_json (value c.args.depth (token_of k ∷ c.args.reader.now))) c.in-Null.is ∙ ap (converted of_json) (value_is c.args.depth _)
    ∙ ap (λ d. Some (d, c.args.reader.now)) (sym seen)

pub read_from-returns-in-EndObject-clause-err : goal.read_from-returns-in-EndObject-clause-err
read_from-returns-in-EndObject-clause-err t c refused =
    let none : value c.args.depth (token_of c.args.token ∷ c.args.reader.now) ≡ None = rw (value_is c.args.depth (token_of c.args.token ∷ c.args.reader.now)) (grind arith) in
    ap (converted of_json) none

pub read_from-returns-in_err-members-in-BeginObject-clause-err : goal.read_from-returns-in_err-members-in-BeginObject-clause-err
read_from-returns-in_err-members-in-BeginObject-clause-err t c refused =
    let opened = ap (converted of_json) (ap (λ k. value c.args.depth (token_of k ∷ c.args.reader.now)) c.in-BeginObject.is ∙ value-begin_object c.args.depth c.args.reader.now (omega arith)) ∙ converted-object (members (value (c.args.depth - 1)) (length c.args.reader.now) c.args.reader.now) in
    opened ∙ ap (parse_map object) (c.read_members.ensures.err (grind arith))

pub read_from-returns-in_ok-new-in-BeginObject-clause-ok : goal.read_from-returns-in_ok-new-in-BeginObject-clause-ok
read_from-returns-in_ok-new-in-BeginObject-clause-ok t c =
    let opened = ap (converted of_json) (ap (λ k. value c.args.depth (token_of k ∷ c.args.reader.now)) c.in-BeginObject.is ∙ value-begin_object c.args.depth c.args.reader.now (omega arith)) ∙ converted-object (members (value (c.args.depth - 1)) (length c.args.reader.now) c.args.reader.now) in
    let found = c.in_ok-members-in-BeginObject in
    opened ∙ ap (parse_map object) found.ensures.ok ∙ ap (λ d. Some (d, c.read_members.new.reader)) (ap (λ m. object (members_view m.entries)) (sym c.in_ok-new-in-BeginObject.ensures.ok) ∙ sym (view-Object c.in_ok-new-in-BeginObject.field-0))

pub read_from-returns-else-depth-eq0-clause-ok : goal.read_from-returns-else-depth-eq0-clause-ok
read_from-returns-else-depth-eq0-clause-ok t c =
    let opened = ap (converted of_json) (ap (λ k. value c.args.depth (token_of k ∷ c.args.reader.now)) c.in-BeginArray.is ∙ value-begin_array c.args.depth c.args.reader.now (omega arith)) ∙ converted-array (items (value (c.args.depth - 1)) (length c.args.reader.now) c.args.reader.now) ∙ array_after-none (c.args.depth - 1) (length c.args.reader.now) c.args.reader.now in
    rw opened c.read_array.ensures.ok

pub read_from-returns-else-depth-eq0-clause-err : goal.read_from-returns-else-depth-eq0-clause-err
read_from-returns-else-depth-eq0-clause-err t c refused =
    let opened = ap (converted of_json) (ap (λ k. value c.args.depth (token_of k ∷ c.args.reader.now)) c.in-BeginArray.is ∙ value-begin_array c.args.depth c.args.reader.now (omega arith)) ∙ converted-array (items (value (c.args.depth - 1)) (length c.args.reader.now) c.args.reader.now) ∙ array_after-none (c.args.depth - 1) (length c.args.reader.now) c.args.reader.now in
    opened ∙ c.read_array.ensures.err refused

pub read_members-members-init : goal.read_members-members-init
read_members-members-init t c =
    let all = members (value c.args.depth) (length c.args.reader.now) c.args.reader.now in
    (length c.args.reader.now, omega arith, ap (λ es. converted (λ ms. of_members ms (members_view es)) all) (sym c.new-found.ensures.empty), omega arith)

pub read_members-returns-in_err-name-clause-err : goal.read_members-returns-in_err-name-clause-err
read_members-returns-in_err-name-clause-err t c refused =
    let p = value c.args.depth in
    let l = c.members in
    let n = l.invariant.0 in
    let old = members_view l.found.entries in
    l.invariant.2 ∙ key_refused p old n l.reader c.in_err-name.ensures.value

pub read_members-returns-in_err-member-clause-err : goal.read_members-returns-in_err-member-clause-err
read_members-returns-in_err-member-clause-err t c refused =
    let p = value c.args.depth in
    let l = c.members in
    let n = l.invariant.0 in
    let old = members_view l.found.entries in
    let k = c.in-Some.name.now in
    let s = c.next_key.new.self in
    let named : read_key l.reader ≡ Some (Some k, s) = grind arith in
    l.invariant.2 ∙ member_refused p old n k l.reader s named (c.read.ensures.err (grind arith))

pub read_members-members-preserved : goal.read_members-members-preserved
read_members-members-preserved t c =
    let p = value c.args.depth in
    let l = c.members in
    let n = l.invariant.0 in
    let old = members_view l.found.entries in
    let k = c.in-Some.name.now in
    let s = c.next_key.new.self in
    let named : read_key l.reader ≡ Some (Some k, s) = grind arith in
    let done = c.in_ok-member.ensures in
    let v = c.in_ok-member.member in
    let r = c.read.new.reader in
    let less = read_key-shorter l.reader (Some k) s named in
    let lesser = done.shorter in
    let copied : string_bytes c.in_ok-key.key ≡ k = search rules in
    let inserted : members_view c.insert.new.self.entries ≡ put k (view v) old =
    ap members_view c.in_ok-insert.ensures.entries ∙ members_view-insert_entry l.found.entries c.in_ok-key.key v ∙ ap (λ name. put name (view v) old) copied in (
      n - 1,
      omega (arith, l.invariant.1),
      l.invariant.2 ∙ member_read p old n k l.reader s r (view v) (omega (arith, l.invariant.1)) named done.ok
          ∙ ap (λ found. converted (λ ms. of_members ms found) (members p (n - 1) r)) (sym inserted),
      omega (arith, l.invariant.3),
    )

pub read_members-returns-clause-ok : goal.read_members-returns-clause-ok
read_members-returns-clause-ok t c =
    let p = value c.args.depth in
    let l = c.members in
    let n = l.invariant.0 in
    let old = members_view l.found.entries in
    l.invariant.2 ∙ members_over p old n l.reader c.next_key.new.self l.invariant.1 (grind arith)

-- ---- arrays

pub next_item-returns-in_err-token-clause-err : goal.next_item-returns-in_err-token-clause-err
next_item-returns-in_err-token-clause-err t c refused =
    let empty : c.args.reader.now ≡ [] = grind arith in
    (ap after_end_array empty, ap (converted of_json) (ap (value c.args.depth) empty ∙ value_is c.args.depth []))

pub next_item-returns-in-EndArray-clause-ok : goal.next_item-returns-in-EndArray-clause-ok
next_item-returns-in-EndArray-clause-ok t c =
    let first : c.args.reader.now ≡ token_of c.in_ok-token.token ∷ c.next.new.self = grind arith in
    ap after_end_array (first ∙ ap (λ k. token_of k ∷ c.next.new.self) c.in-EndArray.is)

pub next_item-returns-in_ok-number_in-in-Number-clause-ok : goal.next_item-returns-in_ok-number_in-in-Number-clause-ok
next_item-returns-in_ok-number_in-in-Number-clause-ok t c =
    let first : c.args.reader.now ≡ token_of c.in_ok-token.token ∷ c.next.new.self = grind arith in
    let is : c.args.reader.now ≡ Token.number c.in-Number.text.now ∷ c.next.new.self = first ∙ ap (λ k. token_of k ∷ c.next.new.self) c.in-Number.is in (
      ap after_end_array is,
      ap (converted of_json) (ap (value c.args.depth) is ∙ value_is c.args.depth _) ∙ ap (option_map (λ d. (d, c.next.new.self))) c.in_ok-number_in-in-Number.ensures.ok,
    )

pub next_item-returns-in_err-number_in-in-Number-clause-err : goal.next_item-returns-in_err-number_in-in-Number-clause-err
next_item-returns-in_err-number_in-in-Number-clause-err t c refused =
    let first : c.args.reader.now ≡ token_of c.in_ok-token.token ∷ c.next.new.self = grind arith in
    let is : c.args.reader.now ≡ Token.number c.in-Number.text.now ∷ c.next.new.self = first ∙ ap (λ k. token_of k ∷ c.next.new.self) c.in-Number.is in (
      ap after_end_array is,
      ap (converted of_json) (ap (value c.args.depth) is ∙ value_is c.args.depth _) ∙ ap (option_map (λ d. (d, c.next.new.self))) c.in_err-number_in-in-Number.ensures.err,
    )

pub next_item-returns-in_ok-read_from-in-BeginArray-clause-ok : goal.next_item-returns-in_ok-read_from-in-BeginArray-clause-ok
next_item-returns-in_ok-read_from-in-BeginArray-clause-ok t c =
    let first : c.args.reader.now ≡ token_of c.in_ok-token.token ∷ c.next.new.self = grind arith in
    (grind (arith, first), ap (λ ts. converted of_json (value c.args.depth ts)) first ∙ c.in_ok-read_from-in-BeginArray.ensures.ok)

pub next_item-returns-in_err-read_from-in-BeginArray-clause-err : goal.next_item-returns-in_err-read_from-in-BeginArray-clause-err
next_item-returns-in_err-read_from-in-BeginArray-clause-err t c refused =
    let first : c.args.reader.now ≡ token_of c.in_ok-token.token ∷ c.next.new.self = grind arith in
    (grind (arith, first), ap (λ ts. converted of_json (value c.args.depth ts)) first ∙ c.read_from.ensures.err (grind arith))

pub read_array-returns-in_default-clause-ok : goal.read_array-returns-in_default-clause-ok
read_array-returns-in_default-clause-ok t c =
    let seen : view Empty ≡ array (items_of []) = search (rules, the_lemmas) in
    array_after-end [] c.args.depth (length c.args.reader.now) c.args.reader.now c.next_item.new.reader (omega arith) (grind arith) ∙ ap (λ d. Some (d, c.next_item.new.reader)) (sym seen)

pub read_array-returns-in_err-first-clause-err : goal.read_array-returns-in_err-first-clause-err
read_array-returns-in_err-first-clause-err t c refused =
    let none = c.next_item.ensures.err (grind arith) in
    array_after-refused [] c.args.depth (length c.args.reader.now) c.args.reader.now none.0 none.1

pub read_array-returns-in_err-second-clause-err : goal.read_array-returns-in_err-second-clause-err
read_array-returns-in_err-second-clause-err t c refused =
    let n = length c.args.reader.now in
    let r = c.next_item.new.reader in
    let going : (after_end_array c.args.reader.now ≡ None) × (converted of_json (value c.args.depth c.args.reader.now) ≡ Some (view c.in-Some.first, r)) = grind arith in
    let less : length r < n = grind arith in
    let turn = array_after-more [] c.args.depth n c.args.reader.now r (view c.in-Some.first) (omega (arith, less)) going.0 going.1 in
    let none = c.next_item-2.ensures.err (grind arith) in
    turn ∙ array_after-refused (view c.in-Some.first ∷ []) c.args.depth (n - 1) r none.0 none.1

pub read_array-returns-in_default-2-clause-ok : goal.read_array-returns-in_default-2-clause-ok
read_array-returns-in_default-2-clause-ok t c =
    let n = length c.args.reader.now in
    let r = c.next_item.new.reader in
    let going : (after_end_array c.args.reader.now ≡ None) × (converted of_json (value c.args.depth c.args.reader.now) ≡ Some (view c.in-Some.first, r)) = grind arith in
    let less : length r < n = grind arith in
    let turn = array_after-more [] c.args.depth n c.args.reader.now r (view c.in-Some.first) (omega (arith, less)) going.0 going.1 in
    let s = c.next_item-2.new.reader in
    turn ∙ array_after-end (view c.in-Some.first ∷ []) c.args.depth (n - 1) r s (omega (arith, less)) (grind arith) ∙ ap (λ d. Some (d, s)) (sym c.in_ok-one.ensures)

pub read_array-returns-then-take_end_array-clause-ok : goal.read_array-returns-then-take_end_array-clause-ok
read_array-returns-then-take_end_array-clause-ok t c =
    let n = length c.args.reader.now in
    let r = c.next_item.new.reader in
    let going : (after_end_array c.args.reader.now ≡ None) × (converted of_json (value c.args.depth c.args.reader.now) ≡ Some (view c.in-Some.first, r)) = grind arith in
    let less : length r < n = grind arith in
    let turn = array_after-more [] c.args.depth n c.args.reader.now r (view c.in-Some.first) (omega (arith, less)) going.0 going.1 in
    let s = c.next_item-2.new.reader in
    let on : (after_end_array r ≡ None) × (converted of_json (value c.args.depth r) ≡ Some (view c.in-Some-2.second, s)) = grind arith in
    let lesser : length s < length r = grind arith in
    let turns = turn ∙ array_after-more (view c.in-Some.first ∷ []) c.args.depth (n - 1) r s (view c.in-Some-2.second) (omega (arith, less, lesser)) on.0 on.1 in
    let e = c.take_end_array.new.self in
    turns ∙ array_after-end (view c.in-Some.first ∷ view c.in-Some-2.second ∷ []) c.args.depth (n - 1 - 1) s e (omega (arith, less, lesser)) (grind arith) ∙ ap (λ d. Some (d, e)) (sym c.in_ok-two.ensures)

pub read_array-returns-clause-ok : goal.read_array-returns-clause-ok
read_array-returns-clause-ok t c =
    let n = length c.args.reader.now in
    let r = c.next_item.new.reader in
    let going : (after_end_array c.args.reader.now ≡ None) × (converted of_json (value c.args.depth c.args.reader.now) ≡ Some (view c.in-Some.first, r)) = grind arith in
    let less : length r < n = grind arith in
    let turn = array_after-more [] c.args.depth n c.args.reader.now r (view c.in-Some.first) (omega (arith, less)) going.0 going.1 in
    let s = c.next_item-2.new.reader in
    let on : (after_end_array r ≡ None) × (converted of_json (value c.args.depth r) ≡ Some (view c.in-Some-2.second, s)) = grind arith in
    let lesser : length s < length r = grind arith in
    let turns = turn ∙ array_after-more (view c.in-Some.first ∷ []) c.args.depth (n - 1) r s (view c.in-Some-2.second) (omega (arith, less, lesser)) on.0 on.1 in
    let same : c.take_end_array.new.self ≡ s = grind arith in
    let begun = ap₂ (λ ds ts. array_after ds c.args.depth (n - 1 - 1) ts) (sym c.in_ok-begun.ensures) (sym same) in
    rw (turns ∙ begun) (c.read_more.ensures.ok (n - 1 - 1) (rw same (omega (arith, less, lesser))))

pub read_array-returns-clause-err : goal.read_array-returns-clause-err
read_array-returns-clause-err t c refused =
    let n = length c.args.reader.now in
    let r = c.next_item.new.reader in
    let going : (after_end_array c.args.reader.now ≡ None) × (converted of_json (value c.args.depth c.args.reader.now) ≡ Some (view c.in-Some.first, r)) = grind arith in
    let less : length r < n = grind arith in
    let turn = array_after-more [] c.args.depth n c.args.reader.now r (view c.in-Some.first) (omega (arith, less)) going.0 going.1 in
    let s = c.next_item-2.new.reader in
    let on : (after_end_array r ≡ None) × (converted of_json (value c.args.depth r) ≡ Some (view c.in-Some-2.second, s)) = grind arith in
    let lesser : length s < length r = grind arith in
    let turns = turn ∙ array_after-more (view c.in-Some.first ∷ []) c.args.depth (n - 1) r s (view c.in-Some-2.second) (omega (arith, less, lesser)) on.0 on.1 in
    let same : c.take_end_array.new.self ≡ s = grind arith in
    let begun = ap₂ (λ ds ts. array_after ds c.args.depth (n - 1 - 1) ts) (sym c.in_ok-begun.ensures) (sym same) in
    turns ∙ begun ∙ c.read_more.ensures.err (n - 1 - 1) (rw same (omega (arith, less, lesser))) refused

pub read_more-returns-in-Wholes-clause-ok : goal.read_more-returns-in-Wholes-clause-ok
read_more-returns-in-Wholes-clause-ok t c most enough = rw (ap (λ b. array_after (begun_view b) c.args.depth most c.args.reader.now) c.in-Wholes.is) (c.read_wholes.ensures.ok most enough)

pub read_more-returns-in-Values-clause-ok : goal.read_more-returns-in-Values-clause-ok
read_more-returns-in-Values-clause-ok t c most enough = rw (ap (λ b. array_after (begun_view b) c.args.depth most c.args.reader.now) c.in-Values.is) (c.read_values.ensures.ok most enough)

pub read_values-values-init : goal.read_values-values-init
read_values-values-init t c = record { read = λ most enough. (most, enough, refl); shorter = omega arith }

pub read_values-returns-in_err-item-clause-err : goal.read_values-returns-in_err-item-clause-err
read_values-returns-in_err-item-clause-err t c most enough refused =
    let l = c.values in
    let so_far = l.invariant.read most enough in
    let none = c.next_item.ensures.err (grind arith) in
    so_far.2 ∙ array_after-refused (map view l.found.items) c.args.depth so_far.0 l.reader none.0 none.1

pub read_values-values-preserved : goal.read_values-values-preserved
read_values-values-preserved t c =
    let l = c.values in
    let v = c.in-Some.item in
    let r = c.next_item.new.reader in
    let going : (after_end_array l.reader ≡ None) × (converted of_json (value c.args.depth l.reader) ≡ Some (view v, r)) = grind arith in
    let less : length r < length l.reader = grind arith in
    let pushed : map view c.push.new.self.items ≡ map view l.found.items ++ view v ∷ [] = rw (c.in_ok-push.ensures.items, map_push) refl in
    let within = l.invariant.shorter in
    record {
      read = λ most enough.
          let so_far = l.invariant.read most enough in
          let turn = array_after-more (map view l.found.items) c.args.depth so_far.0 l.reader r (view v) (omega (arith, so_far.1)) going.0 going.1 in
          (so_far.0 - 1, omega (arith, so_far.1), so_far.2 ∙ turn ∙ ap (λ ds. array_after ds c.args.depth (so_far.0 - 1) r) (sym pushed));
      shorter = omega arith;
    }

pub read_values-returns-clause-ok : goal.read_values-returns-clause-ok
read_values-returns-clause-ok t c most enough =
    let l = c.values in
    let so_far = l.invariant.read most enough in
    let r = c.next_item.new.reader in
    so_far.2 ∙ array_after-end (map view l.found.items) c.args.depth so_far.0 l.reader r so_far.1 (grind arith)
    ∙ ap (λ d. Some (d, r)) (ap (λ v. array (items_view v.items)) (sym c.in_ok-new.ensures.ok) ∙ sym (view-Array c.in_ok-new.field-0))

pub read_wholes-wholes-init : goal.read_wholes-wholes-init
read_wholes-wholes-init t c = record { read = λ most enough. (most, enough, refl); shorter = omega arith }

pub read_wholes-returns-in_err-item-clause-err : goal.read_wholes-returns-in_err-item-clause-err
read_wholes-returns-in_err-item-clause-err t c most enough refused =
    let l = c.wholes in
    let so_far = l.invariant.read most enough in
    let none = c.next_item.ensures.err (grind arith) in
    so_far.2 ∙ array_after-refused (map whole l.found.items) c.args.depth so_far.0 l.reader none.0 none.1

pub read_wholes-wholes-preserved : goal.read_wholes-wholes-preserved
read_wholes-wholes-preserved t c =
    let l = c.wholes in
    let v = c.in-Some.item in
    let r = c.next_item.new.reader in
    let going : (after_end_array l.reader ≡ None) × (converted of_json (value c.args.depth l.reader) ≡ Some (view v, r)) = grind arith in
    let less : length r < length l.reader = grind arith in
    let back : to_z w64 (of_z w64 c.in-Ok.number) ≡ c.in-Ok.number = search rules in
    let pushed : map whole c.push.new.self.items ≡ map whole l.found.items ++ view v ∷ [] = rw (c.in_ok-push-in-Ok.ensures.items, map_push, back, c.in-Ok.ensures) refl in
    let within = l.invariant.shorter in
    record {
      read = λ most enough.
          let so_far = l.invariant.read most enough in
          let turn = array_after-more (map whole l.found.items) c.args.depth so_far.0 l.reader r (view v) (omega (arith, so_far.1)) going.0 going.1 in
          (so_far.0 - 1, omega (arith, so_far.1), so_far.2 ∙ turn ∙ ap (λ ds. array_after ds c.args.depth (so_far.0 - 1) r) (sym pushed));
      shorter = omega arith;
    }

pub read_wholes-returns-in-Err-clause-ok : goal.read_wholes-returns-in-Err-clause-ok
read_wholes-returns-in-Err-clause-ok t c most enough =
    let l = c.wholes in
    let so_far = l.invariant.read most enough in
    let v = c.in-Some.item in
    let r = c.next_item.new.reader in
    let going : (after_end_array l.reader ≡ None) × (converted of_json (value c.args.depth l.reader) ≡ Some (view v, r)) = grind arith in
    let less : length r < length l.reader = grind arith in
    let turn = array_after-more (map whole l.found.items) c.args.depth so_far.0 l.reader r (view v) (omega (arith, so_far.1)) going.0 going.1 in
    let values = c.in_ok-values-in-Err.ensures ∙ ap (λ w. map whole l.found.items ++ view w ∷ []) c.in-Err.ensures in
    rw (so_far.2 ∙ turn ∙ ap (λ ds. array_after ds c.args.depth (so_far.0 - 1) r) (sym values)) (c.read_values.ensures.ok (so_far.0 - 1) (omega (arith, so_far.1)))

pub read_wholes-returns-in-Err-clause-err : goal.read_wholes-returns-in-Err-clause-err
read_wholes-returns-in-Err-clause-err t c most enough refused =
    let l = c.wholes in
    let so_far = l.invariant.read most enough in
    let v = c.in-Some.item in
    let r = c.next_item.new.reader in
    let going : (after_end_array l.reader ≡ None) × (converted of_json (value c.args.depth l.reader) ≡ Some (view v, r)) = grind arith in
    let less : length r < length l.reader = grind arith in
    let turn = array_after-more (map whole l.found.items) c.args.depth so_far.0 l.reader r (view v) (omega (arith, so_far.1)) going.0 going.1 in
    let values = c.in_ok-values-in-Err.ensures ∙ ap (λ w. map whole l.found.items ++ view w ∷ []) c.in-Err.ensures in
    so_far.2 ∙ turn ∙ ap (λ ds. array_after ds c.args.depth (so_far.0 - 1) r) (sym values) ∙ c.read_values.ensures.err (so_far.0 - 1) (omega (arith, so_far.1)) refused

pub read_wholes-returns-clause-ok : goal.read_wholes-returns-clause-ok
read_wholes-returns-clause-ok t c most enough =
    let l = c.wholes in
    let so_far = l.invariant.read most enough in
    let r = c.next_item.new.reader in
    so_far.2 ∙ array_after-end (map whole l.found.items) c.args.depth so_far.0 l.reader r so_far.1 (grind arith)
    ∙ ap (λ d. Some (d, r)) (ap (λ v. array (items_of (map whole v.items))) (sym c.in_ok-new.ensures.ok) ∙ sym (view-Wholes c.in_ok-new.field-0))
