use Rattle.std.proofs.Common.{◌≡◌, ◌-◌, ◌<◌, ◌^◌, ◌+◌, Option, None, List, ℕ, length, get_or, take, drop, ap, sym, ◌∙◌, arith}
use Rattle.tb_rowkey.specs.Places.{places_in}
use Rattle.tb_rowkey.specs.RowKeys.{key_of}
use Rattle.tb_rowkey.proofs.Written.{key_is, row_low, some_weaker}
use Rattle.tb_rowkey.proofs.row_keys.RowKeys.get.Goals as goal

pub at-requires : goal.at-requires
at-requires c =
    let low = row_low c.self.inside.bytes.items (places_in c.self.inside.places) c.args.self.now c.args.row c.self.view_is c.requires in
    omega (arith, low)

pub overflow_add-row : goal.overflow_add-row
overflow_add-row c =
    let low = row_low c.self.inside.bytes.items (places_in c.self.inside.places) c.args.self.now c.args.row c.self.view_is c.requires in
    omega (arith, low, c.self.invariant.few)

pub at-requires-2 : goal.at-requires-2
at-requires-2 c =
    let low = row_low c.self.inside.bytes.items (places_in c.self.inside.places) c.args.self.now c.args.row c.self.view_is c.requires in
    omega (arith, low)

pub key_between-requires-clause-order : goal.key_between-requires-clause-order
key_between-requires-clause-order c =
    let low = row_low c.self.inside.bytes.items (places_in c.self.inside.places) c.args.self.now c.args.row c.self.view_is c.requires in
    let up = c.self.invariant.ordered c.args.row (omega (arith, low)) in
    omega (arith, c.at.ensures, c.at-2.ensures, up)

pub key_between-requires-clause-within : goal.key_between-requires-clause-within
key_between-requires-clause-within c =
    let low = row_low c.self.inside.bytes.items (places_in c.self.inside.places) c.args.self.now c.args.row c.self.view_is c.requires in
    let in_bytes = c.self.invariant.within (c.args.row + 1) (omega (arith, low)) in
    let same = ap length c.deref.ensures.value in
    omega (arith, c.at-2.ensures, in_bytes, same)

pub returns-clause-value : goal.returns-clause-value
returns-clause-value c =
    let bytes = c.self.inside.bytes.items in
    let places = places_in c.self.inside.places in
    let low = row_low bytes places c.args.self.now c.args.row c.self.view_is c.requires in
    let a : c.at.result ≡ get_or places c.args.row 0 = c.at.ensures in
    let b : c.at-2.result ≡ get_or places (c.args.row + 1) 0 = c.at-2.ensures in
    let same : c.deref.result.now ≡ bytes = c.deref.ensures.value in
    c.key_between.ensures.value
    ∙ ◌∙◌ {A = Option (List ℕ)} (λ t. key_of (take (b t - a t) (drop (a t) (same t)))) (sym (key_is bytes places c.args.row low))
    ∙ ap (λ (ks : List (Option (List ℕ))). get_or ks c.args.row None) c.self.view_is

pub returns-clause-short : goal.returns-clause-short
returns-clause-short c =
    let low = row_low c.self.inside.bytes.items (places_in c.self.inside.places) c.args.self.now c.args.row c.self.view_is c.requires in
    let short = c.self.invariant.short c.args.row (omega (arith, low)) in
    some_weaker c.key_between.result (λ key. length key.now ≡ c.at-2.result - c.at.result) (λ key. length key.now < 2 ^ 32)
    (λ key len. omega (arith, c.at.ensures, c.at-2.ensures, short, len)) c.key_between.ensures.len
