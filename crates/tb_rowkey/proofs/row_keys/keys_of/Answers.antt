use Rattle.std.proofs.Common.{◌≡◌, ℕ, Bool, List, [], ◌∷◌, ◌++◌, map, ap, ◌∙◌, refl, arith}
use Rattle.std.proofs.lemmas.Bool.{false≢true}
use Rattle.tb_value.specs.Promise.Datum.{binary}
use Rattle.tb_value.specs.Promise.Pairs.{row_numbers}
use Rattle.tb_chunk.specs.Promise.Col.{Col}
use Rattle.tb_rowkey.specs.Promise.Columns.{row_count, key_at}
use Rattle.tb_rowkey.specs.Columns.{flag_of, IsShortRow}
use Rattle.tb_rowkey.specs.Places.{places_in}
use Rattle.tb_rowkey.specs.RowKeys.{bytes_of}
use Rattle.tb_rowkey.proofs.KeyRows.{count_read, key_shown, rows_below, short_key}
use Rattle.tb_rowkey.proofs.Written.{below_more, first_written, written_keys, written_more, written_places}
use Rattle.tb_rowkey.proofs.row_keys.keys_of.Goals as goal

-- the bytes of the key of a row
abbrev key : List Col → List Bool → ℕ → List ℕ
key cs flags i = bytes_of (key_at cs (flag_of flags) i)

pub overflow_add-rows : goal.overflow_add-rows
overflow_add-rows c = omega (arith, c.len-rows.ensures.few)

pub loop-row-init : goal.loop-row-init
loop-row-init c = record {
  written =
      first_written (key c.args.columns.now c.args.join_nulls.now) c.in_ok-bytes.bytes.items (places_in c.from_zero-places.result)
      c.in_ok-bytes.ensures.items c.from_zero-places.ensures;
  short = λ i low. absurd (omega (arith, low));
}

pub push_key-requires-clause-rows : goal.push_key-requires-clause-rows
push_key-requires-clause-rows c =
    let cs = c.args.columns.now in
    let rows = count_read c.args.columns.now c.index-columns-0.result c.len-rows.result c.len-rows.ensures.len c.requires.some c.index-columns-0.is c.requires.rows in
    rows_below cs (row_count cs) c.loop-row.row c.requires.rows (omega (arith, rows, c.loop-row-test.true))

pub returns-then-branch-ge-TOO_LONG-clause-short : goal.returns-then-branch-ge-TOO_LONG-clause-short
returns-then-branch-ge-TOO_LONG-clause-short c =
    let cs = c.args.columns.now in
    let rows = count_read c.args.columns.now c.index-columns-0.result c.len-rows.result c.len-rows.ensures.len c.requires.some c.index-columns-0.is c.requires.rows in (
      λ h. absurd (false≢true h),
      λ short. let here = short c.loop-row.row (omega (arith, rows, c.loop-row-test.true)) in
          absurd (omega (arith, here, c.in_ok-push_key.ensures.len, c.if-branch-ge-TOO_LONG.true)),
    )

pub loop-row-preserved : goal.loop-row-preserved
loop-row-preserved c =
    let cs = c.args.columns.now in
    record {
      written =
          written_more (key cs c.args.join_nulls.now) c.loop-row.row c.loop-row.bytes.items (places_in c.loop-row.places)
          c.push_key.new.bytes.items (places_in c.push.new.self) c.loop-row.invariant.written
          c.in_ok-push_key.ensures.bytes (c.in_ok-push.ensures ∙ ap (λ n. places_in c.loop-row.places ++ n ∷ []) (c.len.ensures ∙ c.push_key.new.bytes.ok.0));
      short = below_more (IsShortRow cs) c.loop-row.row c.loop-row.invariant.short (omega (arith, c.in_ok-push_key.ensures.len, c.if-branch-ge-TOO_LONG.false));
    }

pub invariant_of-result : goal.invariant_of-result
invariant_of-result c =
    let cs = c.args.columns.now in
    written_places (key cs c.args.join_nulls.now) c.loop-row.row c.loop-row.bytes.items (places_in c.loop-row.places) c.loop-row.invariant.written
    (omega (arith, c.loop-row.auto.row-end, c.len-rows.ensures.len, c.len-rows.ensures.few))
    (λ i low. short_key cs (flag_of c.args.join_nulls.now) i (c.loop-row.invariant.short i low))

pub returns-clause-short : goal.returns-clause-short
returns-clause-short c =
    let cs = c.args.columns.now in
    let rows = count_read c.args.columns.now c.index-columns-0.result c.len-rows.result c.len-rows.ensures.len c.requires.some c.index-columns-0.is c.requires.rows in
    (λ _ i low. c.loop-row.invariant.short i (omega (arith, rows, low)), λ _. refl)

pub returns-clause-keys : goal.returns-clause-keys
returns-clause-keys c =
    let cs = c.args.columns.now in
    let nulls : ℕ → Bool = flag_of c.args.join_nulls.now in
    let rows = count_read c.args.columns.now c.index-columns-0.result c.len-rows.result c.len-rows.ensures.len c.requires.some c.index-columns-0.is c.requires.rows in
    let all : c.loop-row.row ≡ row_count cs = omega (arith, rows, c.loop-row.auto.row-end) in
    written_keys binary (key cs c.args.join_nulls.now) (key_at cs nulls) c.loop-row.row c.loop-row.bytes.items (places_in c.loop-row.places) c.loop-row.invariant.written
    (λ i low. key_shown cs nulls i c.requires.some)
    ∙ ap (λ n. map (key_at cs nulls) (row_numbers n)) all
