use Rattle.std.proofs.Common.{◌∙◌, ℕ, List, Bor, ap, arith, map}
use Rattle.std.proofs.lemmas.List.{length-map}
use Rattle.tb_alone.specs.Keys.{lent_coded}
use Rattle.tb_alone.proofs.Matching.{found_are}
use Rattle.tb_alone.proofs.joined.pairs_by_key.Goals as goal

pub key_table-requires : goal.key_table-requires
key_table-requires c = record { few = omega (arith, length-map c.args.right.now lent_coded, c.know_rows.ensures.few) }

pub list_found-requires : goal.list_found-requires
list_found-requires c =
    let seen : List (Bor (List ℕ)) → List (List ℕ) = map (λ (r : Bor (List ℕ)). r.now) in
    record {
      found = found_are c.args.request.now c.requires.alike c.know_columns.ensures c.know_columns-2.ensures c.args.left.now c.args.right.now c.requires.keys c.know_rows.ensures.few c.in_ok-table.table c.in_ok-table.ensures (seen c.deref.result.now)
          (ap seen c.deref.ensures.value ∙ c.in_ok-found.ensures);
    }
