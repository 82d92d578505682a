-- Rows that are read by the columns as they are written fit the tables.
use Rattle.std.proofs.Common.{◌≡◌, ◌∙◌, List, [], ◌∷◌, map, Option, Some, None, option_map, option_and_then, refl, ap, sym, subst}
use Rattle.std.specs.Prelude.{All, Ok}
use Rattle.tb_value.specs.Promise.Kind.{Part}
use Rattle.tb_value.specs.Promise.Datum.{Datum}
use Rattle.tb_value.proofs.Loops.{map-map}
use Rattle.tb_chunk.specs.Promise.Col.{Col}
use Rattle.tb_chunk.specs.Promise.Made.{fresh_column}
use Rattle.tb_frame.specs.Promise.Table.{schema_of, table_of}
use Rattle.tb_delta.specs.Promise.Steps.{Step}
use Rattle.tb_json.specs.Promise.Lists.{each}
use Rattle.tb_pool.specs.Promise.ExecView.{ExecView}
use Rattle.tb_request.specs.Lent.{written_view}
use Rattle.tb_request.specs.Promise.Columns.{chunks_in, columns_from, values_of}
use Rattle.tb_request.specs.Promise.Reading.{request_tables}
use Rattle.tb_request.specs.Promise.Written.{Written}
use Rattle.tb_request.proofs.TablesRead.{both_there}
use Rattle.tb_request.specs.declared.shape.WrittenColumn.{WrittenColumn}
use Rattle.tb_delta_request.specs.Lent.{column_part}
use Rattle.tb_delta_request.specs.Promise.Reading.{Fits, part_of}

some_parts : {A B : Type 0} (f : A → B) (x y : A) → Some x ≡ Some y → f x ≡ f y
some_parts f x y e = cc

abbrev seen : Col → Part
seen c = (c.name, c.kind)

named : (w : Written) (c : Col) → values_of w ≡ Some c → seen c ≡ part_of w
unfolding values_of
named w c e = from (chunks_in w.kind w.values) e
  where
    from : (o : Option (List (List Datum))) → option_map (λ chunks. fresh_column w.name w.kind chunks w.flag) o ≡ Some c → seen c ≡ part_of w
    from None e = absurd (cc)
    from (Some chunks) e = some_parts seen c (fresh_column w.name w.kind chunks w.flag) (sym e)

one_more : (w : Written) (ws : List Written) (o : Option Col) (r : Option (List Col)) (cs : List Col)
    → ((c : Col) → o ≡ Some c → seen c ≡ part_of w) → ((ds : List Col) → r ≡ Some ds → schema_of (table_of ds) ≡ map part_of ws)
    → option_and_then (λ y. option_map (λ ys. y ∷ ys) r) o ≡ Some cs → schema_of (table_of cs) ≡ part_of w ∷ map part_of ws
one_more w ws None r cs here rest e = absurd (cc)
one_more w ws (Some c) None cs here rest e = absurd (cc)
one_more w ws (Some c) (Some ds) cs here rest e = some_parts (λ (l : List Col). schema_of (table_of l)) cs (c ∷ ds) (sym e) ∙ (λ t. here c refl t ∷ rest ds refl t)

-- columns have the names and types that are written
schema_from : (ws : List Written) (cs : List Col) → columns_from ws ≡ Some cs → schema_of (table_of cs) ≡ map part_of ws
schema_from [] cs e = some_parts (λ (l : List Col). schema_of (table_of l)) cs [] (sym e)
schema_from (w ∷ ws) cs e = one_more w ws (values_of w) (each values_of ws) cs (named w) (schema_from ws) e

schema_is : (ws : List WrittenColumn) (cs : List Col) → columns_from (map written_view ws) ≡ Some cs → schema_of (table_of cs) ≡ map column_part ws
schema_is ws cs e = schema_from (map written_view ws) cs e ∙ map-map part_of written_view ws

pub fit_tables : (ls rs : List WrittenColumn) (l r : List Col) (exec : ExecView) (ss : List Step) → request_tables (map written_view ls ∷ map written_view rs ∷ []) exec ≡ Ok (l ∷ r ∷ [])
    → All (Fits (map column_part ls) (map column_part rs)) ss → All (Fits (schema_of (table_of l)) (schema_of (table_of r))) ss
fit_tables ls rs l r exec ss e fits =
    let both = both_there (map written_view ls) (map written_view rs) l r exec e in
    subst (λ (q : List Part × List Part). All (Fits q.0 q.1) ss) (λ t. (sym (schema_is ls l both.0) t, sym (schema_is rs r both.1) t)) fits
