-- Tables whose columns are read one after another.
use Rattle.std.proofs.Common.{◌≡◌, ◌∙◌, ◌+◌, List, [], ◌∷◌, ◌++◌, map, IsTrue, Option, Some, Vec, Global, sym, ap, subst, arith, tests}
use Rattle.std.specs.Option.{option_map}
use Rattle.std.proofs.lemmas.List.{map_push}
use Rattle.std.proofs.lemmas.List.Sums.{sum_by-cons}
use Rattle.tb_chunk.specs.Promise.Col.{Col}
use Rattle.tb_json.proofs.LentValues.{Taking, Taking-next}
use Rattle.tb_request.specs.declared.shape.WrittenColumn.{WrittenColumn}
use Rattle.tb_request.specs.declared.values.ClaimedColumn.{ClaimedColumn}
use Rattle.tb_request.specs.Lent.{claimed_views, written_views}
use Rattle.tb_request.specs.Promise.Columns.{columns_from, rows_in, rows_in_tables, tables_fit}
use Rattle.tb_request.specs.Promise.Written.{Written}

fit_rest : (w : List Written) (ws : List (List Written)) → IsTrue (tables_fit (w ∷ ws)) → IsTrue (tables_fit ws)
fit_rest w ws h =
    let sum : rows_in_tables (w ∷ ws) ≡ rows_in w + rows_in_tables ws = sum_by-cons rows_in w ws in
    grind (arith, tests, h, sum)

abbrev Rusts : Type 0
Rusts = List (Vec WrittenColumn Global)

abbrev Claims : Type 0
Claims = List (Vec ClaimedColumn Global)

-- the tables so far, and those that are left, which fit
abbrev pub Claiming : Rusts → Claims → Rusts → Type 0
Claiming all claimed rest =
    Taking written_views columns_from all (map claimed_views claimed) rest
    × IsTrue (tables_fit (map written_views rest))

pub Claiming-next : (all old new : Rusts) (t : Vec WrittenColumn Global) (claimed more : Claims) (columns : Vec ClaimedColumn Global)
    → more ≡ claimed ++ columns ∷ [] → old ≡ t ∷ new → columns_from (written_views t) ≡ Some (claimed_views columns)
    → Claiming all claimed old → Claiming all more new
Claiming-next all old new t claimed more columns ec is e h =
    let grown : map claimed_views more ≡ map claimed_views claimed ++ claimed_views columns ∷ [] = ap (map claimed_views) ec ∙ map_push claimed_views claimed columns in (
      subst (λ cs. Taking written_views columns_from all cs new) (sym grown) (Taking-next written_views columns_from all (map claimed_views claimed) old t new (claimed_views columns) is e h.0),
      fit_rest (written_views t) (map written_views new) (subst (λ ts. IsTrue (tables_fit (map written_views ts))) is h.1),
    )

-- the first of tables that fit fits
pub first_fits : (ts rest : Rusts) (t : Vec WrittenColumn Global) → ts ≡ t ∷ rest → IsTrue (tables_fit (map written_views ts)) → IsTrue (tables_fit (written_views t ∷ map written_views rest))
first_fits ts rest t is h = subst (λ us. IsTrue (tables_fit (map written_views us))) is h
