-- How the logic stores a state.
use Rattle.std.specs.Prelude.{ℕ, List, Bool, refl}
use Rattle.std.specs.Coded.{Coded, code_by, coded×, coded_ℕ, coded_bool, coded_list}
use Rattle.tb_value.specs.Promise.Kind.{Kind}
use Rattle.tb_value.specs.Promise.Names.{Name}
use Rattle.tb_value.specs.Proved.DatumCode.{coded_data}
use Rattle.tb_value.specs.Proved.KindCode.{coded_kind}
use Rattle.tb_delta.specs.Promise.State.{Row, SideState, State}

abbrev pub coded_name : Coded Name
coded_name = coded_list coded_ℕ

abbrev pub coded_side : Coded SideState
coded_side = code_by (List (Name × Kind) × (Name × (List Row × ℕ)))
    (coded× (coded_list (coded× coded_name coded_kind))
    (coded× coded_name (coded× (coded_list (coded× coded_ℕ coded_data)) coded_ℕ)))
    (λ s. (s.columns, (s.key, (s.rows, s.ever))))
    (λ p. record { columns = p.0; key = p.1.0; rows = p.1.1.0; ever = p.1.1.1 }) (λ _. refl)

abbrev pub coded_state : Coded State
coded_state =
    code_by (SideState × (SideState × Bool)) (coded× coded_side (coded× coded_side coded_bool))
    (λ s. (s.left, (s.right, s.join_nulls)))
    (λ p. record { left = p.0; right = p.1.0; join_nulls = p.1.1 }) (λ _. refl)
