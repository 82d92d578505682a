use Rattle.std.proofs.Common.{◌≡◌, ◌≤◌, ◌∙◌, List, length, None, ap, sym, subst}
use Rattle.std.specs.Prelude.{All, IfOk}
use Rattle.std.specs.Option.{ForSome, option_map}
use Rattle.tb_value.specs.Promise.Names.{Name}
use Rattle.tb_value.specs.declared.error.PolarsError.TheVariants.{ColumnNotFound}
use Rattle.tb_chunk.specs.Promise.Col.{Col}
use Rattle.tb_frame.specs.Promise.Frame.{selected_columns}
use Rattle.tb_frame.specs.Frame.{frame_refusal, without_names}
use Rattle.tb_frame.specs.Promise.Refusal.{unknown_key}
use Rattle.tb_frame.specs.Promise.Table.{table_of}
use Rattle.tb_keys.specs.Coalescing.{key_beside}
use Rattle.tb_join.specs.AnswerColumns.{Fits, coalesced_part, with_names}
use Rattle.tb_join.proofs.Apart.{known-among, selected-among}
use Rattle.tb_join.proofs.Finishing.{settled}
use Rattle.tb_dispatch.specs.Standing.{coalesced_columns}
use Rattle.tb_dispatch.proofs.Coalescable.{enough, fit, stands}
use Rattle.tb_dispatch.proofs.coalesce.coalesced_table.Goals as goal

-- the keys taken apart
apart : (rights : List Name) (lent keys inside df : List Col) → lent ≡ keys → keys ≡ with_names rights inside → inside ≡ df → lent ≡ with_names rights df
apart rights lent keys inside df same is of = same ∙ is ∙ ap (with_names rights) of

-- select the same columns
alike : (rights : List Name) (lent df : List Col) → lent ≡ with_names rights df → selected_columns rights lent ≡ selected_columns rights df
alike rights lent df is = ap (selected_columns rights) is ∙ selected-among rights df

pub coalesced_left-requires-clause-known : goal.coalesced_left-requires-clause-known
coalesced_left-requires-clause-known c =
    let rights = c.args.rights.now in
    let df = c.args.df in
    let keys = apart rights _ _ _ df c.deref.ensures.value c.in_ok-keys.ensures.named c.into_columns.ensures in
    subst (λ (cs : List Col). unknown_key (table_of cs) rights ≡ None) (sym keys) (ap (option_map (λ (n : Name). ColumnNotFound n)) (known-among rights df c.requires.known))

pub coalesced_left-requires-clause-many : goal.coalesced_left-requires-clause-many
coalesced_left-requires-clause-many c =
    let rights = c.args.rights.now in
    let df = c.args.df in
    let keys = apart rights _ _ _ df c.deref.ensures.value c.in_ok-keys.ensures.named c.into_columns.ensures in
    subst (λ (ks : List Col). length c.args.keys_left.now ≤ length ks) (sym (alike rights _ df keys)) (enough c.args.keys_left.now rights df c.get_columns-columns.ensures.table c.requires)

pub coalesced_left-requires-clause-fit : goal.coalesced_left-requires-clause-fit
coalesced_left-requires-clause-fit c =
    let rights = c.args.rights.now in
    let df = c.args.df in
    let keys = apart rights _ _ _ df c.deref.ensures.value c.in_ok-keys.ensures.named c.into_columns.ensures in
    let rest = c.in_ok-keys.ensures.others ∙ ap (without_names rights) c.into_columns.ensures in
    let P : List Col → List Col → Type 0 = λ ks ys. All (λ (k : Col). ForSome (key_beside c.args.keys_left.now ks k.name) (Fits k)) ys in
    subst (λ (ks : List Col). P ks c.in_ok-keys.rest.items) (sym (alike rights _ df keys))
    (subst (λ (ys : List Col). P (selected_columns rights df) ys) (sym rest) (fit c.args.keys_left.now rights df c.get_columns-columns.ensures.table c.requires))

-- the columns of the table
made : (kl rights : List Name) (columns lent rest df : List Col) → columns ≡ coalesced_part kl (selected_columns rights lent) rest → lent ≡ with_names rights df → rest ≡ without_names rights df → columns ≡ coalesced_columns kl rights df
made kl rights columns lent rest df is keys others = is ∙ (λ t. coalesced_part kl (alike rights lent df keys t) (others t))

pub returns-clause-settles : goal.returns-clause-settles
returns-clause-settles c =
    let rights = c.args.rights.now in
    let df = c.args.df in
    let keys = apart rights _ _ _ df c.deref.ensures.value c.in_ok-keys.ensures.named c.into_columns.ensures in
    let rest = c.in_ok-keys.ensures.others ∙ ap (without_names rights) c.into_columns.ensures in
    let is = made c.args.keys_left.now rights c.in_ok-columns.columns.items _ _ df c.in_ok-columns.ensures.columns keys rest in
    settled c.new.result _ None (ap (λ (cs : List Col). frame_refusal (table_of cs)) is ∙ stands c.args.keys_left.now rights df c.get_columns-columns.ensures.table c.requires) c.new.ensures.settles

pub returns-clause-columns : goal.returns-clause-columns
returns-clause-columns c =
    let rights = c.args.rights.now in
    let df = c.args.df in
    let keys = apart rights _ _ _ df c.deref.ensures.value c.in_ok-keys.ensures.named c.into_columns.ensures in
    let rest = c.in_ok-keys.ensures.others ∙ ap (without_names rights) c.into_columns.ensures in
    let is = made c.args.keys_left.now rights c.in_ok-columns.columns.items _ _ df c.in_ok-columns.ensures.columns keys rest in
    subst (λ (cs : List Col). IfOk c.new.result (λ t. t ≡ cs)) is c.new.ensures.columns
