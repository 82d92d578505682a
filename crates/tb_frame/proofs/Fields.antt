-- The fields and types of columns, by their places.
use Rattle.std.proofs.Common.{◌≡◌, ℕ, ◌<◌, List, [], length, get_or, map, ap, sym, ◌∙◌}
use Rattle.std.proofs.lemmas.List.{get_or-map}
use Rattle.tb_value.specs.Promise.Datum.{Datum, null}
use Rattle.tb_value.specs.Promise.Kind as kind
use Rattle.tb_frame.specs.Promise.Table.{TableColumn}
use Rattle.tb_frame.specs.Promise.Join.{field}
use Rattle.tb_frame.specs.Promise.Refusal.{kind_at}

pub field_at : (keys : List TableColumn) (p i : ℕ) (c : TableColumn) → p < length keys → c ≡ get_or keys p c → field keys p i ≡ get_or c.values i null
field_at keys p i c low e =
    let at : get_or (map (λ (k : TableColumn). k.values) keys) p [] ≡ (get_or keys p c).values = get_or-map (λ (k : TableColumn). k.values) keys p c [] low in
    ap (λ (l : List Datum). get_or l i null) (at ∙ ap (λ (k : TableColumn). k.values) (sym e))

pub kind_is : (keys : List TableColumn) (p : ℕ) (c : TableColumn) → p < length keys → c ≡ get_or keys p c → c.kind ≡ kind_at keys p
kind_is keys p c low is = ap (λ (k : TableColumn). k.kind) is ∙ sym (get_or-map (λ (k : TableColumn). k.kind) keys p c kind.null low)
