-- Facts on rows whose texts are of a type.
use Rattle.std.proofs.Common.{◌≡◌, ◌++◌, ◌∷◌, [], ℕ, List, Option, Some, None, Result, Ok, Err, map, replicate, sym, subst}
use Rattle.std.specs.Prelude.{OnOk, OnErr}
use Rattle.std.specs.List.{All}
use Rattle.std.proofs.lemmas.List.{map-append, map_push}
use Rattle.std.proofs.lemmas.List.Elements.{All-append, All-cons, All-head, All-nil, All-push, All-replicate, All-tail}
use Rattle.std.proofs.lemmas.Str.{is_utf8-from_IsUtf8}
use Rattle.tb_value.specs.Promise.Datum.{Datum, string}
use Rattle.tb_value.specs.Promise.Kind as kind
use Rattle.tb_value.specs.Promise.Kind.{Kind}
use Rattle.tb_value.specs.Promise.Typed.{HasType}
use Rattle.tb_cell.specs.Shown.{or_null}
use Rattle.tb_view.specs.Layout.{Building}
use Rattle.tb_value.specs.Texts.{IsUtf8Row}
use Rattle.tb_view.proofs.Filled.{map-replicate}

abbrev pub AreTyped : Kind → (List ℕ → Datum) → List (Option (List ℕ)) → Type 0
AreTyped t shows rows = All (HasType t) (map (or_null shows) rows)

pub typed-push : (t : Kind) (shows : List ℕ → Datum) (rows : List (Option (List ℕ))) (o : Option (List ℕ)) → AreTyped t shows rows → HasType t (or_null shows o) → AreTyped t shows (rows ++ o ∷ [])
typed-push t shows rows o a h = rw (map_push (or_null shows) rows o) (All-push (HasType t) (map (or_null shows) rows) (or_null shows o) a h)

pub typed-repeat : (t : Kind) (shows : List ℕ → Datum) (rows : List (Option (List ℕ))) (o : Option (List ℕ)) (n : ℕ) → AreTyped t shows rows → HasType t (or_null shows o) → AreTyped t shows (rows ++ replicate n o)
typed-repeat t shows rows o n a h =
    rw (map-append (or_null shows) rows (replicate n o), map-replicate (or_null shows) n o)
    (All-append (HasType t) (map (or_null shows) rows) (replicate n (or_null shows o)) a (All-replicate (HasType t) n (or_null shows o) h))

-- what holds of a builder after a call that left it as it was where it was refused
pub holds_after : {T E : Type 0} (P : Building → Type 0) (r : Result T E) (more old new : Building) → OnOk r (new ≡ more) → OnErr r (new ≡ old) → OnOk r (P more) → P old → P new
holds_after P (Ok x) more old new e f g h = subst P (sym e) g
holds_after P (Err d) more old new e f g h = subst P (sym f) h

pub utf8_rows : (rows : List (Option (List ℕ))) → AreTyped kind.string string rows → All IsUtf8Row rows
utf8_rows [] a = All-nil IsUtf8Row
utf8_rows (None ∷ os) a = All-cons IsUtf8Row None os tt (utf8_rows os (All-tail (HasType kind.string) (or_null string None) (map (or_null string) os) a))
utf8_rows (Some s ∷ os) a =
    let h : HasType kind.string (string s) = All-head (HasType kind.string) (string s) (map (or_null string) os) a in
    All-cons IsUtf8Row (Some s) os (is_utf8-from_IsUtf8 s h.2) (utf8_rows os (All-tail (HasType kind.string) (string s) (map (or_null string) os) a))
