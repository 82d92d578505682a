-- The common type of columns, and their values cast to it.
use Rattle.std.proofs.Common.{◌≡◌, ◌∙◌, inl, inr, List, [], ◌∷◌, map, Option, Some, None, Result, Ok, Err, ap, sym, refl, subst}
use Rattle.std.specs.Prelude.{◌⊎◌}
use Rattle.std.specs.Option.{option_map}
use Rattle.std.specs.List.{All}
use Rattle.std.proofs.lemmas.List.Elements.{All-nil, All-cons, All-head, All-tail, All-weaker, All-map}
use Rattle.tb_value.specs.Promise.Datum.{Datum}
use Rattle.tb_value.specs.Promise.Kind as kind
use Rattle.tb_value.specs.Promise.Kind.{Kind}
use Rattle.tb_value.specs.Promise.Names.{Name}
use Rattle.tb_value.specs.Promise.Typed.{HasType}
use Rattle.tb_value.specs.declared.error.InvalidCause.TheVariants.{NoSupertype}
use Rattle.tb_value.specs.declared.error.PolarsError.{PolarsError}
use Rattle.tb_value.specs.declared.error.PolarsError.TheVariants.{InvalidOperation, OutOfMemory}
use Rattle.tb_chunk.specs.Promise.Col.{Col, values}
use Rattle.tb_frame.specs.Promise.Table.{TableColumn, plain_column, table_of, IsTyped}
use Rattle.tb_supertype.specs.Promise.Cast.{cast}
use Rattle.tb_supertype.specs.Columns.{CastsTo}
use Rattle.tb_supertype.specs.Promise.Supertype.{supertype}
use Rattle.tb_supertype.proofs.Casts.{casts_on, cast_typed, cast-is}
use Rattle.tb_unpivot.specs.Promise.Unpivot.{common_kind, failed_at}

-- ONE COLUMN MORE

abbrev pub after : Option Kind → Name → (Kind → Result Kind Name) → Result Kind Name
after None n f = Err n
after (Some s) n f = f s

kind_after : (t : Kind) (c : TableColumn) (cs : List TableColumn) → common_kind t (c ∷ cs) ≡ after (supertype t c.kind) c.name (λ s. common_kind s cs)
kind_after t c cs = at (supertype t c.kind)
  where
    at : (o : Option Kind) → elim o [ None ↦ Err c.name | Some s ↦ common_kind s cs ] ≡ after o c.name (λ s. common_kind s cs)
    at None = refl
    at (Some s) = refl

-- the common type that one column gives is what the others go on with
pub kind_more : (t u : Kind) (c : TableColumn) (cs : List TableColumn) → common_kind t (c ∷ []) ≡ Ok u → common_kind t (c ∷ cs) ≡ common_kind u cs
kind_more t u c cs e = kind_after t c cs ∙ at (supertype t c.kind) (sym (kind_after t c []) ∙ e)
  where
    at : (o : Option Kind) → after o c.name (λ s. Ok s) ≡ Ok u → after o c.name (λ s. common_kind s cs) ≡ common_kind u cs
    at None k = absurd (cc)
    at (Some s) k = let same : s ≡ u = cc in ap (λ (x : Kind). common_kind x cs) same

-- the common type of a type and one column's
pub one_kind : (t u : Kind) (c : TableColumn) (o : Option Kind) → o ≡ supertype t u → u ≡ c.kind → common_kind t (c ∷ []) ≡ after o c.name (λ s. Ok s)
one_kind t u c o found same =
    kind_after t c [] ∙ ap (λ (k : Option Kind). after k c.name (λ s. Ok s)) (ap (supertype t) (sym same) ∙ sym found)

abbrev pub refused : Result Kind Name → Option PolarsError
refused r = option_map (λ n. InvalidOperation (NoSupertype n)) (failed_at r)

-- and where it gives none, the others are not looked at
pub kind_fails : (t : Kind) (c : TableColumn) (cs : List TableColumn) (e : PolarsError) → refused (common_kind t (c ∷ [])) ≡ Some e → refused (common_kind t (c ∷ cs)) ≡ Some e
kind_fails t c cs e h = ap refused (kind_after t c cs) ∙ at (supertype t c.kind) (sym (ap refused (kind_after t c [])) ∙ h)
  where
    at : (o : Option Kind) → refused (after o c.name (λ s. Ok s)) ≡ Some e → refused (after o c.name (λ s. common_kind s cs)) ≡ Some e
    at None k = k
    at (Some s) k = absurd (cc)

-- CAST VALUES

abbrev IsCarried : Kind → Kind → Type 0
IsCarried s t = (v : Datum) → HasType s (cast s v) → HasType t (cast t v)

carried : (s t : Kind) (cs : List Col) → common_kind s (table_of cs) ≡ Ok t → All IsTyped (table_of cs) → All (CastsTo t) cs × IsCarried s t
carried s t [] e typed = (All-nil (CastsTo t), λ v h. let same : s ≡ t = cc in subst (λ (x : Kind). HasType x (cast x v)) same h)
carried s t (c ∷ cs) e typed = at (supertype s c.kind) refl (sym (kind_after s (plain_column c) (table_of cs)) ∙ e) (λ (u : Kind) (h : common_kind u (table_of cs) ≡ Ok t). carried u t cs h (All-tail IsTyped (plain_column c) (table_of cs) typed))
  where
    at : (o : Option Kind) → supertype s c.kind ≡ o → after o c.name (λ u. common_kind u (table_of cs)) ≡ Ok t
        → ((u : Kind) → common_kind u (table_of cs) ≡ Ok t → All (CastsTo t) cs × IsCarried u t) → All (CastsTo t) (c ∷ cs) × IsCarried s t
    at None k h more = absurd (cc)
    at (Some u) k h more =
        let rest = more u h in
        let own = All-weaker (HasType c.kind) (λ v. HasType t (cast t v)) (λ v w. rest.1 v ((cast_typed s c.kind u k v).1 w)) (values c) (All-head IsTyped (plain_column c) (table_of cs) typed) in
        (All-cons (CastsTo t) c cs (All-map (HasType t) (cast t) (values c) own) rest.0, λ v w. rest.1 v (casts_on s c.kind u k v w))

-- values cast to the common type are of it
pub casts_all : (s t : Kind) (cs : List Col) → common_kind s (table_of cs) ≡ Ok t → All IsTyped (table_of cs) → All (CastsTo t) cs
casts_all s t cs e typed = (carried s t cs e typed).0

-- values of a type are cast to themselves
pub cast_same : (t : Kind) (vs : List Datum) → All (HasType t) vs → map (cast t) vs ≡ vs
cast_same t [] all = refl
cast_same t (v ∷ vs) all = λ i. cast-is t v (All-head (HasType t) v vs all) i ∷ cast_same t vs (All-tail (HasType t) v vs all) i

-- the refusal of the next column is that of all
pub refused_here : (t : Kind) (c : TableColumn) (cs all : List TableColumn) (e : PolarsError) → common_kind kind.null all ≡ common_kind t (c ∷ cs)
    → (e ≡ OutOfMemory) ⊎ (refused (common_kind t (c ∷ [])) ≡ Some e) → (e ≡ OutOfMemory) ⊎ (refused (common_kind kind.null all) ≡ Some e)
refused_here t c cs all e so_far (inl h) = inl h
refused_here t c cs all e so_far (inr h) = inr (ap refused so_far ∙ kind_fails t c cs e h)
