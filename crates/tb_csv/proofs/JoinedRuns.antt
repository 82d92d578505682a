-- Runs whose rows stand one behind another.
use Rattle.std.proofs.Common.{◌≡◌, ◌+◌, ◌++◌, ◌∷◌, ◌∙◌, [], ℕ, Global, List, Vec, append-nil, append_assoc, refl, sym, ap, subst}
use Rattle.std.specs.List.{All, AllZip}
use Rattle.std.proofs.lemmas.Grind.{flat_map-append}
use Rattle.std.proofs.lemmas.List.Elements.{All-append, All-cons, All-head, All-nil, All-tail}
use Rattle.tb_csv.specs.Promise.Records.{Record}
use Rattle.tb_csv.specs.Read.{AreAppended, AreRunRows, HasFields, HaveRows, IsFull, all_fields}
use Rattle.tb_csv.specs.declared.field_column.FieldColumn.{FieldColumn}
use Rattle.tb_csv.specs.declared.run.Run.{Run}
use Rattle.tb_csv.specs.declared.run.RunFields.{RunFields}
use Rattle.tb_csv.specs.declared.run.RunFields.TheVariants as held
use Rattle.tb_csv.proofs.JoinedColumns.{both_full, both_rows}

-- TWO LISTS BESIDE EACH OTHER

module _ {X Y : Type 0} (R : X → Y → Type 0) where
  zip_append : (xs zs : List X) (ys ws : List Y) → AllZip R xs ys → AllZip R zs ws → AllZip R (xs ++ zs) (ys ++ ws)
  zip_append [] zs [] ws a b = b
  zip_append [] zs (y ∷ ys) ws a b = absurd a
  zip_append (x ∷ xs) zs [] ws a b = absurd a
  zip_append (x ∷ xs) zs (y ∷ ys) ws a b = (a.0, zip_append xs zs ys ws a.1 b)

  zip_split : (xs zs : List X) (ys : List Y) → AllZip R (xs ++ zs) ys → (front : List Y) × (back : List Y) × (ys ≡ front ++ back) × AllZip R xs front × AllZip R zs back
  zip_split [] zs ys a = ([], ys, refl, tt, a)
  zip_split (x ∷ xs) zs [] a = absurd a
  zip_split (x ∷ xs) zs (y ∷ ys) a =
      let h = zip_split xs zs ys a.1 in
      (y ∷ h.0, h.1, ap (λ l. y ∷ l) h.2, (a.0, h.3), h.4)

all_front : {X : Type 0} (P : X → Type 0) (xs ys : List X) → All P (xs ++ ys) → All P xs
all_front P [] ys h = All-nil P
all_front P (x ∷ xs) ys h = All-cons P x xs (All-head P x (xs ++ ys) h) (all_front P xs ys (All-tail P x (xs ++ ys) h))

all_back : {X : Type 0} (P : X → Type 0) (xs ys : List X) → All P (xs ++ ys) → All P ys
all_back P [] ys h = h
all_back P (x ∷ xs) ys h = all_back P xs ys (All-tail P x (xs ++ ys) h)

-- ROWS OF RUNS

module _ (w : ℕ) where
  pub no_rows : HaveRows w [] []
  no_rows = record { parts = ([], refl, tt); full = All-nil (IsFull w) }

  pub one_run : (run : Run) (rows : List Record) → AreRunRows w run rows → IsFull w run → HaveRows w (run ∷ []) rows
  one_run run rows are full = record {
    parts = (rows ∷ [], sym (append-nil rows), (are, tt));
    full = All-cons (IsFull w) run [] full (All-nil (IsFull w));
  }

  one_part : (run : Run) (parts : List (List Record)) → AllZip (AreRunRows w) (run ∷ []) parts → AreRunRows w run (all_fields parts)
  one_part run [] zipped = absurd zipped
  one_part run (p ∷ []) zipped = subst (AreRunRows w run) (sym (append-nil p)) zipped.0
  one_part run (p ∷ q ∷ ps) zipped = absurd zipped.1

  pub one_back : (run : Run) (rows : List Record) → HaveRows w (run ∷ []) rows → AreRunRows w run rows × IsFull w run
  one_back run rows have = (
    subst (AreRunRows w run) (sym have.parts.1) (one_part run have.parts.0 have.parts.2),
    All-head (IsFull w) run [] have.full,
  )

  pub more_runs : (runs others : List Run) (rows more : List Record) → HaveRows w runs rows → HaveRows w others more → HaveRows w (runs ++ others) (rows ++ more)
  more_runs runs others rows more a b = record {
    parts = (
      a.parts.0 ++ b.parts.0,
      ap (λ (rs : List Record). rs ++ more) a.parts.1 ∙ ap (λ (rs : List Record). all_fields a.parts.0 ++ rs) b.parts.1 ∙ sym (flat_map-append (λ (r : List Record). r) a.parts.0 b.parts.0),
      zip_append (AreRunRows w) runs others a.parts.0 b.parts.0 a.parts.2 b.parts.2,
    );
    full = All-append (IsFull w) runs others a.full b.full;
  }

  pub runs_split : (runs others : List Run) (rows : List Record) → HaveRows w (runs ++ others) rows
      → (front : List Record) × (back : List Record) × (rows ≡ front ++ back) × HaveRows w runs front × HaveRows w others back
  runs_split runs others rows have =
      let z = zip_split (AreRunRows w) runs others have.parts.0 have.parts.2 in (
        all_fields z.0,
        all_fields z.1,
        have.parts.1 ∙ ap (λ (ps : List (List Record)). all_fields ps) z.2 ∙ flat_map-append (λ (r : List Record). r) z.0 z.1,
        record { parts = (z.0, refl, z.3); full = all_front (IsFull w) runs others have.full },
        record { parts = (z.1, refl, z.4); full = all_back (IsFull w) runs others have.full },
      )

  -- two runs that stand column by column are one
  pub run_joined : (first second : Run) (height : ℕ) (cs ds es : Vec FieldColumn Global) → first.fields ≡ held.Columns cs → second.fields ≡ held.Columns ds → AreAppended cs.items ds.items es.items
      → height ≡ first.height + second.height → (rows more : List Record) → HaveRows w (first ∷ []) rows → HaveRows w (second ∷ []) more
      → HaveRows w (record { fields = held.Columns es; height = height } ∷ []) (rows ++ more)
  run_joined first second height cs ds es is is' both sum rows more a b =
      let p = one_back first rows a in
      let q = one_back second more b in
      let h = first.height in
      let k = second.height in
      let full = subst (HasFields w h) is p.1 in
      let full' = subst (HasFields w k) is' q.1 in
      let are = subst (λ (fs : RunFields). AreRunRows w record { fields = fs; height = h } rows) is p.0 in
      let are' = subst (λ (fs : RunFields). AreRunRows w record { fields = fs; height = k } more) is' q.0 in
      subst (λ n. HaveRows w (record { fields = held.Columns es; height = n } ∷ []) (rows ++ more)) (sym sum)
      (one_run record { fields = held.Columns es; height = h + k } (rows ++ more) (both_rows w h k cs ds es full full' both rows more are are') (both_full w h k cs ds es full full' both))

  -- what becomes of the last run and one behind it
  module _ (front : List Run) (last new run : Run) (runs all : List Run) (are : runs ≡ front ++ last ∷ []) (put : all ≡ front ++ new ∷ []) (rows more : List Record)
      (have : HaveRows w runs rows) (next : HaveRows w (run ∷ []) more) where
    parts : (before : List Record) × (mine : List Record) × (rows ≡ before ++ mine) × HaveRows w front before × HaveRows w (last ∷ []) mine
    parts = runs_split front (last ∷ []) rows (subst (λ (rs : List Run). HaveRows w rs rows) are have)

    pub last_joined : ((mine : List Record) → HaveRows w (last ∷ []) mine → HaveRows w (new ∷ []) (mine ++ more)) → HaveRows w all (rows ++ more)
    last_joined joined =
        subst (λ (rs : List Run). HaveRows w rs (rows ++ more)) (sym put)
        (subst (HaveRows w (front ++ new ∷ [])) (sym (append_assoc parts.0 parts.1 more) ∙ ap (λ (rs : List Record). rs ++ more) (sym parts.2))
        (more_runs front (new ∷ []) parts.0 (parts.1 ++ more) parts.3 (joined parts.1 parts.4)))

    pub last_kept : ((mine : List Record) → HaveRows w (last ∷ []) mine → HaveRows w (new ∷ []) mine) → HaveRows w all rows
    last_kept kept =
        subst (λ (rs : List Run). HaveRows w rs rows) (sym put)
        (subst (HaveRows w (front ++ new ∷ [])) (sym parts.2) (more_runs front (new ∷ []) parts.0 parts.1 parts.3 (kept parts.1 parts.4)))
