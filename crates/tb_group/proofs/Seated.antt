-- The place that an aggregate has among those that are made.
use Rattle.std.proofs.Common.{◌≡◌, ◌∙◌, ◌+◌, ◌<◌, inl, inr, ℕ, List, [], ◌∷◌, ◌++◌, Option, Some, None, get_or, length, refl, sym, ap, subst, arith}
use Rattle.std.specs.List.{All, Contains, cons_option}
use Rattle.std.specs.Option.{option_map}
use Rattle.std.proofs.lemmas.List.{get_or-map, get_or_append_left, get_or_default, get_or_push, length-map, length_push}
use Rattle.std.proofs.lemmas.List.Elements.{All-cons, All-contains, All-nil, All-push}
use borrow.Author.Count.{below_more}
use Rattle.tb_frame.specs.Promise.Join.{column_named}
use Rattle.tb_frame.specs.Promise.Table.{Table, TableColumn}
use Rattle.tb_group.specs.Asked.{Asked, asked_as, asked_list, asked_of}
use Rattle.tb_group.specs.Once.{AreAlike, AreOnceTo, IsAlikeAt, IsSeated}
use Rattle.tb_group.specs.Served.{AreSeated, IsSeat}
use Rattle.tb_group.specs.declared.lookup.AskedColumn.{AskedColumn}
use Rattle.tb_group.specs.declared.request.GroupAgg.{GroupAgg}
use Rattle.tb_group.proofs.Pieces.{un_mapped}

-- ONE MORE

self_alike : (a b : AskedColumn) → a ≡ b → AreAlike a b
self_alike a b e = record { agg = ap (λ (x : AskedColumn). x.asked.now.agg) e; source = ap (λ (x : AskedColumn). x.asked.now.column) e }

-- what stands at a place stands there after one more is put behind
kept_at : (made : List AskedColumn) (one : AskedColumn) (seat : ℕ) (a : AskedColumn) → IsAlikeAt made seat a → IsAlikeAt (made ++ one ∷ []) seat a
kept_at made one seat a h =
    (omega (arith, h.0, length_push made one), subst (λ (x : AskedColumn). AreAlike x a) (sym (get_or_append_left made (one ∷ []) a seat h.0)) h.1)

module _ (asked : List AskedColumn) (i : ℕ) (one : AskedColumn) (low : i < length asked) (is : one ≡ get_or asked i one) where
  -- what is read at the place is the one at hand
  at_hand : (a : AskedColumn) → a ≡ get_or asked i a → one ≡ a
  at_hand a e = is ∙ get_or_default asked i one a low ∙ sym e

  pub once_more : (old new : List AskedColumn) (seats more : List ℕ) (seat : ℕ) → AreOnceTo asked i old seats → IsSeated old new one seat → more ≡ seats ++ seat ∷ [] → AreOnceTo asked (i + 1) new more
  once_more old new seats more seat so_far seated pushed = record {
    from = all_from seated;
    many = ap length pushed ∙ length_push seats seat ∙ ap (λ (n : ℕ). n + 1) so_far.many;
    each = λ k a under e. below_more Each i before here k under a e;
  }
    where
      Each : ℕ → Type 0
      Each k = (a : AskedColumn) → a ≡ get_or asked k a → IsAlikeAt new (get_or more k 0) a

      all_from : IsSeated old new one seat → All (Contains asked) new
      all_from (inl h) = subst (λ (l : List AskedColumn). All (Contains asked) l) (sym h.0) so_far.from
      all_from (inr h) = subst (λ (l : List AskedColumn). All (Contains asked) l) (sym h.0) (All-push (Contains asked) old one so_far.from (i, low, sym is))

      stays : (s : ℕ) (a : AskedColumn) → IsAlikeAt old s a → IsSeated old new one seat → IsAlikeAt new s a
      stays s a k (inl h) = subst (λ (l : List AskedColumn). IsAlikeAt l s a) (sym h.0) k
      stays s a k (inr h) = subst (λ (l : List AskedColumn). IsAlikeAt l s a) (sym h.0) (kept_at old one s a k)

      before : (k : ℕ) → k < i → Each k
      before k under a e =
          let same : get_or more k 0 ≡ get_or seats k 0 = ap (λ (l : List ℕ). get_or l k 0) pushed ∙ get_or_append_left seats (seat ∷ []) 0 k (omega (arith, under, so_far.many)) in
          subst (λ (s : ℕ). IsAlikeAt new s a) (sym same) (stays (get_or seats k 0) a (so_far.each k a under e) seated)

      placed : (a : AskedColumn) → one ≡ a → IsSeated old new one seat → IsAlikeAt new seat a
      placed a e (inl h) = subst (λ (x : AskedColumn). IsAlikeAt new seat x) e (subst (λ (l : List AskedColumn). IsAlikeAt l seat one) (sym h.0) h.1)
      placed a e (inr h) =
          let there : seat < length (old ++ one ∷ []) = omega (arith, h.1, length_push old one) in
          let at : get_or (old ++ one ∷ []) seat a ≡ one = get_or_push old one a seat (sym h.1) in
          subst (λ (l : List AskedColumn). IsAlikeAt l seat a) (sym h.0) (there, self_alike (get_or (old ++ one ∷ []) seat a) a (at ∙ e))

      here : Each i
      here a e =
          let same : get_or more i 0 ≡ seat = ap (λ (l : List ℕ). get_or l i 0) pushed ∙ get_or_push seats seat 0 i so_far.many in
          subst (λ (s : ℕ). IsAlikeAt new s a) (sym same) (placed a (at_hand a e) seated)

pub none_yet : (asked : List AskedColumn) (made : List AskedColumn) (seats : List ℕ) → made ≡ [] → seats ≡ [] → AreOnceTo asked 0 made seats
none_yet asked made seats no_made no_seats = record {
  from = subst (λ (l : List AskedColumn). All (Contains asked) l) (sym no_made) (All-nil (Contains asked));
  many = ap length no_seats;
  each = λ k a under e. absurd (omega (arith, under));
}

-- THOSE OF A REQUEST

-- each aggregate stands beside the column of its name
sources_named : (t : Table) (aggs : List GroupAgg) → All (λ (p : Asked). column_named t p.0.column ≡ Some p.1) (asked_of t aggs)
sources_named t [] = All-nil (λ (p : Asked). column_named t p.0.column ≡ Some p.1)
sources_named t (a ∷ aggs) = at (column_named t a.column) refl (sources_named t aggs)
  where
    at : (o : Option TableColumn) → column_named t a.column ≡ o → All (λ (p : Asked). column_named t p.0.column ≡ Some p.1) (asked_of t aggs)
        → All (λ (p : Asked). column_named t p.0.column ≡ Some p.1) (cons_option (option_map (λ (v : TableColumn). (a, v)) o) (asked_of t aggs))
    at None e rest = rest
    at (Some v) e rest = All-cons (λ (p : Asked). column_named t p.0.column ≡ Some p.1) (a, v) (asked_of t aggs) e rest

module _ (t : Table) (aggs : List GroupAgg) (asked made : List AskedColumn) (seats : List ℕ) (is : asked_list asked ≡ asked_of t aggs) (once : AreOnceTo asked (length asked) made seats) where
  abbrev IsNamed : AskedColumn → Type 0
  IsNamed a = column_named t (asked_as a).0.column ≡ Some (asked_as a).1

  all_named : All IsNamed asked
  all_named =
      un_mapped (λ (p : Asked). column_named t p.0.column ≡ Some p.1) asked_as asked
      (subst (λ (ps : List Asked). All (λ (p : Asked). column_named t p.0.column ≡ Some p.1) ps) (sym is) (sources_named t aggs))

  -- what holds of each that is asked for holds of each that is made
  pub made_hold : (P : Asked → Type 0) → All P (asked_of t aggs) → All P (asked_list made)
  made_hold P all =
      let each : All (λ (a : AskedColumn). P (asked_as a)) asked = un_mapped P asked_as asked (subst (λ (ps : List Asked). All P ps) (sym is) all) in
      λ k d low.
      let long : length (asked_list made) ≡ length made = length-map made asked_as in
      at made refl k d (omega (arith, low, long)) each
    where
      at : (ms : List AskedColumn) → ms ≡ made → (k : ℕ) (d : Asked) → k < length ms → All (λ (a : AskedColumn). P (asked_as a)) asked → P (get_or (asked_list made) k d)
      at [] e k d low each = absurd (omega (arith, low))
      at (m ∷ ms) e k d low each =
          let under : k < length made = omega (arith, low, ap length e) in
          subst P (sym (get_or-map asked_as made k m d under))
          (All-contains (λ (a : AskedColumn). P (asked_as a)) asked (get_or made k m) each (once.from k m under))

  -- columns of one name are one
  one_column : (a b : AskedColumn) → IsNamed a → IsNamed b → a.asked.now.column ≡ b.asked.now.column → (asked_as a).1 ≡ (asked_as b).1
  one_column a b na nb e = inside (asked_as a).1 (asked_as b).1 (sym na ∙ ap (column_named t) e ∙ nb)
    where
      inside : (v w : TableColumn) → Some v ≡ Some w → v ≡ w
      inside v w h = cc

  seat_of : (k : ℕ) (a : AskedColumn) → k < length asked → a ≡ get_or asked k a → IsSeat (asked_list made) (get_or seats k 0) (asked_as a)
  seat_of k a low e =
      let seat : ℕ = get_or seats k 0 in
      let alike : IsAlikeAt made seat a = once.each k a low e in
      let b : AskedColumn = get_or made seat a in
      let at : get_or (asked_list made) seat (asked_as a) ≡ asked_as b = get_or-map asked_as made seat a (asked_as a) alike.0 in
      let named : IsNamed a = subst IsNamed (sym e) (all_named k a low) in
      let other : IsNamed b = All-contains IsNamed asked b all_named (once.from seat a alike.0) in
      record {
        there = omega (arith, alike.0, length-map made asked_as);
        agg = ap (λ (p : Asked). p.0.agg) at ∙ alike.1.agg;
        column = ap (λ (p : Asked). p.1) at ∙ one_column b a other named alike.1.source;
      }

  pub are_seated : AreSeated (asked_list asked) (asked_list made) seats
  are_seated = record {
    many = once.many ∙ sym (length-map asked asked_as);
    each = λ k p low e. at asked refl k p (omega (arith, low, length-map asked asked_as)) e;
  }
    where
      at : (all : List AskedColumn) → all ≡ asked → (k : ℕ) (p : Asked) → k < length all → p ≡ get_or (asked_list asked) k p → IsSeat (asked_list made) (get_or seats k 0) p
      at [] s k p low e = absurd (omega (arith, low))
      at (x ∷ xs) s k p low e =
          let under : k < length asked = omega (arith, low, ap length s) in
          let a : AskedColumn = get_or asked k x in
          let own : a ≡ get_or asked k a = get_or_default asked k x a under in
          let same : asked_as a ≡ p = sym (e ∙ get_or-map asked_as asked k x p under) in
          subst (λ (y : Asked). IsSeat (asked_list made) (get_or seats k 0) y) same (seat_of k a under own)
