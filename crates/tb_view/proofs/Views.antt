-- Facts on views over buffers that grow.
use Rattle.std.proofs.Common.{arith, ◌≡◌, ◌≤◌, ◌<◌, ◌+◌, ◌-◌, ◌++◌, ◌∷◌, [], ℕ, List, inl, inr, zero, suc, Option, Some, None, length, take, drop, get_or, refl, sym, ◌∙◌, ap, length-append, length-take}
use Rattle.std.specs.List.{All}
use Rattle.std.proofs.lemmas.Bool.{cases_lt}
use Rattle.std.proofs.lemmas.List.{take-take, drop-take, take_at, drop_at, take_all, get_or_at, get_or_append_left}
use Rattle.std.proofs.lemmas.List.Elements.{All-head, All-tail, All-cons, All-nil}
use Rattle.tb_view.specs.View.{buffer_of, offset_of, view_text, text_in, texts, IsView, IsViewOrNone, LiesIn}
use Rattle.tb_view.specs.declared.view.View.{View}

-- each buffer begins as it did
pub record Extend (bs cs : List (List ℕ)) : Type 0 where
  pub longer : length bs ≤ length cs
  pub front : (i : ℕ) → i < length bs → take (length (get_or bs i [])) (get_or cs i []) ≡ get_or bs i []

-- a part within the front of a list is a part of the list
part_in_front : (b c : List ℕ) (offset len : ℕ) → offset + len ≤ length b → take (length b) c ≡ b → take len (drop offset c) ≡ take len (drop offset b)
part_in_front b c offset len h e =
    let n : ℕ = length b - offset in
    let s : length b ≡ offset + n = omega arith in
    let d : drop offset b ≡ take n (drop offset c) = ap (drop offset) (sym e) ∙ ap (λ k. drop offset (take k c)) s ∙ drop-take offset n c in
    sym (ap (take len) d ∙ take-take len n (drop offset c) (omega arith))

front_is_short : (b c : List ℕ) → take (length b) c ≡ b → length b ≤ length c
front_is_short b c e = omega (arith, ap length e, length-take (length b) c)

lies_still : (bs cs : List (List ℕ)) (v : View) → Extend bs cs → LiesIn bs v → LiesIn cs v
lies_still bs cs v x l =
    let b = get_or bs (buffer_of v) [] in
    let c = get_or cs (buffer_of v) [] in
    let e : take (length b) c ≡ b = x.front (buffer_of v) l.buffer in
    record {
      buffer = omega (arith, x.longer, l.buffer);
      within = omega (arith, l.within, front_is_short b c e);
      front = l.front ∙ ap (take 4) (sym (part_in_front b c (offset_of v) v.length l.within e));
    }

pub IsView-extend : (bs cs : List (List ℕ)) (v : View) → Extend bs cs → IsView bs v → IsView cs v
IsView-extend bs cs v x f = record { short = f.short; long = λ h. lies_still bs cs v x (f.long h) }

pub view_text-extend : (bs cs : List (List ℕ)) (v : View) → Extend bs cs → IsView bs v → view_text v cs ≡ view_text v bs
view_text-extend bs cs v x f = grind (arith, part_in_front (get_or bs (buffer_of v) []) (get_or cs (buffer_of v) []) (offset_of v) v.length, f.long, x.front (buffer_of v))

pub rows-extend : (bs cs : List (List ℕ)) (vs : List (Option View)) → Extend bs cs → All (IsViewOrNone bs) vs → All (IsViewOrNone cs) vs × (texts cs vs ≡ texts bs vs)
rows-extend bs cs [] x a = (All-nil _, refl)
rows-extend bs cs (None ∷ vs) x a =
    let r = rows-extend bs cs vs x (All-tail (IsViewOrNone bs) None vs a) in
    (All-cons (IsViewOrNone cs) None vs tt r.0, ap (λ ts. None ∷ ts) r.1)
rows-extend bs cs (Some v ∷ vs) x a =
    let r = rows-extend bs cs vs x (All-tail (IsViewOrNone bs) (Some v) vs a) in
    let f : IsView bs v = All-head (IsViewOrNone bs) (Some v) vs a in
    let t : view_text v cs ≡ view_text v bs = view_text-extend bs cs v x f in
    (All-cons (IsViewOrNone cs) (Some v) vs (IsView-extend bs cs v x f) r.0, λ i. Some (t i) ∷ r.1 i)

-- a further buffer, and more in the last one
pub Extend-further : (bs cs : List (List ℕ)) → Extend bs (bs ++ cs)
Extend-further bs cs = record {
  longer = omega (arith, length-append bs cs);
  front = λ i h. rw (get_or_append_left bs cs [] i h) (take_all _ _ (omega arith));
}

last_front : (bs : List (List ℕ)) (b t : List ℕ) (i : ℕ) → i < length (bs ++ b ∷ []) → take (length (get_or (bs ++ b ∷ []) i [])) (get_or (bs ++ (b ++ t) ∷ []) i []) ≡ get_or (bs ++ b ∷ []) i []
last_front [] b t zero h = take_at b t (length b) refl
last_front [] b t (suc i) h = absurd (omega arith)
last_front (x ∷ xs) b t zero h = take_all (length x) x (omega arith)
last_front (x ∷ xs) b t (suc i) h = last_front xs b t i (omega arith)

pub Extend-last : (bs : List (List ℕ)) (b t : List ℕ) → Extend (bs ++ b ∷ []) (bs ++ (b ++ t) ∷ [])
Extend-last bs b t = record {
  longer = omega (arith, length-append bs (b ∷ []), length-append bs ((b ++ t) ∷ []));
  front = last_front bs b t;
}

-- the view of a text that was put behind the last buffer
pub IsView-last : (bs : List (List ℕ)) (b t : List ℕ) (v : View) → 12 < length t → v.length ≡ length t → take 4 v.rest ≡ take 4 t → buffer_of v ≡ length bs → offset_of v ≡ length b → IsView (bs ++ (b ++ t) ∷ []) v × (view_text v (bs ++ (b ++ t) ∷ []) ≡ t)
IsView-last bs b t v h n e k o =
    let g : get_or (bs ++ (b ++ t) ∷ []) (buffer_of v) [] ≡ b ++ t = get_or_at bs (b ++ t) [] [] (buffer_of v) (sym k) in
    let p : text_in (bs ++ (b ++ t) ∷ []) (buffer_of v) (offset_of v) v.length ≡ t = rw g (ap (take v.length) (drop_at b t (offset_of v) (sym o)) ∙ take_all v.length t (omega arith)) in (
      record {
        short = λ s. absurd (omega arith);
        long = λ l. record {
          buffer = omega (arith, length-append bs ((b ++ t) ∷ []));
          within = rw g (omega (arith, length-append b t));
          front = e ∙ ap (take 4) (sym p);
        };
      },
      grind (arith, p),
    )

-- a last buffer without bytes holds no text
not_in_last : (bs : List (List ℕ)) (v : View) → 12 < v.length → LiesIn (bs ++ [] ∷ []) v → buffer_of v < length bs
not_in_last bs v h l = elim (cases_lt (buffer_of v) (length bs)) [
  | inl i ↦ i
  | inr i ↦ (let g : get_or (bs ++ [] ∷ []) (buffer_of v) [] ≡ [] = get_or_at bs [] [] [] (buffer_of v) (omega (arith, i, l.buffer, length-append bs ([] ∷ []))) in absurd (omega (arith, h, l.within, ap length g)))
]

drops_long : (bs : List (List ℕ)) (v : View) → IsView (bs ++ [] ∷ []) v → 12 < v.length → IsView bs v × (view_text v bs ≡ view_text v (bs ++ [] ∷ []))
drops_long bs v f h =
    let l = f.long h in
    let k : buffer_of v < length bs = not_in_last bs v h l in
    let g : get_or (bs ++ [] ∷ []) (buffer_of v) [] ≡ get_or bs (buffer_of v) [] = get_or_append_left bs ([] ∷ []) [] (buffer_of v) k in (
      record {
        short = λ s. absurd (omega arith);
        long = λ _. record { buffer = k; within = rw (sym g) l.within; front = rw (sym g) l.front };
      },
      grind (arith, g),
    )

drops_last : (bs : List (List ℕ)) (v : View) → IsView (bs ++ [] ∷ []) v → IsView bs v × (view_text v bs ≡ view_text v (bs ++ [] ∷ []))
drops_last bs v f = elim (cases_lt 12 v.length) [
  | inl h ↦ drops_long bs v f h
  | inr h ↦ (record { short = f.short; long = λ l. absurd (omega arith) }, grind arith)
]

pub rows-drop_last : (bs : List (List ℕ)) (vs : List (Option View)) → All (IsViewOrNone (bs ++ [] ∷ [])) vs → All (IsViewOrNone bs) vs × (texts bs vs ≡ texts (bs ++ [] ∷ []) vs)
rows-drop_last bs [] a = (All-nil _, refl)
rows-drop_last bs (None ∷ vs) a =
    let r = rows-drop_last bs vs (All-tail (IsViewOrNone (bs ++ [] ∷ [])) None vs a) in
    (All-cons (IsViewOrNone bs) None vs tt r.0, ap (λ ts. None ∷ ts) r.1)
rows-drop_last bs (Some v ∷ vs) a =
    let r = rows-drop_last bs vs (All-tail (IsViewOrNone (bs ++ [] ∷ [])) (Some v) vs a) in
    let f = drops_last bs v (All-head (IsViewOrNone (bs ++ [] ∷ [])) (Some v) vs a) in
    (All-cons (IsViewOrNone bs) (Some v) vs f.0 r.0, λ i. Some (f.1 i) ∷ r.1 i)
