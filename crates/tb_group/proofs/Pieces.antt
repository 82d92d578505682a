-- Lists that are made one element at a time, and columns that are lent.
use Rattle.std.proofs.Common.{◌≡◌, ◌∙◌, ◌+◌, ◌<◌, ℕ, List, [], ◌∷◌, ◌++◌, get_or, length, map, take, sym, ap, arith}
use Rattle.std.specs.Borrow.{Bor}
use Rattle.std.specs.List.{All}
use Rattle.std.proofs.lemmas.List.{get_or-map, length-map, map_push, take_more}
use Rattle.std.proofs.lemmas.List.Elements.{All-cons, All-head, All-nil, All-tail}
use Rattle.std.proofs.lemmas.List.FromFn.{map-range_with_len_more}
use Rattle.tb_value.specs.Promise.Pairs.{row_numbers}
use Rattle.tb_chunk.specs.Lent.{lent_columns}
use Rattle.tb_chunk.specs.Promise.Col.{Col}
use Rattle.tb_frame.specs.Promise.Table.{plain_column, table_of}

pub un_mapped : {X Y : Type 0} (P : Y → Type 0) (f : X → Y) (xs : List X) → All P (map f xs) → All (λ x. P (f x)) xs
un_mapped P f [] all = All-nil (λ x. P (f x))
un_mapped P f (x ∷ xs) all = All-cons (λ x. P (f x)) x xs (All-head P (f x) (map f xs) all) (un_mapped P f xs (All-tail P (f x) (map f xs) all))

-- one more of what is made of each place
pub made_more : {X Z : Type 0} (see : X → Z) (make : ℕ → Z) (before after : List X) (n : ℕ) (x : X) → after ≡ before ++ x ∷ [] → see x ≡ make n
    → map see before ≡ map make (row_numbers n) → map see after ≡ map make (row_numbers (n + 1))
made_more see make before after n x pushed same so_far =
    let at : 0 + n ≡ n = omega arith in
    ap (map see) pushed ∙ map_push see before x
    ∙ (λ t. so_far t ++ same t ∷ [])
    ∙ sym (map-range_with_len_more make 0 n n at)

-- one more of what is made of what is seen of a list
pub mapped_more : {X Y Z : Type 0} (see : X → Y) (make : Y → Z) (xs : List X) (i : ℕ) (x : X) → i < length xs → x ≡ get_or xs i x
    → map make (map see (take (i + 1) xs)) ≡ map make (map see (take i xs)) ++ make (see x) ∷ []
mapped_more {X} {Y} see make xs i x low is =
    ap (λ (l : List X). map make (map see l)) (take_more xs i x low ∙ ap (λ (y : X). take i xs ++ y ∷ []) (sym is))
    ∙ ap (map make) (map_push see (take i xs) x)
    ∙ map_push make (map see (take i xs)) (see x)

-- what is seen of an element of what is made of a list
pub seen_at : {X Y Z : Type 0} (f : X → Y) (g : Y → Z) (xs : List X) (k : ℕ) (x : X) (d : Z) → k < length xs → x ≡ get_or xs k x → get_or (map g (map f xs)) k d ≡ g (f x)
seen_at f g xs k x d low is =
    get_or-map g (map f xs) k (f x) d (omega (arith, low, length-map xs f))
    ∙ ap g (get_or-map f xs k x (f x) low ∙ ap f (sym is))

-- LENT COLUMNS

pub lent_many : (rs : List (Bor Col)) → length (table_of (lent_columns rs)) ≡ length rs
lent_many rs = length-map (lent_columns rs) plain_column ∙ length-map rs (λ (r : Bor Col). r.now)

pub table_push : (rs : List (Bor Col)) (r : Bor Col) → table_of (lent_columns (rs ++ r ∷ [])) ≡ table_of (lent_columns rs) ++ plain_column r.now ∷ []
table_push rs r = ap table_of (map_push (λ (b : Bor Col). b.now) rs r) ∙ map_push plain_column (lent_columns rs) r.now

-- one column more
pub table_more : (rs : List (Bor Col)) (i : ℕ) (r : Bor Col) → i < length rs → r ≡ get_or rs i r → table_of (lent_columns (take (i + 1) rs)) ≡ table_of (lent_columns (take i rs)) ++ plain_column r.now ∷ []
table_more rs i r low is =
    ap (λ (l : List (Bor Col)). table_of (lent_columns l)) (take_more rs i r low ∙ ap (λ (b : Bor Col). take i rs ++ b ∷ []) (sym is))
    ∙ table_push (take i rs) r

-- one column more, which is the same but for its chunks
pub whole_more : (rs : List (Bor Col)) (i : ℕ) (r : Bor Col) (whole more : List (Bor Col)) (w : Bor Col) → i < length rs → r ≡ get_or rs i r → more ≡ whole ++ w ∷ []
    → plain_column w.now ≡ plain_column r.now → table_of (lent_columns whole) ≡ table_of (lent_columns (take i rs)) → table_of (lent_columns more) ≡ table_of (lent_columns (take (i + 1) rs))
whole_more rs i r whole more w low is pushed same so_far =
    ap (λ (l : List (Bor Col)). table_of (lent_columns l)) pushed
    ∙ table_push whole w
    ∙ (λ t. so_far t ++ same t ∷ [])
    ∙ sym (table_more rs i r low is)
