-- What a worker has before and after it works.
use Rattle.std.specs.Prelude.{◌≡◌, ℕ, ◌<◌, ◌≤◌, false, List, [], ◌∷◌, ◌++◌, map, length, slice_index_or, All, AllPairs}
use Rattle.tb_pool.specs.declared.workers.Worker.{Worker}
use Rattle.tb_pool.specs.Running.{ClaimsView, IsSeatOf}

-- the part was let in, and it may give this
abbrev pub IsLetIn : {O : Type 0} → (ℕ → Type 0) → (ℕ → O → Type 0) → ℕ → O → Type 0
IsLetIn L R part out = L part × R part out

module _ {O : Type 0} where
  -- it has claimed nothing
  pub record IsReady (c : ClaimsView) (w : Worker O) : Type 0 where
    pub own : IsSeatOf c w.seat
    pub none_drawn : w.seat.drawn ≡ []
    pub none_claimed : w.claimed.items ≡ []
    pub no_results : w.results.items ≡ []
    pub not_wanting : w.wanting ≡ false

  -- its parts are below n and ascend, each has a result that it gives, and its seat has drawn them and one number more,
  -- of at least n
  pub record HasEnded (R : ℕ → O → Type 0) (n : ℕ) (w : Worker O) : Type 0 where
    pub last : ℕ
    pub is_late : n ≤ last
    pub drawn : w.seat.drawn ≡ w.claimed.items ++ last ∷ []
    pub below : All (λ x. x < n) w.claimed.items
    pub ascends : AllPairs (λ x y. x < y) w.claimed.items
    pub paired : w.claimed.items ≡ map (λ p. p.0) w.results.items
    pub given : All (λ p. R p.0 p.1) w.results.items

  -- it has ended, unless memory was wanting
  pub record HasStopped (R : ℕ → O → Type 0) (c : ClaimsView) (w : Worker O) : Type 0 where
    pub own : IsSeatOf c w.seat
    pub ended : w.wanting ≡ false → HasEnded R c.bound w

  -- v is w after its work: it has its weight still, and it has ended unless memory was wanting
  pub record HasWorked (R : ℕ → O → Type 0) (c : ClaimsView) (w v : Worker O) : Type 0 where
    pub own : IsSeatOf c v.seat
    pub weight : v.seat.weight ≡ w.seat.weight
    pub ended : v.wanting ≡ false → HasEnded R c.bound v

-- the relation holds place by place
abbrev pub PlaceByPlace : {X : Type 0} → (X → X → Type 0) → List X → List X → Type 0
PlaceByPlace {X} R xs ys =
    (k : ℕ) (d : X) → k < length xs → R (slice_index_or xs k d) (slice_index_or ys k d)
