-- Names that stand twice.
use Rattle.std.proofs.Common.{◌≡◌, ◌⊎◌, List, [], ◌∷◌, ℕ, Option, Some, map, ap, inl, inr, refl}
use Rattle.std.specs.Option.{is_some, IsSome}
use Rattle.tb_value.specs.Promise.Names.{Name}
use Rattle.tb_value.specs.declared.error.PolarsError.{PolarsError}
use Rattle.tb_value.specs.declared.error.PolarsError.TheVariants.{Duplicate, OutOfMemory}
use Rattle.tb_frame.specs.Promise.Refusal.{repeated_among}
use Rattle.tb_asked.specs.Plans.{named_file}
use Rattle.tb_asked.specs.declared.plans.NamedFile.{NamedFile}

pub is_repeated : (names : List Name) (n : Name) (e : PolarsError) → e ≡ Duplicate n → (e ≡ OutOfMemory) ⊎ (repeated_among names ≡ Some e) → IsSome (repeated_among names)
is_repeated names n e is h = elim h [ inl w ↦ cc | inr w ↦ ap is_some w ]

pub names_named : (fs : List NamedFile) → map (λ (f : List ℕ × List ℕ). f.0) (map named_file fs) ≡ map (λ (f : NamedFile). f.name) fs
names_named [] = refl
names_named (f ∷ fs) = ap (λ ns. f.name ∷ ns) (names_named fs)
