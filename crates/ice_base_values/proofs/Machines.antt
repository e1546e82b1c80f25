-- Two machines of which the one simulates the other show the same.
use Rattle.std.proofs.Common.{◌≡◌, List, [], ◌∷◌, refl, ap, ◌∙◌}
use Rattle.std.specs.List.{AllByRecursion}
use Rattle.ice_base_values.specs.System.{machine_shows}
use Rattle.ice_base_values.specs.Simulations.{Simulates}

-- from states that are tied, both machines show the same for every list of allowed levels
pub shows_alike : {S T L O : Type 0} (f : S → L → S × O) (g : T → L → T × O) (R : S → T → Type 0) (Allowed : L → Type 0)
    → Simulates f g R Allowed → (s : S) (t : T) → R s t → (levels : List L) → AllByRecursion Allowed levels → machine_shows f s levels ≡ machine_shows g t levels
shows_alike f g R Allowed kept s t r [] allowed = refl
shows_alike f g R Allowed kept s t r (l ∷ ls) allowed =
    let next = kept s t l allowed.0 r in
    ap (λ o. o ∷ machine_shows f (f s l).0 ls) next.1 ∙ ap (λ os. (g t l).1 ∷ os) (shows_alike f g R Allowed kept (f s l).0 (g t l).0 next.0 ls allowed.1)

-- the same, where all levels are allowed
pub shows_always_alike : {S T L O : Type 0} (f : S → L → S × O) (g : T → L → T × O) (R : S → T → Type 0)
    → Simulates f g R (λ l. Unit {0}) → (s : S) (t : T) → R s t → (levels : List L) → machine_shows f s levels ≡ machine_shows g t levels
shows_always_alike f g R kept s t r [] = refl
shows_always_alike f g R kept s t r (l ∷ ls) =
    let next = kept s t l tt r in
    ap (λ o. o ∷ machine_shows f (f s l).0 ls) next.1 ∙ ap (λ os. (g t l).1 ∷ os) (shows_always_alike f g R kept (f s l).0 (g t l).0 next.0 ls)
