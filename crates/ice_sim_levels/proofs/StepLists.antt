-- Steps in one list of levels.
use Rattle.std.proofs.Common.{◌≡◌, ℕ, zero, suc, ◌+◌, ◌*◌, ◌<◌, ◌≤◌, Bool, List, [], ◌∷◌, ◌++◌, length, take, drop, All, refl, ap, arith}
use Rattle.std.proofs.lemmas.List.{take-append-le, drop-append-le, length-drop, length-take-le, take_all}
use Rattle.std.proofs.lemmas.List.Elements.{All-cons, All-nil}
use Rattle.ice_sim_levels.specs.Steps.{steps_of}
use Rattle.ice_sim_levels.specs.LevelTexts.{HasWidth}

pub steps_counted : (width count : ℕ) (levels : List Bool) → length (steps_of width count levels) ≡ count
steps_counted width zero levels = refl
steps_counted width (suc count) levels = ap suc (steps_counted width count (drop width levels))

pub suc_times : (n w : ℕ) → suc n * w ≡ w + n * w
suc_times n w = grind arith

no_levels : (levels : List Bool) → length levels ≡ 0 → levels ≡ []
no_levels [] e = refl
no_levels (x ∷ levels) e = cc

-- one step more
pub steps_more : (width count : ℕ) (levels step : List Bool) → length levels ≡ count * width → length step ≡ width
    → steps_of width (suc count) (levels ++ step) ≡ steps_of width count levels ++ step ∷ []
steps_more width zero levels step long wide =
    let none : levels ≡ [] = no_levels levels (grind arith) in
    let whole : take width step ≡ step = take_all width step (omega arith) in
    rw none (ap (λ s. s ∷ []) whole)
steps_more width (suc count) levels step long wide =
    let e = suc_times count width in
    let le : width ≤ length levels = omega arith in
    let rest : length (drop width levels) ≡ count * width = omega (arith, length-drop width levels) in
    rw (take-append-le width levels step le, drop-append-le width levels step le)
    (ap (λ s. take width levels ∷ s) (steps_more width count (drop width levels) step rest wide))

-- each step has its width
pub steps_wide : (width count : ℕ) (levels : List Bool) → length levels ≡ count * width → All (HasWidth width) (steps_of width count levels)
steps_wide width zero levels long = All-nil (HasWidth width)
steps_wide width (suc count) levels long =
    let e = suc_times count width in
    let le : width ≤ length levels = omega arith in
    let rest : length (drop width levels) ≡ count * width = omega (arith, length-drop width levels) in
    All-cons (HasWidth width) (take width levels) (steps_of width count (drop width levels)) (length-take-le width levels le) (steps_wide width count (drop width levels) rest)

-- there are no more steps than levels
pub steps_few : (width count total : ℕ) → total ≡ count * width → 0 < width → count ≤ total
steps_few zero count total e lt = absurd (omega arith)
steps_few (suc width) zero total e lt = omega arith
steps_few (suc width) (suc count) total e lt =
    let more = steps_few (suc width) count (count * suc width) refl lt in
    let f = suc_times count (suc width) in omega arith
