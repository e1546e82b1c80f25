-- Steps of a configured chip that its block RAMs close, told one after another.
use Rattle.std.proofs.Common.{◌≡◌, ℕ, ◌+◌, Bool, suc, List, [], ◌∷◌, ◌++◌, length, map, take, refl, sym, ap, ◌∙◌, append_assoc, append-nil}
use Rattle.ice_base_values.specs.System.{machine_shows}
use Rattle.ice_chip.specs.Database.{Parts}
use Rattle.ice_chip.specs.declared.rows.Pad.{Pad}
use Rattle.ice_chip_rams.specs.declared.ram_site.RamSite.{RamSite}
use Rattle.ice_bits.specs.Configuration.{Configuration}
use Rattle.ice_net.specs.declared.driver.Drive.{Drive}
use Rattle.ice_net.specs.Meaning.{State}
use Rattle.ice_decode.specs.Meaning.{chip_start}
use Rattle.ice_ram.specs.declared.setup.Setup.{Setup}
use Rattle.ice_ram.specs.Ram.{Kept}
use Rattle.ice_ram.specs.Ports.{after_all}
use Rattle.ice_sim.specs.ChipRuns.{ChipRunData, with_state}
use Rattle.ice_sim_levels.specs.DriveTexts.{drives_line, drives_text}
use Rattle.ice_sim_chip_rams.specs.ClosedChips.{all_pads, rams_at, closed_step, shown_from, shown_with}

-- ---- one step
-- a step of the chip of a run
abbrev pub step_of : ChipRunData → ℕ → State × List (Setup × Kept) → List Bool → (State × List (Setup × Kept)) × List Drive
step_of run first = closed_step run.parts run.configuration run.bonded first run.bonded first

as_many : (drives : List Drive) (k : ℕ) (rams : List (Setup × Kept)) → length (after_all drives k rams) ≡ length rams
as_many drives k [] = refl
as_many drives k (ram ∷ rams) = ap suc (as_many drives (k + 74) rams)

-- block RAMs are as many after a step
pub rams_stay : (run : ChipRunData) (first : ℕ) (state : State) (rams : List (Setup × Kept)) (levels : List Bool) → length (step_of run first (state, rams) levels).0.1 ≡ length rams
unfolding closed_step
rams_stay run first state rams levels = as_many (step_of run first (state, rams) levels).1 first rams

-- the run is still the one that began, in another state
pub later_again : (begun run next : ChipRunData) (state : State) → run ≡ with_state begun run.state → next ≡ with_state run state → next ≡ with_state begun next.state
later_again begun run next state is made =
    let now : next ≡ with_state begun state = made ∙ ap (λ (r : ChipRunData). with_state r state) is in
    now ∙ ap (λ (s : State). with_state begun s) (sym (ap (λ (r : ChipRunData). r.state) now))

-- the state after a step that the code made of the chip
pub stepped : (begun run next : ChipRunData) (first : ℕ) (rams later : List (Setup × Kept)) (levels : List Bool) → run ≡ with_state begun run.state
    → next ≡ with_state run (step_of run first (run.state, rams) levels).0.0 → later ≡ (step_of run first (run.state, rams) levels).0.1
    → (step_of begun first (run.state, rams) levels).0 ≡ (next.state, later)
stepped begun run next first rams later levels is next_is later_is =
    let state : (step_of begun first (run.state, rams) levels).0.0 ≡ next.state =
    ap (λ (r : ChipRunData). (step_of r first (run.state, rams) levels).0.0) (sym is) ∙ sym (ap (λ (r : ChipRunData). r.state) next_is) in
    let held : (step_of begun first (run.state, rams) levels).0.1 ≡ later = ap (λ (r : ChipRunData). (step_of r first (run.state, rams) levels).0.1) (sym is) ∙ sym later_is in
    ap (λ s. (s, (step_of begun first (run.state, rams) levels).0.1)) state ∙ ap (λ rs. (next.state, rs)) held

-- the line of such a step
pub line_of : (begun run : ChipRunData) (first : ℕ) (rams : List (Setup × Kept)) (levels : List Bool) (text longer : List ℕ) → run ≡ with_state begun run.state
    → longer ≡ text ++ drives_line (take first (step_of run first (run.state, rams) levels).1) → longer ≡ text ++ drives_line (take first (step_of begun first (run.state, rams) levels).1)
line_of begun run first rams levels text longer is more = more ∙ ap (λ (r : ChipRunData). text ++ drives_line (take first (step_of r first (run.state, rams) levels).1)) is

-- ---- all steps
-- one line more was told
pub told_more : {S : Type 0} (f : S → List Bool → S × List Drive) (first : ℕ) (s t : S) (levels : List Bool) (left rest : List (List Bool)) (text longer all : List ℕ)
    → left ≡ levels ∷ rest → (f s levels).0 ≡ t → longer ≡ text ++ drives_line (take first (f s levels).1)
    → all ≡ text ++ drives_text (map (take first) (machine_shows f s left)) → all ≡ longer ++ drives_text (map (take first) (machine_shows f t rest))
told_more f first s t levels left rest text longer all here next more told =
    told
    ∙ ap (λ l. text ++ drives_text (map (take first) (machine_shows f s l))) here
    ∙ sym (append_assoc text (drives_line (take first (f s levels).1)) (drives_text (map (take first) (machine_shows f (f s levels).0 rest))))
    ∙ ap (λ x. x ++ drives_text (map (take first) (machine_shows f (f s levels).0 rest))) (sym more)
    ∙ ap (λ u. longer ++ drives_text (map (take first) (machine_shows f u rest))) next

-- all was told
pub told_all : {S : Type 0} (f : S → List Bool → S × List Drive) (first : ℕ) (s : S) (left : List (List Bool)) (text all : List ℕ) → left ≡ []
    → all ≡ text ++ drives_text (map (take first) (machine_shows f s left)) → text ≡ all
told_all f first s left text all none told = sym (told ∙ ap (λ l. text ++ drives_text (map (take first) (machine_shows f s l))) none ∙ append-nil text)

-- what is told of these pads and block RAMs is what is told of the sites
pub shown_same : (parts : Parts) (k read : Configuration) (sites : List RamSite) (bonded pads : List Pad) (first : ℕ) (held : List (Setup × Kept)) (levels : List (List Bool)) → read ≡ k
    → pads ≡ all_pads sites bonded → first ≡ length bonded → held ≡ rams_at parts read sites
    → drives_text (shown_from parts k pads first pads first (chip_start parts, held) levels) ≡ drives_text (shown_with parts k sites bonded bonded levels)
shown_same parts k read sites bonded pads first held levels same pads_are first_is held_are =
    ap (λ (ps : List Pad). drives_text (shown_from parts k ps first ps first (chip_start parts, held) levels)) pads_are
    ∙ ap (λ (n : ℕ). drives_text (shown_from parts k (all_pads sites bonded) n (all_pads sites bonded) n (chip_start parts, held) levels)) first_is
    ∙ ap (λ (hs : List (Setup × Kept)). drives_text (shown_from parts k (all_pads sites bonded) (length bonded) (all_pads sites bonded) (length bonded) (chip_start parts, hs) levels))
    (held_are ∙ ap (λ (c : Configuration). rams_at parts c sites) same)
