-- Steps of a machine, told one after another.
use Rattle.std.proofs.Common.{◌≡◌, ℕ, suc, ◌+◌, Bool, List, [], ◌∷◌, ◌++◌, length, map, take, refl, sym, ap, ◌∙◌, append_assoc, append-nil}
use Rattle.ice_base_values.specs.System.{machine_shows}
use Rattle.ice_net.specs.declared.driver.Drive.{Drive}
use Rattle.ice_net.specs.NetlistData.{NetlistData}
use Rattle.ice_net.specs.Meaning.{State}
use Rattle.ice_ram.specs.declared.setup.Setup.{Setup}
use Rattle.ice_ram.specs.Ram.{Kept}
use Rattle.ice_ram.specs.Ports.{after_all}
use Rattle.ice_sim_levels.specs.DriveTexts.{drives_line, drives_text}
use Rattle.ice_sim_rams.specs.Closed.{closed_step}

as_many : (drives : List Drive) (k : ℕ) (rams : List (Setup × Kept)) → length (after_all drives k rams) ≡ length rams
as_many drives k [] = refl
as_many drives k (ram ∷ rams) = ap suc (as_many drives (k + 74) rams)

-- RAMs are as many after a step
pub rams_stay : (n : NetlistData) (first : ℕ) (state : State) (rams : List (Setup × Kept)) (levels : List Bool) → length (closed_step n first (state, rams) levels).0.1 ≡ length rams
unfolding closed_step
rams_stay n first state rams levels = as_many (closed_step n first (state, rams) levels).1 first rams

-- one line more was told
pub told_more : {S : Type 0} (f : S → List Bool → S × List Drive) (first : ℕ) (s t : S) (levels : List Bool) (left rest : List (List Bool)) (text longer all : List ℕ)
    → left ≡ levels ∷ rest → (f s levels).0 ≡ t → longer ≡ text ++ drives_line (take first (f s levels).1)
    → all ≡ text ++ drives_text (map (take first) (machine_shows f s left)) → all ≡ longer ++ drives_text (map (take first) (machine_shows f t rest))
told_more f first s t levels left rest text longer all here next more told =
    told
    ∙ ap (λ l. text ++ drives_text (map (take first) (machine_shows f s l))) here
    ∙ sym (append_assoc text (drives_line (take first (f s levels).1)) (drives_text (map (take first) (machine_shows f (f s levels).0 rest))))
    ∙ ap (λ x. x ++ drives_text (map (take first) (machine_shows f (f s levels).0 rest))) (sym more)
    ∙ ap (λ u. longer ++ drives_text (map (take first) (machine_shows f u rest))) next

-- all was told
pub told_all : {S : Type 0} (f : S → List Bool → S × List Drive) (first : ℕ) (s : S) (left : List (List Bool)) (text all : List ℕ) → left ≡ []
    → all ≡ text ++ drives_text (map (take first) (machine_shows f s left)) → text ≡ all
told_all f first s left text all none told = sym (told ∙ ap (λ l. text ++ drives_text (map (take first) (machine_shows f s l))) none ∙ append-nil text)

-- ---- in the code's words
-- the state after a step that the code made of the netlist
pub stepped : (n : NetlistData) (first : ℕ) (run next : NetlistData × State) (rams later : List (Setup × Kept)) (levels : List Bool) → run.0 ≡ n
    → next ≡ (run.0, (closed_step run.0 first (run.1, rams) levels).0.0) → later ≡ (closed_step run.0 first (run.1, rams) levels).0.1
    → (closed_step n first (run.1, rams) levels).0 ≡ (next.1, later)
stepped n first run next rams later levels is next_is later_is =
    let state : (closed_step n first (run.1, rams) levels).0.0 ≡ next.1 = sym (ap (λ (r : NetlistData × State). r.1) next_is ∙ ap (λ m. (closed_step m first (run.1, rams) levels).0.0) is) in
    let held : (closed_step n first (run.1, rams) levels).0.1 ≡ later = sym (later_is ∙ ap (λ m. (closed_step m first (run.1, rams) levels).0.1) is) in
    ap (λ s. (s, (closed_step n first (run.1, rams) levels).0.1)) state ∙ ap (λ rs. (next.1, rs)) held

-- the line of such a step
pub line_of : (n : NetlistData) (first : ℕ) (run : NetlistData × State) (rams : List (Setup × Kept)) (levels : List Bool) (text longer : List ℕ) → run.0 ≡ n
    → longer ≡ text ++ drives_line (take first (closed_step run.0 first (run.1, rams) levels).1) → longer ≡ text ++ drives_line (take first (closed_step n first (run.1, rams) levels).1)
line_of n first run rams levels text longer is more = more ∙ ap (λ m. text ++ drives_line (take first (closed_step m first (run.1, rams) levels).1)) is
