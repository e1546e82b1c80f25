-- How the texts of `build` stand, by what was read of them.
use Rattle.std.proofs.Common.{◌≡◌, ◌∙◌, ℕ, List, [], Ok, inl, inr, sym, ap, subst}
use Rattle.ice_base.specs.declared.number.TileAt.{TileAt}
use Rattle.ice_net.specs.NetlistData.{NetlistData}
use Rattle.ice_ram_read.specs.ClosedNetlists.{ClosedNetlistData, closed_netlist_of, without_rams}
use Rattle.ice_check.specs.Sound.{IsSound}
use Rattle.ice_check.proofs.Faulty.{faulty}
use Rattle.ice_chip.specs.Database.{Parts}
use Rattle.ice_chip_read.specs.Whole.{chip_says}
use Rattle.ice_pads.specs.Assign.{PadsData}
use Rattle.ice_pads.specs.Closings.{open_closing}
use Rattle.ice_pads.specs.declared.closing.Closing.{Closing}
use Rattle.ice_pcf.specs.Grammar.{pin_text_says}
use Rattle.ice_pcf.specs.declared.constraint.Constraint.{Constraint}
use Rattle.ice_flow_prepare.specs.Prepared.{prepared_on}
use Rattle.ice_flow_build.specs.Answers.{pins_said, places_said}
use Rattle.ice_flow_build.specs.Laid.{Task, task_of}
use Rattle.ice_flow_build.specs.declared.answer.Effort.{Effort}
use Rattle.ice_flow_frame.specs.declared.cause.Cause.{Cause}
use Rattle.ice_flow_frame.specs.declared.cause.Cause.TheVariants.{BadBlif, BadPcf, BadChip, BadPin, Overfull}
use Rattle.ice_flow_frame.specs.Texts.{text_at}
use Rattle.ice_flow_frame.proofs.Standings.{behind, then_stands, one_value}
use Rattle.ice_flow_build_cmd.specs.Asked.{IsAsked}
use Rattle.ice_flow_build_cmd.specs.BuildRows.{IsRead}
use Rattle.ice_flow_build_cmd.specs.Standing.{IsEnd, PlacesStand, TaskStands, NetStands, BlifStands, PcfStands, StandsForBuild}

-- ---- from how texts stand, down to how what was read of them stands
pub pcf_stands : (name : List ℕ) (effort : Effort) (t : List (List ℕ)) (parts : Parts) (cause : Cause) → chip_says (text_at t 1) ≡ Ok parts → StandsForBuild name effort t cause
    → PcfStands name effort (text_at t 2) (text_at t 3) parts cause
pcf_stands name effort t parts cause e m = then_stands (chip_says (text_at t 1)) BadChip (PcfStands name effort (text_at t 2) (text_at t 3)) parts cause e m

pub blif_stands : (name : List ℕ) (effort : Effort) (t : List (List ℕ)) (parts : Parts) (constraints : List Constraint) (cause : Cause) → IsRead t parts constraints → StandsForBuild name effort t cause
    → BlifStands name effort (text_at t 3) parts constraints cause
blif_stands name effort t parts constraints cause read m =
    then_stands (pin_text_says (text_at t 2)) BadPcf (BlifStands name effort (text_at t 3) parts) constraints cause read.are_constraints (pcf_stands name effort t parts cause read.is_chip m)

pub net_stands : (name : List ℕ) (effort : Effort) (t : List (List ℕ)) (parts : Parts) (constraints : List Constraint) (circuit : ClosedNetlistData) (cause : Cause) → IsRead t parts constraints
    → closed_netlist_of (text_at t 3) ≡ Ok circuit → StandsForBuild name effort t cause → NetStands name effort parts constraints circuit cause
net_stands name effort t parts constraints circuit cause read e m =
    then_stands (closed_netlist_of (text_at t 3)) BadBlif (NetStands name effort parts constraints) circuit cause e (blif_stands name effort t parts constraints cause read m)

sound_stands : (name : List ℕ) (effort : Effort) (parts : Parts) (constraints : List Constraint) (circuit : NetlistData) (cause : Cause) → IsSound circuit
    → NetStands name effort parts constraints (without_rams circuit) cause → TaskStands (task_of parts name constraints (prepared_on parts circuit [])) effort cause
sound_stands name effort parts constraints circuit cause sound (inl bad) = absurd (faulty circuit bad.0 bad.3 bad.2 sound)
sound_stands name effort parts constraints circuit cause sound (inr good) = good.1

-- a task by its parts
abbrev whole : Parts → List ℕ → List Constraint → NetlistData → Closing → Task
whole parts name constraints n closing = record { parts = parts; name = name; constraints = constraints; circuit = n; closing = closing }

-- a task is made of what was read
parts_of : (name : List ℕ) (t : List (List ℕ)) (task : Task) (asked : IsAsked name t task) → task_of task.parts name task.constraints (prepared_on task.parts asked.circuit []) ≡ task
parts_of name t task asked =
    ap (λ (x : List ℕ). task_of task.parts x task.constraints (prepared_on task.parts asked.circuit [])) (sym asked.is_name)
    ∙ ap (λ (n : NetlistData). task_of task.parts task.name task.constraints n) (sym asked.is_prepared)
    ∙ ap (whole task.parts task.name task.constraints task.circuit) (ap open_closing asked.is_prepared ∙ sym asked.is_open)

pub task_stands : (name : List ℕ) (effort : Effort) (t : List (List ℕ)) (task : Task) (cause : Cause) → IsAsked name t task → StandsForBuild name effort t cause → TaskStands task effort cause
task_stands name effort t task cause asked m =
    subst (λ (x : Task). TaskStands x effort cause) (parts_of name t task asked)
    (sound_stands name effort task.parts task.constraints asked.circuit cause asked.is_sound
    (net_stands name effort t task.parts task.constraints (without_rams asked.circuit) cause (record { is_chip = asked.is_chip; are_constraints = asked.are_constraints }) asked.is_circuit m))

pub places_stand : (name : List ℕ) (effort : Effort) (t : List (List ℕ)) (task : Task) (pads : PadsData) (cause : Cause) → IsAsked name t task → pins_said task ≡ Ok pads → StandsForBuild name effort t cause
    → PlacesStand task effort cause
places_stand name effort t task pads cause asked said m = then_stands (pins_said task) BadPin (λ found. PlacesStand task effort) pads cause said (task_stands name effort t task cause asked m)

pub end_stands : (name : List ℕ) (effort : Effort) (t : List (List ℕ)) (task : Task) (pads : PadsData) (first : List TileAt) (cause : Cause) → IsAsked name t task → pins_said task ≡ Ok pads
    → places_said task ≡ Ok first → StandsForBuild name effort t cause → IsEnd task effort cause
end_stands name effort t task pads first cause asked pins places m =
    then_stands (places_said task) Overfull (λ found. IsEnd task effort) first cause places (places_stand name effort t task pads cause asked pins m)

-- ---- and up again
pub read_so : (name : List ℕ) (effort : Effort) (t : List (List ℕ)) (parts : Parts) (constraints : List Constraint) (cause : Cause) → IsRead t parts constraints
    → BlifStands name effort (text_at t 3) parts constraints cause → StandsForBuild name effort t cause
read_so name effort t parts constraints cause read m =
    behind (chip_says (text_at t 1)) BadChip (PcfStands name effort (text_at t 2) (text_at t 3)) parts cause read.is_chip
    (behind (pin_text_says (text_at t 2)) BadPcf (BlifStands name effort (text_at t 3) parts) constraints cause read.are_constraints m)

pub net_so : (name : List ℕ) (effort : Effort) (t : List (List ℕ)) (parts : Parts) (constraints : List Constraint) (circuit : ClosedNetlistData) (cause : Cause) → IsRead t parts constraints
    → closed_netlist_of (text_at t 3) ≡ Ok circuit → NetStands name effort parts constraints circuit cause → StandsForBuild name effort t cause
net_so name effort t parts constraints circuit cause read e m =
    read_so name effort t parts constraints cause read (behind (closed_netlist_of (text_at t 3)) BadBlif (NetStands name effort parts constraints) circuit cause e m)

pub asked_so : (name : List ℕ) (effort : Effort) (t : List (List ℕ)) (task : Task) (cause : Cause) → IsAsked name t task → TaskStands task effort cause → StandsForBuild name effort t cause
asked_so name effort t task cause asked m =
    net_so name effort t task.parts task.constraints (without_rams asked.circuit) cause (record { is_chip = asked.is_chip; are_constraints = asked.are_constraints }) asked.is_circuit
    (inr (asked.is_sound, subst (λ (x : Task). TaskStands x effort cause) (sym (parts_of name t task asked)) m))

pub pins_so : (name : List ℕ) (effort : Effort) (t : List (List ℕ)) (task : Task) (pads : PadsData) (cause : Cause) → IsAsked name t task → pins_said task ≡ Ok pads → PlacesStand task effort cause
    → StandsForBuild name effort t cause
pins_so name effort t task pads cause asked said m = asked_so name effort t task cause asked (behind (pins_said task) BadPin (λ found. PlacesStand task effort) pads cause said m)

pub end_so : (name : List ℕ) (effort : Effort) (t : List (List ℕ)) (task : Task) (pads : PadsData) (first : List TileAt) (cause : Cause) → IsAsked name t task → pins_said task ≡ Ok pads
    → places_said task ≡ Ok first → IsEnd task effort cause → StandsForBuild name effort t cause
end_so name effort t task pads first cause asked pins places m =
    pins_so name effort t task pads cause asked pins (behind (places_said task) Overfull (λ found. IsEnd task effort) first cause places m)

-- ---- texts say one task
pub one_task : (name : List ℕ) (t : List (List ℕ)) (a b : Task) → IsAsked name t a → IsAsked name t b → a ≡ b
one_task name t a b one other =
    let parts = one_value (chip_says (text_at t 1)) a.parts b.parts one.is_chip other.is_chip in
    let constraints = one_value (pin_text_says (text_at t 2)) a.constraints b.constraints one.are_constraints other.are_constraints in
    let closed = one_value (closed_netlist_of (text_at t 3)) (without_rams one.circuit) (without_rams other.circuit) one.is_circuit other.is_circuit in
    let read = ap (λ (c : ClosedNetlistData). c.netlist) closed in
    let circuit = one.is_prepared ∙ prepared_same a.parts b.parts one.circuit other.circuit parts read ∙ sym other.is_prepared in
    let closing = one.is_open ∙ ap open_closing read ∙ sym other.is_open in
    same a.parts b.parts a.name b.name a.constraints b.constraints a.circuit b.circuit a.closing b.closing parts (let named : name ≡ b.name = sym other.is_name in rw one.is_name named) constraints circuit closing
  where
    prepared_same : (p p' : Parts) (n n' : NetlistData) → p ≡ p' → n ≡ n' → prepared_on p n [] ≡ prepared_on p' n' []
    prepared_same p p' n n' e f = ap (λ (x : Parts). prepared_on x n []) e ∙ ap (λ (m : NetlistData). prepared_on p' m []) f

    same : (p p' : Parts) (x x' : List ℕ) (c c' : List Constraint) (n n' : NetlistData) (k k' : Closing) → p ≡ p' → x ≡ x' → c ≡ c' → n ≡ n' → k ≡ k' → whole p x c n k ≡ whole p' x' c' n' k'
    same p p' x x' c c' n n' k k' e f g h i = cc
