-- How the sample texts of a number stand, by what was read of them.
use Rattle.std.proofs.Common.{◌≡◌, ◌∙◌, ℕ, List, [], Ok, inl, inr, sym, ap, subst}
use Rattle.ice_flow_frame.proofs.Standings.{behind, then_stands, one_value}
use Rattle.ice_flow_frame.specs.declared.cause.Cause.{Cause}
use Rattle.ice_flow_frame.specs.declared.cause.Cause.TheVariants.{BadBlif, BadChip, BadPin, Overfull}
use Rattle.ice_base.specs.declared.number.TileAt.{TileAt}
use Rattle.ice_blif.specs.Grammar.{netlist_of}
use Rattle.ice_flow_build.specs.Answers.{pins_said, places_said}
use Rattle.ice_flow_build.specs.Laid.{Task, task_of}
use Rattle.ice_check.proofs.Faulty.{faulty}
use Rattle.ice_check.specs.Sound.{IsSound}
use Rattle.ice_chip.specs.Database.{Parts}
use Rattle.ice_chip_read.specs.Whole.{chip_says}
use Rattle.ice_net.specs.NetlistData.{NetlistData}
use Rattle.ice_pads.specs.Assign.{PadsData}
use Rattle.ice_pads.specs.Closings.{open_closing}
use Rattle.ice_pads.specs.declared.closing.Closing.{Closing}
use Rattle.ice_pcf.specs.declared.constraint.Constraint.{Constraint}
use Rattle.ice_flow_sample_cmd.specs.Samples.{chip_text, net_text, package_name, IsAsked}
use Rattle.ice_flow_sample_cmd.specs.Standing.{IsEnd, PlacesStand, TaskStands, NetStands, BlifStands, StandsForSample}

-- ---- from how the texts stand, down to how what was read of them stands
pub blif_stands : (number : ℕ) (parts : Parts) (cause : Cause) → chip_says chip_text ≡ Ok parts → StandsForSample number cause → BlifStands number parts cause
blif_stands number parts cause e m = then_stands (chip_says chip_text) BadChip (BlifStands number) parts cause e m

pub net_stands : (number : ℕ) (parts : Parts) (circuit : NetlistData) (cause : Cause) → chip_says chip_text ≡ Ok parts → netlist_of (net_text number) ≡ Ok circuit → StandsForSample number cause
    → NetStands parts circuit cause
net_stands number parts circuit cause chip e m = then_stands (netlist_of (net_text number)) BadBlif (NetStands parts) circuit cause e (blif_stands number parts cause chip m)

sound_stands : (parts : Parts) (circuit : NetlistData) (cause : Cause) → IsSound circuit → NetStands parts circuit cause → TaskStands (task_of parts package_name [] circuit) cause
sound_stands parts circuit cause sound (inl bad) = absurd (faulty circuit bad.0 bad.3 bad.2 sound)
sound_stands parts circuit cause sound (inr good) = good.1

-- a task by its parts
abbrev whole : Parts → List ℕ → List Constraint → NetlistData → Closing → Task
whole parts name constraints n closing = record { parts = parts; name = name; constraints = constraints; circuit = n; closing = closing }

-- a task is made of what was read
parts_of : (number : ℕ) (task : Task) → IsAsked number task → task_of task.parts package_name [] task.circuit ≡ task
parts_of number task asked =
    ap (λ (x : List ℕ). task_of task.parts x [] task.circuit) (sym asked.is_name)
    ∙ ap (λ (c : List Constraint). task_of task.parts task.name c task.circuit) (sym asked.no_constraints)
    ∙ ap (whole task.parts task.name task.constraints task.circuit) (sym asked.is_open)

pub task_stands : (number : ℕ) (task : Task) (cause : Cause) → IsAsked number task → StandsForSample number cause → TaskStands task cause
task_stands number task cause asked m =
    subst (λ (x : Task). TaskStands x cause) (parts_of number task asked)
    (sound_stands task.parts task.circuit cause asked.is_sound (net_stands number task.parts task.circuit cause asked.is_chip asked.is_circuit m))

pub places_stand : (number : ℕ) (task : Task) (pads : PadsData) (cause : Cause) → IsAsked number task → pins_said task ≡ Ok pads → StandsForSample number cause → PlacesStand task cause
places_stand number task pads cause asked said m = then_stands (pins_said task) BadPin (λ found. PlacesStand task) pads cause said (task_stands number task cause asked m)

pub end_stands : (number : ℕ) (task : Task) (pads : PadsData) (first : List TileAt) (cause : Cause) → IsAsked number task → pins_said task ≡ Ok pads → places_said task ≡ Ok first
    → StandsForSample number cause → IsEnd task cause
end_stands number task pads first cause asked pins places m =
    then_stands (places_said task) Overfull (λ found. IsEnd task) first cause places (places_stand number task pads cause asked pins m)

-- ---- and up again
pub end_so : (task : Task) (pads : PadsData) (first : List TileAt) (cause : Cause) → pins_said task ≡ Ok pads → places_said task ≡ Ok first → IsEnd task cause → TaskStands task cause
end_so task pads first cause pins places m =
    behind (pins_said task) BadPin (λ found. PlacesStand task) pads cause pins (behind (places_said task) Overfull (λ found. IsEnd task) first cause places m)

pub net_so : (number : ℕ) (parts : Parts) (circuit : NetlistData) (cause : Cause) → netlist_of (net_text number) ≡ Ok circuit → IsSound circuit
    → TaskStands (task_of parts package_name [] circuit) cause → BlifStands number parts cause
net_so number parts circuit cause e sound m = behind (netlist_of (net_text number)) BadBlif (NetStands parts) circuit cause e (inr (sound, m))

pub chip_so : (number : ℕ) (parts : Parts) (cause : Cause) → chip_says chip_text ≡ Ok parts → BlifStands number parts cause → StandsForSample number cause
chip_so number parts cause e m = behind (chip_says chip_text) BadChip (BlifStands number) parts cause e m

pub task_so : (number : ℕ) (task : Task) (cause : Cause) → IsAsked number task → TaskStands task cause → StandsForSample number cause
task_so number task cause asked m =
    chip_so number task.parts cause asked.is_chip
    (net_so number task.parts task.circuit cause asked.is_circuit asked.is_sound (subst (λ (x : Task). TaskStands x cause) (sym (parts_of number task asked)) m))

-- ---- the texts say one task
pub one_task : (number : ℕ) (a b : Task) → IsAsked number a → IsAsked number b → a ≡ b
one_task number a b one other =
    let circuit = one_value (netlist_of (net_text number)) a.circuit b.circuit one.is_circuit other.is_circuit in
    same a.parts b.parts a.name b.name a.constraints b.constraints a.circuit b.circuit a.closing b.closing (one_value (chip_says chip_text) a.parts b.parts one.is_chip other.is_chip) (one.is_name ∙ sym other.is_name)
    (one.no_constraints ∙ sym other.no_constraints) circuit (one.is_open ∙ ap open_closing circuit ∙ sym other.is_open)
  where
    same : (p p' : Parts) (x x' : List ℕ) (c c' : List Constraint) (n n' : NetlistData) (k k' : Closing) → p ≡ p' → x ≡ x' → c ≡ c' → n ≡ n' → k ≡ k' → whole p x c n k ≡ whole p' x' c' n' k'
    same p p' x x' c c' n n' k k' e f g h i = cc
