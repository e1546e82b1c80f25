-- Settings of ports, each with its pad and whether it is pulled up.
use Rattle.std.proofs.Common.{◌≡◌, ℕ, zero, suc, ◌<◌, ◌≤◌, Bool, Option, None, Some, List, [], ◌∷◌, ◌++◌, append-nil, lt-ltb, le-ltb, refl, ap, sym, ◌∙◌}
use Rattle.std.specs.Prelude.{slice_get, if◌then◌else◌}
use Rattle.std.specs.List.{zip}
use Rattle.ice_chip.specs.Database.{Parts}
use Rattle.ice_chip.specs.declared.rows.Pad.{Pad}
use Rattle.ice_cells.specs.declared.design.DesignPad.{DesignPad}
use Rattle.ice_emit_nets.specs.Sides.{sides}
use Rattle.ice_emit_nets.proofs.Siding.{sides_are}
use Rattle.ice_emit_rows_laws.specs.Settings.{Setting}
use Rattle.ice_emit_defs.specs.Functions.{type_settings, pull_up_settings, ports_settings}
use Rattle.ice_emit_settings.specs.Ports.{both_of, place_in, port_gives}

pub place_is : (pads : List Pad) (pullups : List Bool) (k : ℕ) → place_in pads pullups k ≡ slice_get (zip pads pullups) k
place_is [] pullups zero = refl
place_is [] pullups (suc k) = refl
place_is (p ∷ pads) [] k = none (slice_get (p ∷ pads) k)
  where
    none : (o : Option Pad) → both_of o None ≡ None
    none None = refl
    none (Some x) = refl
place_is (p ∷ pads) (b ∷ pullups) zero = refl
place_is (p ∷ pads) (b ∷ pullups) (suc k) = place_is pads pullups k

abbrev all_ports : Parts → List (Pad × Bool) → List DesignPad → List Setting
all_ports parts [] ports = []
all_ports parts (place ∷ places) [] = []
all_ports parts (place ∷ places) (port ∷ ports) = port_gives parts port place ++ all_ports parts places ports

all_ports_are : (parts : Parts) (pads : List Pad) (pullups : List Bool) (ports : List DesignPad) → all_ports parts (zip pads pullups) ports ≡ ports_settings parts pads pullups ports
all_ports_are parts [] pullups ports = refl
all_ports_are parts (p ∷ pads) [] ports = refl
all_ports_are parts (p ∷ pads) (b ∷ pullups) [] = refl
all_ports_are parts (p ∷ pads) (b ∷ pullups) (port ∷ ports) = ap (λ xs. port_gives parts port (p, b) ++ xs) (all_ports_are parts pads pullups ports)

pub ports_are : (parts : Parts) (pads : List Pad) (pullups : List Bool) (ports : List DesignPad) (old new : List Setting) → new ≡ old ++ sides (port_gives parts) (zip pads pullups) 0 ports → new ≡ old ++ ports_settings parts pads pullups ports
ports_are parts pads pullups ports old new e =
    e ∙ ap (λ xs. old ++ xs) (sides_are (port_gives parts) (all_ports parts) (λ ps. refl) right (λ x xs p ps. refl) (zip pads pullups) ports ∙ all_ports_are parts pads pullups ports)
  where
    right : (xs : List (Pad × Bool)) → all_ports parts xs [] ≡ []
    right [] = refl
    right (x ∷ xs) = refl

-- ---- a pad of an IO tile has settings, and a pin of a block RAM has none
pub pad_added : (parts : Parts) (port : DesignPad) (pad : Pad) (pullup : Bool) (old new : List Setting) → pad.pio < 2 → new ≡ old ++ (type_settings pad port.pin_type ++ pull_up_settings parts pad pullup)
    → new ≡ old ++ port_gives parts port (pad, pullup)
pad_added parts port pad pullup old new lt e = e ∙ ap (λ b. old ++ (if b then type_settings pad port.pin_type ++ pull_up_settings parts pad pullup else [])) (sym (lt-ltb pad.pio 2 lt))

pub pin_passed : (parts : Parts) (port : DesignPad) (pad : Pad) (pullup : Bool) (old : List Setting) → 2 ≤ pad.pio → old ≡ old ++ port_gives parts port (pad, pullup)
pin_passed parts port pad pullup old le =
    sym (append-nil old) ∙ ap (λ b. old ++ (if b then type_settings pad port.pin_type ++ pull_up_settings parts pad pullup else [])) (sym (le-ltb pad.pio 2 le))
