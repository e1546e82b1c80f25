-- The wires of all roots.
use Rattle.std.proofs.Common.{◌≡◌, ℕ, zero, suc, Option, None, Some, List, [], ◌∷◌, length, map, get_or, refl, ap, ◌∙◌}
use Rattle.std.specs.Prelude.{option_map, slice_get}
use Rattle.std.specs.Option.{option_and_then}
use Rattle.std.specs.List.{range_with_len}
use Rattle.std.proofs.lemmas.List.{length-map}
use Rattle.ice_base.specs.declared.number.WireNo.{WireNo}
use Rattle.ice_chip.specs.Database.{Parts}
use Rattle.ice_chip.specs.declared.rows.Pad.{Pad}
use Rattle.ice_cells.specs.Tables.{table}
use Rattle.ice_cells.proofs.TableLaws.{table_from}
use Rattle.ice_pads.specs.Globals.{global_wire}
use Rattle.ice_place_defs.specs.Plan.{Plan, slot_of}
use Rattle.ice_emit_nets.specs.Ends.{wire_no}
use Rattle.ice_emit_nets.specs.Nets.{pad_wire}
use Rattle.ice_emit_nets.specs.Rooted.{RootWires, slot_no, root_wires}

map_map : {X Y Z : Type 0} (g : Y → Z) (f : X → Y) (xs : List X) → map g (map f xs) ≡ map (λ x. g (f x)) xs
map_map g f [] = refl
map_map g f (x ∷ xs) = ap (λ zs. g (f x) ∷ zs) (map_map g f xs)

listed_at : {A X : Type 0} (f : Option A → X) (as' : List A) (w : ℕ) → get_or (map (λ a. f (Some a)) as') w (f None) ≡ f (slice_get as' w)
listed_at f [] w = refl
listed_at f (a ∷ as') zero = refl
listed_at f (a ∷ as') (suc w) = listed_at f as' w

-- a list by the numbers of its things
listed : {A X : Type 0} (f : Option A → X) (as' : List A) → map (λ a. f (Some a)) as' ≡ table (λ k. f (slice_get as' k)) (length as')
listed f as' = table_from (λ k. f (slice_get as' k)) (length as') (map (λ a. f (Some a)) as') (f None) (length-map as' (λ a. f (Some a))) (λ w lt. listed_at f as' w)

abbrev rooted : List (Option WireNo) → List (Option WireNo) → List (Option WireNo) → RootWires
rooted pads cells globals = record { pads = pads; cells = cells; globals = globals }

pub roots_are : (parts : Parts) (plan : Plan) (pads cells globals : List (Option WireNo)) → pads ≡ map (λ (pad : Pad). option_map wire_no (pad_wire parts pad)) plan.ports
    → cells ≡ map (slot_no parts) (table (slot_of plan) (length plan.design.cells)) → globals ≡ map (λ (n : ℕ). option_map wire_no (global_wire parts n)) plan.globals
    → rooted pads cells globals ≡ root_wires parts plan
roots_are parts plan pads cells globals e f g =
    let is_pads = e ∙ listed (λ o. option_map wire_no (option_and_then (pad_wire parts) o)) plan.ports in
    let is_cells = f ∙ map_map (slot_no parts) (slot_of plan) (range_with_len 0 (length plan.design.cells)) in
    let is_globals = g ∙ listed (λ o. option_map wire_no (option_and_then (global_wire parts) o)) plan.globals in
    λ i. record { pads = is_pads i; cells = is_cells i; globals = is_globals i }
