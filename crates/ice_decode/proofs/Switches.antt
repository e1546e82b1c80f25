-- Rows that are on lead from wires of the chip to wires of the chip.
use Rattle.std.proofs.Common.{◌≡◌, ℕ, ◌-◌, ◌<◌, List, [], ◌∷◌, Some, None, Option, refl, ap, sym, ◌∙◌, subst, All}
use Rattle.std.specs.Prelude.{slice_get, filter_map}
use Rattle.std.specs.List.{cons_option}
use Rattle.std.proofs.lemmas.Option.{slice_get_within, get_or_from_slice_get}
use Rattle.std.proofs.lemmas.List.Elements.{All-nil, All-cons, All-head, All-tail, All-get_or, All-filter, All-same}
use Rattle.ice_base.proofs.Options.{option_map_some, and_then_some}
use Rattle.ice_chip.specs.Database.{Parts, SwitchGroup, SwitchRow}
use Rattle.ice_chip.specs.IsRead.{HasWiresBelow, IsRead}
use Rattle.ice_bits.specs.Configuration.{Bits}
use Rattle.ice_bits.specs.Settings.{row_on}
use Rattle.ice_decode.specs.declared.driver.Switch.{Switch}
use Rattle.ice_decode.specs.declared.driver.Driver.{Driver}
use Rattle.ice_decode.specs.declared.driver.Driver.TheVariants.{Nothing, By, Several}
use Rattle.ice_decode.specs.Drivers.{switch, switch_at, switch_on, switches_on, into, driver_among, driver}
use Rattle.ice_decode.specs.Tables.{IsBetween, ComesFrom, drivers_of}
use Rattle.ice_decode.specs.Refusals.{AreDrivers}

all_chosen : {X Y : Type 0} (P : X → Type 0) (Q : Y → Type 0) (h : X → Option Y) → ((x : X) (y : Y) → P x → h x ≡ Some y → Q y)
    → (xs : List X) → All P xs → All Q (filter_map h xs)
all_chosen P Q h gives [] all = All-nil Q
all_chosen {X} {Y} P Q h gives (x ∷ xs) all = by (h x) refl (all_chosen P Q h gives xs (All-tail P x xs all))
  where
    by : (o : Option Y) → h x ≡ o → All Q (filter_map h xs) → All Q (cons_option o (filter_map h xs))
    by None e rest = rest
    by (Some y) e rest = All-cons Q y (filter_map h xs) (gives x y (All-head P x xs all) e) rest

on_between : (wires : ℕ) (bits : Bits) (g : SwitchGroup) (s : Switch) → HasWiresBelow wires g → switch_on bits g ≡ Some s → IsBetween wires s
on_between wires bits g s below e =
    let number = and_then_some (switch_at g) (row_on bits g) s e in
    let row = option_map_some (switch g number.0) (slice_get g.rows (number.0 - g.first)) s number.2 in
    let lt = slice_get_within g.rows (number.0 - g.first) row.0 row.1 in
    let source : row.0.source < wires
    = subst (λ (r : SwitchRow). r.source < wires) (get_or_from_slice_get g.rows (number.0 - g.first) row.0 row.0 row.1)
    (All-get_or (λ (r : SwitchRow). r.source < wires) g.rows (number.0 - g.first) row.0 lt below.sources) in
    subst (IsBetween wires) row.2 (record { source = source; target = below.target })

pub on_all_between : (wires : ℕ) (bits : Bits) (groups : List SwitchGroup) → All (HasWiresBelow wires) groups → All (IsBetween wires) (switches_on bits groups)
on_all_between wires bits groups all = all_chosen (HasWiresBelow wires) (IsBetween wires) (switch_on bits) (λ g s below e. on_between wires bits g s below e) groups all

-- the row that drives a wire comes from a wire of the chip
among_between : (wires : ℕ) (switches : List Switch) (s : Switch) → All (IsBetween wires) switches → driver_among switches ≡ By s → IsBetween wires s
among_between wires [] s all e = cc e
among_between wires (a ∷ []) s all e = let same : a ≡ s = cc e in subst (IsBetween wires) same (All-head (IsBetween wires) a [] all)
among_between wires (a ∷ b ∷ others) s all e = cc e

pub driver_between : (parts : Parts) (bits : Bits) (w : ℕ) (s : Switch) → IsRead parts → driver parts bits w ≡ By s → IsBetween parts.wires s
driver_between parts bits w s read e =
    among_between parts.wires (into w (switches_on bits parts.groups)) s
    (All-filter _ (IsBetween parts.wires) (switches_on bits parts.groups) (on_all_between parts.wires bits parts.groups read.group_wires)) e

pub comes_from : (parts : Parts) (bits : Bits) (w : ℕ) (d : Driver) → IsRead parts → d ≡ driver parts bits w → ComesFrom parts.wires d
comes_from parts bits w Nothing read e = tt
comes_from parts bits w (By s) read e = let between = driver_between parts bits w s read (sym e) in between.source
comes_from parts bits w (Several first second) read e = tt

-- ---- the list of all rows that are on
pub all_between : (parts : Parts) (bits : Bits) (wires : ℕ) (list : List Switch) → IsRead parts → wires ≡ parts.wires → list ≡ switches_on bits parts.groups → All (IsBetween wires) list
all_between parts bits wires list read e f =
    All-same (IsBetween wires) list (switches_on bits parts.groups) f (subst (λ n. All (IsBetween n) (switches_on bits parts.groups)) (sym e) (on_all_between parts.wires bits parts.groups read.group_wires))

pub are_drivers : (parts : Parts) (bits : Bits) (wires : ℕ) (list : List Switch) (drivers : List Driver) → wires ≡ parts.wires → list ≡ switches_on bits parts.groups → drivers ≡ drivers_of wires list
    → AreDrivers parts bits drivers
are_drivers parts bits wires list drivers e f g = g ∙ ap (λ n. drivers_of n list) e ∙ ap (drivers_of parts.wires) f
