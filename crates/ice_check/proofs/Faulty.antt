-- Where faults are, and that a netlist with one is not sound.
use Rattle.std.proofs.Common.{◌≡◌, ◌≢◌, ℕ, zero, suc, ◌+◌, ◌<◌, Bool, true, false, Option, None, Some, List, [], ◌∷◌, ◌++◌, length, map, get_or, take, All, refl, ap, sym, ◌∙◌, subst, arith, if◌then◌else◌}
use Rattle.std.specs.Prelude.{slice_get, slice_index_or, unwrap_or}
use Rattle.std.proofs.lemmas.List.{map_more}
use Rattle.std.proofs.lemmas.Option.{same_Some, slice_get_read, slice_get-get_or, get_or_from_slice_get}
use Rattle.ice_base_values.specs.System.{value, reading}
use Rattle.ice_base_values.specs.Order.{IsOrder}
use Rattle.ice_base_values.proofs.Gaps.{filled_map}
use Rattle.ice_base_values.proofs.Values.{value_ordered, value_unique}
use Rattle.ice_base_values.proofs.Cycles.{no_cycle}
use Rattle.ice_net.specs.declared.cell.Cell.{Cell}
use Rattle.ice_net.specs.NetlistData.{NetlistData}
use Rattle.ice_net.specs.Drivers.{driver_of}
use Rattle.ice_net.specs.Meaning.{reads, makes, depends_on, system_of, signal_value}
use Rattle.ice_check.specs.declared.fault.NetFault.{NetFault}
use Rattle.ice_check.specs.declared.fault.NetFault.TheVariants.{Undriven, DrivenTwice, Loop, PadShared, PinTypeOut, PinNotPort, InoutBare, NoMemory}
use Rattle.ice_check.specs.Faults.{first_number, undriven, driven_twice, pad_shared, pin_type_out, pin_not_port, inout_bare}
use Rattle.ice_check.specs.Sound.{IsSound}
use Rattle.ice_check.specs.Refusals.{signal_name, port_name, cell_at, line_of, names_of, IsFaultOf}
use Rattle.ice_check.specs.Loops.{HasNoLoop, IsLoop}

-- ---- where faults are
first_before : (test : ℕ → Bool) (k count first : ℕ) → first_number test k count ≡ Some first → first < k + count
first_before test k zero first e = cc e
first_before test k (suc more) first e = by (test k) (λ h. first_before test (k + 1) more first h) e
  where
    by : (b : Bool) → (first_number test (k + 1) more ≡ Some first → first < k + 1 + more) → (if b then Some k else first_number test (k + 1) more) ≡ Some first → first < k + suc more
    by true rest e = let same : k ≡ first = same_Some k first e in omega arith
    by false rest e = let h : first < k + 1 + more = rest e in omega arith

pub first_within : (test : ℕ → Bool) (count first : ℕ) → first_number test 0 count ≡ Some first → first < count
first_within test count first e = let h : first < 0 + count = first_before test 0 count first e in omega arith

-- ---- faults are not sound
no_name : (n : NetlistData) (place : Option ℕ) (name : List ℕ) → place ≡ None → signal_name n place ≡ Some name → ⊥
no_name n None name none e = cc e
no_name n (Some s) name none e = cc none

no_port : (n : NetlistData) (place : Option ℕ) (name : List ℕ) → place ≡ None → port_name n place ≡ Some name → ⊥
no_port n None name none e = cc e
no_port n (Some k) name none e = cc none

no_line : (n : NetlistData) (place : Option ℕ) (line : ℕ) → place ≡ None → line_of n place ≡ Some line → ⊥
no_line n None line none e = cc e
no_line n (Some i) line none e = cc none

pub faulty : (n : NetlistData) (fault : NetFault) → fault ≢ NoMemory → IsFaultOf n fault → IsSound n → ⊥
faulty n (Undriven signal) some is sound = no_name n (undriven n) signal sound.driven is
faulty n (DrivenTwice signal) some is sound = no_name n (driven_twice n) signal sound.driven_once is.first
faulty n (Loop signals) some is sound = sound.loopless.none is.signals is.is_loop.closes.below
faulty n (PadShared port) some is sound = no_port n (pad_shared n) port sound.pads_apart is.first
faulty n (PinTypeOut line pin_type) some is sound = no_line n (pin_type_out n) line sound.pin_types is.first
faulty n (PinNotPort line) some is sound = no_line n (pin_not_port n) line sound.pins_at_ports is.first
faulty n (InoutBare port) some is sound = no_port n (inout_bare n) port sound.inouts_buffered is.first
faulty n NoMemory some is sound = some refl

-- ---- values
pub signals_valued : (n : NetlistData) (order : List ℕ) → IsOrder (length n.names) (depends_on n) order
    → (levels kept : List Bool) (s : ℕ) → s < length n.names
    → value (system_of n levels kept) (length n.names + 1) s ≡ Some (signal_value n levels kept s)
signals_valued n order o levels kept s lt =
    let there = value_ordered (system_of n levels kept) (length n.names) order o s lt in
    there.1 ∙ ap Some (sym (ap (λ (x : Option Bool). unwrap_or x false) there.1))

pub values_unique : (n : NetlistData) (order : List ℕ) → IsOrder (length n.names) (depends_on n) order
    → (levels kept : List Bool) (v : ℕ → Bool)
    → ((s : ℕ) → s < length n.names → v s ≡ makes n levels kept (driver_of n s) (map (reading false v) (reads n (driver_of n s))))
    → (s : ℕ) → s < length n.names → signal_value n levels kept s ≡ v s
values_unique n order o levels kept v meets s lt =
    ap (λ (x : Option Bool). unwrap_or x false) (value_unique (system_of n levels kept) (length n.names) order v o
    (λ t below. meets t below ∙ ap (makes n levels kept (driver_of n t)) (sym (filled_map false v (reads n (driver_of n t))))) s lt)

-- ---- what a fault tells
-- the cell at the place that was found
pub cell_found : (n : NetlistData) (found : Option ℕ) (i : ℕ) (cells : List Cell) (cell : Cell) → found ≡ Some i → cells ≡ n.cells → i < length cells
    → cell ≡ get_or cells i cell → cell_at n found ≡ Some cell
cell_found n found i cells cell at same lt read =
    ap (cell_at n) at ∙ ap (λ (xs : List Cell). slice_get xs i) (sym same) ∙ slice_get_read cells (length cells) i cell refl lt read

pub names_more : (n : NetlistData) (signals : List ℕ) (i d : ℕ) (before now : List (List ℕ)) (name : List ℕ) → i < length signals
    → before ≡ names_of n (take i signals) → slice_get n.names (get_or signals i d) ≡ Some name → now ≡ before ++ name ∷ []
    → now ≡ names_of n (take (i + 1) signals)
names_more n signals i d before now name lt so_far named pushed =
    pushed
    ∙ ap (λ (xs : List (List ℕ)). xs ++ name ∷ []) so_far
    ∙ ap (λ (x : List ℕ). names_of n (take i signals) ++ x ∷ []) (sym (get_or_from_slice_get n.names (get_or signals i d) name [] named))
    ∙ sym (map_more (λ s. slice_index_or n.names s []) signals i d lt)

-- the signals of a loop are numbers of the netlist
pub loop_within : (n : NetlistData) (cycle signals : List ℕ) → signals ≡ cycle → IsLoop n cycle → All (λ s. s < length n.names) signals
loop_within n cycle signals same is k d lt =
    is.closes.below.within k (get_or signals k d) (subst (λ (xs : List ℕ). slice_get xs k ≡ Some (get_or signals k d)) same (slice_get-get_or signals k d lt))

-- signals with an order have no loop
pub ordered_loopless : (n : NetlistData) (order : List ℕ) → IsOrder (length n.names) (depends_on n) order → HasNoLoop n
ordered_loopless n order o = record { none = λ cycle c. no_cycle (length n.names) (depends_on n) order cycle o c }
