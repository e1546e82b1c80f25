-- What the ports of block RAMs get: the pins at their places.
use Rattle.std.proofs.Common.{◌≡◌, ℕ, zero, suc, ◌+◌, ◌<◌, Bool, true, false, Option, None, Some, Result, Ok, Err, List, [], ◌∷◌, ◌++◌, length, drop, get_or, slice_get, if◌then◌else◌, refl, sym, ap, ◌∙◌, arith, append-nil, append_assoc}
use Rattle.std.specs.Prelude.{nat_lt}
use Rattle.std.proofs.lemmas.List.{drop_more}
use Rattle.ice_net.specs.NetlistData.{NetlistData}
use Rattle.ice_chip.specs.Database.{Parts}
use Rattle.ice_chip.specs.declared.rows.Pad.{Pad}
use Rattle.ice_chip_rams.specs.Sites.{sites}
use Rattle.ice_chip_sockets.specs.Pins.{first_pins}
use Rattle.ice_pads.specs.declared.want.Want.{Want}
use Rattle.ice_pads.specs.declared.given.Chosen.{Chosen}
use Rattle.ice_pads.specs.declared.fault.PinFault.{PinFault}
use Rattle.ice_pads.specs.declared.fault.PinFault.TheVariants.{NoPackage, UnknownPin, UnknownPort, PinTwice, PortTwice, NoPadLeft, TooManyGlobals, TooManyRams, PadLacks, NoMemory}
use Rattle.ice_pads.specs.PadWires.{suits}
use Rattle.ice_pads.specs.Constraints.{◌>>=◌, port_name, want_of}
use Rattle.ice_pads.specs.Ports.{with_next}
use Rattle.ice_pads.specs.Answers.{Stops}
use Rattle.ice_pads.specs.Assign.{pin_for, with_pins, with_rams}
use Rattle.ice_pads.proofs.Inversions.{bind_ok, if_ok, ok_same}

-- what these ports got behind others: the pins from this place on, which have the wires
pub record ArePinned (parts : Parts) (pins : List Pad) (place : ℕ) (ws : List Want) (more : List Chosen) : Type 0 where
  pub long : length more ≡ length ws
  pub are_pins : (k : ℕ) (c : Chosen) → slice_get more k ≡ Some c → slice_get pins (place + k) ≡ Some c.pad
  pub suited : (k : ℕ) (c : Chosen) → slice_get more k ≡ Some c → suits parts (want_of ws k) c.pad ≡ true

none_pinned : (parts : Parts) (pins : List Pad) (place : ℕ) → ArePinned parts pins place [] []
none_pinned parts pins place = record { long = refl; are_pins = λ k c e. absurd (cc); suited = λ k c e. absurd (cc) }

one_pinned : (parts : Parts) (n : NetlistData) (k : ℕ) (want : Want) (o : Option Pad) (c : Chosen) → pin_for parts n k want o ≡ Ok c → (o ≡ Some c.pad) × (suits parts want c.pad ≡ true)
one_pinned parts n k want None c e = absurd (cc)
one_pinned parts n k want (Some pin) c e =
    let fits = if_ok (suits parts want pin) (record { pad = pin; pullup = false }) c (PadLacks (port_name n k)) e in
    let same : pin ≡ c.pad = ap (λ (x : Chosen). x.pad) fits.1 in
    (ap Some same, ap (suits parts want) (sym same) ∙ fits.0)

further : (parts : Parts) (pins : List Pad) (place : ℕ) (want : Want) (ws : List Want) (c : Chosen) (more : List Chosen) → slice_get pins place ≡ Some c.pad → suits parts want c.pad ≡ true
    → ArePinned parts pins (place + 1) ws more → ArePinned parts pins place (want ∷ ws) (c ∷ more)
further parts pins place want ws c more at fits rest = record { long = ap suc rest.long; are_pins = pins_of; suited = fits_of }
  where
    pins_of : (k : ℕ) (x : Chosen) → slice_get (c ∷ more) k ≡ Some x → slice_get pins (place + k) ≡ Some x.pad
    pins_of zero x e =
        let same : c ≡ x = cc in
        let here : place + 0 ≡ place = omega arith in
        ap (slice_get pins) here ∙ at ∙ ap (λ (y : Chosen). Some y.pad) same
    pins_of (suc k) x e = let there : place + suc k ≡ place + 1 + k = omega arith in ap (slice_get pins) there ∙ rest.are_pins k x e

    fits_of : (k : ℕ) (x : Chosen) → slice_get (c ∷ more) k ≡ Some x → suits parts (want_of (want ∷ ws) k) x.pad ≡ true
    fits_of zero x e = let same : c ≡ x = cc in ap (λ (y : Chosen). suits parts want y.pad) (sym same) ∙ fits
    fits_of (suc k) x e = rest.suited k x e

-- behind what the ports before got stands what these got
pub all_pinned : (parts : Parts) (n : NetlistData) (pins : List Pad) (place : ℕ) (chosen : List Chosen) (ws : List Want) (out : List Chosen) → with_pins parts n pins place chosen ws ≡ Ok out
    → (more : List Chosen) × (out ≡ chosen ++ more) × ArePinned parts pins place ws more
all_pinned parts n pins place chosen [] out e =
    let same : chosen ≡ out = cc in
    ([], sym same ∙ sym (append-nil chosen), none_pinned parts pins place)
all_pinned parts n pins place chosen (want ∷ ws) out e =
    let step = bind_ok (with_next chosen (pin_for parts n (length chosen) want (slice_get pins place))) (λ more. with_pins parts n pins (place + 1) more ws) out e in
    let next = bind_ok (pin_for parts n (length chosen) want (slice_get pins place)) (λ c. Ok (chosen ++ c ∷ [])) step.0 step.1 in
    let same : chosen ++ next.0 ∷ [] ≡ step.0 = ok_same (chosen ++ next.0 ∷ []) step.0 (Ok (chosen ++ next.0 ∷ [])) (Ok step.0) refl refl next.2 in
    let one = one_pinned parts n (length chosen) want (slice_get pins place) next.0 next.1 in
    let rest = all_pinned parts n pins (place + 1) step.0 ws out step.2 in (
      next.0 ∷ rest.0,
      rest.1 ∙ ap (λ xs. xs ++ rest.0) (sym same) ∙ append_assoc chosen (next.0 ∷ []) rest.0,
      further parts pins place want ws next.0 rest.0 one.0 one.1 rest.2,
    )

if_fault : {A : Type 0} (b : Bool) (fault : PinFault) (said : Result A PinFault) (v : A) → (if b then Err fault else said) ≡ Ok v → said ≡ Ok v
if_fault true fault said v e = absurd (cc)
if_fault false fault said v e = e

pub rams_pinned : (parts : Parts) (n : NetlistData) (chosen : List Chosen) (rams : ℕ) (ws : List Want) (out : List Chosen) → with_rams parts n chosen rams ws ≡ Ok out
    → (more : List Chosen) × (out ≡ chosen ++ more) × ArePinned parts (first_pins parts rams) 0 ws more
rams_pinned parts n chosen rams ws out e =
    all_pinned parts n (first_pins parts rams) 0 chosen ws out
    (if_fault (nat_lt (length (sites parts)) rams) (TooManyRams rams (length (sites parts))) (with_pins parts n (first_pins parts rams) 0 chosen ws) out e)

-- ---- one more port
module _ (parts : Parts) (n : NetlistData) (pins : List Pad) (ws : List Want) (i : ℕ) (d : Want) (old : List Chosen) (all : Result (List Chosen) PinFault) (pin : Option Pad) (lt : i < length ws)
    (left : with_pins parts n pins i old (drop i ws) ≡ all) (there : pin ≡ slice_get pins i) where
  abbrev next : Result (List Chosen) PinFault
  next = with_next old (pin_for parts n (length old) (get_or ws i d) pin)

  -- the answer goes on from what the next port gets
  goes_on : all ≡ (next >>= (λ more. with_pins parts n pins (i + 1) more (drop (i + 1) ws)))
  goes_on =
      sym left
      ∙ ap (with_pins parts n pins i old) (drop_more ws i d lt)
      ∙ ap (λ o. with_next old (pin_for parts n (length old) (get_or ws i d) o) >>= (λ more. with_pins parts n pins (i + 1) more (drop (i + 1) ws))) (sym there)

  pub pin_more : (new : List Chosen) → next ≡ Ok new → with_pins parts n pins (i + 1) new (drop (i + 1) ws) ≡ all
  pin_more new said = sym (goes_on ∙ ap (λ said. said >>= (λ more. with_pins parts n pins (i + 1) more (drop (i + 1) ws))) said)

  refused : (fault : PinFault) → next ≡ Err fault → all ≡ Err fault
  refused fault said = goes_on ∙ ap (λ said. said >>= (λ more. with_pins parts n pins (i + 1) more (drop (i + 1) ws))) said

  pub pin_stops : (fault : PinFault) → Stops fault next → Stops fault all
  pin_stops NoPackage e = refused NoPackage e
  pin_stops (UnknownPin line) e = refused (UnknownPin line) e
  pin_stops (UnknownPort line) e = refused (UnknownPort line) e
  pin_stops (PinTwice first second) e = refused (PinTwice first second) e
  pin_stops (PortTwice first second) e = refused (PortTwice first second) e
  pin_stops (NoPadLeft port) e = refused (NoPadLeft port) e
  pin_stops (TooManyGlobals need have) e = refused (TooManyGlobals need have) e
  pin_stops (TooManyRams need have) e = refused (TooManyRams need have) e
  pin_stops (PadLacks port) e = refused (PadLacks port) e
  pin_stops NoMemory e = tt
