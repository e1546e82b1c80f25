-- What constraints give: different pads of the package to different ports, each with the wires that its port needs.
use Rattle.std.proofs.Common.{◌≡◌, ◌⊎◌, inl, inr, ℕ, ◌==◌, Bool, true, false, Option, None, Some, Ok, Err, List, [], ◌∷◌, ◌++◌, bytes_eq, if◌then◌else◌, refl, sym, ap, subst, ◌∙◌}
use Rattle.std.specs.Map.{lookup}
use Rattle.std.specs.Option.{option_or}
use Rattle.ice_base.proofs.Keys.{nat_same}
use Rattle.ice_net.specs.NetlistData.{NetlistData}
use Rattle.ice_pcf.specs.declared.constraint.Constraint.{Constraint}
use Rattle.ice_chip.specs.Database.{Parts, same_pad}
use Rattle.ice_chip.specs.declared.rows.Pad.{Pad}
use Rattle.ice_chip.proofs.Keys.{pad_self}
use Rattle.ice_pads.specs.declared.want.Want.{Want}
use Rattle.ice_pads.specs.declared.given.Given.{Given}
use Rattle.ice_pads.specs.declared.fault.PinFault.TheVariants.{UnknownPort, PadLacks}
use Rattle.ice_pads.specs.PadWires.{suits}
use Rattle.ice_pads.specs.Constraints.{of_port, of_pad, want_of, unless_pad, unless_port, by_pin, free_pad, given_to, with_pad, by_port, with_line, given_by, port_named, port_name}
use Rattle.ice_pads.proofs.Inversions.{bind_ok, if_ok, or_some, if_some}
use Rattle.ice_pads.proofs.Noting.{port_more, pad_more}

pub record AreGiven (parts : Parts) (pins : List (List ℕ × Pad)) (wants : List Want) (given : List Given) : Type 0 where
  pub holder : (k : ℕ) (g : Given) → of_port given k ≡ Some g → (h : Given) × (of_pad given g.pad ≡ Some h) × (h.port ≡ k)
  pub suited : (k : ℕ) (g : Given) → of_port given k ≡ Some g → suits parts (want_of wants k) g.pad ≡ true
  pub bonded : (k : ℕ) (g : Given) → of_port given k ≡ Some g → (pin : List ℕ) × (lookup (bytes_eq pin) pins ≡ Some g.pad)

-- nothing is given yet
pub none_given : (parts : Parts) (pins : List (List ℕ × Pad)) (wants : List Want) → AreGiven parts pins wants []
none_given parts pins wants = record { holder = λ k g e. absurd (cc); suited = λ k g e. absurd (cc); bonded = λ k g e. absurd (cc) }

-- ---- one line
pub free_pad_ok : (c : Constraint) (given : List Given) (k : ℕ) (l : Option Pad) (pad : Pad) → by_pin given c k l ≡ Ok pad → (l ≡ Some pad) × (of_port given k ≡ None) × (of_pad given pad ≡ None)
free_pad_ok c given k None pad e = absurd (cc)
free_pad_ok c given k (Some p) pad e = by_first (of_port given k) refl e
  where
    by_second : (o : Option Given) → of_port given k ≡ None → of_pad given p ≡ o → unless_pad c p o ≡ Ok pad → (Some p ≡ Some pad) × (of_port given k ≡ None) × (of_pad given pad ≡ None)
    by_second (Some earlier) free is e = absurd (cc)
    by_second None free is e = let same : p ≡ pad = cc in (ap Some same, free, ap (of_pad given) (sym same) ∙ is)

    by_first : (o : Option Given) → of_port given k ≡ o → unless_port given c p o ≡ Ok pad → (Some p ≡ Some pad) × (of_port given k ≡ None) × (of_pad given pad ≡ None)
    by_first (Some earlier) is e = absurd (cc)
    by_first None is e = by_second (of_pad given p) is refl e

one_more : (parts : Parts) (pins : List (List ℕ × Pad)) (wants : List Want) (given : List Given) (c : Constraint) (k : ℕ) (pad : Pad) → AreGiven parts pins wants given
    → lookup (bytes_eq c.pin) pins ≡ Some pad → of_pad given pad ≡ None → suits parts (want_of wants k) pad ≡ true → AreGiven parts pins wants (given ++ given_to c k pad ∷ [])
one_more parts pins wants given c k pad are pin free suited = record {
  holder = λ m g e. holder_of m g (or_some (of_port given m) (if k == m then Some (given_to c k pad) else None) g (sym (port_more given (given_to c k pad) m) ∙ e));
  suited = λ m g e. suited_of m g (or_some (of_port given m) (if k == m then Some (given_to c k pad) else None) g (sym (port_more given (given_to c k pad) m) ∙ e));
  bonded = λ m g e. bonded_of m g (or_some (of_port given m) (if k == m then Some (given_to c k pad) else None) g (sym (port_more given (given_to c k pad) m) ∙ e));
}
  where
    holder_of : (m : ℕ) (g : Given) → (of_port given m ≡ Some g) ⊎ ((of_port given m ≡ None) × ((if k == m then Some (given_to c k pad) else None) ≡ Some g)) → (h : Given) × (of_pad (given ++ given_to c k pad ∷ []) g.pad ≡ Some h) × (h.port ≡ m)
    holder_of m g (inl old) =
        let h = are.holder m g old in
        (h.0, pad_more given (given_to c k pad) g.pad ∙ ap (λ o. option_or o (if same_pad g.pad pad then Some (given_to c k pad) else None)) h.1, h.2)
    holder_of m g (inr new) =
        let is = if_some (k == m) (given_to c k pad) g new.1 in (
          given_to c k pad,
          ap (λ (x : Given). of_pad (given ++ given_to c k pad ∷ []) x.pad) (sym is.1)
              ∙ pad_more given (given_to c k pad) pad
              ∙ ap (λ o. option_or o (if same_pad pad pad then Some (given_to c k pad) else None)) free
              ∙ ap (λ b. if b then Some (given_to c k pad) else None) (pad_self pad),
          nat_same k m is.0,
        )

    suited_of : (m : ℕ) (g : Given) → (of_port given m ≡ Some g) ⊎ ((of_port given m ≡ None) × ((if k == m then Some (given_to c k pad) else None) ≡ Some g)) → suits parts (want_of wants m) g.pad ≡ true
    suited_of m g (inl old) = are.suited m g old
    suited_of m g (inr new) =
        let is = if_some (k == m) (given_to c k pad) g new.1 in
        ap (λ j. suits parts (want_of wants j) g.pad) (sym (nat_same k m is.0)) ∙ ap (λ (x : Given). suits parts (want_of wants k) x.pad) (sym is.1) ∙ suited

    bonded_of : (m : ℕ) (g : Given) → (of_port given m ≡ Some g) ⊎ ((of_port given m ≡ None) × ((if k == m then Some (given_to c k pad) else None) ≡ Some g)) → (pin : List ℕ) × (lookup (bytes_eq pin) pins ≡ Some g.pad)
    bonded_of m g (inl old) = are.bonded m g old
    bonded_of m g (inr new) =
        let is = if_some (k == m) (given_to c k pad) g new.1 in
        (c.pin, pin ∙ ap (λ (x : Given). Some x.pad) is.1)

line_gives : (parts : Parts) (pins : List (List ℕ × Pad)) (n : NetlistData) (wants : List Want) (given : List Given) (c : Constraint) (o : Option ℕ) (more : List Given) → AreGiven parts pins wants given
    → by_port parts pins n wants given c o ≡ Ok more → AreGiven parts pins wants more
line_gives parts pins n wants given c None more are e = by c.lenient e
  where
    by : (b : Bool) → (if b then Ok given else Err (UnknownPort c.line)) ≡ Ok more → AreGiven parts pins wants more
    by true e = let same : given ≡ more = cc in subst (AreGiven parts pins wants) same are
    by false e = absurd (cc)
line_gives parts pins n wants given c (Some k) more are e =
    let parts_of = bind_ok (free_pad pins given c k) (with_pad parts n wants given c k) more e in
    let free = free_pad_ok c given k (lookup (bytes_eq c.pin) pins) parts_of.0 parts_of.1 in
    let fits = if_ok (suits parts (want_of wants k) parts_of.0) (given ++ given_to c k parts_of.0 ∷ []) more (PadLacks (port_name n k)) parts_of.2 in
    subst (AreGiven parts pins wants) fits.1 (one_more parts pins wants given c k parts_of.0 are free.0 free.2 fits.0)

-- ---- all lines
pub lines_give : (parts : Parts) (pins : List (List ℕ × Pad)) (n : NetlistData) (wants : List Want) (given : List Given) (cs : List Constraint) (more : List Given) → AreGiven parts pins wants given
    → given_by parts pins n wants given cs ≡ Ok more → AreGiven parts pins wants more
lines_give parts pins n wants given [] more are e = let same : given ≡ more = cc in subst (AreGiven parts pins wants) same are
lines_give parts pins n wants given (c ∷ cs) more are e =
    let step = bind_ok (with_line parts pins n wants given c) (λ next. given_by parts pins n wants next cs) more e in
    lines_give parts pins n wants step.0 cs more (line_gives parts pins n wants given c (port_named n c.name) step.0 are step.1) step.2
