-- Ports have their pads: assigned ones are of the package, no two are alike, and constraints are kept to.
use Rattle.std.proofs.Common.{◌≡◌, ◌⊎◌, inl, inr, ℕ, zero, suc, ◌+◌, ◌<◌, ◌==◌, Bool, true, false, ◌||◌, Option, None, Some, Ok, Err, List, [], ◌∷◌, ◌++◌, length, length-take, length-drop, take, drop, slice_get, bytes_eq, if◌then◌else◌, refl, sym, ap, subst, ◌∙◌, true≢false, arith}
use Rattle.std.specs.Prelude.{min}
use Rattle.std.proofs.lemmas.List.{take_all}
use Rattle.std.specs.List.{list_any}
use Rattle.std.specs.Map.{lookup}
use Rattle.std.specs.Option.{option_or}
use Rattle.ice_base.proofs.Keys.{nat_self}
use Rattle.ice_base_values.specs.Order.{At, Has}
use Rattle.ice_base_values.proofs.Members.{At_parts, At_within}
use Rattle.ice_base_values.proofs.Places.{At_take}
use Rattle.ice_chip.specs.IsRead.{IsChip}
use Rattle.ice_chip.specs.Within.{IsPackage}
use Rattle.ice_net.specs.NetlistData.{NetlistData}
use Rattle.ice_pcf.specs.declared.constraint.Constraint.{Constraint}
use Rattle.ice_chip.proofs.Keys.{pad_same}
use Rattle.ice_chip.specs.Database.{Parts, PackageRows, same_pad}
use Rattle.ice_chip.specs.Lookups.{package_of}
use Rattle.ice_chip.specs.declared.rows.Pad.{Pad}
use Rattle.ice_cells.specs.declared.design.Design.{Design}
use Rattle.ice_pads.specs.declared.want.Want.{Want}
use Rattle.ice_pads.specs.declared.given.Given.{Given}
use Rattle.ice_pads.specs.declared.given.Chosen.{Chosen}
use Rattle.ice_pads.specs.declared.fault.PinFault.TheVariants.{UnknownPort, PadLacks}
use Rattle.ice_pads.specs.PadWires.{suits}
use Rattle.ice_pads.specs.Wants.{wants, buffers}
use Rattle.ice_pads.specs.Constraints.{of_port, want_of, free_pad, given_to, with_pad, by_port, with_line, given_by, port_named, port_name, HavePads}
use Rattle.ice_pads.specs.Ports.{by_given, next_chosen, with_next, all_chosen}
use Rattle.ice_pads.specs.Assign.{PadsData, assigned, assign_of}
use Rattle.ice_pads.specs.Closings.{open_closing, with_first}
use Rattle.ice_net.specs.declared.port.Port.{Port}
use Rattle.ice_pads.specs.declared.closing.Closing.{Closing}
use Rattle.ice_pads.specs.declared.want.Buffer.{Buffer}
use Rattle.ice_pads.proofs.Inversions.{bind_ok, if_ok, ok_same, pushed_at}
use Rattle.ice_pads.proofs.Noting.{port_more}
use Rattle.ice_pads.proofs.GivenLaws.{free_pad_ok}
use Rattle.ice_pads.proofs.ChosenLaws.{chosen_for}
use Rattle.ice_pads.proofs.AssignLaws.{mapped_from, found_package, IsMade, AreParted, made_of, parted_of}

-- ---- what lines give
-- what a port has been given it keeps
line_keeps : (parts : Parts) (pins : List (List ℕ × Pad)) (n : NetlistData) (ws : List Want) (given : List Given) (c : Constraint) (o : Option ℕ) (more : List Given) (k : ℕ) (g : Given)
    → by_port parts pins n ws given c o ≡ Ok more → of_port given k ≡ Some g → of_port more k ≡ Some g
line_keeps parts pins n ws given c None more k g e has = by c.lenient e
  where
    by : (b : Bool) → (if b then Ok given else Err (UnknownPort c.line)) ≡ Ok more → of_port more k ≡ Some g
    by true e = let same : given ≡ more = cc in ap (λ (gs : List Given). of_port gs k) (sym same) ∙ has
    by false e = absurd (cc)
line_keeps parts pins n ws given c (Some m) more k g e has =
    let step = bind_ok (free_pad pins given c m) (with_pad parts n ws given c m) more e in
    let new = given_to c m step.0 in
    let fits = if_ok (suits parts (want_of ws m) step.0) (given ++ new ∷ []) more (PadLacks (port_name n m)) step.2 in
    ap (λ (gs : List Given). of_port gs k) (sym fits.1) ∙ port_more given new k ∙ ap (λ o. option_or o (if new.port == k then Some new else None)) has

lines_keep : (parts : Parts) (pins : List (List ℕ × Pad)) (n : NetlistData) (ws : List Want) (given : List Given) (cs : List Constraint) (more : List Given) (k : ℕ) (g : Given)
    → given_by parts pins n ws given cs ≡ Ok more → of_port given k ≡ Some g → of_port more k ≡ Some g
lines_keep parts pins n ws given [] more k g e has = let same : given ≡ more = cc in ap (λ (gs : List Given). of_port gs k) (sym same) ∙ has
lines_keep parts pins n ws given (c ∷ cs) more k g e has =
    let step = bind_ok (with_line parts pins n ws given c) (λ next. given_by parts pins n ws next cs) more e in
    lines_keep parts pins n ws step.0 cs more k g step.2 (line_keeps parts pins n ws given c (port_named n c.name) step.0 k g step.1 has)

-- the port at this place has been given the pad of the pin
abbrev HasPinOf : List (List ℕ × Pad) → Constraint → List Given → ℕ → Type 0
HasPinOf pins c given k = (g : Given) × (of_port given k ≡ Some g) × (lookup (bytes_eq c.pin) pins ≡ Some g.pad)

line_gives_pin : (parts : Parts) (pins : List (List ℕ × Pad)) (n : NetlistData) (ws : List Want) (given : List Given) (c : Constraint) (more : List Given) (k : ℕ)
    → by_port parts pins n ws given c (Some k) ≡ Ok more → HasPinOf pins c more k
line_gives_pin parts pins n ws given c more k e =
    let step = bind_ok (free_pad pins given c k) (with_pad parts n ws given c k) more e in
    let free = free_pad_ok c given k (lookup (bytes_eq c.pin) pins) step.0 step.1 in
    let new = given_to c k step.0 in
    let fits = if_ok (suits parts (want_of ws k) step.0) (given ++ new ∷ []) more (PadLacks (port_name n k)) step.2 in (
      new,
      ap (λ (gs : List Given). of_port gs k) (sym fits.1)
          ∙ port_more given new k
          ∙ ap (λ o. option_or o (if k == k then Some new else None)) free.1
          ∙ ap (λ b. if b then Some new else None) (nat_self k),
      free.0,
    )

lines_give_pins : (parts : Parts) (pins : List (List ℕ × Pad)) (n : NetlistData) (ws : List Want) (given : List Given) (cs : List Constraint) (more : List Given) (i : ℕ) (c : Constraint) (k : ℕ)
    → given_by parts pins n ws given cs ≡ Ok more → At cs i c → port_named n c.name ≡ Some k → HasPinOf pins c more k
lines_give_pins parts pins n ws given [] more i c k e at named = absurd (cc)
lines_give_pins parts pins n ws given (d ∷ cs) more zero c k e at named =
    let step = bind_ok (with_line parts pins n ws given d) (λ next. given_by parts pins n ws next cs) more e in
    let same : d ≡ c = cc in
    let line : by_port parts pins n ws given c (Some k) ≡ Ok step.0 = ap (by_port parts pins n ws given c) (sym named) ∙ ap (with_line parts pins n ws given) (sym same) ∙ step.1 in
    let has = line_gives_pin parts pins n ws given c step.0 k line in
    (has.0, lines_keep parts pins n ws step.0 cs more k has.0 step.2 has.1, has.2)
lines_give_pins parts pins n ws given (d ∷ cs) more (suc i) c k e at named =
    let step = bind_ok (with_line parts pins n ws given d) (λ next. given_by parts pins n ws next cs) more e in
    lines_give_pins parts pins n ws step.0 cs more i c k step.2 at named

-- ---- what ports get
-- the ports up to here have the pads that they have been given
abbrev AreOfGiven : List Given → List Chosen → Type 0
AreOfGiven given chosen = (k : ℕ) (c : Chosen) (g : Given) → slice_get chosen k ≡ Some c → of_port given k ≡ Some g → c.pad ≡ g.pad

next_of_given : (parts : Parts) (pads : List Pad) (n : NetlistData) (given : List Given) (chosen : List Chosen) (want : Want) (new : Chosen) (g : Given) (o : Option Given)
    → of_port given (length chosen) ≡ o → by_given parts pads n given chosen (length chosen) want o ≡ Ok new → of_port given (length chosen) ≡ Some g → new.pad ≡ g.pad
next_of_given parts pads n given chosen want new g None is e of = let clash : None ≡ Some g = sym is ∙ of in absurd (cc)
next_of_given parts pads n given chosen want new g (Some h) is e of =
    let found : Some h ≡ Some g = sym is ∙ of in
    let one : h ≡ g = cc in
    let same : chosen_for want h ≡ new = cc in
    ap (λ (c : Chosen). c.pad) (sym same) ∙ ap (λ (x : Given). x.pad) one

one_more_given : (given : List Given) (chosen : List Chosen) (new : Chosen) → AreOfGiven given chosen → ((g : Given) → of_port given (length chosen) ≡ Some g → new.pad ≡ g.pad)
    → AreOfGiven given (chosen ++ new ∷ [])
one_more_given given chosen new are last k c g at of = by (pushed_at chosen new k c at)
  where
    by : (slice_get chosen k ≡ Some c) ⊎ ((k ≡ length chosen) × (new ≡ c)) → c.pad ≡ g.pad
    by (inl old) = are k c g old of
    by (inr end) = ap (λ (x : Chosen). x.pad) (sym end.1) ∙ last g (ap (of_port given) (sym end.0) ∙ of)

all_of_given : (parts : Parts) (pads : List Pad) (n : NetlistData) (given : List Given) (chosen : List Chosen) (left : List Want) (out : List Chosen) → AreOfGiven given chosen
    → all_chosen parts pads n given chosen left ≡ Ok out → AreOfGiven given out
all_of_given parts pads n given chosen [] out are e = let same : chosen ≡ out = cc in subst (AreOfGiven given) same are
all_of_given parts pads n given chosen (want ∷ left) out are e =
    let step = bind_ok (with_next chosen (next_chosen parts pads n given chosen want)) (λ more. all_chosen parts pads n given more left) out e in
    let next = bind_ok (next_chosen parts pads n given chosen want) (λ c. Ok (chosen ++ c ∷ [])) step.0 step.1 in
    let same : chosen ++ next.0 ∷ [] ≡ step.0 = ok_same (chosen ++ next.0 ∷ []) step.0 (Ok (chosen ++ next.0 ∷ [])) (Ok step.0) refl refl next.2 in
    let last = λ (g : Given) (of : of_port given (length chosen) ≡ Some g). next_of_given parts pads n given chosen want next.0 g (of_port given (length chosen)) refl next.1 of in
    all_of_given parts pads n given step.0 left out (subst (AreOfGiven given) same (one_more_given given chosen next.0 are last)) step.2

-- ---- what is assigned
no_pads : (given : List Given) → AreOfGiven given []
no_pads given k c g at of = absurd (cc)

-- ---- pads of a package
pub stands_in : (pad : Pad) (pads : List Pad) → list_any (same_pad pad) pads ≡ true → Has pads pad
stands_in pad [] e = absurd (true≢false (sym e))
stands_in pad (p ∷ pads) e = by (same_pad pad p) refl (stands_in pad pads) e
  where
    by : (b : Bool) → same_pad pad p ≡ b → (list_any (same_pad pad) pads ≡ true → Has pads pad) → (b || list_any (same_pad pad) pads) ≡ true → Has (p ∷ pads) pad
    by true is later e = (0, ap Some (sym (pad_same pad p is)))
    by false is later e = let there = later e in (suc there.0, there.1)

-- ---- the ports that are seen from outside
module _ (parts : Parts) (rows : PackageRows) (constraints : List Constraint) (n : NetlistData) (closing : Closing) (ws : List Want) (buffers : List Pad → List Buffer) (pads : PadsData) (m : IsMade parts rows constraints n closing ws buffers pads)
    (parted : AreParted parts rows closing.rams m.given m.seen m.hidden (take closing.first ws) (drop closing.first ws)) where
  -- behind them stand those of block RAMs
  few_seen : (k j : ℕ) (c : Chosen) → k < closing.first → k ≡ length m.seen + j → slice_get m.hidden j ≡ Some c → ⊥
  few_seen k j c lt e at =
      let some = At_within m.hidden j c at in
      let hidden = parted.pinned.long in
      let seen = parted.long in
      let before = length-take closing.first ws in
      let behind = length-drop closing.first ws in
      omega (arith, lt, e, some, hidden, seen, before, behind)

  -- what such a port got
  seen_at : (k : ℕ) (pad : Pad) → At (take closing.first pads.ports) k pad → (c : Chosen) × (slice_get m.seen k ≡ Some c) × (c.pad ≡ pad)
  seen_at k pad at =
      let there = At_take closing.first pads.ports k pad at in
      let found = mapped_from (λ (x : Chosen). x.pad) (m.seen ++ m.hidden) k pad (ap (λ (p : PadsData). slice_get p.ports k) m.made ∙ there.1) in
      by there.0 found.0 found.2 (At_parts m.seen m.hidden k found.0 found.1)
    where
      by : k < closing.first → (c : Chosen) → c.pad ≡ pad → (slice_get m.seen k ≡ Some c) ⊎ ((j : ℕ) × (k ≡ length m.seen + j) × (slice_get m.hidden j ≡ Some c)) → (c : Chosen) × (slice_get m.seen k ≡ Some c) × (c.pad ≡ pad)
      by lt c is (inl here) = (c, here, is)
      by lt c is (inr (j, e, there)) = absurd (few_seen k j c lt e there)

  -- which is of the package
  seen_so : (k : ℕ) (pad : Pad) → At (take closing.first pads.ports) k pad → list_any (same_pad pad) rows.pads ≡ true
  seen_so k pad at = let one = seen_at k pad at in ap (λ (p : Pad). list_any (same_pad p) rows.pads) (sym one.2) ∙ parted.are.bonded k one.0 one.1

  -- a port that a constraint names has the pad of the constraint's pin
  kept : (c : Constraint) (k : ℕ) (pad : Pad) → Has constraints c → port_named (with_first closing.first n) c.name ≡ Some k → At (take closing.first pads.ports) k pad → lookup (bytes_eq c.pin) rows.pins ≡ Some pad
  kept c k pad has named at =
      let one = seen_at k pad at in
      let given = lines_give_pins parts rows.pins (with_first closing.first n) (take closing.first ws) [] constraints m.given has.0 c k m.lines has.1 named in
      let same : pad ≡ given.0.pad
      = sym one.2 ∙ all_of_given parts rows.pads (with_first closing.first n) m.given [] (take closing.first ws) m.seen (no_pads m.given) m.ports k one.0 given.0 one.1 given.1 in
      given.2 ∙ ap Some (sym same)

  seen_have_pads : length pads.ports ≡ length n.ports → HavePads rows constraints (with_first closing.first n) (take closing.first pads.ports)
  seen_have_pads each = record {
    each = length-take closing.first pads.ports ∙ ap (min closing.first) each ∙ sym (length-take closing.first n.ports);
    of_package = λ k pad at. stands_in pad rows.pads (seen_so k pad at);
    apart = λ j k pad at be.
        let one = seen_at j pad at in
        let two = seen_at k pad be in
        parted.are.apart j k one.0 two.0 one.1 two.1 (one.2 ∙ sym two.2);
    constrained = kept;
  }

module _ (parts : Parts) (name : List ℕ) (bonded : PackageRows) (constraints : List Constraint) (n : NetlistData) (closing : Closing) (d : Design) (pads : PadsData) (chip : IsChip parts) (found : package_of parts name ≡ Some bonded)
    (is : assign_of parts name constraints n closing d ≡ Ok pads) where
  form : IsPackage parts.width parts.height bonded
  form = found_package parts.width parts.height (λ p. bytes_eq p.name name) parts.packages bonded chip.read.package_forms found

  made : IsMade parts bonded constraints n closing (wants d) (buffers d) pads
  made = made_of parts bonded constraints n closing (wants d) (buffers d) pads (ap (assigned parts constraints n closing (wants d) (buffers d)) (sym found) ∙ is)

  parted : AreParted parts bonded closing.rams made.given made.seen made.hidden (take closing.first (wants d)) (drop closing.first (wants d))
  parted = parted_of parts bonded constraints n closing (wants d) (buffers d) pads form.pads made

  -- the ports that are seen from outside have pads of the package
  pub seen_bonded : (k : ℕ) (pad : Pad) → At (take closing.first pads.ports) k pad → list_any (same_pad pad) bonded.pads ≡ true
  seen_bonded = seen_so parts bonded constraints n closing (wants d) (buffers d) pads made parted

  -- and have them as the constraints say
  pub ports_have_pads : length pads.ports ≡ length n.ports → HavePads bonded constraints (with_first closing.first n) (take closing.first pads.ports)
  ports_have_pads = seen_have_pads parts bonded constraints n closing (wants d) (buffers d) pads made parted

-- where all ports are seen from outside, all have them so
pub all_have_pads : (bonded : PackageRows) (constraints : List Constraint) (n : NetlistData) (closing : Closing) (ports : List Pad) → closing ≡ open_closing n → length ports ≡ length n.ports
    → HavePads bonded constraints (with_first closing.first n) (take closing.first ports) → HavePads bonded constraints n ports
all_have_pads bonded constraints n closing ports is_open each have =
    let first : closing.first ≡ length n.ports = ap (λ (c : Closing). c.first) is_open in
    let few = take_all closing.first ports (omega (arith, each, first)) in
    let all = take_all closing.first n.ports (omega (arith, first)) in
    let circuit : with_first closing.first n ≡ n = ap (λ (ps : List Port). record { names = n.names; ports = ps; cells = n.cells }) all in
    subst (λ (ps : List Pad). HavePads bonded constraints n ps) few (subst (λ (m : NetlistData). HavePads bonded constraints m (take closing.first ports)) circuit have)
