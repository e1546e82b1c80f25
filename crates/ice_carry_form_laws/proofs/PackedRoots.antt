-- What the cells of the netlist make in a packed design is of the design, and so are the cells of constants.
use Rattle.std.proofs.Common.{◌≡◌, ◌⊎◌, ℕ, zero, suc, ◌+◌, ◌<◌, Bool, true, false, cond, Option, None, Some, List, [], ◌∷◌, ◌++◌, length, length-append, map, inl, inr, refl, sym, ap, ◌∙◌, subst, arith}
use Rattle.std.specs.Prelude.{slice_index_or}
use Rattle.std.specs.List.{list_any}
use Rattle.std.proofs.lemmas.Bool.{or_left, or_right}
use Rattle.std.proofs.lemmas.List.{length-map}
use Rattle.std.proofs.lemmas.Option.{same_Some}
use Rattle.ice_base.specs.declared.number.SignalNo.{SignalNo}
use Rattle.ice_base_values.specs.Order.{At}
use Rattle.ice_base_values.proofs.Members.{At_within, Has_any}
use Rattle.ice_net.specs.declared.cell.Cell.{Cell}
use Rattle.ice_net.specs.declared.kind.CellKind.{CellKind}
use Rattle.ice_net.specs.declared.kind.CellKind.TheVariants as kind
use Rattle.ice_net.specs.declared.port.Port.{Port}
use Rattle.ice_net.specs.NetlistData.{NetlistData}
use Rattle.ice_cells.specs.declared.cell.LogicCell.{LogicCell}
use Rattle.ice_cells.specs.declared.design.Design.{Design}
use Rattle.ice_cells.specs.declared.origin.Origin.{Origin}
use Rattle.ice_cells.specs.declared.origin.Origin.TheVariants.{Fixed, Pad, Made}
use Rattle.ice_cells.specs.declared.root.Root.{Root}
use Rattle.ice_cells.specs.declared.root.Root.TheVariants.{PadIn, CellOut, GlobalOut, CarryOut}
use Rattle.ice_cells.specs.declared.share.Part.TheVariants.{Table, Carry, Nothing}
use Rattle.ice_cells.specs.Origins.{is_table_kind, input_origin, level_of, origins}
use Rattle.ice_cells.specs.Readings.{carry_root}
use Rattle.ice_cells.specs.Uses.{dropped, bare_outputs}
use Rattle.ice_cells.specs.Homes.{Facts, part, part_by, is_kept, openers, home, homes, first_member}
use Rattle.ice_cells.specs.Packed.{PackPlan, plan_of, packed, pad_root, root_by, roots_from, one_if, is_global, origin_root, sink_root, sink, enable_sink, plain_sink, cell_of, constant_if, is_level, has_level, zero_by, one_by, port_one, needs_zero, needs_one, global_by, globals_of, carry_source, carry_input}
use Rattle.ice_pack_share.proofs.HomeLaws.{home_opened}
use Rattle.ice_carry_chains.specs.Before.{HasCarry}
use Rattle.ice_carry_form_laws.proofs.Parts.{part_at, is_carry, home_is}
use Rattle.ice_carry_form_laws.proofs.PackedCarries.{carry_listed}
use Rattle.ice_carry_form_laws.proofs.PackedPads.{packed_long}
use Rattle.ice_carry_form_laws.proofs.PadOrigins.{IsPortOf, input_is}

-- ---- roots of the design
abbrev pub IsThere : Design → Root → Type 0
IsThere d (PadIn k) = k < length d.pads
IsThere d (CellOut c) = c < length d.cells
IsThere d (GlobalOut g) = g < length d.globals
IsThere d (CarryOut c) = HasCarry d c

-- what is read there, if anything is
abbrev pub MayRead : Design → Option Root → Type 0
MayRead d o = (r : Root) → o ≡ Some r → IsThere d r

pub none_read : (d : Design) → MayRead d None
none_read d r e = cc e

pub some_read : (d : Design) (r : Root) → IsThere d r → MayRead d (Some r)
some_read d r there q e = subst (λ (x : Root). IsThere d x) (same_Some r q e) there

-- ---- the roots of the netlist's cells, by place
pub record RootAt (p : PackPlan) (os : List Origin) (hs : List ℕ) (j g : ℕ) (cells : List Cell) (i : ℕ) (o : Option Root) : Type 0 where
  pub cell : Cell
  pub at : At cells i cell
  pub number : ℕ
  pub number_is : number ≡ j + i
  pub buffers : ℕ
  pub is : root_by os (slice_index_or hs number 0) buffers cell.kind cell.ins cell.outs ≡ o
  pub below : is_global cell.kind ≡ true → buffers < g + length (globals_of p cells)

one_global : (p : PackPlan) (k : CellKind) (ins : List (Option SignalNo)) → length (global_by p k ins) ≡ one_if (is_global k)
one_global p (kind.Lut t) ins = refl
one_global p (kind.Cover t width) ins = refl
one_global p kind.Carry ins = refl
one_global p (kind.Flop falling enable reset) ins = refl
one_global p (kind.PadCell pin_type pullup) ins = refl
one_global p kind.Global ins = refl

pub root_at : (p : PackPlan) (os : List Origin) (hs : List ℕ) (j g : ℕ) (cells : List Cell) (i : ℕ) (o : Option Root) → At (roots_from os hs j g cells) i o → RootAt p os hs j g cells i o
root_at p os hs j g [] i o at = cc at
root_at p os hs j g (cell ∷ cells) zero o at = record {
  cell = cell;
  at = refl;
  number = j;
  number_is = omega arith;
  buffers = g;
  is = same_Some (root_by os (slice_index_or hs j 0) g cell.kind cell.ins cell.outs) o at;
  below = λ is. (
      let here : length (global_by p cell.kind cell.ins) ≡ 1 = one_global p cell.kind cell.ins ∙ ap one_if is in
      let both = length-append (global_by p cell.kind cell.ins) (globals_of p cells) in
      more g (length (global_by p cell.kind cell.ins)) (length (globals_of p cells)) (length (globals_of p (cell ∷ cells))) here both);
}
  where
    more : (g a b c : ℕ) → a ≡ 1 → c ≡ a + b → g < g + c
    more g a b c e f = omega (arith, e, f)
root_at p os hs j g (cell ∷ cells) (suc i) o at =
    let rest = root_at p os hs (j + 1) (g + one_if (is_global cell.kind)) cells i o at in
    record {
      cell = rest.cell;
      at = rest.at;
      number = rest.number;
      number_is = (let is = rest.number_is in omega arith);
      buffers = rest.buffers;
      is = rest.is;
      below = λ is. more g rest.buffers (length (global_by p cell.kind cell.ins)) (one_if (is_global cell.kind)) (length (globals_of p cells)) (length (globals_of p (cell ∷ cells)))
          (one_global p cell.kind cell.ins) (length-append (global_by p cell.kind cell.ins) (globals_of p cells)) (rest.below is);
    }
  where
    more : (g b a one c all : ℕ) → a ≡ one → all ≡ a + c → b < g + one + c → b < g + all
    more g b a one c all e f lt = omega (arith, e, f, lt)

-- ---- constants
none_before : (b c : ℕ) → b < 0 + c → b < c
none_before b c lt = omega (arith, lt)

fixed_same : (a b : Bool) → Fixed a ≡ Fixed b → a ≡ b
fixed_same a b e = cc e

pub one_level : (os : List Origin) (input : Option SignalNo) → input_origin os input ≡ Fixed true → has_level os true input ≡ true
one_level os None e = let bad : false ≡ true = fixed_same false true e in cc bad
one_level os (Some signal) e = ap (λ o. is_level true (level_of o)) e

pub zero_level : (os : List Origin) (signal : SignalNo) → input_origin os (Some signal) ≡ Fixed false → has_level os false (Some signal) ≡ true
zero_level os signal e = ap (λ o. is_level false (level_of o)) e

constant_long : (needed level : Bool) → length (constant_if needed level) ≡ one_if needed
constant_long true level = refl
constant_long false level = refl

module _ (n : NetlistData) where
  abbrev p : PackPlan
  p = plan_of n

  abbrev f : Facts
  f = p.facts

  abbrev d : Design
  d = packed n

  abbrev opened : List LogicCell
  opened = map (cell_of p n.cells) (openers f)

  abbrev zeros : List LogicCell
  zeros = constant_if (needs_zero p.origins n.cells) false

  abbrev ones : List LogicCell
  ones = constant_if (needs_one p.origins n.cells (bare_outputs n)) true

  -- ---- numbers of logic cells
  opened_below : (c : ℕ) → c < length (openers f) → c < length d.cells
  opened_below c lt = by (length (openers f)) (length opened) (length (opened ++ zeros)) (length zeros) (length d.cells) (length ones)
      (length-map (openers f) (cell_of p n.cells)) (length-append opened zeros) (length-append (opened ++ zeros) ones) lt
    where
      by : (k a ab b all c' : ℕ) → a ≡ k → ab ≡ a + b → all ≡ ab + c' → c < k → c < all
      by k a ab b all c' e f g lt = omega (arith, e, f, g, lt)

  pub zero_below : needs_zero p.origins n.cells ≡ true → p.zero < length d.cells
  zero_below e = by (length (openers f)) (length opened) (length (opened ++ zeros)) (length zeros) (length d.cells) (length ones)
      (length-map (openers f) (cell_of p n.cells)) (length-append opened zeros) (length-append (opened ++ zeros) ones) (constant_long (needs_zero p.origins n.cells) false ∙ ap one_if e)
    where
      by : (k a ab b all c : ℕ) → a ≡ k → ab ≡ a + b → all ≡ ab + c → b ≡ 1 → k < all
      by k a ab b all c e f g one = omega (arith, e, f, g, one)

  pub one_below : needs_one p.origins n.cells (bare_outputs n) ≡ true → p.one < length d.cells
  one_below e = by (length (openers f)) (length opened) (length (opened ++ zeros)) (length zeros) (length d.cells) (length ones) (one_if (needs_zero p.origins n.cells))
      (length-map (openers f) (cell_of p n.cells)) (length-append opened zeros) (length-append (opened ++ zeros) ones)
      (constant_long (needs_zero p.origins n.cells) false) (constant_long (needs_one p.origins n.cells (bare_outputs n)) true ∙ ap one_if e)
    where
      by : (k a ab b all c z : ℕ) → a ≡ k → ab ≡ a + b → all ≡ ab + c → b ≡ z → c ≡ 1 → k + z < all
      by k a ab b all c z e f g h one = omega (arith, e, f, g, h, one)

  kept_below : (j : ℕ) → is_kept (part f j) ≡ true → slice_index_or (homes f) j 0 < length d.cells
  kept_below j kept =
      let lt : home f j < length (openers f) = At_within (openers f) (home f j) (first_member f j) (home_opened (origins n) n.cells (bare_outputs n) j kept) in
      subst (λ (c : ℕ). c < length d.cells) (sym (home_is (origins n) n.cells (bare_outputs n) j kept)) (opened_below (home f j) lt)

  -- ---- roots
  pub pad_read : (k : ℕ) → k < length n.ports → MayRead d (Some (PadIn k))
  pad_read k lt = some_read d (PadIn k) (subst (λ (m : ℕ). k < m) (sym (packed_long n)) lt)

  pad_root_read : (o : Origin) → IsPortOf n o → MayRead d (pad_root o)
  pad_root_read (Fixed level) port = none_read d
  pad_root_read (Pad k) port = pad_read k (port k refl)
  pad_root_read (Made j) port = none_read d

  -- the root of a cell's output
  kind_read : (c g : ℕ) (k : CellKind) (ins outs : List (Option SignalNo)) → (is_kept (part_by p.origins k ins outs) ≡ true → c < length d.cells) → (part_by p.origins k ins outs ≡ Carry → HasCarry d c)
      → (is_global k ≡ true → g < length d.globals) → MayRead d (root_by p.origins c g k ins outs)
  kind_read c g (kind.Lut t) ins outs kept carry buffer = some_read d (CellOut c) (kept refl)
  kind_read c g (kind.Cover t width) ins outs kept carry buffer = by (is_table_kind (kind.Cover t width)) kept
    where
      by : (b : Bool) → (is_kept (cond b Table Nothing) ≡ true → c < length d.cells) → MayRead d (cond b (Some (CellOut c)) None)
      by true kept = some_read d (CellOut c) (kept refl)
      by false kept = none_read d
  kind_read c g kind.Carry ins outs kept carry buffer = by (dropped outs) carry
    where
      by : (b : Bool) → (cond b Nothing Carry ≡ Carry → HasCarry d c) → MayRead d (cond b None (Some (CarryOut c)))
      by true carry = none_read d
      by false carry = some_read d (CarryOut c) (carry refl)
  kind_read c g (kind.Flop falling enable reset) ins outs kept carry buffer = some_read d (CellOut c) (kept refl)
  kind_read c g (kind.PadCell pin_type pullup) ins outs kept carry buffer = pad_root_read (input_origin p.origins (slice_index_or ins 0 None)) (input_is n (slice_index_or ins 0 None))
  kind_read c g kind.Global ins outs kept carry buffer = some_read d (GlobalOut g) (buffer refl)

  pub root_read : (j : ℕ) → MayRead d (slice_index_or p.roots j None)
  root_read j = elim (there p.roots j) [
    | inl none ↦ subst (MayRead d) (sym none) (none_read d)
    | inr at ↦ at_root at
  ]
    where
      there : (xs : List (Option Root)) (k : ℕ) → (slice_index_or xs k None ≡ None) ⊎ At xs k (slice_index_or xs k None)
      there [] k = inl refl
      there (x ∷ xs) zero = inr refl
      there (x ∷ xs) (suc k) = there xs k

      at_root : At p.roots j (slice_index_or p.roots j None) → MayRead d (slice_index_or p.roots j None)
      at_root at =
          let r = root_at p p.origins (homes f) 0 0 n.cells j (slice_index_or p.roots j None) at in
          let same : r.number ≡ j = (let e = r.number_is in omega arith) in
          let is_part : part f j ≡ part_by p.origins r.cell.kind r.cell.ins r.cell.outs = part_at (origins n) n.cells (bare_outputs n) j r.cell r.at in
          subst (MayRead d) r.is
          (kind_read (slice_index_or (homes f) r.number 0) r.buffers r.cell.kind r.cell.ins r.cell.outs
          (λ kept. subst (λ (i : ℕ). slice_index_or (homes f) i 0 < length d.cells) (sym same) (kept_below j (ap is_kept is_part ∙ kept)))
          (λ carry. subst (λ (i : ℕ). HasCarry d (slice_index_or (homes f) i 0)) (sym same) (carry_listed n j (is_carry (origins n) n.cells (bare_outputs n) j (is_part ∙ carry))))
          (λ buffer. none_before r.buffers (length d.globals) (r.below buffer)))

  -- ---- sinks
  plain_root : (o : Origin) → IsPortOf n o → MayRead d (origin_root p.roots o)
  plain_root (Fixed level) port = none_read d
  plain_root (Pad k) port = pad_read k (port k refl)
  plain_root (Made j) port = root_read j

  pub plain_read : (input : Option SignalNo) → MayRead d (plain_sink p input)
  plain_read input = plain_root (input_origin p.origins input) (input_is n input)

  sink_from : (o : Origin) → IsPortOf n o → (o ≡ Fixed true → p.one < length d.cells) → MayRead d (sink_root false p.one p.roots o)
  sink_from (Fixed true) port one = some_read d (CellOut p.one) (one refl)
  sink_from (Fixed false) port one = none_read d
  sink_from (Pad k) port one = pad_read k (port k refl)
  sink_from (Made j) port one = root_read j

  pub sink_read : (input : Option SignalNo) → (has_level p.origins true input ≡ true → needs_one p.origins n.cells (bare_outputs n) ≡ true) → MayRead d (sink p input)
  sink_read input needed = sink_from (input_origin p.origins input) (input_is n input) (λ e. one_below (needed (one_level p.origins input e)))

  enable_from : (o : Origin) → IsPortOf n o → (o ≡ Fixed false → p.zero < length d.cells) → MayRead d (sink_root true p.zero p.roots o)
  enable_from (Fixed true) port low = none_read d
  enable_from (Fixed false) port low = some_read d (CellOut p.zero) (low refl)
  enable_from (Pad k) port low = pad_read k (port k refl)
  enable_from (Made j) port low = root_read j

  pub enable_read : (input : Option SignalNo) → (has_level p.origins false input ≡ true → needs_zero p.origins n.cells ≡ true) → MayRead d (enable_sink p input)
  enable_read None needed = none_read d
  enable_read (Some signal) needed = enable_from (input_origin p.origins (Some signal)) (input_is n (Some signal)) (λ e. zero_below (needed (zero_level p.origins signal e)))

  -- what comes into a carry
  pub into_read : (c : ℕ) (o : Origin) → IsPortOf n o → MayRead d (carry_root (c, carry_input p.roots o))
  into_read c (Fixed level) port = none_read d
  into_read c (Pad k) port = pad_read k (port k refl)
  into_read c (Made j) port = by (slice_index_or p.roots j None) (root_read j)
    where
      by : (o : Option Root) → MayRead d o → MayRead d (carry_root (c, carry_source o))
      by None read = none_read d
      by (Some root) read = read

  -- ---- what a cell of the netlist needs
  pub cell_zero : (i : ℕ) (cell : Cell) → At n.cells i cell → zero_by p.origins cell ≡ true → needs_zero p.origins n.cells ≡ true
  cell_zero i cell at e = Has_any (zero_by p.origins) n.cells cell i at e

  pub cell_one : (i : ℕ) (cell : Cell) → At n.cells i cell → one_by p.origins cell ≡ true → needs_one p.origins n.cells (bare_outputs n) ≡ true
  cell_one i cell at e = or_left (list_any (one_by p.origins) n.cells) (list_any (port_one p.origins) (bare_outputs n)) (Has_any (one_by p.origins) n.cells cell i at e)

  pub port_needs : (i : ℕ) (port : Port) → At (bare_outputs n) i port → port_one p.origins port ≡ true → needs_one p.origins n.cells (bare_outputs n) ≡ true
  port_needs i port at e = or_right (list_any (one_by p.origins) n.cells) (list_any (port_one p.origins) (bare_outputs n)) (Has_any (port_one p.origins) (bare_outputs n) port i at e)
