-- Where the cells of a netlist are found in its packed design.
use Rattle.std.proofs.Common.{◌≡◌, ◌⊎◌, ℕ, zero, suc, ◌+◌, Bool, true, false, cond, Option, None, Some, List, [], ◌∷◌, ◌++◌, length, map, inl, inr, refl, sym, ap, ◌∙◌, subst, arith}
use Rattle.std.specs.Prelude.{slice_get, slice_index_or, flat_map, filter, ◌==◌}
use Rattle.std.specs.List.{range_with_len}
use Rattle.std.proofs.lemmas.Bool.{and_parts, eqb-true}
use Rattle.std.proofs.lemmas.List.{length-map, length-append}
use Rattle.std.proofs.lemmas.Option.{same_Some}
use Rattle.ice_base.specs.declared.number.SignalNo.{SignalNo}
use Rattle.ice_base_values.specs.Order.{At, Has}
use Rattle.ice_base_values.proofs.Members.{At_map, map_At, At_left, At_right, At_parts, At_within}
use Rattle.ice_net.specs.declared.cell.Cell.{Cell}
use Rattle.ice_net.specs.declared.kind.CellKind.{CellKind}
use Rattle.ice_net.specs.declared.kind.CellKind.TheVariants as kind
use Rattle.ice_net.specs.declared.port.Port.{Port}
use Rattle.ice_net.specs.Drivers.{buffer_at}
use Rattle.ice_net.specs.NetlistData.{NetlistData}
use Rattle.ice_cells.specs.declared.cell.LogicCell.{LogicCell}
use Rattle.ice_cells.specs.declared.origin.Origin.{Origin}
use Rattle.ice_cells.specs.declared.root.CarryIn.{CarryIn}
use Rattle.ice_cells.specs.declared.root.Root.{Root}
use Rattle.ice_cells.specs.Origins.{input_origin, origins}
use Rattle.ice_cells.specs.Uses.{dropped, bare_outputs}
use Rattle.ice_cells.specs.Homes.{Facts, facts_of, part, part_of, is_kept, anchor, carriers_of, first_member, first_by, opens, openers, openers_before, home, homes}
use Rattle.ice_cells.specs.Tables.{table}
use Rattle.ice_cells.specs.Packed.{PackPlan, plan_of, packed, root_by, is_global, one_if, roots_from, global_by, carry_input, carry_by, carries_from, cell_by, cell_of, constant_cell, constant_if, needs_zero, needs_one, pad_by, pads_from}
use Rattle.ice_cells.proofs.TableLaws.{get_or-table}
use Rattle.ice_cells.proofs.RangeFilters.{passing_at}
use Rattle.ice_pack_share.proofs.HomeLaws.{first_anchor, home_opened}

-- ---- lists that go along the cells
module _ (os : List Origin) (hs : List ℕ) (p : PackPlan) where
  globals_count : (k : CellKind) (ins : List (Option SignalNo)) → length (global_by p k ins) ≡ one_if (is_global k)
  globals_count (kind.Lut t) ins = refl
  globals_count (kind.Cover t width) ins = refl
  globals_count kind.Carry ins = refl
  globals_count (kind.Flop falling enable reset) ins = refl
  globals_count (kind.PadCell pin_type pullup) ins = refl
  globals_count kind.Global ins = refl

  abbrev all_globals : List Cell → List (Option Root)
  all_globals cells = flat_map (λ (cell : Cell). global_by p cell.kind cell.ins) cells

  -- the root of a cell, and the global buffer of an SB_GB
  pub record IsRooted (j g i q : ℕ) (cells : List Cell) (cell : Cell) : Type 0 where
    pub before : ℕ
    pub root : slice_index_or (roots_from os hs j g cells) i None ≡ root_by os (slice_index_or hs q 0) (g + before) cell.kind cell.ins cell.outs
    pub global : (r : Option Root) → global_by p cell.kind cell.ins ≡ r ∷ [] → At (all_globals cells) before r

  pub rooted : (j g i q : ℕ) (cells : List Cell) (cell : Cell) → q ≡ j + i → At cells i cell → IsRooted j g i q cells cell
  rooted j g i q [] cell e at = cc at
  rooted j g zero q (x ∷ cells) cell e at =
      let same : x ≡ cell = same_Some x cell at in
      let number : j ≡ q = omega arith in
      let none : g ≡ g + 0 = omega arith in
      record {
        before = 0;
        root = (λ i. root_by os (slice_index_or hs (number i) 0) (none i) (same i).kind (same i).ins (same i).outs);
        global = λ r f. At_left (global_by p x.kind x.ins) (all_globals cells) 0 r (ap (λ xs. slice_get xs 0) (ap (λ (y : Cell). global_by p y.kind y.ins) same ∙ f));
      }
  rooted j g (suc i) q (x ∷ cells) cell e at =
      let rest = rooted (j + 1) (g + one_if (is_global x.kind)) i q cells cell (omega arith) at in
      let count = globals_count x.kind x.ins in
      let sum : g + one_if (is_global x.kind) + rest.before ≡ g + (length (global_by p x.kind x.ins) + rest.before) = omega arith in
      record {
        before = length (global_by p x.kind x.ins) + rest.before;
        root = rest.root ∙ ap (λ m. root_by os (slice_index_or hs q 0) m cell.kind cell.ins cell.outs) sum;
        global = λ r f. At_right (global_by p x.kind x.ins) (all_globals cells) rest.before r (rest.global r f);
      }

  -- an SB_GB of each global buffer
  pub global_back : (cells : List Cell) (g : ℕ) (r : Option Root) → At (all_globals cells) g r → (i : ℕ) × (cell : Cell) × At cells i cell × Has (global_by p cell.kind cell.ins) r
  global_back [] g r at = cc at
  global_back (x ∷ cells) g r at = elim (At_parts (global_by p x.kind x.ins) (all_globals cells) g r at) [
    | inl here ↦ (0, x, refl, (g, here))
    | inr later ↦ (let rest = global_back cells later.0 r later.2 in (suc rest.0, rest.1, rest.2, rest.3))
  ]

  -- ---- what comes into carries
  abbrev pub entry : ℕ → Cell → ℕ × CarryIn
  entry q cell = (slice_index_or hs q 0, carry_input p.roots (input_origin p.origins (slice_index_or cell.ins 2 None)))

  pub record IsEntry (j : ℕ) (cells : List Cell) (y : ℕ × CarryIn) : Type 0 where
    pub place : ℕ
    pub cell : Cell
    pub at : At cells place cell
    pub is : cell.kind ≡ kind.Carry
    pub stays : dropped cell.outs ≡ false
    pub same : y ≡ entry (j + place) cell

  one_entry : (q : ℕ) (x : Cell) → x.kind ≡ kind.Carry → dropped x.outs ≡ false → carry_by p (slice_index_or hs q 0) x.kind x.ins x.outs ≡ entry q x ∷ []
  one_entry q x is stays = ap (λ k. carry_by p (slice_index_or hs q 0) k x.ins x.outs) is ∙ ap (λ b. cond b [] (entry q x ∷ [])) stays

  pub entry_there : (j i q : ℕ) (cells : List Cell) (cell : Cell) → q ≡ j + i → At cells i cell → cell.kind ≡ kind.Carry → dropped cell.outs ≡ false → Has (carries_from p hs j cells) (entry q cell)
  entry_there j i q [] cell e at is stays = cc at
  entry_there j zero q (x ∷ cells) cell e at is stays =
      let same : cell ≡ x = sym (same_Some x cell at) in
      let number : q ≡ j = omega arith in (
        0,
        At_left (carry_by p (slice_index_or hs j 0) x.kind x.ins x.outs) (carries_from p hs (j + 1) cells) 0 (entry q cell)
            (ap (λ xs. slice_get xs 0) (sym ((λ i. carry_by p (slice_index_or hs (number i) 0) (same i).kind (same i).ins (same i).outs)) ∙ one_entry q cell is stays)),
      )
  entry_there j (suc i) q (x ∷ cells) cell e at is stays =
      let rest = entry_there (j + 1) i q cells cell (omega arith) at is stays in
      (length (carry_by p (slice_index_or hs j 0) x.kind x.ins x.outs) + rest.0, At_right (carry_by p (slice_index_or hs j 0) x.kind x.ins x.outs) (carries_from p hs (j + 1) cells) rest.0 (entry q cell) rest.1)

  own_entry : (q i : ℕ) (k : CellKind) (ins outs : List (Option SignalNo)) (y : ℕ × CarryIn) → At (carry_by p (slice_index_or hs q 0) k ins outs) i y
      → (k ≡ kind.Carry) × (dropped outs ≡ false) × (y ≡ (slice_index_or hs q 0, carry_input p.roots (input_origin p.origins (slice_index_or ins 2 None))))
  own_entry q i (kind.Lut t) ins outs y at = cc at
  own_entry q i (kind.Cover t width) ins outs y at = cc at
  own_entry q i (kind.Flop falling enable reset) ins outs y at = cc at
  own_entry q i (kind.PadCell pin_type pullup) ins outs y at = cc at
  own_entry q i kind.Global ins outs y at = cc at
  own_entry q i kind.Carry ins outs y at = by (dropped outs) refl i at
    where
      x : ℕ × CarryIn
      x = (slice_index_or hs q 0, carry_input p.roots (input_origin p.origins (slice_index_or ins 2 None)))

      by : (b : Bool) → dropped outs ≡ b → (i : ℕ) → At (cond b [] (x ∷ [])) i y → (kind.Carry ≡ kind.Carry) × (dropped outs ≡ false) × (y ≡ x)
      by true e i f = cc f
      by false e zero f = (refl, e, sym (same_Some x y f))
      by false e (suc i) f = cc f

  pub entry_back : (j : ℕ) (cells : List Cell) (k : ℕ) (y : ℕ × CarryIn) → At (carries_from p hs j cells) k y → IsEntry j cells y
  entry_back j [] k y at = cc at
  entry_back j (x ∷ cells) k y at = elim (At_parts (carry_by p (slice_index_or hs j 0) x.kind x.ins x.outs) (carries_from p hs (j + 1) cells) k y at) [
    | inl here ↦ (let own = own_entry j k x.kind x.ins x.outs y here in
        record { place = 0; cell = x; at = refl; is = own.0; stays = own.1; same = own.2 ∙ ap (λ q. entry q x) (let e : j ≡ j + 0 = omega arith in e) })
    | inr later ↦ (let rest = entry_back (j + 1) cells later.0 y later.2 in
        record { place = suc rest.place; cell = rest.cell; at = rest.at; is = rest.is; stays = rest.stays; same = rest.same ∙ ap (λ q. entry q rest.cell) (let e : j + 1 + rest.place ≡ j + suc rest.place = omega arith in e) })
  ]

  -- ---- pads
  pub pad_there : (all : List Cell) (k i q : ℕ) (ports : List Port) (port : Port) → q ≡ k + i → At ports i port → At (pads_from p all k ports) i (pad_by p all q port (buffer_at all port.signal.0))
  pad_there all k i q [] port e at = cc at
  pad_there all k zero q (x ∷ ports) port e at =
      let same : x ≡ port = same_Some x port at in
      let number : k ≡ q = omega arith in
      ap Some (λ i. pad_by p all (number i) (same i) (buffer_at all (same i).signal.0))
  pad_there all k (suc i) q (x ∷ ports) port e at = pad_there all (k + 1) i q ports port (omega arith) at

  pub pads_long : (all : List Cell) (k : ℕ) (ports : List Port) → length (pads_from p all k ports) ≡ length ports
  pads_long all k [] = refl
  pads_long all k (port ∷ ports) = ap suc (pads_long all (k + 1) ports)

-- ---- the cells of the packed design
module _ (n : NetlistData) where
  abbrev pub os : List Origin
  os = origins n

  abbrev pub bare : List Port
  bare = bare_outputs n

  abbrev pub fs : Facts
  fs = facts_of (origins n) n.cells (bare_outputs n)

  abbrev pub p : PackPlan
  p = plan_of n

  abbrev opened : List LogicCell
  opened = map (cell_of p n.cells) (openers fs)

  abbrev low : List LogicCell
  low = constant_if (needs_zero os n.cells) false

  abbrev high : List LogicCell
  high = constant_if (needs_one os n.cells bare) true

  pub parts_long : length fs.parts ≡ length n.cells
  parts_long = length-map n.cells (part_of os)

  -- a cell of the netlist that goes to a logic cell
  pub cell_at : (j : ℕ) → is_kept (part fs j) ≡ true → At (packed n).cells (home fs j) (cell_by p n.cells (anchor fs j) (part fs (anchor fs j)))
  cell_at j kept =
      At_left (opened ++ low) high (home fs j) (cell_by p n.cells (anchor fs j) (part fs (anchor fs j))) (At_left opened low (home fs j) (cell_by p n.cells (anchor fs j) (part fs (anchor fs j)))
      (subst (λ a. At opened (home fs j) (cell_by p n.cells a (part fs a))) (first_anchor os n.cells bare j kept)
      (At_map (cell_of p n.cells) (openers fs) (home fs j) (first_member fs j) (home_opened os n.cells bare j kept))))

  pub home_is : (j : ℕ) (cell : Cell) → At n.cells j cell → slice_index_or (homes fs) j 0 ≡ home fs j
  home_is j cell at = get_or-table (home fs) (length fs.parts) j 0 (let lt = At_within n.cells j cell at in let long = parts_long in omega arith)

  -- cells that go by one cell go to one logic cell
  pub same_home : (j k : ℕ) → anchor fs j ≡ anchor fs k → home fs j ≡ home fs k
  same_home j k e = ap (λ a. slice_index_or (table (λ i. length (openers_before fs i)) (length fs.parts)) (first_by fs (carriers_of fs) a) 0) e

  pub zero_at : needs_zero os n.cells ≡ true → At (packed n).cells p.zero (constant_cell false)
  zero_at e =
      subst (λ c. At ((opened ++ low) ++ high) c (constant_cell false)) (ap (λ m. m + 0) (length-map (openers fs) (cell_of p n.cells)) ∙ (let z : length (openers fs) + 0 ≡ length (openers fs) = omega arith in z))
      (At_left (opened ++ low) high (length opened + 0) (constant_cell false) (At_right opened low 0 (constant_cell false) (ap (λ b. slice_get (constant_if b false) 0) e)))

  low_count : (b : Bool) → length (constant_if b false) ≡ one_if b
  low_count true = refl
  low_count false = refl

  pub one_at : needs_one os n.cells bare ≡ true → At (packed n).cells p.one (constant_cell true)
  one_at e =
      let long : length (opened ++ low) + 0 ≡ length (openers fs) + one_if (needs_zero os n.cells) =
      (let a = length-append opened low in let b = length-map (openers fs) (cell_of p n.cells) in let c = low_count (needs_zero os n.cells) in omega arith) in
      subst (λ c. At ((opened ++ low) ++ high) c (constant_cell true)) long
      (At_right (opened ++ low) high 0 (constant_cell true) (ap (λ b. slice_get (constant_if b true) 0) e))

  -- where each cell of the design comes from: the first of those that go to it, or a constant
  pub record IsOpened (c : ℕ) (logic : LogicCell) : Type 0 where
    pub number : ℕ
    pub kept : is_kept (part fs number) ≡ true
    pub same : home fs number ≡ c
    pub is : logic ≡ cell_by p n.cells (anchor fs number) (part fs (anchor fs number))

  constant_there : (b level : Bool) (i : ℕ) (logic : LogicCell) → At (constant_if b level) i logic → logic ≡ constant_cell level
  constant_there true level zero logic at = sym (same_Some (constant_cell level) logic at)
  constant_there true level (suc i) logic at = cc at
  constant_there false level i logic at = cc at

  pub opened_back : (c : ℕ) (logic : LogicCell) → At (packed n).cells c logic → IsOpened c logic ⊎ ((level : Bool) × (logic ≡ constant_cell level))
  opened_back c logic at = elim (At_parts (opened ++ low) high c logic at) [
    | inr last ↦ inr (true, constant_there (needs_one os n.cells bare) true last.0 logic last.2)
    | inl front ↦ elim (At_parts opened low c logic front) [
      | inr last ↦ inr (false, constant_there (needs_zero os n.cells) false last.0 logic last.2)
      | inl here ↦ (let from = map_At (cell_of p n.cells) (openers fs) c logic here in
          let passing = passing_at (opens fs) (length fs.parts) c from.0 from.1 in
          let two = and_parts (is_kept (part fs from.0)) (first_member fs from.0 == from.0) passing.passes in
          let again = passing_at (opens fs) (length fs.parts) (home fs from.0) (first_member fs from.0) (home_opened os n.cells bare from.0 two.0) in
          let first : first_member fs from.0 ≡ from.0 = eqb-true (first_member fs from.0) from.0 two.1 in
          inl (record {
            number = from.0;
            kept = two.0;
            same = again.place ∙ ap (λ i. length (filter (opens fs) (range_with_len 0 i))) first ∙ sym passing.place;
            is = sym from.2;
          }))
    ]
  ]
