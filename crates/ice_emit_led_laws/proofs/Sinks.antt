-- No two sinks of one root share a target.
use Rattle.std.proofs.Common.{◌≡◌, ◌⊎◌, ℕ, zero, suc, ◌+◌, ◌-◌, ◌<◌, ◌≤◌, Bool, true, false, cond, Option, None, Some, List, [], ◌∷◌, ◌++◌, length, map, refl, sym, ap, ◌∙◌, subst, inl, inr, arith}
use Rattle.std.specs.Prelude.{nat_lt, slice_get, slice_index_or, if◌then◌else◌}
use Rattle.std.specs.Option.{option_map_or}
use Rattle.std.proofs.lemmas.Bool.{or_parts, ltb-false}
use Rattle.std.proofs.lemmas.List.{map-append}
use Rattle.std.proofs.lemmas.Option.{none-some, same_Some}
use Rattle.ice_base.specs.declared.number.TileAt.{TileAt}
use Rattle.ice_base.specs.declared.number.WireNo.{WireNo}
use Rattle.ice_base_values.specs.Order.{At, Has}
use Rattle.ice_base_values.proofs.Members.{Has_cases, At_parts}
use Rattle.ice_chip.specs.Database.{Parts}
use Rattle.ice_chip.specs.Lookups.{wire_named, global_of}
use Rattle.ice_chip.specs.declared.rows.Pad.{Pad}
use Rattle.ice_chip_names.specs.declared.wire_names.TileWire.{TileWire}
use Rattle.ice_chip_names.specs.declared.wire_names.TileWire.TheVariants.{CellInput, CellOutput, CarryOut, LookUp, Clock, ClockEnable, SetReset, CarryIn, FirstCarry, PadInput, PadOutput, OutputEnable, InputClock, OutputClock, InOutEnable, Fabout, Global, Ram}
use Rattle.ice_chip_sockets.specs.Sockets.{driven_wire}
use Rattle.ice_cells.specs.declared.cell.Control.{Control}
use Rattle.ice_cells.specs.declared.cell.LogicCell.{LogicCell}
use Rattle.ice_cells.specs.declared.cluster.Cluster.{Cluster}
use Rattle.ice_cells.specs.declared.design.DesignPad.{DesignPad}
use Rattle.ice_cells.specs.declared.root.Root.{Root}
use Rattle.ice_cells.specs.Same.{same_root}
use Rattle.ice_place_defs.specs.Plan.{Plan}
use Rattle.ice_place_defs.specs.Loads as pins
use Rattle.ice_place_defs.specs.Loads.{Pin, pin_name, Load, load_at, pad_loads, pads_loads, feed_load, global_loads, globals_loads, cell_loads, slot_gives, slots_give, clusters_give}
use Rattle.ice_emit_nets.specs.Ends.{End, load_end, pin_wires, is_free, is_seen, free_ends, inputs_of, cell_ends, control_ends}
use Rattle.ice_emit_led_laws.specs.Pins.{IsInput, wire_of}
use Rattle.ice_emit_led_laws.specs.Reads.{AreApart}
use Rattle.ice_emit_led_laws.proofs.Ends.{free_given, input_target}
use Rattle.ice_emit_led_laws.proofs.Targets.{wire_named_of}
use Rattle.ice_emit_led_laws.proofs.Roots.{root_self}
use Rattle.ice_emit_led_laws.proofs.Sockets.{driven_other}

-- ---- where the targets of sinks are
abbrev pub Place : Type 1
Place = TileAt → TileWire → Type 0

-- the targets of these ends are wires of pins at such places, and no two ends of one root share one
pub record Apart (parts : Parts) (P : Place) (all : List End) : Type 0 where
  pub stand : (e : End) (w : WireNo) → Has all e → Has e.1 w → (t : TileAt) × (wire : TileWire) × P t wire × IsInput parts t wire w.0
  pub apart : AreApart all

one_place : {X : Type 0} (x y : X) (j : ℕ) → At (x ∷ []) j y → j ≡ 0
one_place x y zero at = refl
one_place x y (suc j) at = absurd (none-some y at)

-- the numbers of the cell, of the input and of the pad that the name has
abbrev pub cell_of : TileWire → Option ℕ
cell_of (CellInput i k) = Some i
cell_of wire = None

abbrev pub input_of : TileWire → ℕ
input_of (CellInput i k) = k
input_of wire = 0

abbrev pub pio_of : TileWire → Option ℕ
pio_of (PadOutput pio) = Some pio
pio_of (OutputEnable pio) = Some pio
pio_of (Ram n) = Some (n + 2)
pio_of wire = None

abbrev pub is_feed : TileWire → Bool
is_feed Fabout = true
is_feed wire = false

pio_driven : (pio : ℕ) → pio_of (driven_wire pio) ≡ Some pio
pio_driven pio = by (nat_lt pio 2) refl
  where
    by : (b : Bool) → nat_lt pio 2 ≡ b → pio_of (if b then PadOutput pio else Ram (pio - 2)) ≡ Some pio
    by true e = refl
    by false e = (let high = ltb-false pio 2 e in let number : pio - 2 + 2 ≡ pio = omega (arith, high) in ap (λ (n : ℕ). Some n) number)

module _ (parts : Parts) (plan : Plan) (same : (t u : TileAt) (a b : TileWire) (w : ℕ) → IsInput parts t a w → IsInput parts u b w → (a ≡ b) × (t ≡ u)) where
  none_apart : (P : Place) → Apart parts P []
  none_apart P = record { stand = λ e w has. absurd (none-some e has.1); apart = λ j k one other w a. absurd (none-some one a) }

  -- ---- one list behind the other
  module _ (P Q R : Place) (xs ys : List End) (a : Apart parts P xs) (b : Apart parts Q ys) (never : (t : TileAt) (wire : TileWire) → P t wire → Q t wire → ⊥)
      (left : (t : TileAt) (wire : TileWire) → P t wire → R t wire) (right : (t : TileAt) (wire : TileWire) → Q t wire → R t wire) where
    both_stand : (e : End) (w : WireNo) → Has (xs ++ ys) e → Has e.1 w → (t : TileAt) × (wire : TileWire) × R t wire × IsInput parts t wire w.0
    both_stand e w has target = by (At_parts xs ys has.0 e has.1)
      where
        by : At xs has.0 e ⊎ ((j : ℕ) × (has.0 ≡ length xs + j) × At ys j e) → (t : TileAt) × (wire : TileWire) × R t wire × IsInput parts t wire w.0
        by (inl here) = (let s = a.stand e w (has.0, here) target in (s.0, s.1, left s.0 s.1 s.2, s.3))
        by (inr (j, f, there)) = (let s = b.stand e w (j, there) target in (s.0, s.1, right s.0 s.1 s.2, s.3))

    crossed : (one other : End) (w : WireNo) → Has xs one → Has ys other → Has one.1 w → Has other.1 w → ⊥
    crossed one other w x y l r =
        let s = a.stand one w x l in
        let z = b.stand other w y r in
        let e = same s.0 z.0 s.1 z.1 w.0 s.3 z.3 in
        never z.0 z.1 (subst (λ u. P u z.1) e.1 (subst (λ c. P s.0 c) e.0 s.2)) z.2

    both_apart : AreApart (xs ++ ys)
    both_apart j k one other w x y root l r = by (At_parts xs ys j one x) (At_parts xs ys k other y)
      where
        by : At xs j one ⊎ ((m : ℕ) × (j ≡ length xs + m) × At ys m one) → At xs k other ⊎ ((n : ℕ) × (k ≡ length xs + n) × At ys n other) → j ≡ k
        by (inl x) (inl y) = a.apart j k one other w x y root l r
        by (inl x) (inr (n, f, y)) = absurd (crossed one other w (j, x) (n, y) l r)
        by (inr (m, e, x)) (inl y) = absurd (crossed other one w (k, y) (m, x) r l)
        by (inr (m, e, x)) (inr (n, f, y)) = e ∙ ap (λ z. length xs + z) (b.apart m n one other w x y root l r) ∙ sym f

    pub joined : Apart parts R (xs ++ ys)
    joined = record { stand = both_stand; apart = both_apart }

  loads_joined : (P Q R : Place) (xs ys : List Load) → Apart parts P (map (load_end parts) xs) → Apart parts Q (map (load_end parts) ys) → ((t : TileAt) (wire : TileWire) → P t wire → Q t wire → ⊥)
      → ((t : TileAt) (wire : TileWire) → P t wire → R t wire) → ((t : TileAt) (wire : TileWire) → Q t wire → R t wire) → Apart parts R (map (load_end parts) (xs ++ ys))
  loads_joined P Q R xs ys a b never left right =
      subst (λ zs. Apart parts R zs) (sym (map-append (load_end parts) xs ys)) (joined P Q R (map (load_end parts) xs) (map (load_end parts) ys) a b never left right)

  -- ---- one pin
  abbrev AtPin : TileAt → TileWire → Place
  AtPin t wire u a = (u ≡ t) × (a ≡ wire)

  pin_apart : (t : TileAt) (pin : Pin) (o : Option Root) → ((root : Root) (w : ℕ) → o ≡ Some root → wire_named parts t (pin_name pin) ≡ Some w → IsInput parts t (wire_of pin) w)
      → Apart parts (AtPin t (wire_of pin)) (map (load_end parts) (load_at t pin o))
  pin_apart t pin None input = none_apart (AtPin t (wire_of pin))
  pin_apart t pin (Some root) input = record {
    stand = λ e w has target.
        let is : (root, pin_wires parts t (pin ∷ [])) ≡ e = one_item (root, pin_wires parts t (pin ∷ [])) e has in
        let there : Has (pin_wires parts t (pin ∷ [])) w = subst (λ (x : End). Has x.1 w) (sym is) target in
        (t, wire_of pin, (refl, refl), input root w.0 refl (wire_named_of parts t pin w there));
    apart = λ j k one other w a b root_is l m. one_place (root, pin_wires parts t (pin ∷ [])) one j a ∙ sym (one_place (root, pin_wires parts t (pin ∷ [])) other k b);
  }
    where
      one_item : {X : Type 0} (x y : X) → Has (x ∷ []) y → x ≡ y
      one_item x y has = by (Has_cases x y [] has)
        where
          by : (x ≡ y) ⊎ Has [] y → x ≡ y
          by (inl same) = same
          by (inr none) = absurd (none-some y none.1)

  -- ---- pads
  abbrev AtPad : Pad → Place
  AtPad pad t wire = (t ≡ pad.tile) × (pio_of wire ≡ Some pad.pio)

  abbrev pub AtPads : List Pad → Place
  AtPads ports t wire = (pad : Pad) × Has ports pad × AtPad pad t wire

  -- what reads at the pad has the names of pins
  pub record HasInputs (pad : Pad) (port : DesignPad) : Type 0 where
    pub drive : (root : Root) (w : ℕ) → port.drive ≡ Some root → wire_named parts pad.tile (pin_name (pins.Drive pad.pio)) ≡ Some w → IsInput parts pad.tile (driven_wire pad.pio) w
    pub enable : (root : Root) (w : ℕ) → port.enable ≡ Some root → wire_named parts pad.tile (pin_name (pins.DriveEnable pad.pio)) ≡ Some w → IsInput parts pad.tile (OutputEnable pad.pio) w

  pad_apart : (pad : Pad) (port : DesignPad) → HasInputs pad port → Apart parts (AtPad pad) (map (load_end parts) (pad_loads pad port))
  pad_apart pad port input =
      loads_joined (AtPin pad.tile (driven_wire pad.pio)) (AtPin pad.tile (OutputEnable pad.pio)) (AtPad pad) (load_at pad.tile (pins.Drive pad.pio) port.drive)
      (load_at pad.tile (pins.DriveEnable pad.pio) port.enable) (pin_apart pad.tile (pins.Drive pad.pio) port.drive input.drive) (pin_apart pad.tile (pins.DriveEnable pad.pio) port.enable input.enable)
      (λ t wire p q. driven_other pad.pio (OutputEnable pad.pio) refl (sym p.1 ∙ q.1)) (λ t wire p. (p.0, ap pio_of p.1 ∙ pio_driven pad.pio)) (λ t wire q. (q.0, ap pio_of q.1))

  pub pads_apart : (ports : List Pad) (pads : List DesignPad) → ((k : ℕ) (pad : Pad) (port : DesignPad) → At ports k pad → At pads k port → HasInputs pad port)
      → ((j k : ℕ) (pad : Pad) → At ports j pad → At ports k pad → j ≡ k) → Apart parts (AtPads ports) (map (load_end parts) (pads_loads ports pads))
  pads_apart [] pads input once = none_apart (AtPads [])
  pads_apart (p ∷ ports) [] input once = none_apart (AtPads (p ∷ ports))
  pads_apart (p ∷ ports) (q ∷ pads) input once =
      loads_joined (AtPad p) (AtPads ports) (AtPads (p ∷ ports)) (pad_loads p q) (pads_loads ports pads) (pad_apart p q (input 0 p q refl refl))
      (pads_apart ports pads (λ k pad port a b. input (suc k) pad port a b) (λ j k pad a b. let e = once (suc j) (suc k) pad a b in omega (arith, e))) never (λ t wire at. (p, (0, refl), at))
      (λ t wire at. (at.0, (suc at.1.0, at.1.1), at.2))
    where
      same_pad : (t : TileAt) (wire : TileWire) (pad : Pad) → AtPad p t wire → AtPad pad t wire → p ≡ pad
      same_pad t wire pad a b =
          let e : p.tile ≡ pad.tile = sym a.0 ∙ b.0 in
          let f : p.pio ≡ pad.pio = same_Some p.pio pad.pio (sym a.1 ∙ b.1) in
          λ i. record { tile = e i; pio = f i }

      never : (t : TileAt) (wire : TileWire) → AtPad p t wire → AtPads ports t wire → ⊥
      never t wire here (pad, has, there) =
          (let e : 0 ≡ suc has.0 = once 0 (suc has.0) pad (ap Some (same_pad t wire pad here there)) has.1 in omega (arith, e))

  -- ---- global buffers
  abbrev pub AtFeeds : List ℕ → List (Option Root) → Place
  AtFeeds ns roots t wire = (wire ≡ Fabout) × (g : ℕ) × (n : ℕ) × (root : Root) × At ns g n × At roots g (Some root) × (global_of parts n ≡ Some t)

  abbrev pub FeedsInput : ℕ → Option Root → Type 0
  FeedsInput n o = (t : TileAt) (root : Root) (w : ℕ) → global_of parts n ≡ Some t → o ≡ Some root → wire_named parts t (pin_name pins.Feed) ≡ Some w → IsInput parts t Fabout w

  abbrev OfGlobal : ℕ → Option Root → Place
  OfGlobal n o t wire = (wire ≡ Fabout) × (global_of parts n ≡ Some t) × (root : Root) × (o ≡ Some root)

  feed_apart : (n : ℕ) (o : Option Root) → FeedsInput n o → Apart parts (OfGlobal n o) (map (load_end parts) (global_loads parts n o))
  feed_apart n o input = by (global_of parts n) refl o refl
    where
      by : (g : Option TileAt) → global_of parts n ≡ g → (read : Option Root) → o ≡ read → Apart parts (OfGlobal n o) (map (load_end parts) (option_map_or (feed_load read) g []))
      by None e read f = none_apart (OfGlobal n o)
      by (Some t) e None f = none_apart (OfGlobal n o)
      by (Some t) e (Some root) f =
          (let one = pin_apart t pins.Feed (Some root) (λ r w is named. input t r w e (f ∙ is) named) in
          record { stand = λ x w has target. (let s = one.stand x w has target in (s.0, s.1, (s.2.1, e ∙ ap Some (sym s.2.0), root, f), s.3)); apart = one.apart })

  pub feeds_apart : (ns : List ℕ) (roots : List (Option Root)) → ((g n : ℕ) (o : Option Root) → At ns g n → At roots g o → FeedsInput n o)
      → ((j k n m : ℕ) (r s : Root) (t : TileAt) → At ns j n → At ns k m → At roots j (Some r) → At roots k (Some s) → global_of parts n ≡ Some t → global_of parts m ≡ Some t → j ≡ k)
      → Apart parts (AtFeeds ns roots) (map (load_end parts) (globals_loads parts ns roots))
  feeds_apart [] roots input once = none_apart (AtFeeds [] roots)
  feeds_apart (n ∷ ns) [] input once = none_apart (AtFeeds (n ∷ ns) [])
  feeds_apart (n ∷ ns) (o ∷ roots) input once =
      loads_joined (OfGlobal n o) (AtFeeds ns roots) (AtFeeds (n ∷ ns) (o ∷ roots)) (global_loads parts n o) (globals_loads parts ns roots) (feed_apart n o (input 0 n o refl refl))
      (feeds_apart ns roots (λ g m p a b. input (suc g) m p a b) (λ j k m l r s t a b c d f g. let e = once (suc j) (suc k) m l r s t a b c d f g in omega (arith, e)))
      (λ t wire here there. let e : 0 ≡ suc there.1 = once 0 (suc there.1) n there.2 here.2 there.3 t refl there.4 (ap Some here.3) there.5 here.1 there.6 in omega (arith, e))
      (λ t wire at. (at.0, 0, n, at.2, refl, ap Some at.3, at.1)) (λ t wire at. (at.0, suc at.1, at.2, at.3, at.4, at.5, at.6))

  -- ---- cells
  abbrev AtInput : TileAt → ℕ → ℕ → Place
  AtInput t i n u wire = (u ≡ t) × (cell_of wire ≡ Some i) × (input_of wire < n)

  abbrev AtCell : TileAt → ℕ → Place
  AtCell t i u wire = (u ≡ t) × (cell_of wire ≡ Some i)

  abbrev pub CellInputs : TileAt → ℕ → Type 0
  CellInputs t i = (k w : ℕ) → k < 4 → wire_named parts t (pin_name (pins.Input i k)) ≡ Some w → IsInput parts t (CellInput i k) w

  input_next : (t : TileAt) (i k n : ℕ) (o : Option Root) (xs : List Load) → k < 4 → n ≡ suc k → CellInputs t i → Apart parts (AtInput t i k) (map (load_end parts) xs)
      → Apart parts (AtInput t i n) (map (load_end parts) (xs ++ load_at t (pins.Input i k) o))
  input_next t i k n o xs lt e input before =
      loads_joined (AtInput t i k) (AtPin t (CellInput i k)) (AtInput t i n) xs (load_at t (pins.Input i k) o) before (pin_apart t (pins.Input i k) o (λ root w is named. input k w lt named))
      (λ u wire p q. let f : input_of wire ≡ k = ap input_of q.1 in let l = p.2 in omega (arith, f, l)) (λ u wire p. (p.0, p.1, (let l = p.2 in omega (arith, l, e))))
      (λ u wire q. (q.0, ap cell_of q.1, (let f : input_of wire ≡ k = ap input_of q.1 in omega (arith, f, e))))

  fixed_apart : (t : TileAt) (i : ℕ) (cell : LogicCell) → CellInputs t i → Apart parts (AtCell t i) (map (load_end parts) (cell_loads t i cell))
  fixed_apart t i cell input =
      let four = input_next t i 3 4 (at 3) (loads 0 ++ loads 1 ++ loads 2) (omega arith) (omega arith) input
      (input_next t i 2 3 (at 2) (loads 0 ++ loads 1) (omega arith) (omega arith) input
      (input_next t i 1 2 (at 1) (loads 0) (omega arith) (omega arith) input
      (input_next t i 0 1 (at 0) [] (omega arith) (omega arith) input (none_apart (AtInput t i 0))))) in
      record { stand = λ e w has target. (let s = four.stand e w has target in (s.0, s.1, (s.2.0, s.2.1), s.3)); apart = four.apart }
    where
      at : ℕ → Option Root
      at k = slice_index_or cell.ins k None

      loads : ℕ → List Load
      loads k = load_at t (pins.Input i k) (at k)

  -- the roots of the sinks of a free cell are not those that were seen before, and each is there once
  free_new : (targets : List WireNo) (seen : List Root) (ins : List (Option Root)) (e : End) → Has (free_ends targets seen ins) e → is_seen seen e.0 ≡ false
  free_new targets seen [] e has = absurd (none-some e has.1)
  free_new targets seen (None ∷ ins) e has = free_new targets seen ins e has
  free_new targets seen (Some r ∷ ins) e has = by (is_seen seen r) refl has (free_new targets seen ins e) (free_new targets (r ∷ seen) ins e)
    where
      by : (b : Bool) → is_seen seen r ≡ b → Has (cond b (free_ends targets seen ins) ((r, targets) ∷ free_ends targets (r ∷ seen) ins)) e → (Has (free_ends targets seen ins) e → is_seen seen e.0 ≡ false)
          → (Has (free_ends targets (r ∷ seen) ins) e → is_seen (r ∷ seen) e.0 ≡ false) → is_seen seen e.0 ≡ false
      by true s has old more = old has
      by false s has old more = here (Has_cases (r, targets) e (free_ends targets (r ∷ seen) ins) has)
        where
          here : ((r, targets) ≡ e) ⊎ Has (free_ends targets (r ∷ seen) ins) e → is_seen seen e.0 ≡ false
          here (inl first) = ap (λ (x : End). is_seen seen x.0) (sym first) ∙ s
          here (inr later) = (or_parts (same_root e.0 r) (is_seen seen e.0) (more later)).1

  free_once : (targets : List WireNo) (seen : List Root) (ins : List (Option Root)) → AreApart (free_ends targets seen ins)
  free_once targets seen [] = λ j k one other w a. absurd (none-some one a)
  free_once targets seen (None ∷ ins) = free_once targets seen ins
  free_once targets seen (Some r ∷ ins) = by (is_seen seen r) (free_once targets seen ins) (free_once targets (r ∷ seen) ins)
    where
      never : (e : End) → Has (free_ends targets (r ∷ seen) ins) e → e.0 ≡ r → ⊥
      never e has same =
          let new : is_seen (r ∷ seen) e.0 ≡ false = free_new targets (r ∷ seen) ins e has in
          let no_first : same_root e.0 r ≡ false = (or_parts (same_root e.0 r) (is_seen seen e.0) new).0 in
          let yes : same_root e.0 r ≡ true = ap (λ x. same_root x r) same ∙ root_self r in
          cc

      more : AreApart (free_ends targets (r ∷ seen) ins) → AreApart ((r, targets) ∷ free_ends targets (r ∷ seen) ins)
      more rest zero zero one other w a b same l m = refl
      more rest zero (suc k) one other w a b same l m = absurd (never other (k, b) (sym same ∙ ap (λ (x : End). x.0) (sym (same_Some (r, targets) one a))))
      more rest (suc j) zero one other w a b same l m = absurd (never one (j, a) (same ∙ ap (λ (x : End). x.0) (sym (same_Some (r, targets) other b))))
      more rest (suc j) (suc k) one other w a b same l m = ap suc (rest j k one other w a b same l m)

      by : (b : Bool) → AreApart (free_ends targets seen ins) → AreApart (free_ends targets (r ∷ seen) ins) → AreApart (cond b (free_ends targets seen ins) ((r, targets) ∷ free_ends targets (r ∷ seen) ins))
      by true old new = old
      by false old new = more new

  free_apart : (t : TileAt) (i : ℕ) (cell : LogicCell) → CellInputs t i → Apart parts (AtCell t i) (free_ends (pin_wires parts t (inputs_of i)) [] cell.ins)
  free_apart t i cell input = record {
    stand = λ e w has target.
        let there : Has (pin_wires parts t (inputs_of i)) w = subst (λ (ws : List WireNo). Has ws w) (free_given parts plan (pin_wires parts t (inputs_of i)) [] cell.ins e has).2 target in
        let named = input_target parts plan t i w there in
        (t, CellInput i named.0, (refl, refl), input named.0 w.0 named.1 named.2);
    apart = free_once (pin_wires parts t (inputs_of i)) [] cell.ins;
  }

  cell_apart : (t : TileAt) (i : ℕ) (cell : LogicCell) → CellInputs t i → Apart parts (AtCell t i) (cell_ends parts t i cell)
  cell_apart t i cell input = by (is_free cell)
    where
      by : (b : Bool) → Apart parts (AtCell t i) (cond b (free_ends (pin_wires parts t (inputs_of i)) [] cell.ins) (map (load_end parts) (cell_loads t i cell)))
      by true = free_apart t i cell input
      by false = fixed_apart t i cell input

  abbrev AtSlots : TileAt → ℕ → Place
  AtSlots t n u wire = (u ≡ t) × (i : ℕ) × (n ≤ i) × (cell_of wire ≡ Some i)

  slots_apart : (cells : List LogicCell) (t : TileAt) (n : ℕ) (slots : List (Option ℕ)) → ((j i c : ℕ) (cell : LogicCell) → i ≡ n + j → At slots j (Some c) → At cells c cell → CellInputs t i)
      → Apart parts (AtSlots t n) (slots_give (cell_ends parts) cells t n slots)
  slots_apart cells t n [] input = none_apart (AtSlots t n)
  slots_apart cells t n (slot ∷ slots) input =
      joined (AtCell t n) (AtSlots t (n + 1)) (AtSlots t n) (slot_gives (cell_ends parts) cells t n slot) (slots_give (cell_ends parts) cells t (n + 1) slots) (first slot refl)
      (slots_apart cells t (n + 1) slots (λ j i c cell e at is. input (suc j) i c cell (omega (arith, e)) at is))
      (λ u wire p q. let e : n ≡ q.1 = same_Some n q.1 (sym p.1 ∙ q.3) in let l = q.2 in omega (arith, e, l)) (λ u wire p. (p.0, n, omega arith, p.1))
      (λ u wire q. (q.0, q.1, (let l = q.2 in omega (arith, l)), q.3))
    where
      first : (o : Option ℕ) → slot ≡ o → Apart parts (AtCell t n) (slot_gives (cell_ends parts) cells t n o)
      first None e = none_apart (AtCell t n)
      first (Some c) e = by (slice_get cells c) refl
        where
          by : (o : Option LogicCell) → slice_get cells c ≡ o → Apart parts (AtCell t n) (option_map_or (cell_ends parts t n) o [])
          by None f = none_apart (AtCell t n)
          by (Some cell) f = cell_apart t n cell (input 0 n c cell (omega arith) (ap Some e) f)

  -- ---- clusters
  abbrev AtControl : TileAt → Place
  AtControl t u wire = (u ≡ t) × (cell_of wire ≡ None) × (pio_of wire ≡ None) × (is_feed wire ≡ false)

  pub record ControlInputs (t : TileAt) (control : Control) : Type 0 where
    pub clock : (root : Root) (w : ℕ) → control.clock ≡ Some root → wire_named parts t (pin_name pins.Clock) ≡ Some w → IsInput parts t Clock w
    pub enable : (root : Root) (w : ℕ) → control.enable ≡ Some root → wire_named parts t (pin_name pins.Enable) ≡ Some w → IsInput parts t ClockEnable w
    pub reset : (root : Root) (w : ℕ) → control.reset ≡ Some root → wire_named parts t (pin_name pins.SetReset) ≡ Some w → IsInput parts t SetReset w

  control_apart : (t : TileAt) (o : Option Control) → ((control : Control) → o ≡ Some control → ControlInputs t control) → Apart parts (AtControl t) (control_ends parts t o)
  control_apart t None input = none_apart (AtControl t)
  control_apart t (Some control) input =
      loads_joined Two (AtPin t SetReset) (AtControl t) (clocks ++ enables) (load_at t pins.SetReset control.reset)
      (loads_joined (AtPin t Clock) (AtPin t ClockEnable) Two clocks enables (pin_apart t pins.Clock control.clock is.clock) (pin_apart t pins.Enable control.enable is.enable)
      (λ u wire p q. let e : Clock ≡ ClockEnable = sym p.1 ∙ q.1 in cc) (λ u wire p. (p.0, inl p.1)) (λ u wire q. (q.0, inr q.1)))
      (pin_apart t pins.SetReset control.reset is.reset) never up (λ u wire q. (q.0, ap cell_of q.1, ap pio_of q.1, ap is_feed q.1))
    where
      is : ControlInputs t control
      is = input control refl

      clocks : List Load
      clocks = load_at t pins.Clock control.clock

      enables : List Load
      enables = load_at t pins.Enable control.enable

      Two : Place
      Two u wire = (u ≡ t) × ((wire ≡ Clock) ⊎ (wire ≡ ClockEnable))

      never : (u : TileAt) (wire : TileWire) → Two u wire → AtPin t SetReset u wire → ⊥
      never u wire (p, inl a) q = (let e : Clock ≡ SetReset = sym a ∙ q.1 in cc)
      never u wire (p, inr a) q = (let e : ClockEnable ≡ SetReset = sym a ∙ q.1 in cc)

      up : (u : TileAt) (wire : TileWire) → Two u wire → AtControl t u wire
      up u wire (p, inl a) = (p, ap cell_of a, ap pio_of a, ap is_feed a)
      up u wire (p, inr a) = (p, ap cell_of a, ap pio_of a, ap is_feed a)

  -- the pins of a logic tile that read
  abbrev AtLogic : TileAt → Place
  AtLogic t u wire = (u ≡ t) × (pio_of wire ≡ None) × (is_feed wire ≡ false)

  of_cell : (wire : TileWire) (i : ℕ) → cell_of wire ≡ Some i → (pio_of wire ≡ None) × (is_feed wire ≡ false)
  of_cell (CellInput j k) i e = (refl, refl)
  of_cell (CellOutput j) i e = (refl, refl)
  of_cell (CarryOut j) i e = (refl, refl)
  of_cell (LookUp j) i e = (refl, refl)
  of_cell Clock i e = (refl, refl)
  of_cell ClockEnable i e = (refl, refl)
  of_cell SetReset i e = (refl, refl)
  of_cell CarryIn i e = (refl, refl)
  of_cell FirstCarry i e = (refl, refl)
  of_cell (PadInput pio) i e = (refl, refl)
  of_cell (PadOutput pio) i e = absurd (none-some i e)
  of_cell (OutputEnable pio) i e = absurd (none-some i e)
  of_cell InputClock i e = (refl, refl)
  of_cell OutputClock i e = (refl, refl)
  of_cell InOutEnable i e = (refl, refl)
  of_cell Fabout i e = absurd (none-some i e)
  of_cell (Global n) i e = (refl, refl)
  of_cell (Ram n) i e = absurd (none-some i e)

  -- what reads in the tile has the names of pins
  pub record TileInputs (cells : List LogicCell) (t : TileAt) (cluster : Cluster) : Type 0 where
    pub inputs : (i c : ℕ) (cell : LogicCell) → At cluster.cells i (Some c) → At cells c cell → CellInputs t i
    pub controls : (control : Control) → cluster.control ≡ Some control → ControlInputs t control

  cluster_apart : (cells : List LogicCell) (t : TileAt) (cluster : Cluster) → TileInputs cells t cluster
      → Apart parts (AtLogic t) (slots_give (cell_ends parts) cells t 0 cluster.cells ++ control_ends parts t cluster.control)
  cluster_apart cells t cluster is =
      joined (AtSlots t 0) (AtControl t) (AtLogic t) (slots_give (cell_ends parts) cells t 0 cluster.cells) (control_ends parts t cluster.control)
      (slots_apart cells t 0 cluster.cells (λ j i c cell e at known. is.inputs i c cell (let f : j ≡ i = omega (arith, e) in subst (λ n. At cluster.cells n (Some c)) f at) known))
      (control_apart t cluster.control is.controls) (λ u wire p q. none-some p.1 (sym q.1 ∙ p.3)) (λ u wire p. (p.0, (of_cell wire p.1 p.3).0, (of_cell wire p.1 p.3).1)) (λ u wire q. (q.0, q.2, q.3))

  abbrev pub AtTiles : List TileAt → Place
  AtTiles at u wire = Has at u × (pio_of wire ≡ None) × (is_feed wire ≡ false)

  pub clusters_apart : (cells : List LogicCell) (at : List TileAt) (clusters : List Cluster) → ((n : ℕ) (t : TileAt) (cluster : Cluster) → At clusters n cluster → At at n t → TileInputs cells t cluster)
      → ((j k : ℕ) (t : TileAt) → At at j t → At at k t → j ≡ k) → Apart parts (AtTiles at) (clusters_give (cell_ends parts) (control_ends parts) cells at clusters)
  clusters_apart cells [] clusters is once = none_apart (AtTiles [])
  clusters_apart cells (t ∷ at) [] is once = none_apart (AtTiles (t ∷ at))
  clusters_apart cells (t ∷ at) (cluster ∷ clusters) is once =
      joined (AtLogic t) (AtTiles at) (AtTiles (t ∷ at)) (slots_give (cell_ends parts) cells t 0 cluster.cells ++ control_ends parts t cluster.control)
      (clusters_give (cell_ends parts) (control_ends parts) cells at clusters) (cluster_apart cells t cluster (is 0 t cluster refl refl))
      (clusters_apart cells at clusters (λ n u k a b. is (suc n) u k a b) (λ j k u a b. let e = once (suc j) (suc k) u a b in omega (arith, e)))
      (λ u wire p q. let e : 0 ≡ suc q.0.0 = once 0 (suc q.0.0) u (ap Some (sym p.0)) q.0.1 in omega (arith, e)) (λ u wire p. ((0, ap Some (sym p.0)), p.1, p.2))
      (λ u wire q. ((suc q.0.0, q.0.1), q.1, q.2))
