-- Nodes have their levels where they start.
use Rattle.std.proofs.Common.{◌≡◌, ◌⊎◌, ℕ, zero, suc, ◌+◌, ◌-◌, ◌%◌, ◌<◌, ◌≤◌, Bool, true, false, cond, Option, None, Some, List, [], ◌∷◌, length, map, inl, inr, refl, sym, ap, ◌∙◌, subst, true≢false, arith}
use Rattle.std.specs.Prelude.{◌&&◌, ◌==◌, not, is_some, nat_eq, nat_lt, slice_index_or, option_map}
use Rattle.std.specs.Option.{option_map_or}
use Rattle.std.proofs.lemmas.Bool.{and_parts, ltb-true, ltb-false}
use Rattle.std.proofs.lemmas.Option.{same_Some, none-some, get_or_from_slice_get}
use Rattle.ice_base.specs.declared.number.TileAt.{TileAt}
use Rattle.ice_base.proofs.Keys.{nat_same, nat_self}
use Rattle.ice_base_values.specs.Order.{At, Has}
use Rattle.ice_base_values.specs.System.{reading}
use Rattle.ice_base_values.proofs.Members.{At_map}
use Rattle.ice_chip.specs.Lookups.{gbufpin_of, kind_at, wire_named}
use Rattle.ice_chip.specs.Names.{input_name, pad_input_name}
use Rattle.ice_chip.specs.RamNames.{ram_name, is_read_out, pin_at}
use Rattle.ice_chip.specs.WireNames.{fabout_name, global_name}
use Rattle.ice_chip.specs.declared.rows.Pad.{Pad}
use Rattle.ice_chip.specs.declared.rows.TileKind.TheVariants.{Io}
use Rattle.ice_chip_sockets.proofs.SocketWires.{io_wire, ram_wire}
use Rattle.ice_chip_sockets.specs.Sockets.{has_io_wire, has_ram_pin, gives}
use Rattle.ice_net.specs.declared.kind.Reset.{Reset}
use Rattle.ice_net.specs.Meaning.{number_of, table_bit, majority}
use Rattle.ice_decode.specs.declared.point.Point.{Point}
use Rattle.ice_decode.specs.declared.point.Point.TheVariants.{Wire, Carry}
use Rattle.ice_decode.specs.declared.role.Role.TheVariants.{Plain, Output, PadInput, RamOutput, Global, CarryIn}
use Rattle.ice_decode.specs.declared.driver.Driver.TheVariants.{Nothing}
use Rattle.ice_decode.specs.Cells.{has_flop, looked_up}
use Rattle.ice_decode.specs.Meaning.{global_gives}
use Rattle.ice_decode.specs.Pads.{kept_at, level_of, pad_gives, pin_type, has_input_register, input_kept}
use Rattle.ice_decode.specs.Reads.{wire_point, at_pin, at_pin_of, global_feed, carry_into, cell_inputs}
use Rattle.ice_decode.specs.Drivers.{role_of}
use Rattle.ice_lut.specs.Tables.{level_at, levels_from, rewired}
use Rattle.ice_lut.proofs.TableLaws.{rewired_gives}
use Rattle.ice_cells.specs.declared.cell.Control.{Control}
use Rattle.ice_cells.specs.declared.cell.LogicCell.{LogicCell}
use Rattle.ice_cells.specs.declared.design.Design.{Design}
use Rattle.ice_cells.specs.declared.design.DesignPad.{DesignPad}
use Rattle.ice_cells.specs.Formed.{IsPad}
use Rattle.ice_cells.specs.declared.root.Root.{Root}
use Rattle.ice_cells.specs.declared.root.Root.TheVariants.{PadIn, CellOut, GlobalOut, CarryOut}
use Rattle.ice_cells.specs.Nodes as node
use Rattle.ice_cells.specs.Nodes.{Node, Net, Level, net}
use Rattle.ice_cells.specs.Meaning as design
use Rattle.ice_cells.specs.Meaning.{input, last_input, node_reads, node_makes, node_level, output_reads, output_makes, given}
use Rattle.ice_cells.proofs.NodeLevels.{level_meets, level_rank, level_falls}
use Rattle.ice_emit_nets.specs.Ends.{wire_no, is_free}
use Rattle.ice_pads.specs.Globals.{has_name}
use Rattle.ice_pads.specs.Constraints.{first_passing}
use Rattle.ice_place_defs.specs.Plan.{is_direct}
use Rattle.ice_emit_defs.specs.Arrivals.{arrival, input_from}
use Rattle.ice_emit_defs.specs.Led.{IsLed, IsFixedLed, IsFreeLed}
use Rattle.ice_emit_defs.specs.Links.{carry_source}
use Rattle.ice_emit_defs.specs.Realised.{port_levels}
use Rattle.ice_emit_defs.specs.Slots.{StandsIn}
use Rattle.ice_emit_meaning_laws.proofs.Premises.{Premises}
use Rattle.ice_emit_meaning_laws.proofs.DirectGlobals.{direct_takes, fed_takes_not}
use Rattle.ice_emit_meaning_laws.proofs.CarriesIn.{IsInRun, run_before, in_run, comes_in}
use Rattle.ice_emit_meaning_laws.proofs.PadTypes.{pad_there}
use Rattle.ice_emit_meaning_laws.proofs.Pins.{each_four, input_plain, output_is, carry_is, first_is, pad_is, fabout_plain, global_is}
use Rattle.ice_emit_meaning_laws.proofs.RamWires.{read_out_is}
use Rattle.ice_emit_meaning_laws.proofs.Read.{IsReadable, cell_reads, feed_reads, item_beside}
use Rattle.ice_emit_meaning_laws.proofs.Slots.{below, logic_on, logic_there}
use Rattle.ice_emit_meaning_laws.proofs.Starts.{Starts, AtCell, AtCarry, AtPad, AtGlobal, AtFirst, Below, FromSlot, FromRun, FromTile, root_starts, below_is}
use Rattle.ice_emit_meaning_laws.proofs.WireLevels.{HasLevel, HaveLevels, Reads, put, wire_made, carry_made, carried, plain_low, row_level, led_level}

-- the number that is found passes
passes_found : (test : ℕ → Bool) (n left w : ℕ) → first_passing test n left ≡ Some w → test w ≡ true
unfolding first_passing
passes_found test n zero w e = absurd (none-some w e)
passes_found test n (suc left) w e = by (test n) refl e (passes_found test (n + 1) left w)
  where
    by : (b : Bool) → test n ≡ b → cond b (Some n) (first_passing test (n + 1) left) ≡ Some w → (first_passing test (n + 1) left ≡ Some w → test w ≡ true) → test w ≡ true
    by true is f later = ap test (sym (same_Some n w f)) ∙ is
    by false is f later = later f

free_parts : (cell : LogicCell) → is_free cell ≡ true → (cell.carry ≡ false) × (cell.carry_to_in3 ≡ false)
free_parts cell e = by cell.carry cell.carry_to_in3 refl refl e
  where
    by : (a b : Bool) → cell.carry ≡ a → cell.carry_to_in3 ≡ b → (not a && not b) ≡ true → (cell.carry ≡ false) × (cell.carry_to_in3 ≡ false)
    by true b ea eb f = cc f
    by false true ea eb f = cc f
    by false false ea eb f = (ea, eb)

not_free : (cell : LogicCell) → cell.carry ≡ true → is_free cell ≡ false
not_free cell e = ap (λ b. not b && not cell.carry_to_in3) e

module _ (g : Premises) (bonded : List Pad) (levels kept kept_cells : List Bool)
    (alike : (t : TileAt) (i c : ℕ) (cell : LogicCell) → StandsIn g.plan t i c cell → kept_at g.parts kept t i ≡ slice_index_or kept_cells c false) where
  abbrev d : Design
  d = g.plan.design

  -- the levels of nodes
  abbrev pub v : Node → Bool
  v n = node_level g.plan.design (port_levels bonded g.plan.ports levels) kept_cells n

  abbrev read : Option Node → Bool
  read o = reading false v o

  abbrev rank : Node → ℕ
  rank n = level_rank d g.placed.values (port_levels bonded g.plan.ports levels) kept_cells n

  meets : (n : Node) → v n ≡ node_makes d (port_levels bonded g.plan.ports levels) kept_cells n (map read (node_reads d n))
  meets n = level_meets d g.placed.values (port_levels bonded g.plan.ports levels) kept_cells n

  abbrev HasL : Point → Bool → Type 0
  HasL p x = HasLevel g.parts g.bits g.extras bonded levels kept p x

  abbrev HaveL : List (Option Point) → List Bool → Type 0
  HaveL ps xs = HaveLevels g.parts g.bits g.extras bonded levels kept ps xs

  abbrev ReadsL : Option Point → Bool → Type 0
  ReadsL p x = Reads g.parts g.bits g.extras bonded levels kept p x

  -- the node has its level where it starts
  abbrev Arrived : Node → Type 0
  Arrived n = (p : Point) → Starts g p n → HasL p (v n)

  -- so has what is read
  abbrev HasArrived : Option Node → Type 0
  HasArrived o = (n : Node) → o ≡ Some n → Arrived n

  -- ---- pins
  -- the wire of a pin reads what the root has that it is led to from
  pub root_reads : (pin : Option ℕ) (r : Root) → IsLed g.parts g.plan g.wanted pin (Some r) → IsReadable d r → Arrived (Net r) → ReadsL (option_map wire_point pin) (v (Net r))
  root_reads pin r led readable lower =
      subst (λ q. ReadsL (option_map wire_point q) (v (Net r))) (sym led.1)
      (led_level g.parts g.bits g.extras bonded levels kept g.wanted g.wired g.are_set.passing (wire_no led.0) (wire_no led.2.0) (v (Net r)) led.2.2
      (lower (wire_point led.2.0) (root_starts g r led.2.0 led.2.1 readable)))

  pub pin_reads : (pin : Option ℕ) (o : Option Root) → IsLed g.parts g.plan g.wanted pin o → ((w : ℕ) → pin ≡ Some w → role_of g.parts w ≡ Plain) → ((r : Root) → o ≡ Some r → IsReadable d r) → HasArrived (net o)
      → ReadsL (option_map wire_point pin) (read (net o))
  pin_reads None None led plain readable lower = refl
  pin_reads (Some w) None led plain readable lower = plain_low g.parts g.bits g.extras bonded levels kept w (g.wired.bare w (led w refl)) (plain w refl)
  pin_reads pin (Some r) led plain readable lower = root_reads pin r led (readable r refl) (lower (Net r) refl)

  -- ---- carries
  -- what comes into the carry of a slot
  carry_reads : (t : TileAt) (i : ℕ) (n : Node) → Below g t i n → Arrived n → ReadsL (carry_into g.parts t i) (v n)
  carry_reads t i n (FromSlot j x cell s on) lower = lower (Carry t j) (AtCarry t j x cell s on)
  carry_reads t i n (FromRun w r cluster run on is at named bare) lower =
      subst (λ q. ReadsL (option_map wire_point q) (v (Level run.set))) (sym named) (lower (wire_point w) (AtFirst (wire_no w) t r cluster run on is at named bare))
  carry_reads t i n (FromTile low x cell s stands on has out first) lower =
      let is = carry_is g.parts g.lawful low (logic_there g low 7 x cell stands) s.source.0 7 (omega arith) out in
      let bare = g.wired.bare s.source.0 (g.led.carries low 7 s.source.0 (logic_there g low 7 x cell stands) (omega arith) out) in
      subst (λ q. ReadsL (option_map wire_point q) (v (Net (CarryOut x)))) (sym first)
      (row_level g.parts g.bits g.extras bonded levels kept g.wanted g.wired g.are_set.passing s (v (Net (CarryOut x))) has
      (carried g.parts g.bits g.extras bonded levels kept s.source.0 low 7 (v (Net (CarryOut x))) bare is (lower (Carry low 7) (AtCarry low 7 x cell stands on))))

  -- the wire of what comes into a carry has its level
  pub source_level : (t : TileAt) (i w : ℕ) (n : Node) → Below g t i n → carry_source g.parts t i ≡ Some w → Arrived n → HasL (wire_point w) (v n)
  source_level t i w n (FromSlot j x cell s on) named lower =
      let lt = below g t j x cell s in
      carried g.parts g.bits g.extras bonded levels kept w t j (v (Net (CarryOut x))) (g.wired.bare w (g.led.carries t j w (logic_there g t j x cell s) lt named)) (carry_is g.parts g.lawful t (logic_there g t j x cell s) w j lt named)
      (lower (Carry t j) (AtCarry t j x cell s on))
  source_level t i w n (FromRun u r cluster run on is at known bare) named lower =
      subst (λ q. ReadsL (option_map wire_point q) (v (Level run.set))) named (carry_reads t 0 (Level run.set) (FromRun u r cluster run on is at known bare) lower)
  source_level t i w n (FromTile low x cell s stands on has out first) named lower =
      subst (λ q. ReadsL (option_map wire_point q) (v (Net (CarryOut x)))) named (carry_reads t 0 (Net (CarryOut x)) (FromTile low x cell s stands on has out first) lower)

  -- what comes into the carry of a cell of a run
  module _ (t : TileAt) (i c : ℕ) (cell : LogicCell) (s : StandsIn g.plan t i c cell) where
    from_run : IsInRun d c → (n : Node) × (node.carry_into d c ≡ Some n) × Below g t i n
    from_run is = (run_before is.run is.place, comes_in d g.placed.formed.once g.placed.formed.no_carries c is, below_is g t i c cell s is)

    abbrev pin : ℕ → Option ℕ
    pin k = wire_named g.parts t (input_name i k)

    abbrev root_at : ℕ → Option Root
    root_at k = slice_index_or cell.ins k None

    plain_pin : (k w : ℕ) → k < 4 → pin k ≡ Some w → role_of g.parts w ≡ Plain
    plain_pin k w lt named = input_plain g.parts g.lawful t (logic_there g t i c cell s) w i k (below g t i c cell s) lt named

    readable_at : (k : ℕ) → k < 4 → (r : Root) → root_at k ≡ Some r → IsReadable d r
    readable_at =
        each_four (λ k. (r : Root) → root_at k ≡ Some r → IsReadable d r)
        (cell_reads d c cell 0 (root_at 0) s.cell_is refl) (cell_reads d c cell 1 (root_at 1) s.cell_is refl) (cell_reads d c cell 2 (root_at 2) s.cell_is refl) (cell_reads d c cell 3 (root_at 3) s.cell_is refl)

    abbrev InputsArrived : Type 0
    InputsArrived = (n : Node) → Has (design.cell_inputs d c cell) (Some n) → Arrived n

    -- ---- a cell that is not free
    module _ (fixed : is_free cell ≡ false) (lower : InputsArrived) where
      led : IsFixedLed g.parts g.plan g.wanted t i cell
      led = g.led.fixed t i c cell s fixed

      abbrev lower_at : (k : ℕ) (o : Option Node) → At (design.cell_inputs d c cell) k o → HasArrived o
      lower_at k o at n e = lower n (k, at ∙ ap (λ (x : Option Node). Some x) e)

      fixed_reads : (k : ℕ) → k < 4 → (k ≡ 3 → cell.carry_to_in3 ≡ false) → HasArrived (net (root_at k)) → ReadsL (at_pin g.parts t (input_name i k)) (read (net (root_at k)))
      fixed_reads k lt ends arrived = pin_reads (pin k) (root_at k) (led.inputs k lt ends) (λ w named. plain_pin k w lt named) (readable_at k lt) arrived

      last_reads : (b : Bool) → cell.carry_to_in3 ≡ b → ReadsL (at_pin g.parts t (input_name i 3)) (read (last_input d c cell))
      last_reads false is =
          let same : last_input d c cell ≡ input cell 3 = ap (λ b. cond b (node.carry_into d c) (input cell 3)) is in
          subst (λ o. ReadsL (at_pin g.parts t (input_name i 3)) (read o)) (sym same)
          (fixed_reads 3 (omega arith) (λ e. is) (subst (λ o. HasArrived o) same (lower_at 3 (last_input d c cell) refl)))
      last_reads true is =
          let same : last_input d c cell ≡ node.carry_into d c = ap (λ b. cond b (node.carry_into d c) (input cell 3)) is in
          let where_is = (g.placed.formed.chained c cell s.cell_is is).1 in
          let into = from_run (record { number = where_is.0; place = where_is.1 + 1; run = where_is.2; run_is = where_is.3; cell_is = where_is.4 }) in
          let link = led.chained is in
          let arrived : Arrived into.0 = lower_at 3 (last_input d c cell) refl into.0 (same ∙ into.1) in
          subst (λ o. ReadsL (at_pin g.parts t (input_name i 3)) (read o)) (sym (same ∙ into.1))
          (subst (λ q. ReadsL (option_map wire_point q) (v into.0)) (sym link.3)
          (row_level g.parts g.bits g.extras bonded levels kept g.wanted g.wired g.are_set.passing link.0 (v into.0) link.1 (source_level t i link.0.source.0 into.0 into.2 link.2 arrived)))

      fixed_have : HaveL (cell_inputs g.parts t i) (map read (design.cell_inputs d c cell))
      fixed_have =
          put g.parts g.bits g.extras bonded levels kept (at_pin g.parts t (input_name i 0)) (read (input cell 0)) _ _ (fixed_reads 0 (omega arith) (λ e. absurd (omega (arith, e))) (lower_at 0 (input cell 0) refl))
          (put g.parts g.bits g.extras bonded levels kept (at_pin g.parts t (input_name i 1)) (read (input cell 1)) _ _ (fixed_reads 1 (omega arith) (λ e. absurd (omega (arith, e))) (lower_at 1 (input cell 1) refl))
          (put g.parts g.bits g.extras bonded levels kept (at_pin g.parts t (input_name i 2)) (read (input cell 2)) _ _ (fixed_reads 2 (omega arith) (λ e. absurd (omega (arith, e))) (lower_at 2 (input cell 2) refl))
          (put g.parts g.bits g.extras bonded levels kept (at_pin g.parts t (input_name i 3)) (read (last_input d c cell)) [] [] (last_reads cell.carry_to_in3 refl) tt)))

      fixed_given : looked_up g.parts g.bits t i (map read (design.cell_inputs d c cell)) ≡ given d v c cell
      fixed_given =
          (g.are_set.cells t i c cell s).table (map read (design.cell_inputs d c cell)) refl
          ∙ ap (λ b. table_bit (cond b (rewired cell.table (map (input_from g.parts g.held t i) cell.ins)) cell.table) (number_of (map read (design.cell_inputs d c cell)))) fixed

    -- what the table of a cell gives
    pub record IsGiven : Type 0 where
      pub xs : List Bool
      pub have : HaveL (cell_inputs g.parts t i) xs
      pub gives : looked_up g.parts g.bits t i xs ≡ given d v c cell

    -- ---- a free cell
    abbrev Comes : ℕ → Root → ℕ → Type 0
    Comes k r j = At cell.ins k (Some r) × (arrival g.parts (g.held r) t i ≡ Some j)

    -- what a free cell reads at an input: the level of each root that arrives there
    record IsInput (j : ℕ) : Type 0 where
      pub level : Bool
      pub reads : ReadsL (at_pin g.parts t (input_name i j)) level
      pub comes : (k : ℕ) (r : Root) → Comes k r j → level ≡ v (Net r)

    comes_or_not : (j n : ℕ) (ins : List (Option Root)) → ((k : ℕ) (r : Root) → At ins k (Some r) → At cell.ins (n + k) (Some r))
        → ((k : ℕ) × (r : Root) × Comes k r j) ⊎ ((k : ℕ) (r : Root) → At ins k (Some r) → arrival g.parts (g.held r) t i ≡ Some j → ⊥)
    comes_or_not j n [] there = inr (λ k r at e. none-some (Some r) at)
    comes_or_not j n (o ∷ ins) there = by o refl (comes_or_not j (n + 1) ins (λ k r at. let e : n + suc k ≡ n + 1 + k = omega arith in subst (λ m. At cell.ins m (Some r)) e (there (suc k) r at)))
      where
        Some_comes : Type 0
        Some_comes = (k : ℕ) × (r : Root) × Comes k r j

        None_comes : List (Option Root) → Type 0
        None_comes xs = (k : ℕ) (r : Root) → At xs k (Some r) → arrival g.parts (g.held r) t i ≡ Some j → ⊥

        none_more : ((r : Root) → o ≡ Some r → arrival g.parts (g.held r) t i ≡ Some j → ⊥) → None_comes ins → None_comes (o ∷ ins)
        none_more here rest zero r at e = here r (same_Some o (Some r) at) e
        none_more here rest (suc k) r at e = rest k r at e

        later : ((r : Root) → o ≡ Some r → arrival g.parts (g.held r) t i ≡ Some j → ⊥) → Some_comes ⊎ None_comes ins → Some_comes ⊎ None_comes (o ∷ ins)
        later here (inl some) = inl some
        later here (inr rest) = inr (none_more here rest)

        is_that : (a : Option ℕ) → (a ≡ Some j) ⊎ (a ≡ Some j → ⊥)
        is_that None = inr (λ e. none-some j e)
        is_that (Some m) = number (nat_eq m j) refl
          where
            number : (b : Bool) → nat_eq m j ≡ b → (Some m ≡ Some j) ⊎ (Some m ≡ Some j → ⊥)
            number true e = inl (ap (λ (x : ℕ). Some x) (nat_same m j e))
            number false e = inr (λ f. true≢false (sym (nat_self j) ∙ ap (λ x. nat_eq x j) (sym (same_Some m j f)) ∙ e))

        by : (p : Option Root) → o ≡ p → Some_comes ⊎ None_comes ins → Some_comes ⊎ None_comes (o ∷ ins)
        by None is rest = later (λ r e f. none-some r (sym is ∙ e)) rest
        by (Some r) is rest = here (is_that (arrival g.parts (g.held r) t i))
          where
            first : At cell.ins n (Some r)
            first = let e : n + 0 ≡ n = omega arith in subst (λ m. At cell.ins m (Some r)) e (there 0 r (ap (λ (x : Option Root). Some x) is))

            here : (arrival g.parts (g.held r) t i ≡ Some j) ⊎ (arrival g.parts (g.held r) t i ≡ Some j → ⊥) → Some_comes ⊎ None_comes (o ∷ ins)
            here (inl e) = inl (n, r, (first, e))
            here (inr ne) = later (λ q e f. ne (subst (λ (x : Root). arrival g.parts (g.held x) t i ≡ Some j) (sym (same_Some r q (sym is ∙ e))) f)) rest

    module _ (free : is_free cell ≡ true) (lower : InputsArrived) where
      led_free : IsFreeLed g.parts g.plan g.wanted g.held t i cell
      led_free = g.led.free t i c cell s free

      unchained : last_input d c cell ≡ input cell 3
      unchained = ap (λ b. cond b (node.carry_into d c) (input cell 3)) (free_parts cell free).1

      -- the inputs are those four
      four : cell.ins ≡ root_at 0 ∷ root_at 1 ∷ root_at 2 ∷ root_at 3 ∷ []
      four = by cell.ins (g.placed.formed.four c cell s.cell_is)
        where
          by : (ins : List (Option Root)) → length ins ≡ 4 → ins ≡ slice_index_or ins 0 None ∷ slice_index_or ins 1 None ∷ slice_index_or ins 2 None ∷ slice_index_or ins 3 None ∷ []
          by [] e = absurd (omega (arith, e))
          by (a ∷ []) e = absurd (omega (arith, e))
          by (a ∷ b ∷ []) e = absurd (omega (arith, e))
          by (a ∷ b ∷ x ∷ []) e = absurd (omega (arith, e))
          by (a ∷ b ∷ x ∷ y ∷ []) e = refl
          by (a ∷ b ∷ x ∷ y ∷ z ∷ ins) e = absurd (omega (arith, e))

      arrived_at : (k : ℕ) (r : Root) → At cell.ins k (Some r) → Arrived (Net r)
      arrived_at k r at = among k (subst (λ (ins : List (Option Root)). At ins k (Some r)) four at)
        where
          among : (k : ℕ) → At (root_at 0 ∷ root_at 1 ∷ root_at 2 ∷ root_at 3 ∷ []) k (Some r) → Arrived (Net r)
          among zero e = lower (Net r) (0, ap (λ (o : Option (Option Root)). option_map net o) e)
          among (suc zero) e = lower (Net r) (1, ap (λ (o : Option (Option Root)). option_map net o) e)
          among (suc (suc zero)) e = lower (Net r) (2, ap (λ (o : Option (Option Root)). option_map net o) e)
          among (suc (suc (suc zero))) e = lower (Net r) (3, ap (λ (o : Option Node). Some o) unchained ∙ ap (λ (o : Option (Option Root)). option_map net o) e)
          among (suc (suc (suc (suc k)))) e = absurd (none-some (Some r) e)

      readable_of : (k : ℕ) (r : Root) → At cell.ins k (Some r) → IsReadable d r
      readable_of k r at = among k (subst (λ (ins : List (Option Root)). At ins k (Some r)) four at)
        where
          among : (k : ℕ) → At (root_at 0 ∷ root_at 1 ∷ root_at 2 ∷ root_at 3 ∷ []) k (Some r) → IsReadable d r
          among zero e = readable_at 0 (omega arith) r (same_Some (root_at 0) (Some r) e)
          among (suc zero) e = readable_at 1 (omega arith) r (same_Some (root_at 1) (Some r) e)
          among (suc (suc zero)) e = readable_at 2 (omega arith) r (same_Some (root_at 2) (Some r) e)
          among (suc (suc (suc zero))) e = readable_at 3 (omega arith) r (same_Some (root_at 3) (Some r) e)
          among (suc (suc (suc (suc k)))) e = absurd (none-some (Some r) e)

      free_input : (j : ℕ) → j < 4 → IsInput j
      free_input j lt = by (comes_or_not j 0 cell.ins (λ k r at. let e : k ≡ 0 + k = omega arith in subst (λ m. At cell.ins m (Some r)) e at))
        where
          by : ((k : ℕ) × (r : Root) × Comes k r j) ⊎ ((k : ℕ) (r : Root) → At cell.ins k (Some r) → arrival g.parts (g.held r) t i ≡ Some j → ⊥) → IsInput j
          by (inl one) =
              let k = one.0 in
              let r : Root = one.1 in
              let goes = led_free.arrive k r one.2.0 in
              let same : goes.0 ≡ j = same_Some goes.0 j (sym goes.2 ∙ one.2.1) in
              record {
                level = v (Net r);
                reads = pin_reads (pin j) (Some r) (subst (λ m. IsLed g.parts g.plan g.wanted (pin m) (Some r)) same goes.3) (λ w named. plain_pin j w lt named)
                    (λ q e. subst (λ (x : Root). IsReadable d x) (same_Some r q e) (readable_of k r one.2.0))
                    (λ n e. subst (λ (m : Node). Arrived m) (same_Some (Net r) n e) (arrived_at k r one.2.0));
                comes = λ l q both. ap (λ (x : Root). v (Net x)) (led_free.apart k l j r q one.2.0 both.0 one.2.1 both.1);
              }
          by (inr never) = record {
            level = false;
            reads = pin_reads (pin j) None (led_free.others j lt never) (λ w named. plain_pin j w lt named) (λ q e. absurd (none-some q e)) (λ n e. absurd (none-some n e));
            comes = λ k r both. absurd (never k r both.0 both.1);
          }

      module _ (a : IsInput 0) (b : IsInput 1) (x : IsInput 2) (y : IsInput 3) where
        abbrev free_levels : List Bool
        free_levels = a.level ∷ b.level ∷ x.level ∷ y.level ∷ []

        level_there : (j : ℕ) → j < 4 → (k : ℕ) (r : Root) → Comes k r j → slice_index_or free_levels j false ≡ v (Net r)
        level_there = each_four (λ j. (k : ℕ) (r : Root) → Comes k r j → slice_index_or free_levels j false ≡ v (Net r)) a.comes b.comes x.comes y.comes

        from_level : (k : ℕ) (o : Option Root) → At cell.ins k o → level_at free_levels (input_from g.parts g.held t i o) ≡ read (net o)
        from_level k None at = refl
        from_level k (Some r) at = let goes = led_free.arrive k r at in ap (level_at free_levels) goes.2 ∙ level_there goes.0 goes.1 k r (at, goes.2)

        all_from : (n : ℕ) (ins : List (Option Root)) → ((k : ℕ) (o : Option Root) → At ins k o → At cell.ins (n + k) o) → levels_from (map (input_from g.parts g.held t i) ins) free_levels ≡ map (λ o. read (net o)) ins
        all_from n [] there = refl
        all_from n (o ∷ ins) there =
            let one = from_level (n + 0) o (there 0 o refl) in
            let rest = all_from (n + 1) ins (λ k p at. let e : n + suc k ≡ n + 1 + k = omega arith in subst (λ m. At cell.ins m p) e (there (suc k) p at)) in
            λ j. one j ∷ rest j

        free_have : HaveL (cell_inputs g.parts t i) free_levels
        free_have =
            put g.parts g.bits g.extras bonded levels kept (at_pin g.parts t (input_name i 0)) a.level _ _ a.reads
            (put g.parts g.bits g.extras bonded levels kept (at_pin g.parts t (input_name i 1)) b.level _ _ b.reads
            (put g.parts g.bits g.extras bonded levels kept (at_pin g.parts t (input_name i 2)) x.level _ _ x.reads
            (put g.parts g.bits g.extras bonded levels kept (at_pin g.parts t (input_name i 3)) y.level [] [] y.reads tt)))

        free_given : looked_up g.parts g.bits t i free_levels ≡ given d v c cell
        free_given =
            let from = map (input_from g.parts g.held t i) cell.ins in
            let ins : map (λ o. read (net o)) cell.ins ≡ map read (input cell 0 ∷ input cell 1 ∷ input cell 2 ∷ input cell 3 ∷ []) = ap (map (λ (o : Option Root). read (net o))) four in
            let last : map read (input cell 0 ∷ input cell 1 ∷ input cell 2 ∷ input cell 3 ∷ []) ≡ map read (design.cell_inputs d c cell) = ap (λ o. map read (input cell 0 ∷ input cell 1 ∷ input cell 2 ∷ o ∷ [])) (sym unchained) in
            (g.are_set.cells t i c cell s).table free_levels refl
            ∙ ap (λ b. table_bit (cond b (rewired cell.table from) cell.table) (number_of free_levels)) free
            ∙ rewired_gives cell.table from free_levels refl
            ∙ ap (λ xs. table_bit cell.table (number_of xs)) (all_from 0 cell.ins (λ k o at. let e : k ≡ 0 + k = omega arith in subst (λ m. At cell.ins m o) e at) ∙ ins ∙ last)

        free_made : IsGiven
        free_made = record { xs = free_levels; have = free_have; gives = free_given }

      free_is : IsGiven
      free_is = free_made (free_input 0 (omega arith)) (free_input 1 (omega arith)) (free_input 2 (omega arith)) (free_input 3 (omega arith))

    pub table_given : InputsArrived → IsGiven
    table_given lower = by (is_free cell) refl
      where
        by : (b : Bool) → is_free cell ≡ b → IsGiven
        by true e = free_is e lower
        by false e = record { xs = map read (design.cell_inputs d c cell); have = fixed_have e lower; gives = fixed_given e lower }

    -- ---- what the carry of a cell is
    carry_given : cell.carry ≡ true → ((n : Node) → Has (input cell 1 ∷ input cell 2 ∷ node.carry_into d c ∷ []) (Some n) → Arrived n)
        → HasL (Carry t i) (majority (read (input cell 1)) (read (input cell 2)) (read (node.carry_into d c)))
    carry_given on lower =
        let fixed = not_free cell on in
        let into = from_run (in_run d c (g.placed.formed.carried c cell s.cell_is on)) in
        let led_here = g.led.fixed t i c cell s fixed in
        let one : ReadsL (at_pin g.parts t (input_name i 1)) (read (input cell 1)) =
        pin_reads (pin 1) (root_at 1) (led_here.inputs 1 (omega arith) (λ e. absurd (omega (arith, e)))) (λ w named. plain_pin 1 w (omega arith) named) (readable_at 1 (omega arith)) (λ n e. lower n (0, ap (λ (o : Option Node). Some o) e)) in
        let two : ReadsL (at_pin g.parts t (input_name i 2)) (read (input cell 2)) =
        pin_reads (pin 2) (root_at 2) (led_here.inputs 2 (omega arith) (λ e. absurd (omega (arith, e)))) (λ w named. plain_pin 2 w (omega arith) named) (readable_at 2 (omega arith)) (λ n e. lower n (1, ap (λ (o : Option Node). Some o) e)) in
        let three : ReadsL (carry_into g.parts t i) (read (node.carry_into d c)) =
        subst (λ o. ReadsL (carry_into g.parts t i) (read o)) (sym into.1) (carry_reads t i into.0 into.2 (lower into.0 (2, ap (λ (o : Option Node). Some o) into.1))) in
        carry_made g.parts g.bits g.extras bonded levels kept t i (read (input cell 1)) (read (input cell 2)) (read (node.carry_into d c)) _ ((g.are_set.cells t i c cell s).carry ∙ on)
        (put g.parts g.bits g.extras bonded levels kept (at_pin g.parts t (input_name i 1)) (read (input cell 1)) _ _ one
        (put g.parts g.bits g.extras bonded levels kept (at_pin g.parts t (input_name i 2)) (read (input cell 2)) _ _ two
        (put g.parts g.bits g.extras bonded levels kept (carry_into g.parts t i) (read (node.carry_into d c)) [] [] three tt))) refl

  -- ---- pads
  -- what a port's pad gives goes through no register
  unregistered : (k : ℕ) (pad : Pad) (port : DesignPad) → At g.plan.ports k pad → At d.pads k port → kind_at g.parts pad.tile ≡ Some Io → pad.pio < 2 → has_input_register g.parts g.bits pad ≡ false
  unregistered k pad port here there io lt =
      let typed : pin_type g.parts g.bits pad ≡ port.pin_type = g.are_set.types k pad port here there (pad_there g pad io lt) in
      ap (λ n. n % 4 == 0) typed ∙ by (g.placed.formed.pads k port there)
    where
      by : IsPad port → (port.pin_type % 4 == 0) ≡ false
      by (inl one) = ap (λ n. n % 4 == 0) one.0
      by (inr (inl two)) = ap (λ n. n % 4 == 0) two.0
      by (inr (inr three)) = ap (λ n. n % 4 == 0) three

  -- ---- all nodes
  arrive_next : (n : Node) → ((m : Node) → Has (node_reads d n) (Some m) → Arrived m) → Arrived n
  arrive_next n lower p (AtFirst w t r cluster run on is at named bare) =
      let entry = (g.are_set.tiles t cluster on).entry r run is at in
      wire_made g.parts g.bits g.extras bonded levels kept w.0 Nothing (CarryIn t) [] (v (Level run.set)) bare (first_is g.parts g.lawful t (logic_on g t cluster on) w.0 named) tt (entry ∙ sym (meets (Level run.set)))
  arrive_next n lower p (AtPad w k pad port here there reads named bare) = by (nat_lt pad.pio 2) refl ((g.placed.pads.wires k port pad there here).input reads)
    where
      level : v (Net (PadIn k)) ≡ level_of bonded levels pad
      level = meets (Net (PadIn k)) ∙ get_or_from_slice_get (port_levels bonded g.plan.ports levels) k (level_of bonded levels pad) false (At_map (level_of bonded levels) g.plan.ports k pad here)

      pin : ℕ
      pin = pad.pio - 2

      -- the wire that a pad gives its level to, by whether it is one of an IO tile
      name : Bool → List ℕ
      name b = cond b (pad_input_name pad.pio) (ram_name pin)

      -- the input of a pad of an IO tile
      low : pad.pio < 2 → has_io_wire g.parts pad.tile (pad_input_name pad.pio) ≡ true → wire_named g.parts pad.tile (pad_input_name pad.pio) ≡ Some w.0 → HasL (Wire w) (v (Net (PadIn k)))
      low lt wired at =
          let io = io_wire g.parts pad.tile (pad_input_name pad.pio) wired in
          let is = pad_is g.parts g.lawful pad.tile io.0 w.0 pad.pio lt at in
          wire_made g.parts g.bits g.extras bonded levels kept w.0 Nothing (PadInput pad) [] (v (Net (PadIn k))) bare is tt
          (ap (λ b. cond b (input_kept g.parts kept pad) (pad_gives g.parts g.bits bonded levels pad)) (unregistered k pad port here there io.0 lt)
          ∙ ap (λ b. b && level_of bonded levels pad) (g.are_set.enabled k pad port here there reads) ∙ sym level)

      -- what a block RAM reads out
      of_ram : 2 ≤ pad.pio → is_read_out pin ≡ true → has_ram_pin g.parts pad.tile pin ≡ true → wire_named g.parts pad.tile (ram_name pin) ≡ Some w.0 → HasL (Wire w) (v (Net (PadIn k)))
      of_ram le out wired at =
          let kind = ram_wire g.parts pad.tile pin wired in
          let same : pin_at pad.tile pin ≡ pad = let back : pad.pio - 2 + 2 ≡ pad.pio = omega (arith, le) in ap (λ p. record { tile = pad.tile; pio = p }) back in
          let is = read_out_is g.parts g.lawful pad.tile kind.0 kind.1 w.0 pin (let lt = ltb-true pin 16 out in omega (arith, lt)) kind.2 out at ∙ ap RamOutput same in
          wire_made g.parts g.bits g.extras bonded levels kept w.0 Nothing (RamOutput pad) [] (v (Net (PadIn k))) bare is tt (sym level)

      by : (b : Bool) → nat_lt pad.pio 2 ≡ b → gives g.parts pad ≡ true → HasL (Wire w) (v (Net (PadIn k)))
      by true e given =
          low (ltb-true pad.pio 2 e) (sym (ap (λ b. cond b (has_io_wire g.parts pad.tile (pad_input_name pad.pio)) (is_read_out pin && has_ram_pin g.parts pad.tile pin)) e) ∙ given)
          (sym (ap (λ b. wire_named g.parts pad.tile (name b)) e) ∙ named)
      by false e given =
          let both = and_parts (is_read_out pin) (has_ram_pin g.parts pad.tile pin)
          (sym (ap (λ b. cond b (has_io_wire g.parts pad.tile (pad_input_name pad.pio)) (is_read_out pin && has_ram_pin g.parts pad.tile pin)) e) ∙ given) in
          of_ram (ltb-false pad.pio 2 e) both.0 both.1 (sym (ap (λ b. wire_named g.parts pad.tile (name b)) e) ∙ named)
  arrive_next n lower p (AtGlobal w b m here named bare) = by (is_direct g.plan b) refl
    where
      is : role_of g.parts w.0 ≡ Global m
      is = global_is g.parts g.lawful m w.0 (g.placed.pads.named b m here).below (passes_found (has_name g.parts (global_name m)) 0 g.parts.wires w.0 named)

      -- the global of a direct buffer has the level of its port's pad
      direct : is_direct g.plan b ≡ true → HasL (Wire w) (v (Net (GlobalOut b)))
      direct e =
          let own = g.placed.pads.direct b m here e in
          let port = item_beside g.plan.ports d.pads own.port own.pad g.placed.pads.ports own.there in
          let reads : port.0.reads ≡ true = g.placed.formed.reads own.port port.0 port.1 ∙ feed_reads d b (Some (PadIn own.port)) own.root (PadIn own.port) refl in
          let taken = direct_takes g b m here e in
          let level : v (Net (PadIn own.port)) ≡ level_of bonded levels own.pad =
          meets (Net (PadIn own.port))
          ∙ get_or_from_slice_get (port_levels bonded g.plan.ports levels) own.port (level_of bonded levels own.pad) false (At_map (level_of bonded levels) g.plan.ports own.port own.pad own.there) in
          let value : v (Net (GlobalOut b)) ≡ level_of bonded levels own.pad =
          meets (Net (GlobalOut b)) ∙ ap (λ (o : Option (Option Root)). slice_index_or (map read (option_map_or (λ r. net r ∷ []) o [])) 0 false) own.root ∙ level in
          wire_made g.parts g.bits g.extras bonded levels kept w.0 Nothing (Global m) [] (v (Net (GlobalOut b))) bare is
          (subst (λ (t : Bool). HaveL (cond t [] (global_feed g.parts m ∷ [])) []) (sym taken) tt)
          (ap (λ t. cond t (global_gives g.parts g.bits bonded levels (gbufpin_of g.parts m)) false) taken
          ∙ ap (global_gives g.parts g.bits bonded levels) own.fed_by
          ∙ ap (λ t. t && level_of bonded levels own.pad) (g.are_set.enabled own.port own.pad port.0 own.there port.1 reads)
          ∙ sym value)

      fed : is_direct g.plan b ≡ false → HasL (Wire w) (v (Net (GlobalOut b)))
      fed e =
          let feeds = g.placed.pads.fed b m here e in
          let root = item_beside g.plan.globals d.globals b m g.placed.pads.globals here in
          let reads : node_reads d (Net (GlobalOut b)) ≡ net root.0 ∷ [] = ap (λ o. option_map_or (λ r. net r ∷ []) o []) root.1 in
          let io = io_wire g.parts feeds.tile fabout_name feeds.fabout in
          let feed : global_feed g.parts m ≡ at_pin g.parts feeds.tile fabout_name = ap (λ o. at_pin_of g.parts o fabout_name) feeds.feeds in
          let not_taken = fed_takes_not g b m here e in
          let one : ReadsL (at_pin g.parts feeds.tile fabout_name) (read (net root.0)) =
          pin_reads (wire_named g.parts feeds.tile fabout_name) root.0 (g.led.feeds b m root.0 feeds.tile here root.1 e feeds.feeds) (λ u named. fabout_plain g.parts g.lawful feeds.tile io.0 u named) (feed_reads d b root.0 root.1)
          (λ q same. lower q (subst (λ (ns : List (Option Node)). Has ns (Some q)) (sym reads) (0, ap (λ (o : Option Node). Some o) same))) in
          wire_made g.parts g.bits g.extras bonded levels kept w.0 Nothing (Global m) (read (net root.0) ∷ []) (v (Net (GlobalOut b))) bare is
          (subst (λ (t : Bool). HaveL (cond t [] (global_feed g.parts m ∷ [])) (read (net root.0) ∷ [])) (sym not_taken)
          (subst (λ (q : Option Point). HaveL (q ∷ []) (read (net root.0) ∷ [])) (sym feed) (put g.parts g.bits g.extras bonded levels kept (at_pin g.parts feeds.tile fabout_name) (read (net root.0)) [] [] one tt)))
          (ap (λ t. cond t (global_gives g.parts g.bits bonded levels (gbufpin_of g.parts m)) (read (net root.0))) not_taken
          ∙ sym (meets (Net (GlobalOut b)) ∙ ap (λ ns. slice_index_or (map read ns) 0 false) reads))

      by : (t : Bool) → is_direct g.plan b ≡ t → HasL (Wire w) (v (Net (GlobalOut b)))
      by true e = direct e
      by false e = fed e
  arrive_next n lower p (AtCarry t i c cell s on) =
      let three = input cell 1 ∷ input cell 2 ∷ node.carry_into d c ∷ [] in
      let reads : node_reads d (Net (CarryOut c)) ≡ three = ap (λ o. option_map_or (design.carry_reads d c) o []) s.cell_is ∙ ap (λ b. cond b three []) on in
      subst (HasL (Carry t i))
      (sym (meets (Net (CarryOut c)) ∙ ap (λ ns. majority (slice_index_or (map read ns) 0 false) (slice_index_or (map read ns) 1 false) (slice_index_or (map read ns) 2 false)) reads))
      (carry_given t i c cell s on (λ m has. lower m (subst (λ (ns : List (Option Node)). Has ns (Some m)) (sym reads) has)))
  arrive_next n lower p (AtCell w t i c cell s named bare) = by cell.flop refl
    where
      made : Option (Control × Reset) → Bool
      made f = output_makes cell f (slice_index_or kept_cells c false) (map read (output_reads f (design.cell_inputs d c cell)))

      value_is : v (Net (CellOut c)) ≡ made cell.flop
      value_is =
          meets (Net (CellOut c))
          ∙ ap (λ o. option_map_or (λ (x : LogicCell). output_makes x x.flop (slice_index_or kept_cells c false) (map read (option_map_or (λ (x : LogicCell). output_reads x.flop (design.cell_inputs d c x)) o []))) o false) s.cell_is

      is : role_of g.parts w.0 ≡ Output t i
      is = output_is g.parts g.lawful t (logic_there g t i c cell s) w.0 i (below g t i c cell s) named

      flop_is : (f : Option (Control × Reset)) → cell.flop ≡ f → has_flop g.parts g.bits t i ≡ is_some f
      flop_is f e = (g.are_set.cells t i c cell s).flop ∙ ap (λ (o : Option (Control × Reset)). is_some o) e

      by : (f : Option (Control × Reset)) → cell.flop ≡ f → HasL (Wire w) (v (Net (CellOut c)))
      by (Some f) e =
          let flop = flop_is (Some f) e in
          wire_made g.parts g.bits g.extras bonded levels kept w.0 Nothing (Output t i) [] (v (Net (CellOut c))) bare is
          (subst (λ (b : Bool). HaveL (cond b [] (cell_inputs g.parts t i)) []) (sym flop) tt)
          (ap (λ b. cond b (kept_at g.parts kept t i) (looked_up g.parts g.bits t i [])) flop ∙ alike t i c cell s ∙ sym (value_is ∙ ap made e))
      by None e =
          let flop = flop_is None e in
          let ins : node_reads d (Net (CellOut c)) ≡ design.cell_inputs d c cell
          = ap (λ o. option_map_or (λ (x : LogicCell). output_reads x.flop (design.cell_inputs d c x)) o []) s.cell_is ∙ ap (λ f. output_reads f (design.cell_inputs d c cell)) e in
          let table = table_given t i c cell s (λ m has. lower m (subst (λ (ns : List (Option Node)). Has ns (Some m)) (sym ins) has)) in
          wire_made g.parts g.bits g.extras bonded levels kept w.0 Nothing (Output t i) table.xs (v (Net (CellOut c))) bare is
          (subst (λ (b : Bool). HaveL (cond b [] (cell_inputs g.parts t i)) table.xs) (sym flop) table.have)
          (ap (λ b. cond b (kept_at g.parts kept t i) (looked_up g.parts g.bits t i table.xs)) flop ∙ table.gives ∙ sym (value_is ∙ ap made e))

  arrive_below : (bound : ℕ) (n : Node) → rank n < bound → Arrived n
  arrive_below zero n lt = absurd (omega arith)
  arrive_below (suc bound) n lt =
      arrive_next n (λ m has. arrive_below bound m (let f = level_falls d g.placed.values (port_levels bonded g.plan.ports levels) kept_cells n m has in omega (arith, lt, f)))

  -- each node has its level where it starts
  pub arrives : (n : Node) (p : Point) → Starts g p n → HasL p (v n)
  arrives n = arrive_below (suc (rank n)) n (omega arith)
