-- A packed design shows, step by step, what its netlist shows.
use Rattle.std.proofs.Common.{◌≡◌, ◌⊎◌, ℕ, zero, suc, ◌<◌, Bool, true, false, cond, Option, None, Some, List, [], ◌∷◌, length, map, inl, inr, refl, sym, ap, ◌∙◌, subst, arith}
use Rattle.std.specs.Prelude.{slice_index_or, ◌==◌}
use Rattle.std.specs.List.{zip}
use Rattle.std.specs.Option.{option_map_or}
use Rattle.std.proofs.lemmas.List.{length-map}
use Rattle.std.proofs.lemmas.Option.{same_Some, get_or_from_slice_get}
use Rattle.ice_base.specs.declared.number.SignalNo.{SignalNo}
use Rattle.ice_base_values.specs.System.{reading}
use Rattle.ice_base_values.specs.Simulations.{Simulates}
use Rattle.ice_base_values.specs.Order.{At}
use Rattle.ice_base_values.proofs.Machines.{shows_always_alike}
use Rattle.ice_base_values.proofs.Members.{At_map, At_within}
use Rattle.ice_base_values.proofs.Places.{At_same}
use Rattle.ice_base_values.proofs.ListPlaces.{all_alike}
use Rattle.ice_net.specs.declared.cell.Cell.{Cell}
use Rattle.ice_net.specs.declared.kind.CellKind.{CellKind}
use Rattle.ice_net.specs.declared.kind.CellKind.TheVariants.{Flop}
use Rattle.ice_net.specs.declared.kind.Reset.{Reset}
use Rattle.ice_net.specs.declared.driver.Drive.TheVariants.{Off}
use Rattle.ice_net.specs.declared.port.Port.{Port}
use Rattle.ice_net.specs.declared.port.Way.{Way}
use Rattle.ice_net.specs.declared.port.Way.TheVariants.{Input, Output, Both}
use Rattle.ice_net.specs.Drives.{at_input, level_drive, pad_drive, kind_drive, buffer_drive, drive_by, port_drive}
use Rattle.ice_net.specs.Uses.{data_of, enable_of, pad_uses}
use Rattle.ice_net.specs.Drives as drives
use Rattle.ice_net.specs.Kinds.{is_edge, fired}
use Rattle.ice_net.specs.Formed.{IsBelow, IsPortBelow}
use Rattle.ice_net.specs.Meaning.{number_of, table_bit, signal_value, enable_level, set_level, kept_by, clock_by, kept_after, clocks_after, State}
use Rattle.ice_net.specs.Meaning as net
use Rattle.ice_net.specs.NetlistData.{NetlistData}
use Rattle.ice_cells.specs.declared.cell.LogicCell.{LogicCell}
use Rattle.ice_cells.specs.declared.design.Design.{Design}
use Rattle.ice_cells.specs.declared.design.DesignPad.{DesignPad}
use Rattle.ice_cells.specs.declared.origin.Origin.{Origin}
use Rattle.ice_cells.specs.declared.origin.Origin.TheVariants.{Fixed, Pad, Made}
use Rattle.ice_cells.specs.declared.root.Root.{Root}
use Rattle.ice_cells.specs.declared.root.Root.TheVariants.{CellOut}
use Rattle.ice_cells.specs.Meaning.{node_level, at_root, cell_inputs, given, flop_keeps, flop_clock, cell_keeps, cell_clock, state_after, pad_drives, step, start, shows}
use Rattle.ice_cells.specs.Nodes.{Node, Net, net as node_of}
use Rattle.ice_cells.specs.Origins.{input_origin, level_of}
use Rattle.ice_cells.specs.Packed.{PackPlan, plain_sink, sink, enable_sink, origin_root, sink_root, flop_by, enable_input, set_input, passing_table, bare_type}
use Rattle.ice_cells.specs.Packed.{bare_drive as packed_drive}
use Rattle.ice_cells.proofs.TableLaws.{get_or-table, passes}
use Rattle.ice_pack_laws.specs.IsPacked.{root_at, IsOpen, IsSunk, IsEnabled, IsAlone, IsBehind, HasFlop, IsPadOf, lies, through}
use Rattle.ice_pack_laws.proofs.Inputs.{at_all, input_at}
use Rattle.ice_cells.proofs.NodeLevels.{level_is}
use Rattle.ice_pack_laws.proofs.Values.{KeepsSame, IsReady, HaveD, ReadsAt, Carries, lv, sink_reads, sunk, signal_level, plain_reads, constant_value, table_there, input_claims, cell_claims, below_at, inputs_are}

-- what both states have of a clock: the same, or of a constant clock its level, which is 0 in the design
abbrev pub ClockTied : Origin → Option Bool → Option Bool → Type 0
ClockTied (Fixed b) mine other = ((mine ≡ None) ⊎ (mine ≡ Some false)) × ((other ≡ None) ⊎ (other ≡ Some b))
ClockTied (Pad k) mine other = mine ≡ other
ClockTied (Made i) mine other = mine ≡ other

-- each flip-flop keeps the same in the states of the design and of the netlist
pub record Tied (n : NetlistData) (p : PackPlan) (s t : State) : Type 0 where
  pub kept : KeepsSame n p t.kept s.kept
  pub clocks : (j : ℕ) (cell : Cell) (falling enable : Bool) (reset : Reset) → At n.cells j cell → cell.kind ≡ Flop falling enable reset → (home : ℕ) → root_at p j ≡ Some (CellOut home)
      → ClockTied (input_origin p.origins (slice_index_or cell.ins 0 None)) (slice_index_or s.clocks home None) (slice_index_or t.clocks j None)
  pub long : length t.kept ≡ length n.cells
  pub clocks_long : length t.clocks ≡ length n.cells

-- ---- edges
no_edge : (falling b : Bool) (o : Option Bool) → (o ≡ None) ⊎ (o ≡ Some b) → is_edge falling o b ≡ false
no_edge falling b o (inl e) = ap (λ x. is_edge falling x b) e
no_edge falling b o (inr e) = ap (λ x. is_edge falling x b) e ∙ same falling b
  where
    same : (falling b : Bool) → is_edge falling (Some b) b ≡ false
    same true true = refl
    same true false = refl
    same false true = refl
    same false false = refl

passes_constant : (level b : Bool) → table_bit (cond level 65535 0) (number_of (b ∷ false ∷ false ∷ false ∷ [])) ≡ level
passes_constant true true = refl
passes_constant true false = refl
passes_constant false true = refl
passes_constant false false = refl

out_same : (a b : ℕ) (o : Option Root) → o ≡ Some (CellOut a) → o ≡ Some (CellOut b) → a ≡ b
out_same a b o e f = inside (same_Some (CellOut a) (CellOut b) (sym e ∙ f))
  where
    inside : CellOut a ≡ CellOut b → a ≡ b
    inside g = cc g

lists_alike : {X Y Z : Type 0} (f : X → Z) (g : Y → Z) (xs : List X) (ys : List Y) → length xs ≡ length ys → ((k : ℕ) (x : X) (y : Y) → At xs k x → At ys k y → f x ≡ g y) → map f xs ≡ map g ys
lists_alike f g [] [] long same = refl
lists_alike f g [] (y ∷ ys) long same = absurd (omega arith)
lists_alike f g (x ∷ xs) [] long same = absurd (omega arith)
lists_alike f g (x ∷ xs) (y ∷ ys) long same = λ i. same 0 x y refl refl i ∷ lists_alike f g xs ys (omega arith) (λ k a b at there. same (suc k) a b at there) i

-- ---- the netlist's state afterwards
module _ (v : ℕ → Bool) where
  abbrev becomes : Cell × (Bool × Option Bool) → Bool
  becomes x = kept_by v x.0.kind x.0.ins x.1.0 x.1.1

  kept_at : (cells : List Cell) (kept : List Bool) (clocks : List (Option Bool)) (j : ℕ) (cell : Cell) → length kept ≡ length cells → length clocks ≡ length cells → At cells j cell
      → slice_index_or (map becomes (zip cells (zip kept clocks))) j false ≡ kept_by v cell.kind cell.ins (slice_index_or kept j false) (slice_index_or clocks j None)
  kept_at [] kept clocks j cell long also at = cc at
  kept_at (x ∷ cells) [] clocks j cell long also at = absurd (omega arith)
  kept_at (x ∷ cells) (k ∷ kept) [] j cell long also at = absurd (omega arith)
  kept_at (x ∷ cells) (k ∷ kept) (c ∷ clocks) zero cell long also at = ap (λ (y : Cell). kept_by v y.kind y.ins k c) (same_Some x cell at)
  kept_at (x ∷ cells) (k ∷ kept) (c ∷ clocks) (suc j) cell long also at = kept_at cells kept clocks j cell (omega arith) (omega arith) at

  kept_long : (cells : List Cell) (kept : List Bool) (clocks : List (Option Bool)) → length kept ≡ length cells → length clocks ≡ length cells
      → length (map becomes (zip cells (zip kept clocks))) ≡ length cells
  kept_long [] [] [] long also = refl
  kept_long [] [] (c ∷ clocks) long also = absurd (omega arith)
  kept_long [] (k ∷ kept) clocks long also = absurd (omega arith)
  kept_long (x ∷ cells) [] clocks long also = absurd (omega arith)
  kept_long (x ∷ cells) (k ∷ kept) [] long also = absurd (omega arith)
  kept_long (x ∷ cells) (k ∷ kept) (c ∷ clocks) long also = ap suc (kept_long cells kept clocks (omega arith) (omega arith))

module _ (n : NetlistData) (d : Design) (p : PackPlan) (order : List ℕ) (ready : IsReady n d p order) where
  module _ (levels : List Bool) (s t : State) (tied : Tied n p s t) where
    abbrev w : Node → Bool
    w node = node_level d levels s.kept node

    abbrev v : ℕ → Bool
    v signal = signal_value n levels t.kept signal

    abbrev level : Origin → Bool
    level o = lv n d p order ready levels t.kept s.kept tied.kept o

    abbrev Claims : Origin → Type 0
    Claims o = Carries n d p order ready levels t.kept s.kept tied.kept o

    abbrev read : Option SignalNo → Bool
    read signal = reading false (λ (x : SignalNo). v x.0) signal

    claims : (signal : Option SignalNo) → IsBelow (length n.names) signal → Claims (input_origin p.origins signal)
    claims signal below = input_claims n d p order ready levels t.kept s.kept tied.kept signal below

    below : (j : ℕ) (cell : Cell) → At n.cells j cell → (k : ℕ) → IsBelow (length n.names) (slice_index_or cell.ins k None)
    below j cell at k = input_at (IsBelow (length n.names)) tt cell.ins (below_at n d p order ready levels t.kept s.kept tied.kept j cell at) k

    read_is : (signal : Option SignalNo) → IsBelow (length n.names) signal → read signal ≡ level (input_origin p.origins signal)
    read_is signal lt = signal_level n d p order ready levels t.kept s.kept tied.kept signal lt

    -- ---- what is read at roots
    root_level : (bare : Bool) (root : Option Root) (x : Bool) → ReadsAt n d p order ready levels t.kept s.kept tied.kept bare root x → at_root bare w root ≡ x
    root_level bare None x is = sym is
    root_level bare (Some root) x is = level_is d levels s.kept (Net root) x is

    have_levels : (ps : List (Option Node)) (xs : List Bool) → HaveD n d p order ready levels t.kept s.kept tied.kept ps xs → map (reading false w) ps ≡ xs
    have_levels [] [] all = refl
    have_levels [] (x ∷ xs) all = absurd all
    have_levels (None ∷ ps) [] all = absurd all
    have_levels (None ∷ ps) (x ∷ xs) all = λ i. sym all.0 i ∷ have_levels ps xs all.1 i
    have_levels (Some node ∷ ps) [] all = absurd all
    have_levels (Some node ∷ ps) (x ∷ xs) all = λ i. level_is d levels s.kept node x all.0 i ∷ have_levels ps xs all.1 i

    sink_level : (signal : Option SignalNo) → IsSunk d p signal → IsBelow (length n.names) signal → at_root false w (sink p signal) ≡ read signal
    sink_level signal is lt =
        root_level false (sink p signal) (level (input_origin p.origins signal)) (sunk n d p order ready levels t.kept s.kept tied.kept signal is (claims signal lt)) ∙ sym (read_is signal lt)

    enable_same : (signal : Option SignalNo) → IsEnabled d p signal → IsBelow (length n.names) signal → at_root true w (enable_sink p signal) ≡ reading true (λ (x : SignalNo). v x.0) signal
    enable_same None is lt = refl
    enable_same (Some x) is lt =
        root_level true (sink_root true p.zero p.roots (input_origin p.origins (Some x))) (level (input_origin p.origins (Some x)))
        (sink_reads n d p order ready levels t.kept s.kept tied.kept true p.zero (input_origin p.origins (Some x)) (claims (Some x) lt) is.opened
        (λ e. constant_value n d p order ready levels t.kept s.kept tied.kept p.zero false (is.zero x refl e)))
        ∙ sym (read_is (Some x) lt)

    -- a root that is not constant has the level of its origin
    plain_level : (o : Origin) → Claims o → IsOpen p o → level_of o ≡ None → at_root false w (origin_root p.roots o) ≡ level o
    plain_level o c opened e =
        let got = plain_reads n d p order ready levels t.kept s.kept tied.kept o c opened in
        root_level false (origin_root p.roots o) got.0 got.1 ∙ got.2 e

    -- ---- clocks
    edge_same : (falling : Bool) (o : Origin) (mine other : Option Bool) → Claims o → IsOpen p o → ClockTied o mine other → is_edge falling mine (at_root false w (origin_root p.roots o)) ≡ is_edge falling other (level o)
    edge_same falling (Fixed b) mine other c opened tie = no_edge falling false mine tie.0 ∙ sym (no_edge falling b other tie.1)
    edge_same falling (Pad k) mine other c opened tie = λ i. is_edge falling (tie i) (plain_level (Pad k) c opened refl i)
    edge_same falling (Made j) mine other c opened tie = λ i. is_edge falling (tie i) (plain_level (Made j) c opened refl i)

    clock_after : (o : Origin) → Claims o → IsOpen p o → ClockTied o (Some (at_root false w (origin_root p.roots o))) (Some (level o))
    clock_after (Fixed b) c opened = (inr refl, inr refl)
    clock_after (Pad k) c opened = ap Some (plain_level (Pad k) c opened refl)
    clock_after (Made j) c opened = ap Some (plain_level (Made j) c opened refl)

    -- ---- what flip-flops take
    net_at : (root : Option Root) → reading false w (node_of root) ≡ at_root false w root
    net_at None = refl
    net_at (Some root) = refl

    passed : (o : Origin) → Claims o → IsOpen p o → table_bit (passing_table o) (number_of (at_root false w (origin_root p.roots o) ∷ false ∷ false ∷ false ∷ [])) ≡ level o
    passed (Fixed b) c opened = passes_constant b false
    passed (Pad k) c opened = passes (at_root false w (origin_root p.roots (Pad k))) ∙ plain_level (Pad k) c opened refl
    passed (Made j) c opened = passes (at_root false w (origin_root p.roots (Made j))) ∙ plain_level (Made j) c opened refl

    alone_gives : (home : ℕ) (logic : LogicCell) (signal : Option SignalNo) → logic.carry_to_in3 ≡ false → IsAlone n p signal logic → IsBelow (length n.names) signal
        → given d w home logic ≡ level (input_origin p.origins signal)
    alone_gives home logic signal unchained is lt =
        (λ i. table_bit (is.table i) (number_of (map (reading false w) (inputs_are n d p order ready levels t.kept s.kept tied.kept home logic (plain_sink p signal ∷ None ∷ None ∷ None ∷ []) unchained is.ins i))))
        ∙ ap (λ x. table_bit (passing_table (input_origin p.origins signal)) (number_of (x ∷ false ∷ false ∷ false ∷ []))) (net_at (plain_sink p signal))
        ∙ passed (input_origin p.origins signal) (claims signal lt) is.opened

    behind_gives : (home : ℕ) (logic : LogicCell) (signal : Option SignalNo) → At d.cells home logic → IsBehind n d p signal home → given d w home logic ≡ level (input_origin p.origins signal)
    behind_gives home logic signal at is =
        let r = table_there n d p order ready levels t.kept s.kept tied.kept is.number is.cell is.at is.is (cell_claims n d p order ready levels t.kept s.kept tied.kept is.number is.cell is.at) is.table in
        let one : is.table.logic ≡ logic = At_same d.cells home is.table.logic logic (subst (λ h. At d.cells h is.table.logic) is.same is.table.at) at in
        (λ i. given d w (sym is.same i) (sym one i)) ∙ ap (λ xs. table_bit is.table.logic.table (number_of xs)) (have_levels (cell_inputs d is.table.home is.table.logic) r.xs r.have) ∙ r.gives
        ∙ ap level (sym is.takes)

    -- ---- one flip-flop
    module _ (j : ℕ) (cell : Cell) (falling enable : Bool) (reset : Reset) (at : At n.cells j cell) (e : cell.kind ≡ Flop falling enable reset) where
      abbrev f : HasFlop n d p j enable cell.ins
      f = ready.packed.flops j cell falling enable reset at e

      some : f.logic.flop ≡ flop_by p (Flop falling enable reset) cell.ins
      some = f.flop ∙ ap (λ (o : Option Cell). option_map_or (λ (c : Cell). flop_by p c.kind c.ins) o None) at ∙ ap (λ (kind : CellKind). flop_by p kind cell.ins) e

      abbrev sig : ℕ → Option SignalNo
      sig k = slice_index_or cell.ins k None

      datum_same : given d w f.home f.logic ≡ at_input false v cell.ins 1
      datum_same = by f.datum ∙ sym (read_is (sig 1) (below j cell at 1))
        where
          by : IsAlone n p (sig 1) f.logic ⊎ IsBehind n d p (sig 1) f.home → given d w f.home f.logic ≡ level (input_origin p.origins (sig 1))
          by (inl alone) = alone_gives f.home f.logic (sig 1) f.unchained alone (below j cell at 1)
          by (inr behind) = behind_gives f.home f.logic (sig 1) f.at behind

      clock_same : is_edge falling (slice_index_or s.clocks f.home None) (at_root false w (plain_sink p (sig 0))) ≡ is_edge falling (slice_index_or t.clocks j None) (at_input false v cell.ins 0)
      clock_same =
          edge_same falling (input_origin p.origins (sig 0)) (slice_index_or s.clocks f.home None) (slice_index_or t.clocks j None) (claims (sig 0) (below j cell at 0)) f.clock
          (tied.clocks j cell falling enable reset at e f.home f.root)
          ∙ ap (is_edge falling (slice_index_or t.clocks j None)) (sym (read_is (sig 0) (below j cell at 0)))

      enabled_same : at_root true w (enable_sink p (enable_input enable cell.ins)) ≡ enable_level v enable cell.ins
      enabled_same = by enable f.enabled
        where
          by : (b : Bool) → IsEnabled d p (enable_input b cell.ins) → at_root true w (enable_sink p (enable_input b cell.ins)) ≡ enable_level v b cell.ins
          by true is = enable_same (sig 2) is (below j cell at 2)
          by false is = refl

      reset_same : at_root false w (sink p (set_input enable cell.ins)) ≡ set_level v enable cell.ins
      reset_same = by enable f.reset
        where
          by : (b : Bool) → IsSunk d p (set_input b cell.ins) → at_root false w (sink p (set_input b cell.ins)) ≡ set_level v b cell.ins
          by true is = sink_level (sig 3) is (below j cell at 3)
          by false is = sink_level (sig 2) is (below j cell at 2)

      keeps_same : cell_keeps d w s f.home ≡ kept_by v cell.kind cell.ins (slice_index_or t.kept j false) (slice_index_or t.clocks j None)
      keeps_same =
          ap (λ o. option_map_or (λ (x : LogicCell). flop_keeps w x.flop (given d w f.home x) (slice_index_or s.kept f.home false) (slice_index_or s.clocks f.home None)) o false) f.at
          ∙ ap (λ x. flop_keeps w x (given d w f.home f.logic) (slice_index_or s.kept f.home false) (slice_index_or s.clocks f.home None)) some
          ∙ (λ i. fired reset (clock_same i) (enabled_same i) (reset_same i) (datum_same i) (tied.kept j cell falling enable reset at e f.home f.root i))
          ∙ ap (λ (kind : CellKind). kept_by v kind cell.ins (slice_index_or t.kept j false) (slice_index_or t.clocks j None)) (sym e)

      kept_tied : (home : ℕ) → root_at p j ≡ Some (CellOut home) → slice_index_or (state_after d w s).kept home false ≡ slice_index_or (kept_after v n.cells t) j false
      kept_tied home root =
          ap (λ h. slice_index_or (state_after d w s).kept h false) (out_same home f.home (root_at p j) root f.root)
          ∙ get_or-table (cell_keeps d w s) (length d.cells) f.home false (At_within d.cells f.home f.logic f.at) ∙ keeps_same
          ∙ sym (kept_at v n.cells t.kept t.clocks j cell tied.long tied.clocks_long at)

      mine_is : cell_clock d w f.home ≡ Some (at_root false w (plain_sink p (sig 0)))
      mine_is = ap (λ o. option_map_or (λ (x : LogicCell). flop_clock w x.flop) o None) f.at ∙ ap (flop_clock w) some

      other_is : slice_index_or (clocks_after v n.cells) j None ≡ Some (level (input_origin p.origins (sig 0)))
      other_is =
          get_or_from_slice_get (clocks_after v n.cells) j (clock_by v cell.kind cell.ins) None (At_map (λ (c : Cell). clock_by v c.kind c.ins) n.cells j cell at)
          ∙ ap (λ (kind : CellKind). clock_by v kind cell.ins) e ∙ ap Some (read_is (sig 0) (below j cell at 0))

      clocks_tied : (home : ℕ) → root_at p j ≡ Some (CellOut home)
          → ClockTied (input_origin p.origins (sig 0)) (slice_index_or (state_after d w s).clocks home None) (slice_index_or (clocks_after v n.cells) j None)
      clocks_tied home root =
          let mine : slice_index_or (state_after d w s).clocks home None ≡ Some (at_root false w (plain_sink p (sig 0))) =
          ap (λ h. slice_index_or (state_after d w s).clocks h None) (out_same home f.home (root_at p j) root f.root)
          ∙ get_or-table (cell_clock d w) (length d.cells) f.home None (At_within d.cells f.home f.logic f.at) ∙ mine_is in
          subst (λ x. ClockTied (input_origin p.origins (sig 0)) x (slice_index_or (clocks_after v n.cells) j None)) (sym mine)
          (subst (λ y. ClockTied (input_origin p.origins (sig 0)) (Some (at_root false w (plain_sink p (sig 0)))) y) (sym other_is)
          (clock_after (input_origin p.origins (sig 0)) (claims (sig 0) (below j cell at 0)) f.clock))

    tied_after : Tied n p (state_after d w s) (record { kept = kept_after v n.cells t; clocks = clocks_after v n.cells })
    tied_after = record {
      kept = kept_tied;
      clocks = clocks_tied;
      long = kept_long v n.cells t.kept t.clocks tied.long tied.clocks_long;
      clocks_long = length-map n.cells (λ (c : Cell). clock_by v c.kind c.ins);
    }

    -- ---- what pads show
    bare_same : (way : Way) (signal : SignalNo) (enable : Bool) → signal.0 < length n.names → (way ≡ Output → IsSunk d p (Some signal))
        → pad_drive (bare_type way) (at_root false w (packed_drive p way signal)) enable ≡ drives.bare_drive way (v signal.0)
    bare_same Input signal enable lt is = refl
    bare_same Output signal enable lt is = ap level_drive (sink_level (Some signal) (is refl) lt)
    bare_same Both signal enable lt is = refl

    drives_same : (datum enable : Option SignalNo) (a b : Bool) → ((k : ℕ) (signal : Option SignalNo) → At (cond a (datum ∷ []) (cond b (datum ∷ enable ∷ []) [])) k signal → at_root false w (sink p signal) ≡ read signal)
        → cond a (level_drive (at_root false w (sink p (slice_index_or (cond a (datum ∷ []) (cond b (datum ∷ enable ∷ []) [])) 0 None))))
        (cond b (cond (at_root false w (sink p (slice_index_or (cond a (datum ∷ []) (cond b (datum ∷ enable ∷ []) [])) 1 None)))
        (level_drive (at_root false w (sink p (slice_index_or (cond a (datum ∷ []) (cond b (datum ∷ enable ∷ []) [])) 0 None)))) Off) Off)
        ≡ cond a (level_drive (read datum)) (cond b (cond (read enable) (level_drive (read datum)) Off) Off)
    drives_same datum enable true b all = ap level_drive (all 0 datum refl)
    drives_same datum enable false true all = λ i. cond (all 1 enable refl i) (level_drive (all 0 datum refl i)) Off
    drives_same datum enable false false all = refl

    pad_same : (k : ℕ) (pad : DesignPad) (port : Port) → At d.pads k pad → At n.ports k port → pad_drives w pad ≡ port_drive n.cells v port
    pad_same k pad port there at = by (ready.packed.ports k pad port there at)
      where
        lt : port.signal.0 < length n.names
        lt = at_all (IsPortBelow (length n.names)) n.ports k port ready.formed.ports at

        by : IsPadOf n d p port pad → pad_drives w pad ≡ port_drive n.cells v port
        by (lies none type_is drive_is enable_is sunk_is) =
            (λ i. pad_drive (type_is i) (at_root false w (drive_is i)) (at_root false w pad.enable)) ∙ bare_same port.way port.signal (at_root false w pad.enable) lt sunk_is
            ∙ sym (ap (drive_by n.cells v port) none)
        by (through j cell pin_type pullup found here is type_is drive_is enable_is sunk_is) =
            (λ i. pad_drive (type_is i) (at_root false w (drive_is i)) (at_root false w (enable_is i)))
            ∙ drives_same (data_of cell.ins) (enable_of cell.ins) (pin_type == 25) (pin_type == 41) (λ m signal inside. sink_level signal (sunk_is m signal inside) (used m signal inside))
            ∙ sym (ap (drive_by n.cells v port) found ∙ ap (buffer_drive v) here ∙ ap (λ (kind : CellKind). kind_drive v kind cell.ins) is)
          where
            used_by : (a b : Bool) (m : ℕ) (signal : Option SignalNo) → At (cond a (data_of cell.ins ∷ []) (cond b (data_of cell.ins ∷ enable_of cell.ins ∷ []) [])) m signal → IsBelow (length n.names) signal
            used_by true b zero signal inside = subst (IsBelow (length n.names)) (same_Some (data_of cell.ins) signal inside) (below j cell here 1)
            used_by true b (suc m) signal inside = cc inside
            used_by false true zero signal inside = subst (IsBelow (length n.names)) (same_Some (data_of cell.ins) signal inside) (below j cell here 1)
            used_by false true (suc zero) signal inside = subst (IsBelow (length n.names)) (same_Some (enable_of cell.ins) signal inside) (below j cell here 2)
            used_by false true (suc (suc m)) signal inside = cc inside
            used_by false false m signal inside = cc inside

            used : (m : ℕ) (signal : Option SignalNo) → At (pad_uses pin_type cell.ins) m signal → IsBelow (length n.names) signal
            used m signal inside = used_by (pin_type == 25) (pin_type == 41) m signal inside

    pads_same : map (pad_drives w) d.pads ≡ map (port_drive n.cells v) n.ports
    pads_same = lists_alike (pad_drives w) (port_drive n.cells v) d.pads n.ports ready.packed.ports_long pad_same

  simulates : Simulates (step d) (net.step n) (Tied n p) (λ levels. Unit {0})
  simulates s t levels allowed tied = (tied_after levels s t tied, pads_same levels s t tied)

  never_seen : (o : Origin) → ClockTied o None None
  never_seen (Fixed b) = (inl refl, inl refl)
  never_seen (Pad k) = refl
  never_seen (Made i) = refl

  tied_start : Tied n p (start d) (net.start n)
  tied_start = record {
    kept = λ j cell falling enable reset at e home root. all_alike false d.cells home ∙ sym (all_alike false n.cells j);
    clocks = λ j cell falling enable reset at e home root.
        subst (λ x. ClockTied (input_origin p.origins (slice_index_or cell.ins 0 None)) x (slice_index_or (map (λ (c : Cell). None) n.cells) j None)) (sym (all_alike None d.cells home))
        (subst (λ x. ClockTied (input_origin p.origins (slice_index_or cell.ins 0 None)) None x) (sym (all_alike None n.cells j)) (never_seen (input_origin p.origins (slice_index_or cell.ins 0 None))));
    long = length-map n.cells (λ (c : Cell). false);
    clocks_long = length-map n.cells (λ (c : Cell). None);
  }

  pub shows_same : (levels : List (List Bool)) → shows d levels ≡ net.shows n levels
  shows_same levels = shows_always_alike (step d) (net.step n) (Tied n p) simulates (start d) (net.start n) tied_start levels
