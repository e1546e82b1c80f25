-- Where the ends of carry chains stand in their runs, global buffers take the levels of the same pads and are read by the same pins of flip-flops.
use Rattle.std.proofs.Common.{◌≡◌, ℕ, zero, suc, ◌+◌, ◌==◌, Bool, true, false, cond, Option, None, Some, List, [], ◌∷◌, ◌++◌, length, map, All, inl, inr, refl, sym, ap, ap₂, ◌∙◌, true≢false}
use Rattle.std.specs.Prelude.{slice_index_or}
use Rattle.std.specs.List.{list_any, range_with_len}
use Rattle.std.specs.Option.{option_map_or}
use Rattle.std.proofs.Math.Path.{fun_ext}
use Rattle.std.proofs.lemmas.List.{length-map, map-append}
use Rattle.ice_base.specs.declared.number.SignalNo.{SignalNo}
use Rattle.ice_base.proofs.Booleans.{both_true}
use Rattle.ice_base_values.specs.Order.{At}
use Rattle.ice_net.specs.declared.cell.Cell.{Cell}
use Rattle.ice_net.specs.declared.kind.CellKind.{CellKind}
use Rattle.ice_net.specs.declared.kind.CellKind.TheVariants.{Lut, Cover, Carry, Flop, PadCell, Global}
use Rattle.ice_net.specs.declared.kind.Reset.{Reset}
use Rattle.ice_net.specs.Formed.{IsBelow, IsFormed}
use Rattle.ice_net.specs.NetlistData.{NetlistData}
use Rattle.ice_chip.specs.declared.rows.Pad.{Pad}
use Rattle.ice_check.proofs.ListsBelow.{at_below}
use Rattle.ice_cells.specs.declared.cell.Control.{Control}
use Rattle.ice_cells.specs.declared.cell.LogicCell.{LogicCell}
use Rattle.ice_cells.specs.declared.origin.Origin.{Origin}
use Rattle.ice_cells.specs.declared.origin.Origin.TheVariants as origin_is
use Rattle.ice_cells.specs.declared.root.Root.{Root}
use Rattle.ice_cells.specs.declared.root.Root.TheVariants.{PadIn, CellOut, GlobalOut, CarryOut}
use Rattle.ice_cells.specs.Homes.{homes}
use Rattle.ice_cells.specs.Moves.{renamed_source, renamed_flop}
use Rattle.ice_cells.specs.Origins.{is_table_kind, input_origin, origins}
use Rattle.ice_cells.specs.Packed.{plan_of, facts, is_global, one_if, pad_root, root_by, roots_from, constant_root, sink_root, sink, enable_sink, enable_input, set_input, flop_by, global_by, globals_of, packed}
use Rattle.ice_cells.specs.Runs.{fed_numbers, moved_numbers, design_of}
use Rattle.ice_cells.specs.Uses.{dropped}
use Rattle.ice_pack_laws.proofs.PadRoots.{sink_pad, pad_sink}
use Rattle.ice_pads.specs.declared.want.Buffer.{Buffer}
use Rattle.ice_pads.specs.Wants.{is_of_global, enables, resets, pins_of, pad_of, buffer_of, buffers}
use Rattle.ice_carry_tails.specs.Tails.{tails, tail_names, read_behind}
use Rattle.ice_carry_tails.specs.Ends.{tables_of, tailed}
use Rattle.ice_carry_tails.proofs.Added.{Ins}
use Rattle.ice_carry_tails.proofs.NewDrivers.{cell_kept}
use Rattle.ice_pads_tails_laws.proofs.FlopReaders.{IsReading, IsPassed, of_design, in_design}
use Rattle.ice_pads_tails_laws.proofs.NewReaders.{at_new, at_old, cell_back, formed_at, same_input}

-- ---- which global buffer a cell is
abbrev number_if : Bool → ℕ → Option ℕ
number_if true g = Some g
number_if false g = None

-- the number of the global buffer that a cell is; g of them stand before the first cell
abbrev number_from : ℕ → List Cell → ℕ → Option ℕ
number_from g [] i = None
number_from g (cell ∷ cells) zero = number_if (is_global cell.kind) g
number_from g (cell ∷ cells) (suc i) = number_from (g + one_if (is_global cell.kind)) cells i

abbrev is_number : ℕ → Option ℕ → Bool
is_number k None = false
is_number k (Some g) = g == k

no_pad_root : (k : ℕ) (o : Origin) → is_of_global k (pad_root o) ≡ false
no_pad_root k (origin_is.Fixed level) = refl
no_pad_root k (origin_is.Pad j) = refl
no_pad_root k (origin_is.Made j) = refl

root_number : (os : List Origin) (c g : ℕ) (kind : CellKind) (ins outs : List (Option SignalNo)) (k : ℕ) → is_of_global k (root_by os c g kind ins outs) ≡ is_number k (number_if (is_global kind) g)
root_number os c g (Lut t) ins outs k = refl
root_number os c g (Cover t width) ins outs k = by (is_table_kind (Cover t width))
  where
    by : (b : Bool) → is_of_global k (cond b (Some (CellOut c)) None) ≡ false
    by true = refl
    by false = refl
root_number os c g Carry ins outs k = by (dropped outs)
  where
    by : (b : Bool) → is_of_global k (cond b None (Some (CarryOut c))) ≡ false
    by true = refl
    by false = refl
root_number os c g (Flop falling enable reset) ins outs k = refl
root_number os c g (PadCell pin_type pullup) ins outs k = no_pad_root k (input_origin os (slice_index_or ins 0 None))
root_number os c g Global ins outs k = refl

roots_numbered : (os : List Origin) (hs : List ℕ) (j g : ℕ) (cells : List Cell) (i k : ℕ) → is_of_global k (slice_index_or (roots_from os hs j g cells) i None) ≡ is_number k (number_from g cells i)
roots_numbered os hs j g [] i k = refl
roots_numbered os hs j g (cell ∷ cells) zero k = root_number os (slice_index_or hs j 0) g cell.kind cell.ins cell.outs k
roots_numbered os hs j g (cell ∷ cells) (suc i) k = roots_numbered os hs (j + 1) (g + one_if (is_global cell.kind)) cells i k

no_number : (g next : ℕ) (lists : List Ins) (i : ℕ) → number_from g (tails next lists) i ≡ None
no_number g next [] i = refl
no_number g next (ins ∷ lists) zero = refl
no_number g next (ins ∷ lists) (suc i) = no_number (g + 0) (next + 1) lists i

-- carries behind the cells number no buffer anew
numbered_more : (g : ℕ) (cells : List Cell) (next : ℕ) (lists : List Ins) (i : ℕ) → number_from g (cells ++ tails next lists) i ≡ number_from g cells i
numbered_more g [] next lists i = no_number g next lists i
numbered_more g (cell ∷ cells) next lists zero = refl
numbered_more g (cell ∷ cells) next lists (suc i) = numbered_more (g + one_if (is_global cell.kind)) cells next lists i

-- ---- renamed roots
global_renamed : (moved fed : List (Option ℕ)) (k : ℕ) (o : Option Root) → is_of_global k (renamed_source moved fed o) ≡ is_of_global k o
global_renamed moved fed k None = refl
global_renamed moved fed k (Some (PadIn j)) = refl
global_renamed moved fed k (Some (CellOut c)) = refl
global_renamed moved fed k (Some (GlobalOut g)) = refl
global_renamed moved fed k (Some (CarryOut c)) = by (slice_index_or fed c None)
  where
    by : (f : Option ℕ) → is_of_global k (Some (option_map_or (λ (x : ℕ). CellOut x) f (CarryOut c))) ≡ false
    by None = refl
    by (Some f) = refl

enables_read : (k : ℕ) → IsReading (enables k)
enables_read k = record { none = refl; alike = alike }
  where
    alike : (moved fed : List (Option ℕ)) (flop : Option (Control × Reset)) → enables k (renamed_flop moved fed flop) ≡ enables k flop
    alike moved fed None = refl
    alike moved fed (Some flop) = global_renamed moved fed k flop.0.enable

resets_read : (k : ℕ) → IsReading (resets k)
resets_read k = record { none = refl; alike = alike }
  where
    alike : (moved fed : List (Option ℕ)) (flop : Option (Control × Reset)) → resets k (renamed_flop moved fed flop) ≡ resets k flop
    alike moved fed None = refl
    alike moved fed (Some flop) = global_renamed moved fed k flop.0.reset

-- ---- pads of roots
module _ (ports : List Pad) where
  abbrev pad : Option Root → Option Pad
  pad o = pad_of ports o

  pad_renamed : (moved fed : List (Option ℕ)) (o : Option Root) → pad (renamed_source moved fed o) ≡ pad o
  pad_renamed moved fed None = refl
  pad_renamed moved fed (Some (PadIn j)) = refl
  pad_renamed moved fed (Some (CellOut c)) = refl
  pad_renamed moved fed (Some (GlobalOut g)) = refl
  pad_renamed moved fed (Some (CarryOut c)) = by (slice_index_or fed c None)
    where
      by : (f : Option ℕ) → pad (Some (option_map_or (λ (x : ℕ). CellOut x) f (CarryOut c))) ≡ None
      by None = refl
      by (Some f) = refl

  pads_renamed : (moved fed : List (Option ℕ)) (roots : List (Option Root)) → map pad (map (renamed_source moved fed) roots) ≡ map pad roots
  pads_renamed moved fed [] = refl
  pads_renamed moved fed (o ∷ roots) = ap₂ (λ (x : Option Pad) (xs : List (Option Pad)). x ∷ xs) (pad_renamed moved fed o) (pads_renamed moved fed roots)

  no_pad : (o : Option Root) → ((k : ℕ) → o ≡ Some (PadIn k) → ⊥) → pad o ≡ None
  no_pad None never = refl
  no_pad (Some (PadIn j)) never = absurd (never j refl)
  no_pad (Some (CellOut c)) never = refl
  no_pad (Some (GlobalOut g)) never = refl
  no_pad (Some (CarryOut c)) never = refl

  -- roots that are the same pads' have the same pads
  pad_alike : (a b : Option Root) → ((k : ℕ) → a ≡ Some (PadIn k) → b ≡ Some (PadIn k)) → ((k : ℕ) → b ≡ Some (PadIn k) → a ≡ Some (PadIn k)) → pad a ≡ pad b
  pad_alike (Some (PadIn j)) b there back = ap pad (sym (there j refl))
  pad_alike None b there back = sym (no_pad b (λ k e. let same : None ≡ Some (PadIn k) = back k e in cc same))
  pad_alike (Some (CellOut c)) b there back = sym (no_pad b (λ k e. let same : Some (CellOut c) ≡ Some (PadIn k) = back k e in cc same))
  pad_alike (Some (GlobalOut g)) b there back = sym (no_pad b (λ k e. let same : Some (GlobalOut g) ≡ Some (PadIn k) = back k e in cc same))
  pad_alike (Some (CarryOut c)) b there back = sym (no_pad b (λ k e. let same : Some (CarryOut c) ≡ Some (PadIn k) = back k e in cc same))

  pad_at : (roots : List (Option Root)) (k : ℕ) → pad (slice_index_or roots k None) ≡ slice_index_or (map pad roots) k None
  pad_at [] k = refl
  pad_at (o ∷ roots) zero = refl
  pad_at (o ∷ roots) (suc k) = pad_at roots k

constant_no : (k : ℕ) (bare : Bool) (c : ℕ) (level : Bool) → is_of_global k (constant_root bare c level) ≡ false
constant_no k true c true = refl
constant_no k true c false = refl
constant_no k false c true = refl
constant_no k false c false = refl

module _ (n : NetlistData) (formed : IsFormed n) (after : IsFormed (tailed n)) where
  abbrev names : List (List ℕ)
  names = tail_names n.names (length (tables_of n))

  abbrev lists : List Ins
  lists = map (read_behind n.cells) (tables_of n)

  abbrev count : ℕ
  count = length n.names

  abbrev new : NetlistData
  new = tailed n

  ins_below : (j : ℕ) (cell : Cell) → At n.cells j cell → All (IsBelow count) cell.ins
  ins_below j cell at = (formed_at n names lists formed 0 j cell at).ins_below

  -- ---- which global buffer a root is
  made_same : (k j : ℕ) → is_of_global k (slice_index_or (plan_of new).roots j None) ≡ is_of_global k (slice_index_or (plan_of n).roots j None)
  made_same k j =
      roots_numbered (origins new) (homes (facts new)) 0 0 new.cells j k
      ∙ ap (is_number k) (numbered_more 0 n.cells count lists j)
      ∙ sym (roots_numbered (origins n) (homes (facts n)) 0 0 n.cells j k)

  sink_same : (k : ℕ) (bare : Bool) (c e : ℕ) (o : Origin) → is_of_global k (sink_root bare c (plan_of new).roots o) ≡ is_of_global k (sink_root bare e (plan_of n).roots o)
  sink_same k bare c e (origin_is.Fixed level) = constant_no k bare c level ∙ sym (constant_no k bare e level)
  sink_same k bare c e (origin_is.Pad j) = refl
  sink_same k bare c e (origin_is.Made j) = made_same k j

  origin_same : (input : Option SignalNo) → IsBelow count input → input_origin (origins new) input ≡ input_origin (origins n) input
  origin_same input below = same_input n names lists formed 0 input below

  plain_same : (k : ℕ) (input : Option SignalNo) → IsBelow count input → is_of_global k (sink (plan_of new) input) ≡ is_of_global k (sink (plan_of n) input)
  plain_same k input below =
      ap (λ o. is_of_global k (sink_root false (plan_of new).one (plan_of new).roots o)) (origin_same input below)
      ∙ sink_same k false (plan_of new).one (plan_of n).one (input_origin (origins n) input)

  enable_same : (k : ℕ) (input : Option SignalNo) → IsBelow count input → is_of_global k (enable_sink (plan_of new) input) ≡ is_of_global k (enable_sink (plan_of n) input)
  enable_same k None below = refl
  enable_same k (Some signal) below =
      ap (λ o. is_of_global k (sink_root true (plan_of new).zero (plan_of new).roots o)) (origin_same (Some signal) below)
      ∙ sink_same k true (plan_of new).zero (plan_of n).zero (input_origin (origins n) (Some signal))

  enable_below : (enable : Bool) (ins : Ins) → All (IsBelow count) ins → IsBelow count (enable_input enable ins)
  enable_below true ins all = at_below count ins 2 all
  enable_below false ins all = tt

  set_below : (enable : Bool) (ins : Ins) → All (IsBelow count) ins → IsBelow count (set_input enable ins)
  set_below true ins all = at_below count ins 3 all
  set_below false ins all = at_below count ins 2 all

  enables_same : (k : ℕ) (kind : CellKind) (ins : Ins) → All (IsBelow count) ins → enables k (flop_by (plan_of new) kind ins) ≡ enables k (flop_by (plan_of n) kind ins)
  enables_same k (Lut t) ins all = refl
  enables_same k (Cover t width) ins all = refl
  enables_same k Carry ins all = refl
  enables_same k (Flop falling enable reset) ins all = enable_same k (enable_input enable ins) (enable_below enable ins all)
  enables_same k (PadCell pin_type pullup) ins all = refl
  enables_same k Global ins all = refl

  resets_same : (k : ℕ) (kind : CellKind) (ins : Ins) → All (IsBelow count) ins → resets k (flop_by (plan_of new) kind ins) ≡ resets k (flop_by (plan_of n) kind ins)
  resets_same k (Lut t) ins all = refl
  resets_same k (Cover t width) ins all = refl
  resets_same k Carry ins all = refl
  resets_same k (Flop falling enable reset) ins all = plain_same k (set_input enable ins) (set_below enable ins all)
  resets_same k (PadCell pin_type pullup) ins all = refl
  resets_same k Global ins all = refl

  -- ---- pins of flip-flops
  module _ (reads : Option (Control × Reset) → Bool) (is_reading : IsReading reads)
      (same : (kind : CellKind) (ins : Ins) → All (IsBelow count) ins → reads (flop_by (plan_of new) kind ins) ≡ reads (flop_by (plan_of n) kind ins)) where
    passed_new : IsPassed reads is_reading n → IsPassed reads is_reading new
    passed_new of = record {
      number = of.number;
      cell = of.cell;
      at = cell_kept n names lists of.number of.cell of.at;
      is = same of.cell.kind of.cell.ins (ins_below of.number of.cell of.at) ∙ of.is;
    }

    passed_old : IsPassed reads is_reading new → IsPassed reads is_reading n
    passed_old of = elim (cell_back n names lists formed 0 of.number of.cell of.at) [
      | inl old ↦ record { number = of.number; cell = of.cell; at = old; is = sym (same of.cell.kind of.cell.ins (ins_below of.number of.cell old)) ∙ of.is }
      | inr added ↦ absurd (true≢false (sym of.is ∙ ap (λ (x : Cell). reads (flop_by (plan_of new) x.kind x.ins)) added.3 ∙ is_reading.none))
    ]

    some_same : list_any (λ (c : LogicCell). reads c.flop) (design_of new).cells ≡ list_any (λ (c : LogicCell). reads c.flop) (design_of n).cells
    some_same =
        both_true (list_any (λ (c : LogicCell). reads c.flop) (design_of new).cells) (list_any (λ (c : LogicCell). reads c.flop) (design_of n).cells)
        (λ e. in_design reads is_reading n formed (passed_old (of_design reads is_reading new e))) (λ e. in_design reads is_reading new after (passed_new (of_design reads is_reading n e)))

  pins_same : (k : ℕ) → pins_of (design_of new).cells k ≡ pins_of (design_of n).cells k
  pins_same k =
      let enable = some_same (enables k) (enables_read k) (enables_same k) in
      let reset = some_same (resets k) (resets_read k) (resets_same k) in
      λ i. record { enable = enable i; reset = reset i }

  -- ---- pads of ports
  module _ (ports : List Pad) where
    sink_pad_same : (input : Option SignalNo) → IsBelow count input → pad_of ports (sink (plan_of new) input) ≡ pad_of ports (sink (plan_of n) input)
    sink_pad_same input below =
        pad_alike ports (sink (plan_of new) input) (sink (plan_of n) input)
        (λ k e. pad_sink n false (plan_of n).one k (input_origin (origins n) input) (at_old n names lists formed k input below (sink_pad new false (plan_of new).one k (input_origin (origins new) input) e)))
        (λ k e. pad_sink new false (plan_of new).one k (input_origin (origins new) input) (at_new n names lists formed k input below (sink_pad n false (plan_of n).one k (input_origin (origins n) input) e)))

    one_same : (kind : CellKind) (ins : Ins) → IsBelow count (slice_index_or ins 0 None) → map (pad_of ports) (global_by (plan_of new) kind ins) ≡ map (pad_of ports) (global_by (plan_of n) kind ins)
    one_same (Lut t) ins below = refl
    one_same (Cover t width) ins below = refl
    one_same Carry ins below = refl
    one_same (Flop falling enable reset) ins below = refl
    one_same (PadCell pin_type pullup) ins below = refl
    one_same Global ins below = ap (λ (x : Option Pad). x ∷ []) (sink_pad_same (slice_index_or ins 0 None) below)

    none_more : (next : ℕ) (more : List Ins) → map (pad_of ports) (globals_of (plan_of new) (tails next more)) ≡ []
    none_more next [] = refl
    none_more next (ins ∷ more) = none_more (next + 1) more

    cells_same : (cells : List Cell) → ((j : ℕ) (cell : Cell) → At cells j cell → IsBelow count (slice_index_or cell.ins 0 None))
        → map (pad_of ports) (globals_of (plan_of new) (cells ++ tails count lists)) ≡ map (pad_of ports) (globals_of (plan_of n) cells)
    cells_same [] below = none_more count lists
    cells_same (cell ∷ cells) below =
        map-append (pad_of ports) (global_by (plan_of new) cell.kind cell.ins) (globals_of (plan_of new) (cells ++ tails count lists))
        ∙ ap₂ (λ (xs ys : List (Option Pad)). xs ++ ys) (one_same cell.kind cell.ins (below 0 cell refl)) (cells_same cells (λ j other at. below (suc j) other at))
        ∙ sym (map-append (pad_of ports) (global_by (plan_of n) cell.kind cell.ins) (globals_of (plan_of n) cells))

    pads_same : map (pad_of ports) (design_of new).globals ≡ map (pad_of ports) (design_of n).globals
    pads_same =
        pads_renamed ports (moved_numbers (packed new)) (fed_numbers (packed new)) (packed new).globals
        ∙ cells_same n.cells (λ j cell at. at_below count cell.ins 0 (ins_below j cell at))
        ∙ sym (pads_renamed ports (moved_numbers (packed n)) (fed_numbers (packed n)) (packed n).globals)

    buffer_same : (k : ℕ) → buffer_of (design_of new) ports k ≡ buffer_of (design_of n) ports k
    buffer_same k =
        let at : pad_of ports (slice_index_or (design_of new).globals k None) ≡ pad_of ports (slice_index_or (design_of n).globals k None) =
        pad_at ports (design_of new).globals k ∙ ap (λ (xs : List (Option Pad)). slice_index_or xs k None) pads_same ∙ sym (pad_at ports (design_of n).globals k) in
        let read = pins_same k in
        λ i. record { pad = at i; pins = read i }

    long_same : length (design_of new).globals ≡ length (design_of n).globals
    long_same = sym (length-map (design_of new).globals (pad_of ports)) ∙ ap length pads_same ∙ length-map (design_of n).globals (pad_of ports)

    all_same : buffers (design_of new) ports ≡ buffers (design_of n) ports
    all_same =
        ap (λ (f : ℕ → Buffer). map f (range_with_len 0 (length (design_of new).globals))) (fun_ext buffer_same)
        ∙ ap (λ (m : ℕ). map (buffer_of (design_of n) ports) (range_with_len 0 m)) long_same

  pub buffers_same : buffers (design_of new) ≡ buffers (design_of n)
  buffers_same = fun_ext all_same
