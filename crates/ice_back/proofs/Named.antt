-- The names and the cells of the netlist are added in parts.
use Rattle.std.proofs.Common.{◌≡◌, ℕ, List, [], ◌∷◌, ◌++◌, map, sym, ap, ◌∙◌, subst}
use Rattle.std.specs.Prelude.{codes}
use Rattle.std.specs.List.{flat_map}
use Rattle.ice_bits.specs.Configuration.{bits_of}
use Rattle.ice_net.specs.declared.cell.Cell.{Cell}
use Rattle.ice_net.specs.NetlistData.{NetlistData, empty_netlist}
use Rattle.ice_decode.specs.Cells.{cells}
use Rattle.ice_back_laws.specs.Back.{pad_cell, side_cells, logic_cells, fixed_cells, numbered_pads, back_netlist}
use Rattle.ice_back_laws.specs.Numbers.{pad_names, cell_names, back_names}
use Rattle.ice_back.specs.Adding.{with_names, HasRoomForNames, with_cells, HasRoomForCells}
use Rattle.ice_back_points.specs.ConfiguredChips.{ConfiguredData, IsConfigured}
use Rattle.ice_back.proofs.Rooms.{names_first, names_rest, cells_first, cells_rest, cells_both}
use Rattle.ice_back.proofs.Fits.{names_fit, cells_fit}

module _ (d : ConfiguredData) where
  abbrev zero_name : List (List ℕ)
  zero_name = codes "zero" ∷ []

  abbrev one_name : List (List ℕ)
  one_name = codes "one" ∷ []

  abbrev of_pads : List (List ℕ)
  of_pads = flat_map (pad_names d.bonded) d.bonded.pads

  abbrev of_cells : List (List ℕ)
  of_cells = flat_map cell_names (cells d.parts)

  -- the netlists with more and more names
  module _ (is : IsConfigured d) (n : NetlistData) (none : n ≡ empty_netlist) where
    all_left : HasRoomForNames n (zero_name ++ (one_name ++ (of_pads ++ of_cells)))
    all_left = subst (λ (k : NetlistData). HasRoomForNames k (back_names d.parts d.bonded)) (sym none) (names_fit d is)

    pub zero_fits : HasRoomForNames n zero_name
    zero_fits = names_first n zero_name (one_name ++ (of_pads ++ of_cells)) all_left

    module _ (m : NetlistData) (zero_is : m ≡ with_names n zero_name) where
      but_zero : HasRoomForNames m (one_name ++ (of_pads ++ of_cells))
      but_zero = names_rest n m zero_name (one_name ++ (of_pads ++ of_cells)) all_left zero_is

      pub one_fits : HasRoomForNames m one_name
      one_fits = names_first m one_name (of_pads ++ of_cells) but_zero

      module _ (k : NetlistData) (one_is : k ≡ with_names m one_name) where
        others : HasRoomForNames k (of_pads ++ of_cells)
        others = names_rest m k one_name (of_pads ++ of_cells) but_zero one_is

        pub pads_fit : HasRoomForNames k of_pads
        pads_fit = names_first k of_pads of_cells others

        module _ (j : NetlistData) (pads_are : j ≡ with_names k of_pads) where
          pub cell_names_fit : HasRoomForNames j of_cells
          cell_names_fit = names_rest k j of_pads of_cells others pads_are

          pub all_named : (i : NetlistData) → i ≡ with_names j of_cells → i ≡ record { names = back_names d.parts d.bonded; ports = []; cells = [] }
          all_named i e =
              e
              ∙ ap (λ (x : NetlistData). with_names x of_cells)
              (pads_are ∙ ap (λ (x : NetlistData). with_names x of_pads) (one_is ∙ ap (λ (x : NetlistData). with_names x one_name) (zero_is ∙ ap (λ (x : NetlistData). with_names x zero_name) none)))

  abbrev whole : NetlistData
  whole = back_netlist d.parts (bits_of d.configuration) d.configuration.extras d.bonded

  abbrev pad_part : List Cell
  pad_part = map (pad_cell d.parts (bits_of d.configuration) d.configuration.extras d.bonded.pads) (numbered_pads d.bonded.pads)

  abbrev side_part : List Cell
  side_part = flat_map (side_cells d.parts (bits_of d.configuration) d.configuration.extras d.bonded.pads) (numbered_pads d.bonded.pads)

  abbrev logic_part : List Cell
  logic_part = flat_map (logic_cells d.parts (bits_of d.configuration) d.configuration.extras d.bonded.pads) (cells d.parts)

  -- and with more and more cells
  module _ (is : IsConfigured d) (n : NetlistData) (bare : n ≡ record whole { cells = [] }) where
    cells_left : HasRoomForCells n (fixed_cells ++ (pad_part ++ (side_part ++ logic_part)))
    cells_left = subst (λ (k : NetlistData). HasRoomForCells k whole.cells) (sym bare) (cells_fit d is)

    pub fixed_fit : HasRoomForCells n fixed_cells
    fixed_fit = cells_first n fixed_cells (pad_part ++ (side_part ++ logic_part)) cells_left

    module _ (m : NetlistData) (fixed_are : m ≡ with_cells n fixed_cells) where
      but_fixed : HasRoomForCells m (pad_part ++ (side_part ++ logic_part))
      but_fixed = cells_rest n m fixed_cells (pad_part ++ (side_part ++ logic_part)) cells_left fixed_are

      pub pad_cells_fit : HasRoomForCells m pad_part
      pad_cells_fit = cells_first m pad_part (side_part ++ logic_part) but_fixed

      module _ (k : NetlistData) (pads_are : k ≡ with_cells m pad_part) where
        but_pads : HasRoomForCells k (side_part ++ logic_part)
        but_pads = cells_rest m k pad_part (side_part ++ logic_part) but_fixed pads_are

        pub sides_fit : HasRoomForCells k side_part
        sides_fit = cells_first k side_part logic_part but_pads

        module _ (l : NetlistData) (sides_are : l ≡ with_cells k side_part) where
          pub logic_fits : HasRoomForCells l logic_part
          logic_fits = cells_rest k l side_part logic_part but_pads sides_are

          -- first the last two parts, then the parts before them
          pub all_made : (j : NetlistData) → j ≡ with_cells l logic_part → j ≡ whole
          all_made j e =
              e
              ∙ cells_both k l side_part logic_part sides_are
              ∙ cells_both m k pad_part (side_part ++ logic_part) pads_are
              ∙ cells_both n m fixed_cells (pad_part ++ (side_part ++ logic_part)) fixed_are
              ∙ ap (λ (x : NetlistData). with_cells x whole.cells) bare
