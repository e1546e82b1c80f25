-- The ports of the netlist of bits, by the names of their signals.
use Rattle.std.proofs.Common.{◌≡◌, ℕ, suc, ◌+◌, ◌*◌, List, [], ◌∷◌, ◌++◌, length, map, refl, ap, ◌∙◌, arith}
use Rattle.std.specs.List.{flat_map, range_with_len}
use Rattle.std.specs.Prelude.{codes, slice_index_or}
use Rattle.ice_chip.specs.Database.{Parts, PackageRows}
use Rattle.ice_chip.specs.Listings.{first_pin}
use Rattle.ice_chip.specs.declared.rows.Pad.{Pad}
use Rattle.ice_decode.specs.Cells.{cells}
use Rattle.ice_net.specs.declared.port.Way.{Way}
use Rattle.ice_net.specs.declared.port.Way.TheVariants.{Both}
use Rattle.ice_back_laws.specs.Back.{pad_port}
use Rattle.ice_back_laws.specs.Numbers.{pad_names, cell_names, back_names, port_number}
use Rattle.ice_blif_write.specs.RoundTrip.{named_port}
use Rattle.ice_flow_back_cmd.specs.Headline.{port_of_pad}

abbrev name_at : List (List ℕ) → ℕ → List ℕ
name_at names k = slice_index_or names k []

module _ (rows : PackageRows) (first second : List ℕ) (rest : List (List ℕ)) where
  -- where the names of these pads stand from the pad of number a on
  named_from : (named : List (List ℕ)) (a : ℕ) (pads : List Pad) → ((j : ℕ) → name_at named (5 * (a + j)) ≡ name_at (flat_map (pad_names rows) pads ++ rest) (5 * j))
      → map (named_port (first ∷ second ∷ named)) (map pad_port (range_with_len a (length pads))) ≡ map (port_of_pad rows) pads
  named_from named a [] is = refl
  named_from named a (pad ∷ pads) is =
      let behind : port_number a ≡ suc (suc (5 * a)) = omega arith in
      let here : 5 * a ≡ 5 * (a + 0) = omega arith in
      let name : name_at (first ∷ second ∷ named) (port_number a) ≡ codes "p_" ++ first_pin rows pad =
      ap (name_at (first ∷ second ∷ named)) behind ∙ ap (name_at named) here ∙ is 0 in
      let later = named_from named (a + 1) pads (λ j. next a j (flat_map (pad_names rows) pads ++ rest) named (is (j + 1))) in
      ap (λ (n : List ℕ). (n, Both) ∷ map (named_port (first ∷ second ∷ named)) (map pad_port (range_with_len (a + 1) (length pads)))) name
      ∙ ap (λ (ports : List (List ℕ × Way)). port_of_pad rows pad ∷ ports) later
    where
      next : (a j : ℕ) (others named : List (List ℕ)) → name_at named (5 * (a + (j + 1))) ≡ name_at (pad_names rows pad ++ others) (5 * (j + 1))
          → name_at named (5 * (a + 1 + j)) ≡ name_at others (5 * j)
      next a j others named e =
          let left : 5 * (a + 1 + j) ≡ 5 * (a + (j + 1)) = omega arith in
          let right : 5 * (j + 1) ≡ suc (suc (suc (suc (suc (5 * j))))) = omega arith in
          ap (name_at named) left ∙ e ∙ ap (name_at (pad_names rows pad ++ others)) right

-- the ports are the pads of the package in order
pub ports_named : (parts : Parts) (rows : PackageRows)
    → map (named_port (back_names parts rows)) (map pad_port (range_with_len 0 (length rows.pads))) ≡ map (port_of_pad rows) rows.pads
ports_named parts rows =
    named_from rows (codes "zero") (codes "one") (flat_map cell_names (cells parts)) (flat_map (pad_names rows) rows.pads ++ flat_map cell_names (cells parts)) 0 rows.pads
    (λ j. let e : 0 + j ≡ j = omega arith in ap (λ k. name_at (flat_map (pad_names rows) rows.pads ++ flat_map cell_names (cells parts)) (5 * k)) e)
