-- The row of a group that is on.
use Rattle.std.proofs.Common.{◌≡◌, ℕ, ◌+◌, ◌-◌, ◌<◌, cond, Some, None, ap, sym, ◌∙◌, map, length, get_or, arith}
use Rattle.std.specs.Prelude.{slice_get, option_map}
use Rattle.std.specs.Option.{option_and_then}
use Rattle.std.specs.List.{list_any}
use Rattle.std.proofs.lemmas.Bool.{cond-false}
use Rattle.std.proofs.lemmas.Option.{slice_get-map, slice_get-get_or}
use Rattle.ice_chip.specs.Database.{SwitchGroup}
use Rattle.ice_chip.specs.Views.{row_view, group_view}
use Rattle.ice_chip.specs.declared.sections.Row.{Row}
use Rattle.ice_chip.specs.declared.sections.Group.{Group}
use Rattle.ice_bits.specs.Configuration.{Bits, Configuration, bit_at, bits_of, rows_at}
use Rattle.ice_bits.specs.Settings.{number_with, row_on}
use Rattle.ice_decode.specs.Drivers.{switch, switch_at, switch_on}
use Rattle.ice_decode_circuit.proofs.RowValues.{none_on}

-- no row is on where no tile stands
pub off_there : (k : Configuration) (g : SwitchGroup) → rows_at k g.tile ≡ None → row_on (bits_of k) g ≡ None
off_there k g none =
    ap (λ o. cond (list_any (λ v. v) (map (bit_at o) g.bits)) (number_with (map (bit_at o) g.bits) g.first g.rows) None) none
    ∙ cond-false _ _ None (none_on g.bits)

-- the row of the number at a place of a group
pub on_here : (bits : Bits) (g : Group) (k : ℕ) (r : Row) → k < length g.rows.items → r ≡ get_or g.rows.items k r → Some (g.first.0 + k) ≡ row_on bits (group_view g)
    → Some (record { row = record { 0 = g.first.0 + k }; tile = g.tile; source = r.source; target = g.wire }) ≡ switch_on bits (group_view g)
on_here bits g k r lt at number =
    let e : g.first.0 + k - g.first.0 ≡ k = omega arith in
    sym (ap (option_and_then (switch_at (group_view g))) (sym number)
    ∙ ap (λ i. option_map (switch (group_view g) (g.first.0 + k)) (slice_get (map row_view g.rows.items) i)) e
    ∙ ap (option_map (switch (group_view g) (g.first.0 + k)))
    (slice_get-map row_view g.rows.items k ∙ ap (option_map row_view) (slice_get-get_or g.rows.items k r lt ∙ ap (λ (x : Row). Some x) (sym at))))
