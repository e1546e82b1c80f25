-- The pads of a chip stand in IO tiles, two in each.
use Rattle.std.proofs.Common.{◌≡◌, zero, suc, ◌<◌, true, Some, refl, sym, ap, ◌∙◌, subst, true≢false, arith}
use Rattle.std.specs.List.{filter}
use Rattle.std.proofs.lemmas.Option.{none-some, same_Some}
use Rattle.ice_base.specs.declared.number.TileAt.{TileAt}
use Rattle.ice_base_values.specs.Order.{Has}
use Rattle.ice_base_values.proofs.Members.{filter_Has}
use Rattle.ice_chip.specs.Database.{Parts}
use Rattle.ice_chip.specs.Lookups.{kind_at, is_io_kind}
use Rattle.ice_chip.specs.declared.rows.TileLine.{TileLine}
use Rattle.ice_chip.specs.declared.rows.Pad.{Pad}
use Rattle.ice_chip.specs.declared.rows.TileKind.{TileKind}
use Rattle.ice_chip.specs.declared.rows.TileKind.TheVariants.{Io, Logic, RamBottom, RamTop}
use Rattle.ice_chip_laws.specs.Laws.{IsLawful}
use Rattle.ice_decode.specs.Pads.{pads, pads_in, is_io_tile}
use Rattle.ice_emit_led_laws.proofs.Lists.{flat_Has}

io_kind : (kind : TileKind) → is_io_kind kind ≡ true → kind ≡ Io
io_kind Io e = refl
io_kind Logic e = absurd (true≢false (sym e))
io_kind RamBottom e = absurd (true≢false (sym e))
io_kind RamTop e = absurd (true≢false (sym e))

two_pads : (t : TileAt) (pad : Pad) → Has (pads_in t) pad → (t ≡ pad.tile) × (pad.pio < 2)
two_pads t pad (zero, at) = let same = same_Some (record { tile = t; pio = 0 }) pad at in (ap (λ (p : Pad). p.tile) same, subst (λ (p : Pad). p.pio < 2) same (omega arith))
two_pads t pad (suc zero, at) = let same = same_Some (record { tile = t; pio = 1 }) pad at in (ap (λ (p : Pad). p.tile) same, subst (λ (p : Pad). p.pio < 2) same (omega arith))
two_pads t pad (suc (suc n), at) = absurd (none-some pad at)

pub io_pad : (parts : Parts) (law : IsLawful parts) (pad : Pad) → Has (pads parts) pad → (kind_at parts pad.tile ≡ Some Io) × (pad.pio < 2)
io_pad parts law pad has =
    let got = flat_Has (λ (tile : TileAt × TileLine). pads_in tile.0) (filter is_io_tile parts.tiles) pad has in
    let tile = filter_Has is_io_tile parts.tiles got.1 (got.0, got.2) in
    let two = two_pads got.1.0 pad got.3 in
    (ap (kind_at parts) (sym two.0) ∙ law.tiles.kinds got.1.0 got.1.1 tile.0 ∙ ap Some (io_kind got.1.1.kind tile.1), two.1)
