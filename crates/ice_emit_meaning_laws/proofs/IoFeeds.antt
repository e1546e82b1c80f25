-- What feeds a global in an IO tile is an input pin, and so no global.
use Rattle.std.proofs.Common.{◌≡◌, ℕ, Option, None, Some, refl, sym, ap, ◌∙◌}
use Rattle.ice_base.specs.declared.number.TileAt.{TileAt}
use Rattle.ice_base.proofs.Options.{option_map_some}
use Rattle.ice_chip.specs.Database.{Parts}
use Rattle.ice_chip.specs.Lookups.{global_of, wire_named}
use Rattle.ice_chip.specs.WireNames.{fabout_name}
use Rattle.ice_chip_laws.specs.Laws.{IsLawful}
use Rattle.ice_decode.specs.declared.point.Point.{Point}
use Rattle.ice_decode.specs.declared.point.Point.TheVariants.{Wire, Carry}
use Rattle.ice_decode.specs.declared.role.Role.TheVariants.{Plain, Global}
use Rattle.ice_decode.specs.Reads.{wire_point, at_pin_of}
use Rattle.ice_decode.specs.Drivers.{role_of}
use Rattle.ice_emit_meaning_laws.specs.Feeds.{FeedsNoGlobal, AreFedByIo}
use Rattle.ice_emit_meaning_laws.proofs.Pins.{fabout_plain}

abbrev pub number : Point → ℕ
number (Wire w) = w.0
number (Carry t i) = 0

plain_is_none : (m : ℕ) → Plain ≡ Global m → ⊥
plain_is_none m e = cc e

pub fed_by_io : (parts : Parts) → IsLawful parts → AreFedByIo parts → FeedsNoGlobal parts
fed_by_io parts lawful io = record { none = λ n m w feed is. by n m w is (global_of parts n) refl feed }
  where
    by : (n m w : ℕ) → role_of parts w ≡ Global m → (o : Option TileAt) → global_of parts n ≡ o → at_pin_of parts o fabout_name ≡ Some (wire_point w) → ⊥
    by n m w is None e feed = cc feed
    by n m w is (Some t) e feed =
        let wire = option_map_some wire_point (wire_named parts t fabout_name) (wire_point w) feed in
        let same : wire.0 ≡ w = ap number wire.2 in
        let plain = fabout_plain parts lawful t (io.each n t e) w (wire.1 ∙ ap (λ (x : ℕ). Some x) same) in
        plain_is_none m (sym plain ∙ is)
