use Rattle.std.proofs.Common.{List, ℕ, get_or, sym, subst}
use Rattle.ice_bits.specs.Configuration.{bits_of}
use Rattle.ice_decode.specs.declared.point.Point.TheVariants.{Wire}
use Rattle.ice_decode.specs.Reads.{depends_on}
use Rattle.ice_timing.specs.Arriving.{ArrivalsData, IsLatestPoint}
use Rattle.ice_timing.specs.Latest.{IsLatest, IsLatestRead}
use Rattle.ice_timing.proofs.Numbers.{latest_point}
use Rattle.ice_timing.proofs.arrivals.Arrivals.before.Goals as goal

pub returns-in-Some : goal.returns-in-Some
returns-in-Some c =
    let reads = depends_on c.args.chip.now (bits_of c.args.circuit.now.configuration) c.args.circuit.now.configuration.extras c.args.point in
    let latest : IsLatestRead c.self.inside.numbering c.self.inside.at.items reads c.in-Some.number
    = subst (λ at. IsLatestRead c.self.inside.numbering at reads c.in-Some.number) c.deref.ensures.value
    (subst (IsLatest c.self.inside.numbering c.deref.result.now reads) c.in-Some.is c.in_ok-number.ensures) in
    subst (λ (a : ArrivalsData). IsLatestPoint a reads (get_or c.points.result.now c.in-Some.number (Wire (record { 0 = 0 })))) c.self.view_is
    (latest_point (record { points = c.self.inside.numbering; at = c.self.inside.at.items }) reads c.points.result.now c.in-Some.number (Wire (record { 0 = 0 })) c.self.invariant.long c.points.ensures latest)
