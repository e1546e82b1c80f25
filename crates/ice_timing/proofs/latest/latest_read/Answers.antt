use Rattle.std.proofs.Common.{◌≡◌, ◌∙◌, ℕ, List, Option, map, length, Some, ap}
use Rattle.std.specs.Prelude.{slice_get}
use Rattle.ice_bits.specs.Configuration.{bits_of}
use Rattle.ice_decode.specs.declared.point.Point.{Point}
use Rattle.ice_decode.specs.Reads.{depends_on}
use Rattle.ice_timing.proofs.Numbers.{numbers_within, latest_is}
use Rattle.ice_timing.proofs.latest.latest_read.Goals as goal

pub latest_of-requires : goal.latest_of-requires
latest_of-requires c =
    let same : map (slice_get c.args.numbering.now) c.deref.result.now ≡ map (λ (p : Point). Some p) (depends_on c.args.chip.now (bits_of c.args.circuit.now.configuration) c.args.circuit.now.configuration.extras c.args.point)
    = ap (map (slice_get c.args.numbering.now)) c.deref.ensures.value ∙ c.in_ok-row.ensures in
    numbers_within c.args.numbering.now (depends_on c.args.chip.now (bits_of c.args.circuit.now.configuration) c.args.circuit.now.configuration.extras c.args.point) c.deref.result.now same (length c.args.at.now) c.requires.long

pub returns : goal.returns
returns c =
    let same : map (slice_get c.args.numbering.now) c.deref.result.now ≡ map (λ (p : Point). Some p) (depends_on c.args.chip.now (bits_of c.args.circuit.now.configuration) c.args.circuit.now.configuration.extras c.args.point)
    = ap (map (slice_get c.args.numbering.now)) c.deref.ensures.value ∙ c.in_ok-row.ensures in
    latest_is c.args.numbering.now (depends_on c.args.chip.now (bits_of c.args.circuit.now.configuration) c.args.circuit.now.configuration.extras c.args.point) c.deref.result.now same c.args.at.now
    (λ p i j a b. c.requires.points.once i j p a b) c.latest_of.result c.latest_of.ensures.none c.latest_of.ensures.some
