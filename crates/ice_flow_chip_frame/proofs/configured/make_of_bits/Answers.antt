use Rattle.std.proofs.Common.{◌≡◌, ◌∷◌, Bool, Some, sym, subst}
use Rattle.ice_chip.specs.Views.{package_view}
use Rattle.ice_chip.specs.Lookups.{package_of}
use Rattle.ice_bits.specs.Configuration.{Configuration, bits_of}
use Rattle.ice_bits.specs.Grids.{IsOf}
use Rattle.ice_decode.specs.Memories.{IsTaken, IsRefusedFor}
use Rattle.ice_flow_frame.proofs.Refusing.{refused_behind}
use Rattle.ice_flow_chip_frame.specs.Standing.{TextsStand}
use Rattle.ice_flow_chip_frame.proofs.Looks.{bits_refused, configured_so}
use Rattle.ice_flow_chip_frame.proofs.OnBits.{configured_by}
use Rattle.ice_flow_chip_frame.proofs.configured.make_of_bits.Goals as goal

pub make-requires-clause-bits : goal.make-requires-clause-bits
make-requires-clause-bits g c = subst (λ (k : Configuration). IsOf c.args.chip.now k) (sym c.in-Ok.ensures.circuit.same) c.requires.bits

pub make-requires-clause-configured : goal.make-requires-clause-configured
make-requires-clause-configured g c =
    let name = c.args.package_name.now in
    let taken : IsTaken (g.M.ChipMaking.rams c.args.making.now) c.args.chip.now (bits_of c.args.bits.now) c.args.bits.now.extras =
    subst (λ (r : Bool). IsTaken r c.args.chip.now (bits_of c.args.bits.now) c.args.bits.now.extras) c.takes_rams.ensures c.in-Ok.ensures.taken in
    let there : package_of c.args.chip.now name ≡ Some (package_view c.in-Some.bonded.now) = sym (rw c.as_bytes.ensures.value at c.in-Some.ensures) in
    (name, c.requires.read.0, configured_by (g.M.ChipMaking.rams c.args.making.now) name (c.requires.read.0 ∷ c.args.texts.now) c.args.chip.now c.args.bits.now (package_view c.in-Some.bonded.now) c.in-Ok.circuit c.requires.read.1 there c.in-Ok.ensures.circuit taken)

pub returns-in-Ok-clause-given : goal.returns-in-Ok-clause-given
returns-in-Ok-clause-given g c = λ chip_text read.
    let name = c.args.package_name.now in
    let taken : IsTaken (g.M.ChipMaking.rams c.args.making.now) c.args.chip.now (bits_of c.args.bits.now) c.args.bits.now.extras =
    subst (λ (r : Bool). IsTaken r c.args.chip.now (bits_of c.args.bits.now) c.args.bits.now.extras) c.takes_rams.ensures c.in-Ok.ensures.taken in
    let there : package_of c.args.chip.now name ≡ Some (package_view c.in-Some.bonded.now) = sym (rw c.as_bytes.ensures.value at c.in-Some.ensures) in
    c.make.ensures.given name chip_text
    (configured_by (g.M.ChipMaking.rams c.args.making.now) name (chip_text ∷ c.args.texts.now) c.args.chip.now c.args.bits.now (package_view c.in-Some.bonded.now) c.in-Ok.circuit read there c.in-Ok.ensures.circuit taken)

pub returns-in-Ok-clause-refused : goal.returns-in-Ok-clause-refused
returns-in-Ok-clause-refused g c = λ chip_text read.
    let name = c.args.package_name.now in
    let taken : IsTaken (g.M.ChipMaking.rams c.args.making.now) c.args.chip.now (bits_of c.args.bits.now) c.args.bits.now.extras =
    subst (λ (r : Bool). IsTaken r c.args.chip.now (bits_of c.args.bits.now) c.args.bits.now.extras) c.takes_rams.ensures c.in-Ok.ensures.taken in
    let texts = chip_text ∷ c.args.texts.now in
    let bonded = package_view c.in-Some.bonded.now in
    let Then = g.M.ChipMaking.stands c.args.making.now texts in
    let there : package_of c.args.chip.now name ≡ Some bonded = sym (rw c.as_bytes.ensures.value at c.in-Some.ensures) in
    let is = configured_by (g.M.ChipMaking.rams c.args.making.now) name texts c.args.chip.now c.args.bits.now bonded c.in-Ok.circuit read there c.in-Ok.ensures.circuit taken in
    refused_behind (TextsStand (g.M.ChipMaking.rams c.args.making.now) Then name texts) (Then bonded) c.make.result
    (λ cause so. configured_so (g.M.ChipMaking.rams c.args.making.now) Then name texts c.args.chip.now c.in-Ok.circuit.configuration bonded cause is so) (c.make.ensures.refused name chip_text is)

pub returns-in-Err-clause-refused : goal.returns-in-Err-clause-refused
returns-in-Err-clause-refused g c = λ chip_text read.
    let name = c.args.package_name.now in
    let texts = chip_text ∷ c.args.texts.now in
    let there : package_of c.args.chip.now name ≡ Some (package_view c.in-Some.bonded.now) = sym (rw c.as_bytes.ensures.value at c.in-Some.ensures) in
    bits_refused (g.M.ChipMaking.rams c.args.making.now) (g.M.ChipMaking.stands c.args.making.now texts) name texts c.args.chip.now c.args.bits.now (package_view c.in-Some.bonded.now) c.in-Err.fault c.bits_refusal.result read there
    (subst (λ (r : Bool). IsRefusedFor r c.args.chip.now (bits_of c.args.bits.now) c.args.bits.now.extras c.in-Err.fault) c.takes_rams.ensures c.in-Err.ensures.fault) c.bits_refusal.ensures
