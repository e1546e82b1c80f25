use Rattle.std.proofs.Common.{◌≡◌, ◌+◌, Bool, true, false, List, ◌∷◌, Some, find, drop, get_or, refl, sym, ap, ◌∙◌}
use Rattle.std.proofs.lemmas.List.{at_drop_more, at_drop_all}
use Rattle.ice_chip.specs.declared.placed.PlacedName.{PlacedName}
use Rattle.ice_chip_laws.specs.Pins.{is_pin_name}
use Rattle.ice_chip_laws.proofs.pins.first_pin.Goals as goal

goes_on : (test : PlacedName → Bool) (n : PlacedName) (ns : List PlacedName) → test n ≡ false → find test (n ∷ ns) ≡ find test ns
goes_on test n ns e = rw e refl

stops : (test : PlacedName → Bool) (n : PlacedName) (ns : List PlacedName) → test n ≡ true → find test (n ∷ ns) ≡ Some n
stops test n ns e = rw e refl

pub loop-name-init : goal.loop-name-init
loop-name-init c = ap (find (is_pin_name c.args.chip.now)) (sym c.names-name-items.ensures)

pub loop-name-preserved : goal.loop-name-preserved
loop-name-preserved c =
    let test = is_pin_name c.args.chip.now in
    let names = c.names-name-items.result.now in
    let i = c.loop-name.name-index in
    let n = c.name-item.result in
    c.loop-name.invariant
    ∙ at_drop_more (find test) names i n c.loop-name-test.true
    ∙ goes_on test (get_or names i n) (drop (i + 1) names) (ap test (sym c.name-item.is) ∙ sym c.if-is_pin_name.ensures)

pub returns-then-is_pin_name : goal.returns-then-is_pin_name
returns-then-is_pin_name c =
    let test = is_pin_name c.args.chip.now in
    let names = c.names-name-items.result.now in
    let i = c.loop-name.name-index in
    let n = c.name-item.result in
    sym (
    c.loop-name.invariant
    ∙ at_drop_more (find test) names i n c.loop-name-test.true
    ∙ stops test (get_or names i n) (drop (i + 1) names) (ap test (sym c.name-item.is) ∙ sym c.if-is_pin_name.ensures)
    ∙ ap Some (sym c.name-item.is)
    )

pub returns : goal.returns
returns c = sym (c.loop-name.invariant ∙ at_drop_all (find (is_pin_name c.args.chip.now)) c.names-name-items.result.now c.loop-name.name-index c.loop-name-test.false)
