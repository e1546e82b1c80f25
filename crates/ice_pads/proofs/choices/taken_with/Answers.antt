use Rattle.std.proofs.Common.{◌≡◌, ℕ, ◌≤◌, Bool, List, length, Ok, sym, ap, ap₂, ◌∙◌, arith, rules}
use Rattle.ice_pads.specs.Globals.{other_choices, TakenData}
use Rattle.ice_pads.proofs.GlobalLaws.{too_few, enough}
use Rattle.ice_pads.proofs.choices.taken_with.Goals as goal

abbrev told : List ℕ → List Bool → TakenData
told numbers direct = record { numbers = numbers; direct = direct }

pub overflow_cast-have : goal.overflow_cast-have
overflow_cast-have c =
    let few : length c.args.free.items ≤ 8 = c.requires.few in
    let long : c.len-have.result ≡ length c.args.free.items = search rules in
    omega arith

pub returns-then-have-need : goal.returns-then-have-need
returns-then-have-need c =
    let have : c.len-have.result ≡ length c.args.free.items = search rules in
    let need : c.in-Ok.need ≡ length c.args.pins.now = search rules in
    too_few c.args.index.now.chip.now c.args.direct.now c.args.free.items c.args.pins.now c.in-Ok.need c.len-have.result need have c.if-have-need.true

pub returns : goal.returns
returns c =
    let have : c.len-have.result ≡ length c.args.free.items = search rules in
    let need : c.in-Ok.need ≡ length c.args.pins.now = search rules in
    let all : length c.args.pins.now ≤ length c.args.free.items = omega arith in
    let others = c.in_ok-numbers.ensures ∙ ap (other_choices c.args.direct.now) (c.deref.ensures.value ∙ c.in_ok-others.ensures) in
    enough c.args.index.now.chip.now c.args.direct.now c.args.free.items c.args.pins.now all
    ∙ ap₂ (λ numbers direct. Ok (told numbers direct)) (sym others) (sym c.in_ok-direct.ensures)
