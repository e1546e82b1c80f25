-- What is read of a text of pin constraints, and what the text says.
use Rattle.std.specs.Prelude.{◌≡◌, ℕ, List, map, Ok}
use Rattle.ice_pcf.specs.Grammar.{pin_text_says}
use Rattle.ice_pcf.specs.declared.constraint.Constraint.{Constraint}
use Rattle.ice_flow_build_cmd.specs.Pinned.{pins_set}

-- the name and the pin of a constraint that is read
abbrev pub pair_of : Constraint → List ℕ × List ℕ
pair_of c = (c.name, c.pin)

-- a text that the reader takes says the names and pins of the constraints that the reader makes of it
abbrev pub PinTextsSetPins : Type 0
PinTextsSetPins = (text : List ℕ) (constraints : List Constraint) → pin_text_says text ≡ Ok constraints
    → pins_set text ≡ map pair_of constraints
