use Rattle.ice_chip_laws.specs.Example.{example}
use Rattle.ice_chip_laws.proofs.ExampleLaws.{example_is_chip, finds_example}
use Rattle.ice_chip_laws.proofs.example.worked_example.Goals as goal

pub returns : goal.returns
returns c = record { chip = example_is_chip; lawful = c.lookups_are_lawful.ensures example example_is_chip; found = finds_example }
