-- The index of names as the definitions see it.
use Rattle.std.specs.Prelude.{[]}
use Rattle.ice_base.specs.Keys.{texts}
use Rattle.ice_chip.specs.Indices.{Numbered}
use Rattle.ice_chip.specs.declared.names.NameIndex.{NameIndex}

abbrev pub numbered_of : NameIndex → Numbered
numbered_of names = record { texts = texts names.texts.keys; wires = names.wires.entries }

abbrev pub no_names : Numbered
no_names = record { texts = []; wires = [] }
