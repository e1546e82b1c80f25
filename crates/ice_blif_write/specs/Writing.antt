-- What the writer asks of the kind of a cell whose lines it writes.
use Rattle.std.specs.Prelude.{◌≤◌}
use Rattle.ice_net.specs.declared.kind.CellKind.{CellKind}
use Rattle.ice_net.specs.declared.kind.CellKind.TheVariants.{Lut, Cover, Carry, Flop, PadCell, Global}

-- a cover is of at most four inputs
abbrev pub IsFormedBelow : CellKind → Type 0
IsFormedBelow (Lut table) = Unit {0}
IsFormedBelow (Cover table width) = width ≤ 4
IsFormedBelow Carry = Unit {0}
IsFormedBelow (Flop falling enable reset) = Unit {0}
IsFormedBelow (PadCell pin_type pullup) = Unit {0}
IsFormedBelow Global = Unit {0}
