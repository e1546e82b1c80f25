-- How large a netlist may be.
use Rattle.std.specs.Prelude.{ℕ}

-- the most signals of a netlist that is placed
abbrev pub most_signals : ℕ
most_signals = 65534
