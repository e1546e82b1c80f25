-- Slots: the places of the array that has the levels of a run. Each signal has the slot of its number. Behind the signals stand a
-- slot that is always 0 and one that is always 1.
use Rattle.std.specs.Prelude.{ℕ, ◌+◌, Bool, true, false, List, Option, Some, None, slice_index_or}
use Rattle.ice_base.specs.declared.number.SignalNo.{SignalNo}
use Rattle.ice_sim_sweep.specs.declared.parts.Gate.{Gate}

-- the slot of an input: its signal's, or `bare` where it is missing
abbrev pub slot_of : ℕ → Option SignalNo → ℕ
slot_of bare None = bare
slot_of bare (Some signal) = signal.0

-- the slot of the input at a place
abbrev pub slot_at : ℕ → List (Option SignalNo) → ℕ → ℕ
slot_at bare ins k = slot_of bare (slice_index_or ins k None)

-- the level in a slot
abbrev pub level_at : List Bool → ℕ → Bool
level_at levels slot = slice_index_or levels slot false

-- the table over the inputs of a cell; behind the inputs of a cell that has fewer than four all are missing
abbrev pub gate_of : ℕ → ℕ → List (Option SignalNo) → ℕ → Gate
gate_of signals table ins out = record {
  table = table;
  first = slot_at signals ins 0;
  second = slot_at signals ins 1;
  third = slot_at signals ins 2;
  fourth = slot_at signals ins 3;
  out = out;
}

-- the slot of a flip-flop's enable, if it has one
abbrev pub enable_slot : ℕ → Bool → List (Option SignalNo) → ℕ
enable_slot signals true ins = slot_at (signals + 1) ins 2
enable_slot signals false ins = signals + 1

-- the slot of a flip-flop's set or reset, which stands behind the enable
abbrev pub set_slot : ℕ → Bool → List (Option SignalNo) → ℕ
set_slot signals true ins = slot_at signals ins 3
set_slot signals false ins = slot_at signals ins 2
