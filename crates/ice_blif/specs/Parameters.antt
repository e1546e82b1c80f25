-- The values of gates' parameters, or their faults.
use Rattle.std.specs.Prelude.{ℕ, Bool, true, List, Option, Some, None, if◌then◌else◌, codes, bytes_eq, ◌≡◌, ◌&&◌, ◌||◌, ◌==◌, [], ◌∷◌, length, Result, Ok, Err, nat_le, nat_lt}
use Rattle.std.specs.List.{list_all}
use Rattle.ice_net.specs.declared.kind.CellKind.{CellKind}
use Rattle.ice_net.specs.Kinds.{outs_count, ins_count}
use Rattle.ice_base.specs.declared.number.SignalNo.{SignalNo}
use Rattle.ice_net.specs.Formed.{IsFormedKind}
use Rattle.ice_blif.specs.declared.fault.BlifFault.{BlifFault}
use Rattle.ice_blif.specs.declared.fault.BlifFault.TheVariants.{BadParam}
use Rattle.ice_blif.specs.Gates.{with_param_digit}

-- a digit of a parameter: `0`, `1` or `x` (48, 49, 120)
abbrev pub is_digit : ℕ → Bool
is_digit b = b == 48 || b == 49 || b == 120

-- the number that digits write behind n, the greatest first: none where it has another digit, or digits other than 0 that
-- make it as great as the limit
abbrev pub bits_from : ℕ → ℕ → List ℕ → Option ℕ
bits_from limit n [] = Some n
bits_from limit n (digit ∷ digits) =
    if is_digit digit && nat_lt (with_param_digit n digit) limit then bits_from limit (with_param_digit n digit) digits else None

-- the value of 1 to 128 digits, where it is below the limit
abbrev pub bits_in : ℕ → List ℕ → Option ℕ
bits_in limit word = if nat_le 1 (length word) && nat_le (length word) 128 then bits_from limit 0 word else None

abbrev pub read_value : ℕ → Option ℕ → Result ℕ BlifFault
read_value line None = Err (BadParam line)
read_value line (Some n) = Ok n

-- the value of a parameter, which is one word: below the limit, 2 ^ w for a parameter of w bits
abbrev pub bits_say : ℕ → ℕ → List (List ℕ) → Result ℕ BlifFault
bits_say line limit (value ∷ []) = read_value line (bits_in limit value)
bits_say line limit values = Err (BadParam line)

-- IO_STANDARD: one word, and not that of a differential input
abbrev pub standard_says : ℕ → List (List ℕ) → Result Bool BlifFault
standard_says line (value ∷ []) = if bytes_eq value (codes "\"SB_LVDS_INPUT\"") then Err (BadParam line) else Ok true
standard_says line values = Err (BadParam line)

-- the contents of sixteen words of a RAM: 1 to 256 digits
abbrev pub is_contents : List ℕ → Bool
is_contents word = nat_le 1 (length word) && nat_le (length word) 256 && list_all is_digit word

abbrev pub contents_say : ℕ → List (List ℕ) → Result Bool BlifFault
contents_say line (value ∷ []) = if is_contents value then Ok true else Err (BadParam line)
contents_say line values = Err (BadParam line)

-- INIT_FILE: one word, which names no file
abbrev pub file_says : ℕ → List (List ℕ) → Result Bool BlifFault
file_says line (value ∷ []) = if bytes_eq value (codes "\"\"") then Ok true else Err (BadParam line)
file_says line values = Err (BadParam line)

-- a kind with another parameter has the same ports, and is as well formed
pub record KeepsForm (before now : CellKind) : Type 0 where
  pub ins : ins_count now ≡ ins_count before
  pub outs : outs_count now ≡ outs_count before
  pub kind : (signals : ℕ) (ins outs : List (Option SignalNo)) → IsFormedKind signals before ins outs → IsFormedKind signals now ins outs
