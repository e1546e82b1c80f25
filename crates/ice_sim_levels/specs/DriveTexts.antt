-- Texts of drives: for each step one line, with one byte for each port.
use Rattle.std.specs.Prelude.{ℕ, List, [], ◌∷◌, ◌++◌, map}
use Rattle.ice_net.specs.declared.driver.Drive.{Drive}
use Rattle.ice_net.specs.declared.driver.Drive.TheVariants.{Off, Low, High}

-- `.`, `0` or `1`
abbrev pub drive_byte : Drive → ℕ
drive_byte Off = 46
drive_byte Low = 48
drive_byte High = 49

-- a step's line, which ends with a line feed
abbrev pub drives_line : List Drive → List ℕ
drives_line drives = map drive_byte drives ++ 10 ∷ []

-- the lines of all steps
abbrev pub drives_text : List (List Drive) → List ℕ
drives_text [] = []
drives_text (drives ∷ steps) = drives_line drives ++ drives_text steps
