-- What is asked of a netlist whose clocks are promoted.
use Rattle.std.specs.Prelude.{◌≡◌, ◌≢◌, ◌⊎◌, ℕ, ◌<◌, List, [], ◌∷◌, length, All, Option, None, Some}
use Rattle.ice_base.specs.Lines.{IsWord}
use Rattle.ice_base.specs.declared.number.SignalNo.{SignalNo}
use Rattle.ice_net.specs.NetlistData.{NetlistData}
use Rattle.ice_check_promote.specs.Promoted.{buffered_name, promoted}
use Rattle.ice_check_promote.specs.PromotionLaws.{most_cells_before}

-- the name does not end with a blank and `gb`, so no buffer's signal has it
abbrev pub IsPlainName : List ℕ → Type 0
IsPlainName name = (front : List ℕ) → name ≡ buffered_name front → ⊥

-- no signal has a buffer's name, and there is room for the buffers
pub record CanBePromoted (n : NetlistData) : Type 0 where
  pub plain : All IsPlainName n.names
  pub room : length n.cells < most_cells_before

-- the last byte of a name, or d without one
abbrev pub last_byte : ℕ → List ℕ → ℕ
last_byte d [] = d
last_byte d (b ∷ name) = last_byte b name

-- a word, or a name that ends otherwise than in `b` (98)
abbrev pub IsPromotableName : List ℕ → Type 0
IsPromotableName name = IsWord name ⊎ (last_byte 0 name ≢ 98)

-- that is so of a netlist with such names, as those of a text are
abbrev pub NamesCanBePromoted : Type 0
NamesCanBePromoted = (n : NetlistData) → All IsPromotableName n.names → length n.cells < most_cells_before → CanBePromoted n

-- what is made: the netlist with promoted clocks, or nothing where it is the netlist itself
abbrev pub IsPromotion : NetlistData → List SignalNo → ℕ → Option NetlistData → Type 0
IsPromotion n outer free None = promoted n outer free ≡ n
IsPromotion n outer free (Some made) = made ≡ promoted n outer free
