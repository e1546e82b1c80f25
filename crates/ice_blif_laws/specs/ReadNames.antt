-- The names of netlists that were read.
use Rattle.std.specs.Prelude.{◌≡◌, ◌⊎◌, ℕ, List, All, Ok, codes}
use Rattle.ice_base.specs.Lines.{IsWord}
use Rattle.ice_net.specs.NetlistData.{NetlistData}
use Rattle.ice_blif.specs.Grammar.{netlist_of}
use Rattle.ice_blif.specs.Registers.{hidden_name}

-- the name of a hidden signal: the number of a line, a blank and `in` or `out`
pub record IsHidden (name : List ℕ) : Type 0 where
  pub line : ℕ
  pub is : (name ≡ hidden_name line (codes "in")) ⊎ (name ≡ hidden_name line (codes "out"))

-- a word, or the name of a hidden signal
abbrev pub IsReadName : List ℕ → Type 0
IsReadName name = IsWord name ⊎ IsHidden name

-- each name of the netlist of a text is a word or hidden
abbrev pub ReadNamesAreKnown : Type 0
ReadNamesAreKnown = (text : List ℕ) (n : NetlistData) → netlist_of text ≡ Ok n → All IsReadName n.names
