-- What `back` makes of its texts.
use Rattle.std.specs.Prelude.{◌≡◌, ℕ, List}
use Rattle.ice_place.specs.declared.arrangement.Arrangement.{Arrangement}
use Rattle.ice_bits.specs.Configuration.{bits_of}
use Rattle.ice_back_laws.specs.Back.{back_netlist}
use Rattle.ice_blif_write.specs.Text.{blif_text}
use Rattle.ice_flow_frame.specs.Causes.{no_arrangement}
use Rattle.ice_flow_frame.specs.Told.{Told, nothing_told}
use Rattle.ice_flow_frame.specs.Texts.{text_at}
use Rattle.ice_flow_back_cmd.specs.Headline.{IsShown}

-- the text of the netlist that the bits make, which says the bits
pub record IsNetlistOfBits (name : List ℕ) (texts : List (List ℕ)) (text : List ℕ) : Type 0 where
  pub is_shown : IsShown name texts text
  pub is_text : text ≡ blif_text (back_netlist is_shown.parts (bits_of is_shown.configuration) is_shown.configuration.extras is_shown.bonded)

-- what is made of the texts; nothing is placed or routed
abbrev pub IsMadeByBack : List ℕ → List (List ℕ) → List (List ℕ) → Arrangement → Told → Type 0
IsMadeByBack name texts made arrangement told = IsNetlistOfBits name texts (text_at made 1) × (arrangement ≡ no_arrangement) × (told ≡ nothing_told)
