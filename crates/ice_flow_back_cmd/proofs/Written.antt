-- The netlist of bits can be written, and what its text says.
use Rattle.std.proofs.Common.{◌≡◌, ◌≢◌, ◌∙◌, ℕ, zero, suc, Bool, false, List, [], ◌∷◌, map, Option, None, Some, refl, sym, ap, subst, true≢false}
use Rattle.std.specs.List.{AllByRecursion}
use Rattle.std.specs.Prelude.{All, codes, slice_index_or}
use Rattle.std.proofs.lemmas.List.Elements.{All-from_recursion}
use Rattle.ice_base.specs.Text.{begins_with}
use Rattle.ice_base.specs.declared.number.SignalNo.{SignalNo}
use Rattle.ice_base_values.specs.Order.{Has}
use Rattle.ice_base_values.proofs.Together.{Has_head, Has_tail}
use Rattle.ice_chip.specs.Database.{Parts, PackageRows}
use Rattle.ice_chip.specs.IsRead.{IsRead}
use Rattle.ice_bits.specs.Configuration.{Configuration, bits_of}
use Rattle.ice_decode.specs.Meaning.{bits_show}
use Rattle.ice_net.specs.Meaning as net
use Rattle.ice_net.specs.NetlistData.{NetlistData}
use Rattle.ice_net.specs.declared.cell.Cell.{Cell}
use Rattle.ice_net.specs.declared.kind.CellKind.{CellKind}
use Rattle.ice_net.specs.declared.kind.CellKind.TheVariants.{Lut, Cover, Carry, Flop, PadCell, Global}
use Rattle.ice_chip_read_laws.specs.Pins.{HasWords}
use Rattle.ice_back_laws.specs.Back.{back_netlist}
use Rattle.ice_back_laws.specs.Numbers.{back_names}
use Rattle.ice_back_laws.proofs.Names.{names_are_words, none_begins_comment, none_begins_dollar}
use Rattle.ice_blif_laws.specs.SameNames.{SaysTheSame}
use Rattle.ice_blif_write.specs.RoundTrip.{IsName, IsDefined, AreDefined, IsDefinedCell, IsWritable, named_port}
use Rattle.ice_check.specs.Sound.{IsSound}
use Rattle.ice_flow_back_cmd.specs.Headline.{SaysBits}
use Rattle.ice_flow_back_cmd.proofs.PlainPads.{sound_is_plain}
use Rattle.ice_flow_back_cmd.proofs.PortNames.{ports_named}

-- what is true of each item of a list
each : {X : Type 0} (P : X → Type 0) (xs : List X) → ((x : X) → Has xs x → P x) → AllByRecursion P xs
each P [] is = tt
each P (x ∷ xs) is = (is x (Has_head x xs), each P xs (λ y there. is y (Has_tail x y xs there)))

-- ---- names that begin with no dollar, which is 36
abbrev HasNoDollar : List ℕ → Type 0
HasNoDollar name = begins_with 36 name ≡ false

module _ (names : List (List ℕ)) (plain : AllByRecursion HasNoDollar names) where
  not_undefined : (name : List ℕ) → HasNoDollar name → name ≢ codes "$undef"
  not_undefined name is e = true≢false (sym (ap (begins_with 36) e) ∙ is)

  no_undefined : (others : List (List ℕ)) → AllByRecursion HasNoDollar others → (k : ℕ) → slice_index_or others k [] ≢ codes "$undef"
  no_undefined [] all k = not_undefined [] refl
  no_undefined (name ∷ others) all zero = not_undefined name all.0
  no_undefined (name ∷ others) all (suc k) = no_undefined others all.1 k

  signal_defined : (s : Option SignalNo) → IsDefined names s
  signal_defined None = tt
  signal_defined (Some s) = no_undefined names plain s.0

  signals_defined : (signals : List (Option SignalNo)) → All (IsDefined names) signals
  signals_defined signals = All-from_recursion (IsDefined names) signals (each (IsDefined names) signals (λ s there. signal_defined s))

  outputs_defined : (kind : CellKind) (outs : List (Option SignalNo)) → AreDefined names kind outs
  outputs_defined (Lut table) outs = signals_defined outs
  outputs_defined (Cover table width) outs = tt
  outputs_defined Carry outs = signals_defined outs
  outputs_defined (Flop falling enable reset) outs = signals_defined outs
  outputs_defined (PadCell pin_type pullup) outs = signals_defined outs
  outputs_defined Global outs = signals_defined outs

  cells_defined : (cells : List Cell) → All (IsDefinedCell names) cells
  cells_defined cells = All-from_recursion (IsDefinedCell names) cells (each (IsDefinedCell names) cells (λ c there. outputs_defined c.kind c.outs))

-- the netlist of bits can be written
module _ (parts : Parts) (k : Configuration) (rows : PackageRows) (read : IsRead parts) (has : Has parts.packages rows) (words : HasWords rows) where
  abbrev whole : NetlistData
  whole = back_netlist parts (bits_of k) k.extras rows

  name_fits : (z : List ℕ) → Has (back_names parts rows) z → IsName z
  name_fits z there = record { word = names_are_words parts read rows has words z there; no_comment = none_begins_comment parts read rows has z there }

  writable : IsSound whole → IsWritable whole
  writable sound = record {
    names = All-from_recursion IsName whole.names (each IsName whole.names name_fits);
    outputs = cells_defined whole.names (each HasNoDollar whole.names (none_begins_dollar parts read rows has)) whole.cells;
    plain = sound_is_plain whole sound;
  }

  pub can_be_written : (n : NetlistData) → n ≡ whole → IsSound n → IsWritable n
  can_be_written n e sound = subst (λ (m : NetlistData). IsWritable m) (sym e) (writable (subst (λ (m : NetlistData). IsSound m) e sound))

  -- a text that says the same says the bits
  pub says_bits : (n : NetlistData) (text : List ℕ) → n ≡ whole
      → ((levels : List (List Bool)) → net.shows n levels ≡ bits_show parts (bits_of k) k.extras rows.pads rows.pads levels) → SaysTheSame text n → SaysBits parts k rows text
  says_bits n text e shows is = record {
    netlist = is.said;
    is_said = is.is_said;
    is_sound = is.sound;
    ports_are_pads = is.by_names.ports ∙ ap (λ (m : NetlistData). map (named_port m.names) m.ports) e ∙ ports_named parts rows;
    shows_same = λ levels. is.shows_same levels ∙ shows levels;
  }
