-- A heading that the reader takes opens the section that the text opens.
use Rattle.std.proofs.Common.{◌≡◌, ◌∙◌, ℕ, ◌==◌, ◌&&◌, ◌||◌, Bool, true, false, Option, None, Some, List, [], ◌∷◌, length, IfOk, Ok, Err, refl, ap, nat_eq, bytes_eq, if◌then◌else◌}
use Rattle.std.specs.Prelude.{codes}
use Rattle.std.specs.Map.{lookup}
use Rattle.ice_base.specs.Places.{tile_at, bits_named}
use Rattle.ice_base.specs.declared.bit.BitAt.{BitAt}
use Rattle.ice_base.specs.declared.number.TileAt.{TileAt}
use Rattle.ice_chip.specs.Database.{columns, tile_known}
use Rattle.ice_chip.specs.declared.fault.ChipFault.TheVariants.{BadBit, OutOfRange}
use Rattle.ice_chip.specs.declared.rows.TileLine.{TileLine}
use Rattle.ice_chip.specs.declared.rows.TileKind.TheVariants.{Io, Logic, RamBottom, RamTop}
use Rattle.ice_chip_read.specs.declared.section.Section.TheVariants as section
use Rattle.ice_chip_read.specs.declared.section.Heading.{Heading}
use Rattle.ice_chip_read.specs.declared.section.Heading.TheVariants as heading
use Rattle.ice_chip_read.specs.Words.{number, two, three, no_word_left, heading_of}
use Rattle.ice_chip_read.specs.Lines.{tile_in, wire_in, unseen, sizes_in, new_tile, bits_at, group_bits, heading_says}
use Rattle.ice_chip_read.specs.Reading.{Reading}
use Rattle.ice_chip_read_laws.specs.ChipText.{OpenSection, Plain, ChipSoFar, of_numbers, gbufin_row, gbufpin_row, ieren_row, colbuf_row, extra_bits_row, bits_row, section_opens, tile_opens, pins_open, net_opens, buffer_opens, heading_opens}
use Rattle.ice_chip_read_laws.proofs.Named.{bind, bind_meeting}
use Rattle.ice_chip_read_laws.proofs.TextWords.{IsOne, AreTwo, AreThree, one_read, two_read, three_read, none_left, tile_read, wire_read, bits_read, tile_of_two}
use Rattle.ice_chip_read_laws.proofs.TextSections.{seen}

-- ---- headings
-- what a heading opens, by what the reader calls it
abbrev pub heading_by : Heading → ℕ → List (List ℕ) → ChipSoFar → Option ChipSoFar
heading_by heading.Device line words r = None
heading_by heading.Pins line words r = pins_open words r
heading_by heading.BufferInputs line words r = section_opens (Plain (of_numbers gbufin_row)) r
heading_by heading.BufferPins line words r = section_opens (Plain (of_numbers gbufpin_row)) r
heading_by heading.ExtraBits line words r = section_opens (Plain extra_bits_row) r
heading_by heading.InputEnables line words r = section_opens (Plain (of_numbers ieren_row)) r
heading_by heading.ColumnBuffers line words r = section_opens (Plain (of_numbers colbuf_row)) r
heading_by (heading.Tile kind) line words r = tile_opens kind line words r
heading_by (heading.Bits kind) line words r = section_opens (Plain (bits_row kind)) r
heading_by heading.Net line words r = net_opens words r
heading_by heading.Switches line words r = buffer_opens line words r
heading_by heading.Other line words r = section_opens (Plain (λ line words parts. Some parts)) r

chosen : {X Y : Type 0} (f : X → Y) (b : Bool) (x other : X) (y : Y) → y ≡ f other → (if b then f x else y) ≡ f (if b then x else other)
chosen f true x other y e = refl
chosen f false x other y e = e

pub heading_alike : (line : ℕ) (name : List ℕ) (words : List (List ℕ)) (r : ChipSoFar) → heading_opens line name words r ≡ heading_by (heading_of name) line words r
heading_alike line name words r =
    chosen by (bytes_eq name (codes ".buffer") || bytes_eq name (codes ".routing")) heading.Switches _ _
    (chosen by (bytes_eq name (codes ".net")) heading.Net _ _
    (chosen by (bytes_eq name (codes ".device")) heading.Device _ _
    (chosen by (bytes_eq name (codes ".pins")) heading.Pins _ _
    (chosen by (bytes_eq name (codes ".gbufin")) heading.BufferInputs _ _
    (chosen by (bytes_eq name (codes ".gbufpin")) heading.BufferPins _ _
    (chosen by (bytes_eq name (codes ".extra_bits")) heading.ExtraBits _ _
    (chosen by (bytes_eq name (codes ".ieren")) heading.InputEnables _ _
    (chosen by (bytes_eq name (codes ".colbuf")) heading.ColumnBuffers _ _
    (chosen by (bytes_eq name (codes ".io_tile")) (heading.Tile Io) _ _
    (chosen by (bytes_eq name (codes ".logic_tile")) (heading.Tile Logic) _ _
    (chosen by (bytes_eq name (codes ".ramb_tile")) (heading.Tile RamBottom) _ _
    (chosen by (bytes_eq name (codes ".ramt_tile")) (heading.Tile RamTop) _ _
    (chosen by (bytes_eq name (codes ".io_tile_bits")) (heading.Bits Io) _ _
    (chosen by (bytes_eq name (codes ".logic_tile_bits")) (heading.Bits Logic) _ _
    (chosen by (bytes_eq name (codes ".ramb_tile_bits")) (heading.Bits RamBottom) _ _
    (chosen by (bytes_eq name (codes ".ramt_tile_bits")) (heading.Bits RamTop) heading.Other _ refl))))))))))))))))
  where
    by : Heading → Option ChipSoFar
    by h = heading_by h line words r

group_read : (line : ℕ) (ws : List (List ℕ)) → IfOk (group_bits line ws) (λ (bits : List BitAt). bits_named 54 ws ≡ Some bits)
group_read line ws =
    bind_meeting (λ (bits : List BitAt). bits_named 54 ws ≡ Some bits) (λ (bits : List BitAt). bits_named 54 ws ≡ Some bits) (bits_at line (bits_named 54 ws)) _ (bits_read line (bits_named 54 ws)) (λ bits is. by bits is (length bits == 0))
  where
    by : (bits : List BitAt) → bits_named 54 ws ≡ Some bits → (b : Bool) → IfOk (if b then Err (BadBit line) else Ok bits) (λ (known : List BitAt). bits_named 54 ws ≡ Some known)
    by bits is true = tt
    by bits is false = is

module _ (r : Reading) (before : OpenSection) (line : ℕ) where
  abbrev here : ChipSoFar
  here = record { ended = r.parts; section = before; switches = r.rows }

  abbrev Opened : Heading → List (List ℕ) → Reading → Type 0
  Opened h ws m = heading_by h line ws here ≡ Some (seen m)

  pub heading_said : (h : Heading) (ws : List (List ℕ)) → IfOk (heading_says r line h ws) (Opened h ws)
  heading_said heading.Device ws = bind (Opened heading.Device ws) (sizes_in line ws) _ (λ sizes. tt)
  heading_said heading.Pins [] = tt
  heading_said heading.Pins (name ∷ []) = refl
  heading_said heading.Pins (name ∷ w ∷ ws) = tt
  heading_said heading.BufferInputs [] = refl
  heading_said heading.BufferInputs (w ∷ ws) = tt
  heading_said heading.BufferPins [] = refl
  heading_said heading.BufferPins (w ∷ ws) = tt
  heading_said heading.ExtraBits [] = refl
  heading_said heading.ExtraBits (w ∷ ws) = tt
  heading_said heading.InputEnables [] = refl
  heading_said heading.InputEnables (w ∷ ws) = tt
  heading_said heading.ColumnBuffers [] = refl
  heading_said heading.ColumnBuffers (w ∷ ws) = tt
  heading_said (heading.Tile kind) ws =
      bind_meeting (Opened (heading.Tile kind) ws) (λ (a : (ℕ × ℕ) × List (List ℕ)). AreTwo ws a.1 a.0.0 a.0.1) (two line ws) _ (two_read line ws) (λ a said.
      bind_meeting (Opened (heading.Tile kind) ws) (λ (u : Unit {0}). a.1 ≡ []) (no_word_left line a.1) _ (none_left line a.1) (λ u none.
      bind_meeting (Opened (heading.Tile kind) ws) (λ (tile : TileAt). tile ≡ tile_at a.0.0 a.0.1) (tile_in line r.parts a.0.0 a.0.1) _ (tile_read line r.parts a.0.0 a.0.1) (λ tile is.
      by a said none tile is (tile_known r.parts.tiles tile))))
    where
      by : (a : (ℕ × ℕ) × List (List ℕ)) → AreTwo ws a.1 a.0.0 a.0.1 → a.1 ≡ [] → (tile : TileAt) → tile ≡ tile_at a.0.0 a.0.1 → (old : Option TileLine)
          → IfOk (new_tile r line kind tile old) (Opened (heading.Tile kind) ws)
      by a said none tile is None =
          ap (λ (words : List (List ℕ)). tile_opens kind line words here) (said.is ∙ ap (λ (rest : List (List ℕ)). said.v ∷ said.w ∷ rest) none)
          ∙ (rw (tile_of_two said.v said.w a.0.0 a.0.1 said.first said.second) (rw is refl))
      by a said none tile is (Some old) = tt
  heading_said (heading.Bits kind) ws =
      bind (Opened (heading.Bits kind) ws) (two line ws) _ (λ a. bind (Opened (heading.Bits kind) ws) (no_word_left line a.1) _ (λ u. by ((a.0.0 == columns kind) && (a.0.1 == 16))))
    where
      by : (b : Bool) → IfOk (if b then Ok (record r { open_section = section.Bits kind }) else Err (OutOfRange line)) (Opened (heading.Bits kind) ws)
      by true = refl
      by false = tt
  heading_said heading.Net ws =
      bind_meeting (Opened heading.Net ws) (λ (a : ℕ × List (List ℕ)). IsOne ws a.1 a.0) (number line ws) _ (one_read line ws) (λ a said.
      bind_meeting (Opened heading.Net ws) (λ (u : Unit {0}). a.1 ≡ []) (no_word_left line a.1) _ (none_left line a.1) (λ u none.
      bind_meeting (Opened heading.Net ws) (λ (wire : ℕ). wire ≡ a.0) (wire_in line r.parts a.0) _ (wire_read line r.parts a.0) (λ wire is.
      bind (Opened heading.Net ws) (unseen line (lookup (nat_eq wire) r.nets)) _ (λ v.
      ap (λ (words : List (List ℕ)). net_opens words here) (said.is ∙ ap (λ (rest : List (List ℕ)). said.w ∷ rest) none) ∙ (rw said.says (rw is refl))))))
  heading_said heading.Switches ws =
      bind_meeting (Opened heading.Switches ws) (λ (a : (ℕ × ℕ × ℕ) × List (List ℕ)). AreThree ws a.1 a.0.0 a.0.1 a.0.2) (three line ws) _ (three_read line ws) (λ a said.
      bind_meeting (Opened heading.Switches ws) (λ (tile : TileAt). tile ≡ tile_at a.0.0 a.0.1) (tile_in line r.parts a.0.0 a.0.1) _ (tile_read line r.parts a.0.0 a.0.1) (λ tile is.
      bind_meeting (Opened heading.Switches ws) (λ (wire : ℕ). wire ≡ a.0.2) (wire_in line r.parts a.0.2) _ (wire_read line r.parts a.0.2) (λ wire same.
      bind_meeting (Opened heading.Switches ws) (λ (bits : List BitAt). bits_named 54 a.1 ≡ Some bits) (group_bits line a.1) _ (group_read line a.1) (λ bits known.
      ap (λ (words : List (List ℕ)). buffer_opens line words here) said.is
      ∙ (rw (tile_of_two said.u said.v a.0.0 a.0.1 said.first said.second) (rw said.third (rw known (rw is (rw same refl)))))))))
  heading_said heading.Other ws = refl
