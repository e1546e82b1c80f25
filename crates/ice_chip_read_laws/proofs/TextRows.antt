-- A row that the reader takes joins what the text says.
use Rattle.std.proofs.Common.{◌≡◌, ◌∙◌, ℕ, ◌+◌, ◌==◌, ◌||◌, Bool, true, false, Option, None, Some, List, [], ◌∷◌, ◌++◌, length, option_map, IfOk, Ok, Err, refl, ap, subst, nat_lt, bytes_eq, if◌then◌else◌}
use Rattle.std.specs.Prelude.{is_some}
use Rattle.std.specs.Map.{lookup}
use Rattle.std.specs.Option.{option_and_then, option_map_or}
use Rattle.indexmap.specs.IndexSet.{insert_key}
use Rattle.ice_base.specs.Places.{tile_at, bits_named, values_in}
use Rattle.ice_base.specs.declared.bit.BitAt.{BitAt}
use Rattle.ice_base.specs.declared.number.TileAt.{TileAt}
use Rattle.ice_chip.specs.Database.{Parts, SwitchGroup, PackageRows, columns, same_pad}
use Rattle.ice_chip.specs.Limits.{most_rows}
use Rattle.ice_chip.specs.Functions.{is_read, is_foreign, function_line}
use Rattle.ice_chip.specs.declared.fault.ChipFault.TheVariants.{BadValues, TooMany}
use Rattle.ice_chip.specs.declared.rows.Pad.{Pad}
use Rattle.ice_chip.specs.declared.rows.TileKind.{TileKind}
use Rattle.ice_chip_read.specs.declared.section.Section.{Section}
use Rattle.ice_chip_read.specs.declared.section.Section.TheVariants as section
use Rattle.ice_chip_read.specs.Faults.{◌>>=◌}
use Rattle.ice_chip_read.specs.Words.{number, two, three, no_word_left}
use Rattle.ice_chip.specs.Names.{padin_global}
use Rattle.ice_chip_read.specs.Lines.{tile_in, pad_in, wire_in, global_in, unseen, one_word, bits_at, with_pin, kept_function, extra_row, known_values, values_at, with_row, row_says}
use Rattle.ice_chip_read.specs.Reading.{Reading}
use Rattle.ice_chip_read_laws.specs.ChipText.{Package, Group, Plain, all_numbers, pad_said, of_numbers, gbufin_row, gbufpin_row, ieren_row, colbuf_row, padin_row, extra_bits_row, bits_row, net_row, pin_joins, pins_row, buffer_row, row_joins}
use Rattle.ice_chip_read_laws.proofs.Named.{bind, bind_meeting}
use Rattle.ice_chip_read_laws.proofs.TextWords.{IsOne, AreTwo, AreThree, one_read, two_read, three_read, none_left, one_left, tile_read, pad_read, wire_read, global_read, bits_read, tile_of_two, three_numbers, four_numbers, two_pairs, six_numbers}
use Rattle.ice_chip_read_laws.proofs.TextSections.{section_of, seen}

-- ---- rows
-- a row of a section that is by itself joins the database
alone : (r : Reading) (row : ℕ → List (List ℕ) → Parts → Option Parts) (line : ℕ) (words : List (List ℕ)) (more : Parts) → row line words r.parts ≡ Some more
    → row_joins line words (seen r) (Plain row) ≡ Some (record (seen r) { ended = more })
alone r row line words more e = ap (option_map (λ (parts : Parts). record (seen r) { ended = parts })) e

by_numbers : (row : List ℕ → Parts → Option Parts) (line : ℕ) (words : List (List ℕ)) (numbers : List ℕ) (parts more : Parts)
    → all_numbers words ≡ Some numbers → row numbers parts ≡ Some more → of_numbers row line words parts ≡ Some more
by_numbers row line words numbers parts more e said = ap (option_and_then (λ (ns : List ℕ). row ns parts)) e ∙ said

module _ (r : Reading) (line : ℕ) (w : List ℕ) (ws : List (List ℕ)) where
  -- the reading with this section open
  abbrev in_section : Section → Reading
  in_section s = record r { open_section = s }

  abbrev Joined : Section → Reading → Type 0
  Joined s m = row_joins line (w ∷ ws) (seen (in_section s)) (section_of s r.group r.pins) ≡ Some (seen m)

  gbufin_said : IfOk (row_says (in_section section.BufferInputs) line section.BufferInputs w ws) (Joined section.BufferInputs)
  gbufin_said =
      bind_meeting (Joined section.BufferInputs) (λ (a : (ℕ × ℕ × ℕ) × List (List ℕ)). AreThree (w ∷ ws) a.1 a.0.0 a.0.1 a.0.2) (three line (w ∷ ws)) _ (three_read line (w ∷ ws)) (λ a said.
      bind_meeting (Joined section.BufferInputs) (λ (u : Unit {0}). a.1 ≡ []) (no_word_left line a.1) _ (none_left line a.1) (λ u none.
      bind_meeting (Joined section.BufferInputs) (λ (tile : TileAt). tile ≡ tile_at a.0.0 a.0.1) (tile_in line r.parts a.0.0 a.0.1) _ (tile_read line r.parts a.0.0 a.0.1) (λ tile is.
      bind_meeting (Joined section.BufferInputs) (λ (g : ℕ). g ≡ a.0.2) (global_in line a.0.2) _ (global_read line a.0.2) (λ global same.
      let numbers = three_numbers (w ∷ ws) a.0.0 a.0.1 a.0.2 (subst (λ (rest : List (List ℕ)). AreThree (w ∷ ws) rest a.0.0 a.0.1 a.0.2) none said) in
      alone (in_section section.BufferInputs) (of_numbers gbufin_row) line (w ∷ ws) _
      (by_numbers gbufin_row line (w ∷ ws) (a.0.0 ∷ a.0.1 ∷ a.0.2 ∷ []) r.parts _ numbers (rw is (rw same refl)))))))

  gbufpin_said : IfOk (row_says (in_section section.BufferPins) line section.BufferPins w ws) (Joined section.BufferPins)
  gbufpin_said =
      bind_meeting (Joined section.BufferPins) (λ (a : (ℕ × ℕ × ℕ) × List (List ℕ)). AreThree (w ∷ ws) a.1 a.0.0 a.0.1 a.0.2) (three line (w ∷ ws)) _ (three_read line (w ∷ ws)) (λ a said.
      bind_meeting (Joined section.BufferPins) (λ (b : ℕ × List (List ℕ)). IsOne a.1 b.1 b.0) (number line a.1) _ (one_read line a.1) (λ b next.
      bind_meeting (Joined section.BufferPins) (λ (u : Unit {0}). b.1 ≡ []) (no_word_left line b.1) _ (none_left line b.1) (λ u none.
      bind_meeting (Joined section.BufferPins) (λ (pad : Pad). pad ≡ pad_said a.0.0 a.0.1 a.0.2) (pad_in line r.parts a.0.0 a.0.1 a.0.2) _ (pad_read line r.parts a.0.0 a.0.1 a.0.2) (λ pad is.
      bind_meeting (Joined section.BufferPins) (λ (g : ℕ). g ≡ b.0) (global_in line b.0) _ (global_read line b.0) (λ global same.
      let numbers = four_numbers (w ∷ ws) a.1 a.0.0 a.0.1 a.0.2 b.0 said (subst (λ (rest : List (List ℕ)). IsOne a.1 rest b.0) none next) in
      alone (in_section section.BufferPins) (of_numbers gbufpin_row) line (w ∷ ws) _
      (by_numbers gbufpin_row line (w ∷ ws) (a.0.0 ∷ a.0.1 ∷ a.0.2 ∷ b.0 ∷ []) r.parts _ numbers (rw is (rw same refl))))))))

  ieren_said : IfOk (row_says (in_section section.InputEnables) line section.InputEnables w ws) (Joined section.InputEnables)
  ieren_said =
      bind_meeting (Joined section.InputEnables) (λ (a : (ℕ × ℕ × ℕ) × List (List ℕ)). AreThree (w ∷ ws) a.1 a.0.0 a.0.1 a.0.2) (three line (w ∷ ws)) _ (three_read line (w ∷ ws)) (λ a said.
      bind_meeting (Joined section.InputEnables) (λ (b : (ℕ × ℕ × ℕ) × List (List ℕ)). AreThree a.1 b.1 b.0.0 b.0.1 b.0.2) (three line a.1) _ (three_read line a.1) (λ b next.
      bind_meeting (Joined section.InputEnables) (λ (u : Unit {0}). b.1 ≡ []) (no_word_left line b.1) _ (none_left line b.1) (λ u none.
      bind_meeting (Joined section.InputEnables) (λ (pad : Pad). pad ≡ pad_said a.0.0 a.0.1 a.0.2) (pad_in line r.parts a.0.0 a.0.1 a.0.2) _ (pad_read line r.parts a.0.0 a.0.1 a.0.2) (λ pad is.
      bind_meeting (Joined section.InputEnables) (λ (pad : Pad). pad ≡ pad_said b.0.0 b.0.1 b.0.2) (pad_in line r.parts b.0.0 b.0.1 b.0.2) _ (pad_read line r.parts b.0.0 b.0.1 b.0.2) (λ enable same.
      let numbers = six_numbers (w ∷ ws) a.1 a.0.0 a.0.1 a.0.2 b.0.0 b.0.1 b.0.2 said (subst (λ (rest : List (List ℕ)). AreThree a.1 rest b.0.0 b.0.1 b.0.2) none next) in
      alone (in_section section.InputEnables) (of_numbers ieren_row) line (w ∷ ws) _
      (by_numbers ieren_row line (w ∷ ws) (a.0.0 ∷ a.0.1 ∷ a.0.2 ∷ b.0.0 ∷ b.0.1 ∷ b.0.2 ∷ []) r.parts _ numbers (rw is (rw same refl))))))))

  colbuf_said : IfOk (row_says (in_section section.ColumnBuffers) line section.ColumnBuffers w ws) (Joined section.ColumnBuffers)
  colbuf_said =
      bind_meeting (Joined section.ColumnBuffers) (λ (a : (ℕ × ℕ) × List (List ℕ)). AreTwo (w ∷ ws) a.1 a.0.0 a.0.1) (two line (w ∷ ws)) _ (two_read line (w ∷ ws)) (λ a said.
      bind_meeting (Joined section.ColumnBuffers) (λ (b : (ℕ × ℕ) × List (List ℕ)). AreTwo a.1 b.1 b.0.0 b.0.1) (two line a.1) _ (two_read line a.1) (λ b next.
      bind_meeting (Joined section.ColumnBuffers) (λ (u : Unit {0}). b.1 ≡ []) (no_word_left line b.1) _ (none_left line b.1) (λ u none.
      bind_meeting (Joined section.ColumnBuffers) (λ (tile : TileAt). tile ≡ tile_at a.0.0 a.0.1) (tile_in line r.parts a.0.0 a.0.1) _ (tile_read line r.parts a.0.0 a.0.1) (λ source is.
      bind_meeting (Joined section.ColumnBuffers) (λ (tile : TileAt). tile ≡ tile_at b.0.0 b.0.1) (tile_in line r.parts b.0.0 b.0.1) _ (tile_read line r.parts b.0.0 b.0.1) (λ served same.
      let numbers = two_pairs (w ∷ ws) a.1 a.0.0 a.0.1 b.0.0 b.0.1 said (subst (λ (rest : List (List ℕ)). AreTwo a.1 rest b.0.0 b.0.1) none next) in
      alone (in_section section.ColumnBuffers) (of_numbers colbuf_row) line (w ∷ ws) _
      (by_numbers colbuf_row line (w ∷ ws) (a.0.0 ∷ a.0.1 ∷ b.0.0 ∷ b.0.1 ∷ []) r.parts _ numbers (rw is (rw same refl))))))))

  -- by the global that the name tells, if it tells one
  extra_said : (o : Option ℕ) → padin_global w ≡ o → IfOk (extra_row (in_section section.ExtraBits) line o ws) (Joined section.ExtraBits)
  extra_said None e = alone (in_section section.ExtraBits) extra_bits_row line (w ∷ ws) r.parts (rw e refl)
  extra_said (Some n) e =
      bind_meeting (Joined section.ExtraBits) (λ (a : (ℕ × ℕ × ℕ) × List (List ℕ)). AreThree ws a.1 a.0.0 a.0.1 a.0.2) (three line ws) _ (three_read line ws) (λ a said.
      bind_meeting (Joined section.ExtraBits) (λ (u : Unit {0}). a.1 ≡ []) (no_word_left line a.1) _ (none_left line a.1) (λ u none.
      bind_meeting (Joined section.ExtraBits) (λ (g : ℕ). g ≡ n) (global_in line n) _ (global_read line n) (λ global same.
      let numbers = three_numbers ws a.0.0 a.0.1 a.0.2 (subst (λ (rest : List (List ℕ)). AreThree ws rest a.0.0 a.0.1 a.0.2) none said) in
      alone (in_section section.ExtraBits) extra_bits_row line (w ∷ ws) _
      (ap (λ (o : Option ℕ). option_map_or (λ global. of_numbers (padin_row global) line ws r.parts) o (Some r.parts)) e
      ∙ by_numbers (padin_row n) line ws (a.0.0 ∷ a.0.1 ∷ a.0.2 ∷ []) r.parts _ numbers (rw same refl)))))

  -- by whether the function is read, and whether it is kept
  kept_said : (kind : TileKind) → is_read kind w || is_foreign kind w ≡ true → IfOk (kept_function (in_section (section.Bits kind)) line kind w ws) (Joined (section.Bits kind))
  kept_said kind e =
      bind_meeting (Joined (section.Bits kind)) (λ (bits : List BitAt). bits_named (columns kind) ws ≡ Some bits) (bits_at line (bits_named (columns kind) ws)) _ (bits_read line (bits_named (columns kind) ws)) (λ bits is.
      alone (in_section (section.Bits kind)) (bits_row kind) line (w ∷ ws) _ (rw e (rw is refl)))

  function_said : (kind : TileKind) (b c : Bool) → is_read kind w ≡ b → is_foreign kind w ≡ c
      → IfOk (if b then (unseen line (function_line kind w r.parts.functions) >>= (λ u. kept_function (in_section (section.Bits kind)) line kind w ws)) else (if c then kept_function (in_section (section.Bits kind)) line kind w ws else Ok (in_section (section.Bits kind)))) (Joined (section.Bits kind))
  function_said kind true c e f = bind (Joined (section.Bits kind)) (unseen line (function_line kind w r.parts.functions)) _ (λ u. kept_said kind (rw e refl))
  function_said kind false true e f = kept_said kind (rw e (rw f refl))
  function_said kind false false e f = alone (in_section (section.Bits kind)) (bits_row kind) line (w ∷ ws) r.parts (rw e (rw f refl))

  name_said : (wire : ℕ) → IfOk (row_says (in_section (section.Names wire)) line (section.Names wire) w ws) (Joined (section.Names wire))
  name_said wire =
      bind_meeting (Joined (section.Names wire)) (λ (a : (ℕ × ℕ) × List (List ℕ)). AreTwo (w ∷ ws) a.1 a.0.0 a.0.1) (two line (w ∷ ws)) _ (two_read line (w ∷ ws)) (λ a said.
      bind_meeting (Joined (section.Names wire)) (λ (name : List ℕ). a.1 ≡ name ∷ []) (one_word line a.1) _ (one_left line a.1) (λ name only.
      bind_meeting (Joined (section.Names wire)) (λ (tile : TileAt). tile ≡ tile_at a.0.0 a.0.1) (tile_in line r.parts a.0.0 a.0.1) _ (tile_read line r.parts a.0.0 a.0.1) (λ tile is.
      alone (in_section (section.Names wire)) (net_row wire) line (w ∷ ws) _
      (ap (λ (words : List (List ℕ)). net_row wire line words r.parts) (said.is ∙ ap (λ (rest : List (List ℕ)). said.v ∷ said.w ∷ rest) only)
      ∙ (rw (tile_of_two said.v said.w a.0.0 a.0.1 said.first said.second) (rw is refl))))))

  pin_said : IfOk (row_says (in_section section.Pins) line section.Pins w ws) (Joined section.Pins)
  pin_said =
      bind_meeting (Joined section.Pins) (λ (a : (ℕ × ℕ × ℕ) × List (List ℕ)). AreThree ws a.1 a.0.0 a.0.1 a.0.2) (three line ws) _ (three_read line ws) (λ a said.
      bind_meeting (Joined section.Pins) (λ (u : Unit {0}). a.1 ≡ []) (no_word_left line a.1) _ (none_left line a.1) (λ u none.
      bind_meeting (Joined section.Pins) (λ (pad : Pad). pad ≡ pad_said a.0.0 a.0.1 a.0.2) (pad_in line r.parts a.0.0 a.0.1 a.0.2) _ (pad_read line r.parts a.0.0 a.0.1 a.0.2) (λ pad is.
      let numbers = three_numbers ws a.0.0 a.0.1 a.0.2 (subst (λ (rest : List (List ℕ)). AreThree ws rest a.0.0 a.0.1 a.0.2) none said) in
      let row : pins_row r.pins (w ∷ ws) ≡ Some (with_pin r.pins w pad (lookup (bytes_eq w) r.pins.pins)) =
      ap (option_and_then (pin_joins r.pins w)) numbers ∙ ap (λ (held : PackageRows). Some held) (rw is (joined (pad_said a.0.0 a.0.1 a.0.2) (lookup (bytes_eq w) r.pins.pins))) in
      ap (λ (o : Option PackageRows). option_map (λ (more : PackageRows). record (seen (in_section section.Pins)) { section = Package more }) o) row)))
    where
      joined : (pad : Pad) (old : Option Pad) → (if is_some old then r.pins else record r.pins { pins = r.pins.pins ++ (w, pad) ∷ []; pads = insert_key same_pad r.pins.pads pad }) ≡ with_pin r.pins w pad old
      joined pad None = refl
      joined pad (Some earlier) = refl

  values_read : (o : Option (List Bool)) → IfOk (known_values line o) (λ (values : List Bool). o ≡ Some values)
  values_read None = tt
  values_read (Some values) = refl

  digits_read : (b : Bool) → IfOk (if b then known_values line (values_in w) else Err (BadValues line)) (λ (values : List Bool). values_in w ≡ Some values)
  digits_read true = values_read (values_in w)
  digits_read false = tt

  switch_said : IfOk (row_says (in_section section.Switches) line section.Switches w ws) (Joined section.Switches)
  switch_said =
      bind_meeting (Joined section.Switches) (λ (a : ℕ × List (List ℕ)). IsOne ws a.1 a.0) (number line ws) _ (one_read line ws) (λ a said.
      bind_meeting (Joined section.Switches) (λ (u : Unit {0}). a.1 ≡ []) (no_word_left line a.1) _ (none_left line a.1) (λ u none.
      bind_meeting (Joined section.Switches) (λ (s : ℕ). s ≡ a.0) (wire_in line r.parts a.0) _ (wire_read line r.parts a.0) (λ source is.
      bind_meeting (Joined section.Switches) (λ (values : List Bool). values_in w ≡ Some values) (values_at line (length r.group.bits) w) _ (digits_read (length w == length r.group.bits)) (λ values same.
      by a said none source is values same (nat_lt r.rows most_rows)))))
    where
      by : (a : ℕ × List (List ℕ)) → IsOne ws a.1 a.0 → a.1 ≡ [] → (source : ℕ) → source ≡ a.0 → (values : List Bool) → values_in w ≡ Some values → (b : Bool)
          → IfOk (if b then Ok (with_row (in_section section.Switches) line values source) else Err (TooMany most_rows)) (Joined section.Switches)
      by a said none source is values same true =
          let row : buffer_row r.group line (w ∷ ws) ≡ Some (with_row r line values source).group =
          ap (λ (words : List (List ℕ)). buffer_row r.group line (w ∷ words)) (said.is ∙ ap (λ (rest : List (List ℕ)). said.w ∷ rest) none) ∙ (rw same (rw said.says (rw is refl))) in
          ap (λ (o : Option SwitchGroup). option_map (λ (more : SwitchGroup). record (seen (in_section section.Switches)) { section = Group more; switches = r.rows + 1 }) o) row
      by a said none source is values same false = tt

  pub row_said : (s : Section) → IfOk (row_says (in_section s) line s w ws) (Joined s)
  row_said section.Rowless = tt
  row_said section.ReadOver = refl
  row_said section.Pins = pin_said
  row_said section.BufferInputs = gbufin_said
  row_said section.BufferPins = gbufpin_said
  row_said section.ExtraBits = extra_said (padin_global w) refl
  row_said section.InputEnables = ieren_said
  row_said section.ColumnBuffers = colbuf_said
  row_said (section.Bits kind) = function_said kind (is_read kind w) (is_foreign kind w) refl refl
  row_said (section.Names wire) = name_said wire
  row_said section.Switches = switch_said
