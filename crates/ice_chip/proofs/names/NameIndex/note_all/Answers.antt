use Rattle.std.proofs.Common.{rules, ◌≡◌, ◌<◌, true, false, sym, ap, ◌∙◌, ◌+◌, length, arith, map}
use Rattle.ice_chip.specs.Lookups.{is_placed, placed_names, placed_wire}
use Rattle.ice_chip.specs.Indices.{numbered, with_named}
use Rattle.ice_chip.specs.NameIndex.{numbered_of}
use Rattle.ice_chip.specs.Views.{name_view, parts_view}
use Rattle.ice_chip.proofs.NamedRows.{left, named_on, named_past}
use Rattle.ice_chip.proofs.names.NameIndex.note_all.Goals as goal
use Rattle.ice_chip.proofs.names.NameIndex.note_all.Goals.{then-is_some+in_ok-note_wire, else-is_some}

pub loop-row-preserved : goal.loop-row-preserved
loop-row-preserved c =
    let tiles = c.args.parts.now.tiles.entries in
    let rows = c.args.parts.now.names.items in
    let whole = numbered (numbered_of c.args.self.now) (map placed_wire (placed_names (parts_view c.args.parts.now))) in
    let row = c.row-item.result in
    elim c.if-is_some.branch [
      | then-is_some+in_ok-note_wire w ↦
          let within : c.loop-row.row-index < length rows = omega arith in
          let placed : is_placed tiles (name_view row) ≡ true = search rules in
          let now : numbered_of c.if-is_some.self ≡ with_named (numbered_of c.loop-row.self) (placed_wire (name_view row)) = search rules in
          named_on tiles rows c.loop-row.row-index row whole (numbered_of c.loop-row.self) (numbered_of c.if-is_some.self) within (search rules) (search rules) placed now
      | else-is_some w ↦
          let within : c.loop-row.row-index < length rows = omega arith in
          let absent : is_placed tiles (name_view row) ≡ false = search rules in
          let past = named_past tiles rows c.loop-row.row-index row whole (numbered_of c.loop-row.self) within (search rules) (search rules) absent in
          past ∙ ap (left tiles rows (c.loop-row.row-index + 1)) (ap numbered_of (sym w.self-is))
    ]
