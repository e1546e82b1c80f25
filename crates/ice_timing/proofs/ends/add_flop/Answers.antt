use Rattle.std.proofs.Common.{◌≡◌, ◌++◌, ◌∙◌, true, ap, rules}
use Rattle.ice_bits.specs.Configuration.{bits_of}
use Rattle.ice_decode.specs.Cells.{has_flop}
use Rattle.ice_decode.specs.Reads.{cell_inputs}
use Rattle.ice_timing.specs.declared.end.End.TheVariants.{Flop}
use Rattle.ice_timing.specs.declared.end.Door.TheVariants.{Table, Control}
use Rattle.ice_timing.specs.Entries.{entries_by, controls}
use Rattle.ice_timing.proofs.EntryLists.{let_in}
use Rattle.ice_timing.proofs.ends.add_flop.Goals as goal

pub returns : goal.returns
returns c =
    let on : has_flop c.args.chip.now (bits_of c.args.bits.now) c.args.tile c.args.cell ≡ true = search rules in
    let_in (has_flop c.args.chip.now (bits_of c.args.bits.now) c.args.tile c.args.cell) c.args.entries.now.items c.add_entries.new.entries.items c.add_entries-2.new.entries.items
    (entries_by (Flop c.args.tile c.args.cell) Table (cell_inputs c.args.chip.now c.args.tile c.args.cell)) (entries_by (Flop c.args.tile c.args.cell) Control (controls c.args.chip.now c.args.tile)) on
    (c.in_ok-add_entries.ensures ∙ ap (λ os. c.args.entries.now.items ++ entries_by (Flop c.args.tile c.args.cell) Table os) c.inputs.ensures)
    (c.in_ok-add_entries-2.ensures ∙ ap (λ os. c.add_entries.new.entries.items ++ entries_by (Flop c.args.tile c.args.cell) Control os) c.controls.ensures)
