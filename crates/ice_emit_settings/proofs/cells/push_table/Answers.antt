use Rattle.std.proofs.Common.{◌≡◌, ℕ, ◌++◌, ap, ◌∙◌, arith}
use Rattle.std.specs.List.{flat_map, range_with_len}
use Rattle.ice_chip.specs.Names.{cell_function}
use Rattle.ice_emit_settings.specs.Cells.{entry_settings}
use Rattle.ice_emit_settings.specs.Views.{views}
use Rattle.ice_emit_settings.proofs.Ranges.{made_more}
use Rattle.ice_emit_settings.proofs.cells.push_table.Goals as goal

pub loop-entry-preserved : goal.loop-entry-preserved
loop-entry-preserved c =
    made_more (entry_settings c.args.tile (cell_function c.args.cell) c.args.table) c.loop-entry.entry (views c.args.made.now.items) (views c.loop-entry.made.items) (views c.push_entry.new.made.items)
    c.loop-entry.invariant c.in_ok-push_entry.ensures

pub returns : goal.returns
returns c =
    let last : c.loop-entry.entry ≡ 16 = omega arith in
    c.loop-entry.invariant ∙ ap (λ (n : ℕ). views c.args.made.now.items ++ flat_map (entry_settings c.args.tile (cell_function c.args.cell) c.args.table) (range_with_len 0 n)) last
