use Rattle.std.proofs.Common.{ℕ, List, ◌++◌, ap, ◌∙◌}
use Rattle.ice_chip.specs.Names.{cell_function}
use Rattle.ice_emit_defs.specs.Functions.{setting_if, table_settings, flop_settings}
use Rattle.ice_emit_settings.specs.Views.{views}
use Rattle.ice_emit.proofs.clusters.push_placed.Goals as goal

pub returns : goal.returns
returns c =
    let before = views c.args.made.now.items in
    let t = c.args.tile in
    let cell = c.args.cell.now in
    c.in_ok-push_cell.ensures
    ∙ ap (λ (name : List ℕ). before ++ (table_settings t name c.written_table-table.result ++ setting_if cell.carry t name 8 ++ flop_settings t name cell.flop)) c.named_by.ensures
    ∙ ap (λ (table : ℕ). before ++ (table_settings t (cell_function c.args.i) table ++ setting_if cell.carry t (cell_function c.args.i) 8 ++ flop_settings t (cell_function c.args.i) cell.flop)) c.written_table-table.ensures
