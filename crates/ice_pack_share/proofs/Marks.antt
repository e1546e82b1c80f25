-- Marks, one reading after another.
use Rattle.std.proofs.Common.{◌≡◌, ℕ, ◌+◌, ◌<◌, get_or, drop, List, [], ◌∷◌, ◌++◌, length, map, ap, sym, ◌∙◌, refl, replicate}
use Rattle.std.proofs.lemmas.List.{drop_more}
use Rattle.ice_net.specs.declared.cell.Cell.{Cell}
use Rattle.ice_net.specs.declared.port.Port.{Port}
use Rattle.ice_cells.specs.declared.origin.Origin.{Origin}
use Rattle.ice_cells.specs.declared.origin.Use.{Use}
use Rattle.ice_cells.specs.declared.origin.Use.TheVariants.{Nobody}
use Rattle.ice_cells.specs.Tables.{put_at}
use Rattle.ice_cells.specs.Uses.{Reading, reading_ins, reads_from, marked, made_by, after, uses, readings, cells_read, port_reading}
use Rattle.ice_cells.proofs.TableLaws.{replicate_table, scattered_table}

marked_append : (marks : List Use) (rs ts : List Reading) → marked marks (rs ++ ts) ≡ marked (marked marks rs) ts
marked_append marks [] ts = refl
marked_append marks (r ∷ rs) ts = marked_append (put_at after Nobody marks r (made_by r)) rs ts

-- all marks at once are the uses of all cells
pub uses_found : (os : List Origin) (cells : List Cell) (bare : List Port) (start a found : List Use) → start ≡ replicate (length cells) Nobody
    → a ≡ marked start (cells_read os 0 cells) → found ≡ marked a (map (port_reading os) bare) → found ≡ uses os cells bare
uses_found os cells bare start a found e f g =
    g ∙ ap (λ us. marked us (map (port_reading os) bare)) (f ∙ ap (λ us. marked us (cells_read os 0 cells)) e)
    ∙ sym (marked_append (replicate (length cells) Nobody) (cells_read os 0 cells) (map (port_reading os) bare))
    ∙ ap (λ us. marked us (readings os cells bare)) (replicate_table (length cells) Nobody)
    ∙ scattered_table made_by after Nobody (λ j. Nobody) (length cells) (readings os cells bare)

-- one more cell
pub cells_more : (os : List Origin) (old new : List Use) (cells : List Cell) (j : ℕ) (cell : Cell) → j < length cells → cell ≡ get_or cells j cell
    → new ≡ marked old (reads_from os j cell.kind 0 (reading_ins cell.kind cell.ins cell.outs))
    → marked new (cells_read os (j + 1) (drop (j + 1) cells)) ≡ marked old (cells_read os j (drop j cells))
cells_more os old new cells j cell lt at e =
    ap (λ us. marked us (cells_read os (j + 1) (drop (j + 1) cells))) e
    ∙ sym (marked_append old (reads_from os j cell.kind 0 (reading_ins cell.kind cell.ins cell.outs)) (cells_read os (j + 1) (drop (j + 1) cells)))
    ∙ ap (λ xs. marked old (cells_read os j xs)) (sym (drop_more cells j cell lt ∙ ap (λ (x : Cell). x ∷ drop (j + 1) cells) (sym at)))
