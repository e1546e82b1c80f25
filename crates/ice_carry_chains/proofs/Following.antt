-- Marks, one reading after another.
use Rattle.std.proofs.Common.{◌≡◌, ℕ, ◌+◌, ◌<◌, ◌≤◌, Option, List, [], ◌∷◌, ◌++◌, length, get_or, map, drop, refl, ap, sym, ◌∙◌, replicate}
use Rattle.std.specs.List.{flat_map}
use Rattle.std.proofs.lemmas.List.{drop_more, drop_all}
use Rattle.ice_cells.specs.Readings.{Reading, readings, carry_reading, cell_readings, cells_readings, pad_readings, plain}
use Rattle.ice_cells.specs.Follows.{marked, carry_read, after, follows}
use Rattle.ice_cells.specs.declared.cell.LogicCell.{LogicCell}
use Rattle.ice_cells.specs.declared.design.Design.{Design}
use Rattle.ice_cells.specs.declared.design.DesignPad.{DesignPad}
use Rattle.ice_cells.specs.declared.follow.Follow.{Follow}
use Rattle.ice_cells.specs.declared.root.Root.{Root}
use Rattle.ice_cells.specs.declared.follow.Follow.TheVariants.{Nobody}
use Rattle.ice_cells.specs.Tables.{table, gathered, put_at}
use Rattle.ice_cells.proofs.TableLaws.{replicate_table, scattered_table}

pub marked_append : (marks : List Follow) (rs ts : List Reading) → marked marks (rs ++ ts) ≡ marked (marked marks rs) ts
marked_append marks [] ts = refl
marked_append marks (r ∷ rs) ts = marked_append (put_at after Nobody marks r (carry_read r)) rs ts

pub marked_all : (n : ℕ) (rs : List Reading) → marked (replicate n Nobody) rs ≡ table (λ c. gathered carry_read after c Nobody rs) n
marked_all n rs = ap (λ marks. marked marks rs) (replicate_table n Nobody) ∙ scattered_table carry_read after Nobody (λ c. Nobody) n rs

pub follows_found : (d : Design) (start a b c marks : List Follow) → start ≡ replicate (length d.cells) Nobody → a ≡ marked start (map carry_reading d.carries) → b ≡ marked a (cells_readings 0 d.cells)
    → c ≡ marked b (flat_map pad_readings d.pads) → marks ≡ marked c (map plain d.globals) → marks ≡ follows d
follows_found d start a b c marks e f g h i =
    i ∙ ap (λ xs. marked xs (map plain d.globals)) (h ∙ ap (λ xs. marked xs (flat_map pad_readings d.pads)) (g ∙ ap (λ xs. marked xs (cells_readings 0 d.cells)) (f ∙ ap (λ xs. marked xs (map carry_reading d.carries)) e)))
    ∙ sym (rw (marked_append, marked_append, marked_append) refl)
    ∙ marked_all (length d.cells) (readings d)

-- ---- one cell, pad or global buffer after another
pub cells_more : (cells : List LogicCell) (c : ℕ) (d : LogicCell) (old new : List Follow) → c < length cells → new ≡ marked old (cell_readings c (get_or cells c d))
    → marked new (cells_readings (c + 1) (drop (c + 1) cells)) ≡ marked old (cells_readings c (drop c cells))
cells_more cells c d old new lt now =
    let rest = cells_readings (c + 1) (drop (c + 1) cells) in
    ap (λ marks. marked marks rest) now
    ∙ sym (marked_append old (cell_readings c (get_or cells c d)) rest)
    ∙ ap (λ (xs : List LogicCell). marked old (cells_readings c xs)) (sym (drop_more cells c d lt))

pub cells_end : (cells : List LogicCell) (c : ℕ) (marks : List Follow) → length cells ≤ c → marks ≡ marked marks (cells_readings c (drop c cells))
cells_end cells c marks le = ap (λ (xs : List LogicCell). marked marks (cells_readings c xs)) (sym (drop_all c cells le))

pub pads_more : (pads : List DesignPad) (i : ℕ) (d : DesignPad) (old half new : List Follow) → i < length pads → half ≡ marked old (plain (get_or pads i d).drive ∷ [])
    → new ≡ marked half (plain (get_or pads i d).enable ∷ []) → marked new (flat_map pad_readings (drop (i + 1) pads)) ≡ marked old (flat_map pad_readings (drop i pads))
pads_more pads i d old half new lt first second =
    ap (λ marks. marked marks (flat_map pad_readings (drop (i + 1) pads))) (second ∙ ap (λ marks. marked marks (plain (get_or pads i d).enable ∷ [])) first)
    ∙ ap (λ (xs : List DesignPad). marked old (flat_map pad_readings xs)) (sym (drop_more pads i d lt))

pub pads_end : (pads : List DesignPad) (i : ℕ) (marks : List Follow) → length pads ≤ i → marks ≡ marked marks (flat_map pad_readings (drop i pads))
pads_end pads i marks le = ap (λ (xs : List DesignPad). marked marks (flat_map pad_readings xs)) (sym (drop_all i pads le))

pub globals_more : (globals : List (Option Root)) (i : ℕ) (d : Option Root) (old new : List Follow) → i < length globals → new ≡ marked old (plain (get_or globals i d) ∷ [])
    → marked new (map plain (drop (i + 1) globals)) ≡ marked old (map plain (drop i globals))
globals_more globals i d old new lt now =
    ap (λ marks. marked marks (map plain (drop (i + 1) globals))) now
    ∙ ap (λ (xs : List (Option Root)). marked old (map plain xs)) (sym (drop_more globals i d lt))

pub globals_end : (globals : List (Option Root)) (i : ℕ) (marks : List Follow) → length globals ≤ i → marks ≡ marked marks (map plain (drop i globals))
globals_end globals i marks le = ap (λ (xs : List (Option Root)). marked marks (map plain xs)) (sym (drop_all i globals le))
