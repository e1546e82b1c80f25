-- Which pads are read, found in one pass over all that is read.
use Rattle.std.proofs.Common.{◌≡◌, ℕ, ◌==◌, Bool, true, false, cond, Option, None, Some, List, [], ◌∷◌, ◌++◌, length, map, get_or, replicate, All, refl, ap, sym, ◌∙◌, arith}
use Rattle.std.specs.Prelude.{◌||◌}
use Rattle.std.specs.List.{flat_map, list_any}
use Rattle.std.proofs.lemmas.List.Elements.{All-head, All-tail}
use Rattle.ice_cells.specs.declared.design.Design.{Design}
use Rattle.ice_cells.specs.declared.design.DesignPad.{DesignPad}
use Rattle.ice_cells.specs.declared.root.Root.{Root}
use Rattle.ice_cells.specs.declared.root.Root.TheVariants.{PadIn, CellOut, GlobalOut, CarryOut}
use Rattle.ice_cells.specs.Packed.{read_pad}
use Rattle.ice_cells.specs.Readings.{carry_root, cell_roots, pad_roots, roots_read, is_read}
use Rattle.ice_cells.specs.Same.{same_source}
use Rattle.ice_cells.specs.Tables.{table, is_place, gathered, put_at}
use Rattle.ice_cells.proofs.TableLaws.{replicate_table, scattered_table, table_same, get_or-table}
use Rattle.ice_pack.specs.Marks.{pad_at, noted, marked, marked_pad, HasPort}

pub marked_append : (marks : List Bool) (a b : List (Option Root)) → marked marks (a ++ b) ≡ marked (marked marks a) b
marked_append marks [] b = refl
marked_append marks (r ∷ a) b = marked_append (put_at noted false marks r (pad_at r)) a b

-- the marks of a whole design
pub all_marked : (d : Design) (none carries cells pads all : List Bool) → carries ≡ marked none (map carry_root d.carries) → cells ≡ marked carries (flat_map cell_roots d.cells)
    → pads ≡ marked cells (flat_map pad_roots d.pads) → all ≡ marked pads d.globals → all ≡ marked none (roots_read d)
all_marked d none carries cells pads all e f g h =
    let a : List (Option Root) = map carry_root d.carries in
    let b : List (Option Root) = flat_map cell_roots d.cells in
    let c : List (Option Root) = flat_map pad_roots d.pads in
    h ∙ ap (λ ms. marked ms d.globals) (g ∙ ap (λ ms. marked ms c) (f ∙ ap (λ ms. marked ms b) e ∙ sym (marked_append none a b)) ∙ sym (marked_append none (a ++ b) c)) ∙ sym (marked_append none (a ++ b ++ c) d.globals)

-- ---- the mark of a port
same_number : (j k : ℕ) → (k == j) ≡ (j == k)
same_number j k = grind arith

is_pad : (j : ℕ) (r : Option Root) → is_place j (pad_at r) ≡ same_source (Some (PadIn j)) r
is_pad j None = refl
is_pad j (Some (PadIn k)) = same_number j k
is_pad j (Some (CellOut c)) = refl
is_pad j (Some (GlobalOut g)) = refl
is_pad j (Some (CarryOut c)) = refl

once_noted : (j : ℕ) (rs : List (Option Root)) → gathered pad_at noted j true rs ≡ true
once_noted j [] = refl
once_noted j (r ∷ rs) = by (is_place j (pad_at r)) (once_noted j rs)
  where
    by : (b : Bool) → gathered pad_at noted j true rs ≡ true → gathered pad_at noted j (cond b true true) rs ≡ true
    by true rest = rest
    by false rest = rest

noted_where : (j : ℕ) (rs : List (Option Root)) → gathered pad_at noted j false rs ≡ list_any (same_source (Some (PadIn j))) rs
noted_where j [] = refl
noted_where j (r ∷ rs) = ap (λ b. gathered pad_at noted j (cond b true false) rs) (is_pad j r) ∙ by (same_source (Some (PadIn j)) r) (noted_where j rs) (once_noted j rs)
  where
    by : (b : Bool) → gathered pad_at noted j false rs ≡ list_any (same_source (Some (PadIn j))) rs → gathered pad_at noted j true rs ≡ true
        → gathered pad_at noted j (cond b true false) rs ≡ (b || list_any (same_source (Some (PadIn j))) rs)
    by true rest once = once
    by false rest once = rest

marks_are : (n : ℕ) (rs : List (Option Root)) → marked (replicate n false) rs ≡ table (λ j. list_any (same_source (Some (PadIn j))) rs) n
marks_are n rs =
    ap (λ ms. marked ms rs) (replicate_table n false) ∙ scattered_table pad_at noted false (λ j. false) n rs
    ∙ table_same _ (λ j. list_any (same_source (Some (PadIn j))) rs) n (λ j lt. noted_where j rs)

-- ---- pads by the marks of their ports
pads_marked : (d : Design) (n : ℕ) (pads : List DesignPad) → All (HasPort n) pads → map (marked_pad (marked (replicate n false) (roots_read d))) pads ≡ map (read_pad d) pads
pads_marked d n [] within = refl
pads_marked d n (pad ∷ pads) within =
    ap (λ (reads : Bool). (record { port = pad.port; pin_type = pad.pin_type; pullup = pad.pullup; drive = pad.drive; enable = pad.enable; reads = reads }) ∷ map (marked_pad (marked (replicate n false) (roots_read d))) pads) here
    ∙ ap (λ ps. read_pad d pad ∷ ps) (pads_marked d n pads (All-tail (HasPort n) pad pads within))
  where
    here : get_or (marked (replicate n false) (roots_read d)) pad.port false ≡ is_read d (PadIn pad.port)
    here =
        ap (λ ms. get_or ms pad.port false) (marks_are n (roots_read d))
        ∙ get_or-table (λ j. is_read d (PadIn j)) n pad.port false (All-head (HasPort n) pad pads within)

-- a design whose pads are marked has its reads
pub reads_are : (d : Design) (marks : List Bool) (pads : List DesignPad) → All (HasPort (length d.pads)) d.pads → marks ≡ marked (replicate (length d.pads) false) (roots_read d)
    → pads ≡ map (marked_pad marks) d.pads → pads ≡ map (read_pad d) d.pads
reads_are d marks pads within e f = f ∙ ap (λ ms. map (marked_pad ms) d.pads) e ∙ pads_marked d (length d.pads) d.pads within
