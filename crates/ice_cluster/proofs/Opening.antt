-- Clusters that are opened and filled one after another.
use Rattle.std.proofs.Common.{◌≡◌, Bool, true, false, cond, set, replicate, ℕ, zero, suc, ◌+◌, ◌-◌, ◌<◌, ◌≤◌, Option, None, Some, List, [], ◌∷◌, ◌++◌, append-nil, append_assoc, length, map, take, drop, get_or, refl, ap, sym, ◌∙◌, arith, min}
use Rattle.std.specs.List.{range_with_len, filter_map, slice_get, cons_option}
use Rattle.std.proofs.lemmas.List.{take_min, drop_min, drop_more, length-append}
use Rattle.ice_cells.specs.declared.cell.Control.{Control}
use Rattle.std.specs.List.{flat_map, list_any}
use Rattle.std.specs.Option.{option_map_or}
use Rattle.std.specs.Prelude.{option_to_list, ◌||◌, ◌==◌}
use Rattle.std.proofs.lemmas.List.{map_more, replicate_more}
use Rattle.std.proofs.lemmas.List.Elements.{filter_map-append}
use Rattle.std.proofs.lemmas.List.FromFn.{map-range_with_len_more}
use Rattle.ice_cells.specs.declared.cell.LogicCell.{LogicCell}
use Rattle.ice_cells.specs.declared.design.Run.{Run}
use Rattle.ice_cells.specs.Clusters.{room, filled_one, filled, left, ends, group_of, run_piece, run_pieces, runs_pieces, set_pieces, group_pieces, groups_pieces, plain_piece, plain_pieces, all_held, run_cells, is_held, held_list, sets_pieces}
use Rattle.ice_cells.specs.Pieces.{piece, pieces_count}
use Rattle.ice_cells.specs.Sets.{FlopCell, sets_of, cells_by_sets, cells_with}
use Rattle.ice_cells.specs.Tables.{gathered}
use Rattle.ice_cells.proofs.TableLaws.{replicate_table, scattered_table, table_same}
use Rattle.ice_cells.specs.declared.cluster.TileCells.{TileCells}
use Rattle.ice_cells.specs.Clusterings.{opened_by, groups_by}
use Rattle.ice_cells.proofs.RangeFilters.{range_more}

pub filled_append : (a b : List TileCells) (plains : List ℕ) → filled (a ++ b) plains ≡ filled a plains ++ filled b (left a plains)
filled_append [] b plains = refl
filled_append (x ∷ a) b plains = ap (λ xs. filled_one x plains ∷ xs) (filled_append a b (drop (room x) plains))

pub left_append : (a b : List TileCells) (plains : List ℕ) → left (a ++ b) plains ≡ left b (left a plains)
left_append [] b plains = refl
left_append (x ∷ a) b plains = left_append a b (drop (room x) plains)

-- some clusters more
pub ends_more : (a b : List TileCells) (plains rest : List ℕ) (clusters new : List TileCells) → (new, rest) ≡ ends a plains clusters → ends b rest new ≡ ends (a ++ b) plains clusters
ends_more a b plains rest clusters new e =
    ap (λ (x : List TileCells × List ℕ). ends b x.1 x.0) e
    ∙ (λ i. (append_assoc clusters (filled a plains) (filled b (left a plains)) i, left b (left a plains)))
    ∙ sym (λ i. (clusters ++ filled_append a b plains i, left_append a b plains i))

pub ends_none : (plains : List ℕ) (clusters : List TileCells) → ends [] plains clusters ≡ (clusters, plains)
ends_none plains clusters = λ i. (append-nil clusters i, plains)

-- one cluster is opened and filled
pub opened_one : (clusters new : List TileCells) (members plains now later : List ℕ) (control : Option Control) (run : Option (ℕ × ℕ)) (n : ℕ) → n ≡ min (8 - length members) (length plains)
    → now ≡ take n plains → later ≡ drop n plains → new ≡ clusters ++ group_of (members ++ now) control run ∷ []
    → (new, later) ≡ ends (group_of members control run ∷ []) plains clusters
opened_one clusters new members plains now later control run n is e f g =
    let taken : now ≡ take (8 - length members) plains = e ∙ ap (λ k. take k plains) is ∙ take_min (8 - length members) plains in
    let rest : later ≡ drop (8 - length members) plains = f ∙ ap (λ k. drop k plains) is ∙ drop_min (8 - length members) plains in
    let made : new ≡ clusters ++ group_of (members ++ take (8 - length members) plains) control run ∷ [] = g ∙ ap (λ xs. clusters ++ group_of (members ++ xs) control run ∷ []) taken in
    λ i. (made i, rest i)

pieces_left : (f : ℕ → TileCells) (k n : ℕ) → k < n → map f (range_with_len k (n - k)) ≡ f k ∷ map f (range_with_len (k + 1) (n - (k + 1)))
pieces_left f k n lt = ap (λ m. map f (range_with_len k m)) (let e : n - k ≡ suc (n - (k + 1)) = omega arith in e)

-- one piece more
pub piece_more : (f : ℕ → TileCells) (k n : ℕ) (plains rest : List ℕ) (clusters new : List TileCells) → k < n → (new, rest) ≡ ends (f k ∷ []) plains clusters
    → ends (map f (range_with_len (k + 1) (n - (k + 1)))) rest new ≡ ends (map f (range_with_len k (n - k))) plains clusters
piece_more f k n plains rest clusters new lt e =
    ends_more (f k ∷ []) (map f (range_with_len (k + 1) (n - (k + 1)))) plains rest clusters new e ∙ ap (λ xs. ends xs plains clusters) (sym (pieces_left f k n lt))

-- no piece is left
pub pieces_done : (f : ℕ → TileCells) (k n : ℕ) (rest : List ℕ) (clusters : List TileCells) → n ≤ k → (clusters, rest) ≡ ends (map f (range_with_len k (n - k))) rest clusters
pieces_done f k n rest clusters le = sym (ap (λ m. ends (map f (range_with_len k m)) rest clusters) (let e : n - k ≡ 0 = omega arith in e) ∙ ends_none rest clusters)

pub same_opened : (m n : List ℕ) (x y : Option Control) (run : Option (ℕ × ℕ)) (plains : List ℕ) (clusters : List TileCells) → m ≡ n → x ≡ y
    → ends (group_of m x run ∷ []) plains clusters ≡ ends (group_of n y run ∷ []) plains clusters
same_opened m n x y run plains clusters e f = λ i. ends (group_of (e i) (f i) run ∷ []) plains clusters

-- one run more
pub runs_more : (cells : List LogicCell) (runs : List Run) (r : ℕ) (run : Run) (members plains rest : List ℕ) (clusters new : List TileCells) → r < length runs → run ≡ get_or runs r run → members ≡ run.cells
    → (new, rest) ≡ ends (map (run_piece cells r members) (range_with_len 0 (pieces_count members))) plains clusters
    → ends (runs_pieces cells (r + 1) (drop (r + 1) runs)) rest new ≡ ends (runs_pieces cells r (drop r runs)) plains clusters
runs_more cells runs r run members plains rest clusters new lt at is e =
    ends_more (run_pieces cells r run) (runs_pieces cells (r + 1) (drop (r + 1) runs)) plains rest clusters new
    (e ∙ ap (λ m. ends (map (run_piece cells r m) (range_with_len 0 (pieces_count m))) plains clusters) is)
    ∙ ap (λ rs. ends (runs_pieces cells r rs) plains clusters) (sym (drop_more runs r run lt ∙ ap (λ (x : Run). x ∷ drop (r + 1) runs) (sym at)))

-- one control set more
pub groups_more : (sets : List Control) (groups : List (List ℕ)) (k : ℕ) (group members plains rest : List ℕ) (clusters new : List TileCells) → k < length groups → group ≡ get_or groups k group
    → members ≡ group → (new, rest) ≡ ends (group_pieces sets k members) plains clusters
    → ends (groups_pieces sets (k + 1) (drop (k + 1) groups)) rest new ≡ ends (groups_pieces sets k (drop k groups)) plains clusters
groups_more sets groups k group members plains rest clusters new lt at is e =
    ends_more (group_pieces sets k group) (groups_pieces sets (k + 1) (drop (k + 1) groups)) plains rest clusters new (e ∙ ap (λ m. ends (group_pieces sets k m) plains clusters) is)
    ∙ ap (λ gs. ends (groups_pieces sets k gs) plains clusters) (sym (drop_more groups k group lt ∙ ap (λ (x : List ℕ). x ∷ drop (k + 1) groups) (sym at)))

set_at : (before : List Control) (x : Control) (after : List Control) → slice_get (before ++ x ∷ after) (length before) ≡ Some x
set_at [] x after = refl
set_at (y ∷ before) x after = set_at before x after

groups_from : (f : Control → List ℕ) (before after : List Control) (k : ℕ) → k ≡ length before → groups_pieces (before ++ after) k (map f after) ≡ flat_map (λ control. set_pieces control (f control)) after
groups_from f before [] k e = refl
groups_from f before (x ∷ after) k e =
    ap (λ o. option_map_or (λ control. set_pieces control (f x)) o [] ++ groups_pieces (before ++ x ∷ after) (k + 1) (map f after)) (ap (slice_get (before ++ x ∷ after)) e ∙ set_at before x after)
    ∙ ap (λ sets. set_pieces x (f x) ++ groups_pieces sets (k + 1) (map f after)) (sym (append_assoc before (x ∷ []) after))
    ∙ ap (λ ps. set_pieces x (f x) ++ ps) (groups_from f (before ++ x ∷ []) after (k + 1) (let l = length-append before (x ∷ []) in omega arith))

pub groups_all : (f : Control → List ℕ) (sets : List Control) → groups_pieces sets 0 (map f sets) ≡ flat_map (λ control. set_pieces control (f control)) sets
groups_all f sets = groups_from f [] sets 0 refl

-- ---- lists that are filtered number by number

one_or_none : {X : Type 0} (f : ℕ → Option X) (i : ℕ) (o : Option X) → f i ≡ o → filter_map f (i ∷ []) ≡ option_to_list o
one_or_none f i None e = ap (λ x. cons_option x []) e
one_or_none f i (Some y) e = ap (λ x. cons_option x []) e

pub filter_more : {X : Type 0} (f : ℕ → Option X) (i : ℕ) (o : Option X) (old new : List X) → f i ≡ o → old ≡ filter_map f (range_with_len 0 i) → new ≡ old ++ option_to_list o
    → new ≡ filter_map f (range_with_len 0 (i + 1))
filter_more f i o old new here were is =
    is ∙ ap (λ xs. xs ++ option_to_list o) were ∙ ap (λ ys. filter_map f (range_with_len 0 i) ++ ys) (sym (one_or_none f i o here)) ∙ sym (filter_map-append f (range_with_len 0 i) (i ∷ [])) ∙ ap (filter_map f) (sym (range_more i))

-- ---- no plain cells are left to fill the last clusters
abbrev nothing : List ℕ
nothing = []

take_none : (n : ℕ) → take n nothing ≡ nothing
take_none zero = refl
take_none (suc n) = refl

drop_none : (n : ℕ) → drop n nothing ≡ nothing
drop_none zero = refl
drop_none (suc n) = refl

pub filled_nothing : (clusters : List TileCells) → filled clusters nothing ≡ clusters
filled_nothing [] = refl
filled_nothing (x ∷ clusters) =
    (λ i. (record { cells = (ap (λ ps. x.cells ++ ps) (take_none (room x)) ∙ append-nil x.cells) i; control = x.control; run = x.run }) ∷ filled clusters (drop_none (room x) i))
    ∙ ap (λ cs. x ∷ cs) (filled_nothing clusters)

-- one plain cluster more
pub plain_more : (plains : List ℕ) (k : ℕ) (before clusters new : List TileCells) (members rest : List ℕ) → clusters ≡ before ++ map (plain_piece plains) (range_with_len 0 k) → members ≡ piece plains k
    → (new, rest) ≡ ends (group_of members None None ∷ []) nothing clusters → new ≡ before ++ map (plain_piece plains) (range_with_len 0 (k + 1))
plain_more plains k before clusters new members rest were is e =
    ap (λ (x : List TileCells × List ℕ). x.0) e ∙ ap (λ xs. clusters ++ xs) (filled_nothing (group_of members None None ∷ [])) ∙ ap (λ m. clusters ++ group_of m None None ∷ []) is
    ∙ ap (λ xs. xs ++ plain_piece plains k ∷ []) were ∙ append_assoc before (map (plain_piece plains) (range_with_len 0 k)) (plain_piece plains k ∷ [])
    ∙ ap (λ xs. before ++ xs) (sym (map-range_with_len_more (plain_piece plains) 0 k k (omega arith)))

-- ---- which cells are held
pub held_append : (held : List Bool) (a b : List ℕ) → all_held held (a ++ b) ≡ all_held (all_held held a) b
held_append held [] b = refl
held_append held (c ∷ a) b = held_append (set held c true) a b

gathered_held : (j : ℕ) (cs : List ℕ) (u : Bool) → gathered (λ (c : ℕ). Some c) (λ (b : Bool) (c : ℕ). true) j u cs ≡ (u || list_any (λ d. d == j) cs)
gathered_held j [] true = refl
gathered_held j [] false = refl
gathered_held j (d ∷ cs) u = gathered_held j cs (cond (d == j) true u) ∙ by (d == j) u (list_any (λ d. d == j) cs)
  where
    by : (b u any : Bool) → (cond b true u || any) ≡ (u || (b || any))
    by true true any = refl
    by true false any = refl
    by false true any = refl
    by false false any = refl

pub held_all : (n : ℕ) (runs : List Run) (start held : List Bool) → start ≡ replicate n false → held ≡ all_held start (flat_map run_cells runs) → held ≡ held_list runs n
held_all n runs start held e f =
    f ∙ ap (λ us. all_held us (flat_map run_cells runs)) (e ∙ replicate_table n false) ∙ scattered_table (λ (c : ℕ). Some c) (λ (b : Bool) (c : ℕ). true) false (λ c. false) n (flat_map run_cells runs)
    ∙ table_same _ (is_held runs) n (λ j lt. gathered_held j (flat_map run_cells runs) false)

-- the lists of flip-flops by control sets are those of the definition
pub sets_opened : (flops : List FlopCell) (sets : List Control) (lists : List (List ℕ)) → sets ≡ sets_of flops → lists ≡ cells_by_sets flops
    → groups_pieces sets 0 lists ≡ sets_pieces flops
sets_opened flops sets lists g k = (λ i. groups_pieces (g i) 0 (k i)) ∙ groups_all (cells_with flops) (sets_of flops)

pub groups_in : (cells : List LogicCell) (runs : List Run) (flops : List FlopCell) (plains one two : List ℕ) (first second third : List TileCells)
    → (first, one) ≡ ends (runs_pieces cells 0 runs) plains [] → (second, two) ≡ ends (sets_pieces flops) one first → third ≡ second ++ plain_pieces two → third ≡ groups_by cells runs flops plains
groups_in cells runs flops plains one two first second third a b c =
    let ended : (second, two) ≡ ends (opened_by cells runs flops) plains []
    = b ∙ ends_more (runs_pieces cells 0 runs) (sets_pieces flops) plains one [] first a in
    c ∙ ap (λ (x : List TileCells × List ℕ). x.0 ++ plain_pieces x.1) ended

pub hold_more : (runs : List Run) (i : ℕ) (run : Run) (members : List ℕ) (held new : List Bool) → i < length runs → run ≡ get_or runs i run → members ≡ run.cells → new ≡ all_held held members
    → all_held new (flat_map run_cells (drop (i + 1) runs)) ≡ all_held held (flat_map run_cells (drop i runs))
hold_more runs i run members held new lt at is e =
    ap (λ us. all_held us (flat_map run_cells (drop (i + 1) runs))) (e ∙ ap (all_held held) is) ∙ sym (held_append held run.cells (flat_map run_cells (drop (i + 1) runs)))
    ∙ ap (λ rs. all_held held (flat_map run_cells rs)) (sym (drop_more runs i run lt ∙ ap (λ (x : Run). x ∷ drop (i + 1) runs) (sym at)))

pub slot_more : (cells : List ℕ) (i d : ℕ) (before after : List (Option ℕ)) → i < length cells → before ≡ map (λ c. Some c) (take i cells) → after ≡ before ++ Some (get_or cells i d) ∷ []
    → after ≡ map (λ c. Some c) (take (i + 1) cells)
slot_more cells i d before after lt e now = now ∙ ap (λ (xs : List (Option ℕ)). xs ++ Some (get_or cells i d) ∷ []) e ∙ sym (map_more (λ (c : ℕ). Some c) cells i d lt)

pub free_more : (slots : List (Option ℕ)) (n : ℕ) (before after : List (Option ℕ)) → before ≡ slots ++ replicate n None → after ≡ before ++ None ∷ [] → after ≡ slots ++ replicate (n + 1) None
free_more slots n before after e now =
    now ∙ ap (λ (xs : List (Option ℕ)). xs ++ None ∷ []) e ∙ append_assoc slots (replicate n None) (None ∷ []) ∙ ap (λ (xs : List (Option ℕ)). slots ++ xs) (replicate_more n None)
