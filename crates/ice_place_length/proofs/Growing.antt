-- Boxes grow load by load.
use Rattle.std.proofs.Common.{◌≡◌, ◌⊎◌, inl, inr, ℕ, zero, suc, ◌+◌, ◌<◌, ◌≤◌, min, Bool, true, false, cond, Option, None, Some, List, [], ◌∷◌, ◌++◌, map, drop, length, get_or, refl, ap, ap₂, sym, ◌∙◌, add-one, drop-cons, arith}
use Rattle.std.specs.Prelude.{slice_get}
use Rattle.std.specs.Option.{option_map_or}
use Rattle.std.specs.List.{fold, filter}
use Rattle.std.proofs.lemmas.Bool.{cases_lt}
use Rattle.std.proofs.Math.ListN.{drop_of_length-le}
use Rattle.std.proofs.lemmas.List.{map-append}
use Rattle.std.proofs.lemmas.List.Elements.{filter-append}
use Rattle.ice_base.specs.declared.number.TileAt.{TileAt}
use Rattle.ice_chip.specs.Database.{Parts}
use Rattle.ice_chip.specs.Lookups.{global_of}
use Rattle.ice_chip.specs.declared.rows.Pad.{Pad}
use Rattle.ice_cells.specs.declared.cell.Control.{Control}
use Rattle.ice_cells.specs.declared.cell.LogicCell.{LogicCell}
use Rattle.ice_cells.specs.declared.cluster.Cluster.{Cluster}
use Rattle.ice_cells.specs.declared.design.DesignPad.{DesignPad}
use Rattle.ice_cells.specs.declared.root.Root.{Root}
use Rattle.ice_cells.specs.Same.{same_root}
use Rattle.ice_place_defs.specs.Loads.{Pin, Input, Clock, Enable, SetReset, Load, load_at, feed_load, pad_loads, pads_loads, global_loads, globals_loads, cell_loads, control_loads, slot_gives, slots_give, clusters_give}
use Rattle.ice_place_defs.specs.Length.{Box, box_at, with_tile, is_of_root, load_tile}
use Rattle.ice_place_length.specs.Grown.{grown}

-- ---- one load
pub grown_none : (root : Root) (box : Box) (t : TileAt) (pin : Pin) → box ≡ grown root box (load_at t pin None)
unfolding grown
grown_none root box t pin = refl

pub grown_here : (root : Root) (box : Box) (t : TileAt) (pin : Pin) (read : Root) → same_root read root ≡ true → with_tile box t ≡ grown root box (load_at t pin (Some read))
unfolding grown
grown_here root box t pin read e = ap (λ b. fold with_tile box (map load_tile (cond b ((record { root = read; tile = t; pin = pin }) ∷ []) []))) (sym e)

pub grown_other : (root : Root) (box : Box) (t : TileAt) (pin : Pin) (read : Root) → same_root read root ≡ false → box ≡ grown root box (load_at t pin (Some read))
unfolding grown
grown_other root box t pin read e = ap (λ b. fold with_tile box (map load_tile (cond b ((record { root = read; tile = t; pin = pin }) ∷ []) []))) (sym e)

-- ---- several
fold_append : (box : Box) (xs ys : List TileAt) → fold with_tile box (xs ++ ys) ≡ fold with_tile (fold with_tile box xs) ys
fold_append box [] ys = refl
fold_append box (x ∷ xs) ys = fold_append (with_tile box x) xs ys

pub grown_append : (root : Root) (box : Box) (xs ys : List Load) → grown root box (xs ++ ys) ≡ grown root (grown root box xs) ys
unfolding grown
grown_append root box xs ys =
    ap (λ l. fold with_tile box (map load_tile l)) (filter-append (is_of_root root) xs ys)
    ∙ ap (fold with_tile box) (map-append load_tile (filter (is_of_root root) xs) (filter (is_of_root root) ys))
    ∙ fold_append box (map load_tile (filter (is_of_root root) xs)) (map load_tile (filter (is_of_root root) ys))

pub grown_nothing : (root : Root) (box : Box) → grown root box [] ≡ box
unfolding grown
grown_nothing root box = refl

pub grown_box : (root : Root) (t : TileAt) (all : List Load) → grown root (box_at t) all ≡ fold with_tile (box_at t) (map load_tile (filter (is_of_root root) all))
unfolding grown
grown_box root t all = refl

-- some loads after others
pub then_grown : (root : Root) (box mid end : Box) (xs ys : List Load) → mid ≡ grown root box xs → end ≡ grown root mid ys → end ≡ grown root box (xs ++ ys)
then_grown root box mid end xs ys e f = f ∙ ap (λ b. grown root b ys) e ∙ sym (grown_append root box xs ys)

-- ---- what is left of all
more_grown : (root : Root) (box next : Box) (xs rest all : List Load) → all ≡ xs ++ rest → next ≡ grown root box xs → grown root next rest ≡ grown root box all
more_grown root box next xs rest all e f = ap (λ b. grown root b rest) f ∙ sym (grown_append root box xs rest) ∙ ap (grown root box) (sym e)

-- ---- two lists side by side
pub both_more : {A B : Type 0} → (f : List A → List B → List Load) (g : A → B → List Load) → ((a : A) (b : B) (as' : List A) (bs : List B) → f (a ∷ as') (b ∷ bs) ≡ g a b ++ f as' bs)
    → (xs : List A) (ys : List B) (k : ℕ) (x d : A) (y e : B) → k < length xs → k < length ys → x ≡ get_or xs k d → y ≡ get_or ys k e → f (drop k xs) (drop k ys) ≡ g x y ++ f (drop (k + 1) xs) (drop (k + 1) ys)
both_more f g step xs ys k x d y e lt lt' is is' =
    let first : drop k xs ≡ x ∷ drop (k + 1) xs = rw (add-one, is) (drop-cons xs k d lt) in
    let second : drop k ys ≡ y ∷ drop (k + 1) ys = rw (add-one, is') (drop-cons ys k e lt') in
    ap₂ f first second ∙ step x y (drop (k + 1) xs) (drop (k + 1) ys)

pub both_end : {A B : Type 0} → (f : List A → List B → List Load) → ((bs : List B) → f [] bs ≡ []) → ((as' : List A) → f as' [] ≡ []) → (xs : List A) (ys : List B) (k : ℕ) → min (length xs) (length ys) ≤ k → f (drop k xs) (drop k ys) ≡ []
both_end f left right xs ys k le = by (cases_lt k (length xs))
  where
    by : (k < length xs) ⊎ (length xs ≤ k) → f (drop k xs) (drop k ys) ≡ []
    by (inl lt) = ap (f (drop k xs)) (drop_of_length-le ys {i = k} (omega arith)) ∙ right (drop k xs)
    by (inr ge) = ap (λ l. f l (drop k ys)) (drop_of_length-le xs {i = k} ge) ∙ left (drop k ys)

-- one step further, and the end
pub step_grown : (root : Root) (box now next : Box) (xs rest left all : List Load) → left ≡ xs ++ rest → next ≡ grown root now xs → grown root now left ≡ grown root box all → grown root next rest ≡ grown root box all
step_grown root box now next xs rest left all e f inv = more_grown root now next xs rest left e f ∙ inv

pub end_grown : (root : Root) (box now : Box) (left all : List Load) → left ≡ [] → grown root now left ≡ grown root box all → now ≡ grown root box all
end_grown root box now left all e inv = sym (grown_nothing root now) ∙ ap (grown root now) (sym e) ∙ inv

-- ---- pads
pads_step : (a : Pad) (b : DesignPad) (places : List Pad) (pads : List DesignPad) → pads_loads (a ∷ places) (b ∷ pads) ≡ pad_loads a b ++ pads_loads places pads
pads_step a b places pads = refl

pads_left : (pads : List DesignPad) → pads_loads [] pads ≡ []
pads_left pads = refl

pads_right : (places : List Pad) → pads_loads places [] ≡ []
pads_right [] = refl
pads_right (p ∷ places) = refl

pub pads_more : (places : List Pad) (pads : List DesignPad) (k : ℕ) (x d : Pad) (y e : DesignPad) → k < length places → k < length pads → x ≡ get_or places k d → y ≡ get_or pads k e
    → pads_loads (drop k places) (drop k pads) ≡ pad_loads x y ++ pads_loads (drop (k + 1) places) (drop (k + 1) pads)
pads_more = both_more pads_loads pad_loads pads_step

pub pads_end : (places : List Pad) (pads : List DesignPad) (k : ℕ) → min (length places) (length pads) ≤ k → pads_loads (drop k places) (drop k pads) ≡ []
pads_end = both_end pads_loads pads_left pads_right

-- ---- global buffers
globals_step : (parts : Parts) (a : ℕ) (b : Option Root) (ns : List ℕ) (reads : List (Option Root)) → globals_loads parts (a ∷ ns) (b ∷ reads) ≡ global_loads parts a b ++ globals_loads parts ns reads
globals_step parts a b ns reads = refl

globals_left : (parts : Parts) (reads : List (Option Root)) → globals_loads parts [] reads ≡ []
globals_left parts reads = refl

globals_right : (parts : Parts) (ns : List ℕ) → globals_loads parts ns [] ≡ []
globals_right parts [] = refl
globals_right parts (n ∷ ns) = refl

pub globals_more : (parts : Parts) (ns : List ℕ) (reads : List (Option Root)) (k : ℕ) (x d : ℕ) (y e : Option Root) → k < length ns → k < length reads → x ≡ get_or ns k d → y ≡ get_or reads k e
    → globals_loads parts (drop k ns) (drop k reads) ≡ global_loads parts x y ++ globals_loads parts (drop (k + 1) ns) (drop (k + 1) reads)
globals_more parts = both_more (globals_loads parts) (global_loads parts) (globals_step parts)

pub globals_end : (parts : Parts) (ns : List ℕ) (reads : List (Option Root)) (k : ℕ) → min (length ns) (length reads) ≤ k → globals_loads parts (drop k ns) (drop k reads) ≡ []
globals_end parts = both_end (globals_loads parts) (globals_left parts) (globals_right parts)

pub global_none : (parts : Parts) (root : Root) (box : Box) (n : ℕ) (reads : Option Root) → global_of parts n ≡ None → box ≡ grown root box (global_loads parts n reads)
global_none parts root box n reads e = sym (grown_nothing root box) ∙ ap (λ (o : Option TileAt). grown root box (option_map_or (feed_load reads) o [])) (sym e)

-- ---- clusters
abbrev pub cluster_loads : List LogicCell → TileAt → Cluster → List Load
cluster_loads cells t cluster = slots_give cell_loads cells t 0 cluster.cells ++ control_loads t cluster.control

clusters_step : (cells : List LogicCell) (t : TileAt) (b : Cluster) (at : List TileAt) (clusters : List Cluster)
    → clusters_give cell_loads control_loads cells (t ∷ at) (b ∷ clusters) ≡ cluster_loads cells t b ++ clusters_give cell_loads control_loads cells at clusters
clusters_step cells t b at clusters = refl

clusters_left : (cells : List LogicCell) (clusters : List Cluster) → clusters_give cell_loads control_loads cells [] clusters ≡ []
clusters_left cells clusters = refl

clusters_right : (cells : List LogicCell) (at : List TileAt) → clusters_give cell_loads control_loads cells at [] ≡ []
clusters_right cells [] = refl
clusters_right cells (t ∷ at) = refl

pub clusters_more : (cells : List LogicCell) (at : List TileAt) (clusters : List Cluster) (k : ℕ) (x d : TileAt) (y e : Cluster) → k < length at → k < length clusters → x ≡ get_or at k d → y ≡ get_or clusters k e
    → clusters_give cell_loads control_loads cells (drop k at) (drop k clusters) ≡ cluster_loads cells x y ++ clusters_give cell_loads control_loads cells (drop (k + 1) at) (drop (k + 1) clusters)
clusters_more cells = both_more (clusters_give cell_loads control_loads cells) (cluster_loads cells) (clusters_step cells)

pub clusters_end : (cells : List LogicCell) (at : List TileAt) (clusters : List Cluster) (k : ℕ) → min (length at) (length clusters) ≤ k → clusters_give cell_loads control_loads cells (drop k at) (drop k clusters) ≡ []
clusters_end cells = both_end (clusters_give cell_loads control_loads cells) (clusters_left cells) (clusters_right cells)

-- ---- slots
pub slots_more : (cells : List LogicCell) (t : TileAt) (i k : ℕ) (slots : List (Option ℕ)) (x d : Option ℕ) → k < length slots → x ≡ get_or slots k d → i ≡ k
    → slots_give cell_loads cells t k (drop k slots) ≡ slot_gives cell_loads cells t i x ++ slots_give cell_loads cells t (k + 1) (drop (k + 1) slots)
slots_more cells t i k slots x d lt is same =
    let first : drop k slots ≡ x ∷ drop (k + 1) slots = rw (add-one, is) (drop-cons slots k d lt) in
    ap (slots_give cell_loads cells t k) first ∙ ap (λ j. slot_gives cell_loads cells t j x ++ slots_give cell_loads cells t (k + 1) (drop (k + 1) slots)) (sym same)

pub slots_end : (cells : List LogicCell) (t : TileAt) (k : ℕ) (slots : List (Option ℕ)) → length slots ≤ k → slots_give cell_loads cells t k (drop k slots) ≡ []
slots_end cells t k slots le = ap (slots_give cell_loads cells t k) (drop_of_length-le slots {i = k} le)

-- ---- cells
pub reads_none : (root : Root) (box : Box) (t : TileAt) (pin : Pin) (reads : Option Root) → reads ≡ None → box ≡ grown root box (load_at t pin reads)
reads_none root box t pin reads e = sym (grown_nothing root box) ∙ ap (λ r. grown root box (load_at t pin r)) (sym e)

pub control_none : (root : Root) (box : Box) (t : TileAt) (control : Option Control) → control ≡ None → box ≡ grown root box (control_loads t control)
control_none root box t control e = sym (grown_nothing root box) ∙ ap (λ x. grown root box (control_loads t x)) (sym e)

pub control_some : (root : Root) (box a b end : Box) (t : TileAt) (control : Option Control) (x : Control) → control ≡ Some x → a ≡ grown root box (load_at t Clock x.clock) → b ≡ grown root a (load_at t Enable x.enable)
    → end ≡ grown root b (load_at t SetReset x.reset) → end ≡ grown root box (control_loads t control)
control_some root box a b end t control x is e f g =
    then_grown root box b end (load_at t Clock x.clock ++ load_at t Enable x.enable) (load_at t SetReset x.reset) (then_grown root box a b (load_at t Clock x.clock) (load_at t Enable x.enable) e f) g
    ∙ ap (λ o. grown root box (control_loads t o)) (sym is)

pub cell_grown : (root : Root) (box a b c end : Box) (t : TileAt) (i : ℕ) (cell : LogicCell) → a ≡ grown root box (load_at t (Input i 0) (get_or cell.ins 0 None)) → b ≡ grown root a (load_at t (Input i 1) (get_or cell.ins 1 None))
    → c ≡ grown root b (load_at t (Input i 2) (get_or cell.ins 2 None)) → end ≡ grown root c (load_at t (Input i 3) (get_or cell.ins 3 None)) → end ≡ grown root box (cell_loads t i cell)
cell_grown root box a b c end t i cell e f g h =
    let l0 = load_at t (Input i 0) (get_or cell.ins 0 None) in
    let l1 = load_at t (Input i 1) (get_or cell.ins 1 None) in
    let l2 = load_at t (Input i 2) (get_or cell.ins 2 None) in
    then_grown root box c end ((l0 ++ l1) ++ l2) (load_at t (Input i 3) (get_or cell.ins 3 None)) (then_grown root box b c (l0 ++ l1) l2 (then_grown root box a b l0 l1 e f) g) h

pub numbered_none : (root : Root) (box : Box) (t : TileAt) (cells : List LogicCell) (i c : ℕ) → slice_get cells c ≡ None → box ≡ grown root box (slot_gives cell_loads cells t i (Some c))
numbered_none root box t cells i c e = sym (grown_nothing root box) ∙ ap (λ (o : Option LogicCell). grown root box (option_map_or (cell_loads t i) o [])) (sym e)

pub numbered_some : (root : Root) (box end : Box) (t : TileAt) (cells : List LogicCell) (i c : ℕ) (cell : LogicCell) → slice_get cells c ≡ Some cell → end ≡ grown root box (cell_loads t i cell) → end ≡ grown root box (slot_gives cell_loads cells t i (Some c))
numbered_some root box end t cells i c cell e f = f ∙ ap (λ (o : Option LogicCell). grown root box (option_map_or (cell_loads t i) o [])) (sym e)

pub slot_none : (root : Root) (box : Box) (t : TileAt) (cells : List LogicCell) (i : ℕ) (slot : Option ℕ) → slot ≡ None → box ≡ grown root box (slot_gives cell_loads cells t i slot)
slot_none root box t cells i slot e = sym (grown_nothing root box) ∙ ap (λ o. grown root box (slot_gives cell_loads cells t i o)) (sym e)
