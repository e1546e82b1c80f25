-- Lists that are made piece by piece.
use Rattle.std.proofs.Common.{◌≡◌, ◌⊎◌, inl, inr, ℕ, ◌+◌, ◌<◌, ◌≤◌, min, Option, None, Some, List, [], ◌∷◌, ◌++◌, drop, length, get_or, refl, ap, ap₂, sym, ◌∙◌, add-one, drop-cons, append_assoc, append-nil, arith}
use Rattle.std.specs.Prelude.{slice_get}
use Rattle.std.specs.Option.{option_map_or}
use Rattle.std.proofs.lemmas.Bool.{cases_lt}
use Rattle.std.proofs.Math.ListN.{drop_of_length-le}
use Rattle.ice_chip.specs.Database.{Parts}
use Rattle.ice_chip.specs.declared.rows.Pad.{Pad}
use Rattle.ice_cells.specs.declared.cell.LogicCell.{LogicCell}
use Rattle.ice_cells.specs.declared.cluster.Cluster.{Cluster}
use Rattle.ice_cells.specs.declared.design.DesignPad.{DesignPad}
use Rattle.ice_cells.specs.declared.root.Root.{Root}
use Rattle.ice_anneal_board.specs.declared.net.Node.{Node}
use Rattle.ice_anneal_nets.specs.declared.read.Read.{Read}
use Rattle.ice_anneal_nets.specs.Reads.{pad_reads, pads_reads, global_reads, globals_reads, cell_reads, slot_reads, slots_reads, cluster_reads, clusters_reads}

-- two pieces
pub joined_two : (old mid new a b : List Read) → mid ≡ old ++ a → new ≡ mid ++ b → new ≡ old ++ (a ++ b)
joined_two old mid new a b e f = f ∙ ap (λ l. l ++ b) e ∙ append_assoc old a b

-- nothing
pub joined_none : {X : Type 0} → (old : List X) (a : List X) → a ≡ [] → old ≡ old ++ a
joined_none old a e = sym (ap (λ l. old ++ l) e ∙ append-nil old)

-- one piece of what is left, and the end
pub step_joined : {X : Type 0} → (now next xs rest left end : List X) → left ≡ xs ++ rest → next ≡ now ++ xs → now ++ left ≡ end → next ++ rest ≡ end
step_joined now next xs rest left end e f inv = ap (λ l. l ++ rest) f ∙ append_assoc now xs rest ∙ ap (λ l. now ++ l) (sym e) ∙ inv

pub end_joined : {X : Type 0} → (now left end : List X) → left ≡ [] → now ++ left ≡ end → now ≡ end
end_joined now left end e inv = joined_none now left e ∙ inv

-- ---- two lists side by side
pub both_more : {A B C : Type 0} → (f : List A → List B → List C) (g : A → B → List C) → ((a : A) (b : B) (as' : List A) (bs : List B) → f (a ∷ as') (b ∷ bs) ≡ g a b ++ f as' bs)
    → (xs : List A) (ys : List B) (k : ℕ) (x d : A) (y e : B) → k < length xs → k < length ys → x ≡ get_or xs k d → y ≡ get_or ys k e → f (drop k xs) (drop k ys) ≡ g x y ++ f (drop (k + 1) xs) (drop (k + 1) ys)
both_more f g step xs ys k x d y e lt lt' is is' =
    let first : drop k xs ≡ x ∷ drop (k + 1) xs = rw (add-one, is) (drop-cons xs k d lt) in
    let second : drop k ys ≡ y ∷ drop (k + 1) ys = rw (add-one, is') (drop-cons ys k e lt') in
    ap₂ f first second ∙ step x y (drop (k + 1) xs) (drop (k + 1) ys)

pub both_end : {A B C : Type 0} → (f : List A → List B → List C) → ((bs : List B) → f [] bs ≡ []) → ((as' : List A) → f as' [] ≡ []) → (xs : List A) (ys : List B) (k : ℕ) → min (length xs) (length ys) ≤ k → f (drop k xs) (drop k ys) ≡ []
both_end f left right xs ys k le = by (cases_lt k (length xs))
  where
    by : (k < length xs) ⊎ (length xs ≤ k) → f (drop k xs) (drop k ys) ≡ []
    by (inl lt) = ap (f (drop k xs)) (drop_of_length-le ys {i = k} (omega arith)) ∙ right (drop k xs)
    by (inr ge) = ap (λ l. f l (drop k ys)) (drop_of_length-le xs {i = k} ge) ∙ left (drop k ys)

pads_step : (a : Pad) (b : DesignPad) (places : List Pad) (pads : List DesignPad) → pads_reads (a ∷ places) (b ∷ pads) ≡ pad_reads a b ++ pads_reads places pads
pads_step a b places pads = refl

pads_left : (pads : List DesignPad) → pads_reads [] pads ≡ []
pads_left pads = refl

pads_right : (places : List Pad) → pads_reads places [] ≡ []
pads_right [] = refl
pads_right (p ∷ places) = refl

pub pads_more : (places : List Pad) (pads : List DesignPad) (k : ℕ) (x d : Pad) (y e : DesignPad) → k < length places → k < length pads → x ≡ get_or places k d → y ≡ get_or pads k e
    → pads_reads (drop k places) (drop k pads) ≡ pad_reads x y ++ pads_reads (drop (k + 1) places) (drop (k + 1) pads)
pads_more = both_more pads_reads pad_reads pads_step

pub pads_end : (places : List Pad) (pads : List DesignPad) (k : ℕ) → min (length places) (length pads) ≤ k → pads_reads (drop k places) (drop k pads) ≡ []
pads_end = both_end pads_reads pads_left pads_right

globals_step : (parts : Parts) (a : ℕ) (b : Option Root) (ns : List ℕ) (reads : List (Option Root)) → globals_reads parts (a ∷ ns) (b ∷ reads) ≡ global_reads parts a b ++ globals_reads parts ns reads
globals_step parts a b ns reads = refl

globals_left : (parts : Parts) (reads : List (Option Root)) → globals_reads parts [] reads ≡ []
globals_left parts reads = refl

globals_right : (parts : Parts) (ns : List ℕ) → globals_reads parts ns [] ≡ []
globals_right parts [] = refl
globals_right parts (n ∷ ns) = refl

pub globals_more : (parts : Parts) (ns : List ℕ) (reads : List (Option Root)) (k : ℕ) (x d : ℕ) (y e : Option Root) → k < length ns → k < length reads → x ≡ get_or ns k d → y ≡ get_or reads k e
    → globals_reads parts (drop k ns) (drop k reads) ≡ global_reads parts x y ++ globals_reads parts (drop (k + 1) ns) (drop (k + 1) reads)
globals_more parts = both_more (globals_reads parts) (global_reads parts) (globals_step parts)

pub globals_end : (parts : Parts) (ns : List ℕ) (reads : List (Option Root)) (k : ℕ) → min (length ns) (length reads) ≤ k → globals_reads parts (drop k ns) (drop k reads) ≡ []
globals_end parts = both_end (globals_reads parts) (globals_left parts) (globals_right parts)

-- ---- one list
pub slots_more : (cells : List LogicCell) (node : Node) (slots : List (Option ℕ)) (k : ℕ) (x d : Option ℕ) → k < length slots → x ≡ get_or slots k d
    → slots_reads cells node (drop k slots) ≡ slot_reads cells node x ++ slots_reads cells node (drop (k + 1) slots)
slots_more cells node slots k x d lt is = (let first : drop k slots ≡ x ∷ drop (k + 1) slots = rw (add-one, is) (drop-cons slots k d lt) in ap (slots_reads cells node) first)

pub slots_end : (cells : List LogicCell) (node : Node) (slots : List (Option ℕ)) (k : ℕ) → length slots ≤ k → slots_reads cells node (drop k slots) ≡ []
slots_end cells node slots k le = ap (slots_reads cells node) (drop_of_length-le slots {i = k} le)

pub clusters_more : (cells : List LogicCell) (clusters : List Cluster) (k : ℕ) (x e : Cluster) → k < length clusters → x ≡ get_or clusters k e
    → clusters_reads cells k (drop k clusters) ≡ cluster_reads cells k x ++ clusters_reads cells (k + 1) (drop (k + 1) clusters)
clusters_more cells clusters k x e lt is = (let first : drop k clusters ≡ x ∷ drop (k + 1) clusters = rw (add-one, is) (drop-cons clusters k e lt) in ap (clusters_reads cells k) first)

pub clusters_end : (cells : List LogicCell) (clusters : List Cluster) (k : ℕ) → length clusters ≤ k → clusters_reads cells k (drop k clusters) ≡ []
clusters_end cells clusters k le = ap (clusters_reads cells k) (drop_of_length-le clusters {i = k} le)

-- ---- a cell by its number
pub numbered_none : (cells : List LogicCell) (node : Node) (c : ℕ) (old : List Read) → slice_get cells c ≡ None → old ≡ old ++ slot_reads cells node (Some c)
numbered_none cells node c old e = joined_none old (slot_reads cells node (Some c)) (ap (λ (o : Option LogicCell). option_map_or (cell_reads node) o []) e)

pub numbered_some : (cells : List LogicCell) (node : Node) (c : ℕ) (cell : LogicCell) (old new : List Read) → slice_get cells c ≡ Some cell → new ≡ old ++ cell_reads node cell → new ≡ old ++ slot_reads cells node (Some c)
numbered_some cells node c cell old new e f = f ∙ ap (λ (o : Option LogicCell). old ++ option_map_or (cell_reads node) o []) (sym e)
