-- The list of each wire holds the groups into it.
use Rattle.std.proofs.Common.{◌≡◌, ◌≢◌, ℕ, zero, suc, Vec, All, ◌<◌, ◌≤◌, ◌==◌, Bool, true, false, cond, List, [], ◌∷◌, ◌++◌, map, length, get_or, set, refl, sym, ap, ◌∙◌, arith, append-nil, append_assoc, length-set, replicate, true≢false}
use Rattle.std.specs.Borrow.{Bor}
use Rattle.std.proofs.lemmas.Bool.{eqb-true, eq-eqb}
use Rattle.std.proofs.lemmas.List.{get_or-set_same, get_or-set_other, map-set, get_or-replicate, length-map, length-replicate, map-append}
use Rattle.std.proofs.lemmas.List.Elements.{All-get_or, All-head, All-tail}
use Rattle.std.specs.declared.alloc.Global.{Global}
use Rattle.ice_chip.specs.Database.{SwitchGroup}
use Rattle.ice_chip.specs.IsRead.{HasWiresBelow}
use Rattle.ice_chip.specs.Views.{group_view}
use Rattle.ice_chip.specs.declared.sections.Group.{Group}
use Rattle.ice_bits_rows.specs.Bundles.{groups_into}
use Rattle.ice_bits_rows.specs.Lists.{views, lists_of, with_listed, listed}

pub items_at : (lists : List (Vec (Bor Group) Global)) (i : ℕ) (d : Vec (Bor Group) Global) → i < length lists → get_or (lists_of lists) i [] ≡ views (get_or lists i d).items
items_at [] i d lt = absurd (omega arith)
items_at (list ∷ lists) zero d lt = refl
items_at (list ∷ lists) (suc i) d lt = items_at lists i d (omega arith)

-- a group put behind the others of its wire
pub listed_one : (lists : List (Vec (Bor Group) Global)) (d new : Vec (Bor Group) Global) (g : Bor Group) → g.now.wire.0 < length lists
    → new.items ≡ (get_or lists g.now.wire.0 d).items ++ g ∷ [] → lists_of (set lists g.now.wire.0 new) ≡ with_listed (lists_of lists) (group_view g.now)
listed_one lists d new g lt pushed =
    let got : get_or (lists_of lists) g.now.wire.0 [] ≡ views (get_or lists g.now.wire.0 d).items = items_at lists g.now.wire.0 d lt in
    map-set (λ v. views v.items) lists g.now.wire.0 new
    ∙ ap (set (lists_of lists) g.now.wire.0) (ap views pushed ∙ map-append (λ x. group_view x.now) (get_or lists g.now.wire.0 d).items (g ∷ []) ∙ ap (λ xs. xs ++ group_view g.now ∷ []) (sym got))

-- the wire of each group is one of the chip
pub wire_below : (wires : ℕ) (groups : List Group) (i : ℕ) (d : Group) → All (HasWiresBelow wires) (map group_view groups) → i < length groups → (get_or groups i d).wire.0 < wires
wire_below wires [] i d all lt = absurd (omega arith)
wire_below wires (g ∷ groups) zero d all lt = (All-get_or (HasWiresBelow wires) (map group_view (g ∷ groups)) 0 (group_view g) (omega arith) all).target
wire_below wires (g ∷ groups) (suc i) d all lt = wire_below wires groups i d (All-tail (HasWiresBelow wires) (group_view g) (map group_view groups) all) (omega arith)

length-listed : (lists : List (List SwitchGroup)) (gs : List SwitchGroup) → length (listed lists gs) ≡ length lists
length-listed lists [] = refl
length-listed lists (g ∷ gs) = length-listed (with_listed lists g) gs ∙ length-set lists g.wire (get_or lists g.wire [] ++ g ∷ [])

one_more : (lists : List (List SwitchGroup)) (g : SwitchGroup) (w : ℕ) (others : List SwitchGroup) (b : Bool) → w < length lists → (g.wire == w) ≡ b
    → get_or (with_listed lists g) w [] ++ others ≡ get_or lists w [] ++ cond b (g ∷ others) others
one_more lists g w others true lt is =
    let same : g.wire ≡ w = eqb-true g.wire w is in
    let here : get_or (set lists w (get_or lists w [] ++ g ∷ [])) w [] ≡ get_or lists w [] ++ g ∷ [] = get_or-set_same lists w (get_or lists w [] ++ g ∷ []) [] lt in
    ap (λ v. get_or (set lists v (get_or lists v [] ++ g ∷ [])) w [] ++ others) same
    ∙ ap (λ xs. xs ++ others) here
    ∙ append_assoc (get_or lists w []) (g ∷ []) others
one_more lists g w others false lt is =
    let other : w ≢ g.wire = λ e. true≢false (sym (eq-eqb g.wire w (sym e)) ∙ is) in
    ap (λ xs. xs ++ others) (get_or-set_other lists g.wire w (get_or lists g.wire [] ++ g ∷ []) [] other)

listed_at : (w : ℕ) (lists : List (List SwitchGroup)) (gs : List SwitchGroup) → w < length lists
    → get_or (listed lists gs) w [] ≡ get_or lists w [] ++ groups_into gs w
listed_at w lists [] lt = sym (append-nil (get_or lists w []))
listed_at w lists (g ∷ gs) lt =
    let more : w < length (with_listed lists g) = rw (length-set lists g.wire (get_or lists g.wire [] ++ g ∷ [])) lt in
    listed_at w (with_listed lists g) gs more
    ∙ one_more lists g w (groups_into gs w) (g.wire == w) lt refl

length-lists : (wires : ℕ) (gs : List SwitchGroup) (lists : List (Vec (Bor Group) Global)) → lists_of lists ≡ listed (replicate wires []) gs → length lists ≡ wires
length-lists wires gs lists e = sym (length-map lists (λ v. views v.items)) ∙ ap length e ∙ length-listed (replicate wires []) gs ∙ length-replicate {A = List SwitchGroup} wires []

pub list_within : (wires : ℕ) (gs : List SwitchGroup) (lists : List (Vec (Bor Group) Global)) (wire : ℕ) → lists_of lists ≡ listed (replicate wires []) gs → wire < wires → wire < length lists
list_within wires gs lists wire e lt = let long : length lists ≡ wires = length-lists wires gs lists e in omega arith

pub groups_found : (wires : ℕ) (gs : List SwitchGroup) (lists : List (Vec (Bor Group) Global)) (wire : ℕ) (d : Vec (Bor Group) Global) → lists_of lists ≡ listed (replicate wires []) gs → wire < wires
    → views (get_or lists wire d).items ≡ groups_into gs wire
groups_found wires gs lists wire d e lt =
    let long : wire < length (replicate {A = List SwitchGroup} wires []) = rw (length-replicate {A = List SwitchGroup} wires []) lt in
    sym (items_at lists wire d (list_within wires gs lists wire e lt))
    ∙ ap (λ xs. get_or xs wire []) e
    ∙ listed_at wire (replicate wires []) gs long
    ∙ ap (λ xs. xs ++ groups_into gs wire) (get_or-replicate wires wire [] [] lt)

-- no group leads into a wire that the chip hasn't
pub groups_beyond : (wires wire : ℕ) (gs : List SwitchGroup) → All (HasWiresBelow wires) gs → wires ≤ wire → groups_into gs wire ≡ []
groups_beyond wires wire [] all le = refl
groups_beyond wires wire (g ∷ gs) all le = by (g.wire == wire) refl (groups_beyond wires wire gs (All-tail (HasWiresBelow wires) g gs all) le)
  where
    below : g.wire < wires
    below = (All-head (HasWiresBelow wires) g gs all).target

    by : (b : Bool) → (g.wire == wire) ≡ b → groups_into gs wire ≡ [] → cond b (g ∷ groups_into gs wire) (groups_into gs wire) ≡ []
    by true is later = (let same : g.wire ≡ wire = eqb-true g.wire wire is in let under : g.wire < wires = below in absurd (omega arith))
    by false is later = later
