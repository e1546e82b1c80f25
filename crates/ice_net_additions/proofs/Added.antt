-- What is added to a netlist: names and cells, one after another.
use Rattle.std.proofs.Common.{◌≡◌, ℕ, ◌+◌, ◌<◌, ◌≤◌, Bool, false, List, [], ◌∷◌, ◌++◌, length, take, get_or, All, sym, ap, ◌∙◌, subst, arith, append-nil, append_assoc, length-append, length-take-le, if◌then◌else◌, bytes_eq}
use Rattle.std.specs.Cmp.{IsEquivalence}
use Rattle.std.specs.List.{IsDistinct, list_any}
use Rattle.std.proofs.Math.Seq.{take-append-add}
use Rattle.std.proofs.lemmas.Cmp.{nat_list_eq_equiv}
use Rattle.std.proofs.lemmas.List.{get_or-take, get_or_append_left, get_or-append-add, get_or_default, take_more, take_all}
use Rattle.std.proofs.lemmas.List.Folds.{list_any_none}
use Rattle.std.proofs.lemmas.Map.Keys.{apart_from_distinct}
use Rattle.ice_base.specs.Lists.{with_name}
use Rattle.ice_net.specs.declared.cell.Cell.{Cell}
use Rattle.ice_net.specs.Formed.{IsFormedCell}
use Rattle.ice_net.specs.NetlistData.{NetlistData}
use Rattle.ice_net_additions.specs.Adding.{with_names, HasRoomForNames, with_cells, HasRoomForCells}

-- ---- what stands before
-- an item of a list without doubles is none of those before it
pub before : {X : Type 0} (e : X → X → Bool) → IsEquivalence e → (xs : List X) (i k : ℕ) (d : X) → IsDistinct e xs → i < length xs → k < i → e (get_or xs i d) (get_or xs k d) ≡ false
before e laws xs i k d once lt below = laws.symm (get_or xs i d) (get_or xs k d) ∙ apart_from_distinct e xs k i d once below lt

pub taken : {X : Type 0} (xs : List X) (i k : ℕ) (d other : X) → i < length xs → k < length (take i xs) → (k < i) × (get_or (take i xs) k other ≡ get_or xs k d)
taken xs i k d other lt below =
    let long : length (take i xs) ≡ i = length-take-le i xs (omega (arith, lt)) in
    let less : k < i = omega (arith, below, long) in
    let within : k < length xs = omega (arith, less, lt) in
    (less, get_or-take i xs k other less ∙ get_or_default xs k other d within)

-- ---- names
new_name : (names : List (List ℕ)) (i : ℕ) (d : List ℕ) → IsDistinct bytes_eq names → i < length names → list_any (bytes_eq (get_or names i d)) (take i names) ≡ false
new_name names i d once lt =
    list_any_none (bytes_eq (get_or names i d)) (take i names)
    (λ k other below. let t = taken names i k d other lt below in ap (bytes_eq (get_or names i d)) t.1 ∙ before bytes_eq nat_list_eq_equiv names i k d once lt t.0)

-- the next of several names that are added behind others
name_added : (olds news : List (List ℕ)) (i : ℕ) (name : List ℕ) → IsDistinct bytes_eq (olds ++ news) → i < length news → name ≡ get_or news i name → with_name (olds ++ take i news) name ≡ olds ++ take (i + 1) news
name_added olds news i name once lt is =
    ap (λ b. if b then olds ++ take i news else (olds ++ take i news) ++ name ∷ []) new
    ∙ append_assoc olds (take i news) (name ∷ [])
    ∙ ap (λ x. olds ++ (take i news ++ x ∷ [])) is
    ∙ ap (λ ys. olds ++ ys) (sym (take_more news i name lt))
  where
    within : length olds + i < length (olds ++ news)
    within = let long = length-append olds news in omega (arith, long, lt)

    new : list_any (bytes_eq name) (olds ++ take i news) ≡ false
    new =
        ap (λ ys. list_any (bytes_eq name) ys) (sym (take-append-add olds news i))
        ∙ ap (λ x. list_any (bytes_eq x) (take (length olds + i) (olds ++ news))) (is ∙ sym (get_or-append-add olds news i name))
        ∙ new_name (olds ++ news) (length olds + i) name once within

pub names_none : (n : NetlistData) (news : List (List ℕ)) → n ≡ with_names n (take 0 news)
names_none n news = ap (λ (names : List (List ℕ)). record n { names = names }) (sym (append-nil n.names))

pub names_all : (n m : NetlistData) (news : List (List ℕ)) (i : ℕ) → length news ≤ i → m ≡ with_names n (take i news) → m ≡ with_names n news
names_all n m news i le e = e ∙ ap (with_names n) (take_all i news le)

pub names_more : (n m now : NetlistData) (news : List (List ℕ)) (i : ℕ) (name : List ℕ) → HasRoomForNames n news → i < length news → name ≡ get_or news i name
    → m ≡ with_names n (take i news) → now ≡ record m { names = with_name m.names name } → now ≡ with_names n (take (i + 1) news)
names_more n m now news i name room lt is e next =
    next
    ∙ ap (λ (k : NetlistData). record k { names = with_name k.names name }) e
    ∙ ap (λ (names : List (List ℕ)). record n { names = names }) (name_added n.names news i name room.once lt is)

pub names_room : (n m : NetlistData) (news : List (List ℕ)) (i : ℕ) → HasRoomForNames n news → i < length news → m ≡ with_names n (take i news) → length m.names < 1073741823
names_room n m news i room lt e =
    let few = room.few in
    let same = ap (λ (k : NetlistData). length k.names) e in
    let long = length-append n.names (take i news) in
    let short = length-take-le i news (omega (arith, lt)) in
    omega (arith, few, lt, same, long, short)

-- ---- cells
pub cells_none : (n : NetlistData) (news : List Cell) → n ≡ with_cells n (take 0 news)
cells_none n news = ap (λ (cells : List Cell). record n { cells = cells }) (sym (append-nil n.cells))

pub cells_all : (n m : NetlistData) (news : List Cell) (i : ℕ) → length news ≤ i → m ≡ with_cells n (take i news) → m ≡ with_cells n news
cells_all n m news i le e = e ∙ ap (with_cells n) (take_all i news le)

pub cells_more : (n m now : NetlistData) (news : List Cell) (i : ℕ) (cell : Cell) → i < length news → cell ≡ get_or news i cell
    → m ≡ with_cells n (take i news) → now ≡ record m { cells = m.cells ++ cell ∷ [] } → now ≡ with_cells n (take (i + 1) news)
cells_more n m now news i cell lt is e next =
    next
    ∙ ap (λ (k : NetlistData). record k { cells = k.cells ++ cell ∷ [] }) e
    ∙ ap (λ (cells : List Cell). record n { cells = cells }) (append_assoc n.cells (take i news) (cell ∷ []))
    ∙ ap (λ (c : Cell). with_cells n (take i news ++ c ∷ [])) is
    ∙ ap (with_cells n) (sym (take_more news i cell lt))

pub cells_room : (n m : NetlistData) (news : List Cell) (i : ℕ) → HasRoomForCells n news → i < length news → m ≡ with_cells n (take i news) → length m.cells < 1073741823
cells_room n m news i room lt e =
    let few = room.few in
    let same = ap (λ (k : NetlistData). length k.cells) e in
    let long = length-append n.cells (take i news) in
    let short = length-take-le i news (omega (arith, lt)) in
    omega (arith, few, lt, same, long, short)

pub cells_formed : (n m : NetlistData) (news : List Cell) (i : ℕ) (cell : Cell) → HasRoomForCells n news → i < length news → cell ≡ get_or news i cell → m ≡ with_cells n (take i news) → IsFormedCell (length m.names) cell
cells_formed n m news i cell room lt is e =
    subst (λ (k : NetlistData). IsFormedCell (length k.names) cell) (sym e)
    (subst (λ (c : Cell). IsFormedCell (length n.names) c) (sym is) (room.formed i cell lt))

-- ---- all of a list, part by part
pub all_left : {X : Type 0} (P : X → Type 0) (xs ys : List X) → All P (xs ++ ys) → All P xs
all_left P xs ys all k d lt = subst P (get_or_append_left xs ys d k lt) (all k d (let long = length-append xs ys in omega (arith, long, lt)))

pub all_right : {X : Type 0} (P : X → Type 0) (xs ys : List X) → All P (xs ++ ys) → All P ys
all_right P xs ys all k d lt = subst P (get_or-append-add xs ys k d) (all (length xs + k) d (let long = length-append xs ys in omega (arith, long, lt)))
