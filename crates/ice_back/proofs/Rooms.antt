-- Room for names and cells, as they are added in parts.
use Rattle.std.proofs.Common.{◌≡◌, ℕ, ◌+◌, ◌<◌, Bool, true, false, List, [], ◌∷◌, ◌++◌, length, drop, get_or, sym, ap, ◌∙◌, subst, arith, append_assoc, length-append, bytes_eq}
use Rattle.std.specs.Prelude.{◌==◌, if◌then◌else◌}
use Rattle.std.specs.List.{IsDistinct, flat_map, list_any}
use Rattle.std.proofs.lemmas.Cmp.{nat_list_eq_equiv}
use Rattle.std.proofs.lemmas.List.{drop_more}
use Rattle.ice_net.specs.declared.cell.Cell.{Cell}
use Rattle.ice_net.specs.Formed.{IsFormedCell}
use Rattle.ice_net.specs.NetlistData.{NetlistData}
use Rattle.ice_net_additions.proofs.Added.{all_left, all_right}
use Rattle.ice_back_points.proofs.Distinct.{distinct_left, last_new}
use Rattle.ice_back.specs.Adding.{with_names, HasRoomForNames, with_cells, HasRoomForCells}

-- ---- lists
-- what one item more gives, behind what those before it give
pub listed_next : {X A : Type 0} (f : X → List A) (xs : List X) (i : ℕ) (d : X) (whole done more : List A) → i < length xs → whole ≡ done ++ flat_map f (drop i xs) → more ≡ done ++ f (get_or xs i d)
    → whole ≡ more ++ flat_map f (drop (i + 1) xs)
listed_next f xs i d whole done more lt e is =
    e ∙ ap (λ ys. done ++ flat_map f ys) (drop_more xs i d lt) ∙ sym (append_assoc done (f (get_or xs i d)) (flat_map f (drop (i + 1) xs))) ∙ ap (λ items. items ++ flat_map f (drop (i + 1) xs)) (sym is)

-- ---- names
pub names_first : (n : NetlistData) (xs ys : List (List ℕ)) → HasRoomForNames n (xs ++ ys) → HasRoomForNames n xs
names_first n xs ys room = record {
  few = (let few = room.few in let long = length-append xs ys in omega (arith, few, long));
  once = distinct_left bytes_eq (n.names ++ xs) ys (subst (IsDistinct bytes_eq) (sym (append_assoc n.names xs ys)) room.once);
}

pub names_rest : (n m : NetlistData) (xs ys : List (List ℕ)) → HasRoomForNames n (xs ++ ys) → m ≡ with_names n xs → HasRoomForNames m ys
names_rest n m xs ys room e =
    subst (λ (k : NetlistData). HasRoomForNames k ys) (sym e) (record {
      few = (let few = room.few in let long = length-append xs ys in let more = length-append n.names xs in omega (arith, few, long, more));
      once = subst (IsDistinct bytes_eq) (sym (append_assoc n.names xs ys)) room.once;
    })

pub names_both : (n m : NetlistData) (xs ys : List (List ℕ)) → m ≡ with_names n xs → with_names m ys ≡ with_names n (xs ++ ys)
names_both n m xs ys e = ap (λ (k : NetlistData). with_names k ys) e ∙ ap (λ (names : List (List ℕ)). record n { names = names }) (append_assoc n.names xs ys)

pub names_step : (n m whole : NetlistData) (xs ys : List (List ℕ)) → HasRoomForNames n (xs ++ ys) → whole ≡ with_names n (xs ++ ys) → m ≡ with_names n xs → HasRoomForNames m ys × (whole ≡ with_names m ys)
names_step n m whole xs ys room e is = (names_rest n m xs ys room is, e ∙ sym (names_both n m xs ys is))

-- one item more of a list whose items each give names
pub names_next : {X : Type 0} (f : X → List (List ℕ)) (n m whole : NetlistData) (xs : List X) (i : ℕ) (d : X) → i < length xs
    → HasRoomForNames n (flat_map f (drop i xs)) → whole ≡ with_names n (flat_map f (drop i xs)) → m ≡ with_names n (f (get_or xs i d))
    → HasRoomForNames m (flat_map f (drop (i + 1) xs)) × (whole ≡ with_names m (flat_map f (drop (i + 1) xs)))
names_next f n m whole xs i d lt room e is =
    let split = ap (λ ys. flat_map f ys) (drop_more xs i d lt) in (
      names_rest n m (f (get_or xs i d)) (flat_map f (drop (i + 1) xs)) (subst (HasRoomForNames n) split room) is,
      e ∙ ap (with_names n) split ∙ sym (names_both n m (f (get_or xs i d)) (flat_map f (drop (i + 1) xs)) is),
    )

pub names_here : {X : Type 0} (f : X → List (List ℕ)) (n : NetlistData) (xs : List X) (i : ℕ) (d : X) → i < length xs → HasRoomForNames n (flat_map f (drop i xs)) → HasRoomForNames n (f (get_or xs i d))
names_here f n xs i d lt room = names_first n (f (get_or xs i d)) (flat_map f (drop (i + 1) xs)) (subst (HasRoomForNames n) (ap (λ ys. flat_map f ys) (drop_more xs i d lt)) room)

pub new_name : (n : NetlistData) (name : List ℕ) → HasRoomForNames n (name ∷ []) → list_any (bytes_eq name) n.names ≡ false
new_name n name room = last_new bytes_eq nat_list_eq_equiv n.names name room.once

-- ---- cells
pub cells_first : (n : NetlistData) (xs ys : List Cell) → HasRoomForCells n (xs ++ ys) → HasRoomForCells n xs
cells_first n xs ys room = record {
  few = (let few = room.few in let long = length-append xs ys in omega (arith, few, long));
  formed = all_left (IsFormedCell (length n.names)) xs ys room.formed;
}

pub cells_rest : (n m : NetlistData) (xs ys : List Cell) → HasRoomForCells n (xs ++ ys) → m ≡ with_cells n xs → HasRoomForCells m ys
cells_rest n m xs ys room e =
    subst (λ (k : NetlistData). HasRoomForCells k ys) (sym e) (record {
      few = (let few = room.few in let long = length-append xs ys in let more = length-append n.cells xs in omega (arith, few, long, more));
      formed = all_right (IsFormedCell (length n.names)) xs ys room.formed;
    })

pub cells_both : (n m : NetlistData) (xs ys : List Cell) → m ≡ with_cells n xs → with_cells m ys ≡ with_cells n (xs ++ ys)
cells_both n m xs ys e = ap (λ (k : NetlistData). with_cells k ys) e ∙ ap (λ (cells : List Cell). record n { cells = cells }) (append_assoc n.cells xs ys)

pub cells_here : {X : Type 0} (f : X → List Cell) (n : NetlistData) (xs : List X) (i : ℕ) (d : X) → i < length xs → HasRoomForCells n (flat_map f (drop i xs)) → HasRoomForCells n (f (get_or xs i d))
cells_here f n xs i d lt room = cells_first n (f (get_or xs i d)) (flat_map f (drop (i + 1) xs)) (subst (HasRoomForCells n) (ap (λ ys. flat_map f ys) (drop_more xs i d lt)) room)

pub cells_next : {X : Type 0} (f : X → List Cell) (n m whole : NetlistData) (xs : List X) (i : ℕ) (d : X) → i < length xs
    → HasRoomForCells n (flat_map f (drop i xs)) → whole ≡ with_cells n (flat_map f (drop i xs)) → m ≡ with_cells n (f (get_or xs i d))
    → HasRoomForCells m (flat_map f (drop (i + 1) xs)) × (whole ≡ with_cells m (flat_map f (drop (i + 1) xs)))
cells_next f n m whole xs i d lt room e is =
    let split = ap (λ ys. flat_map f ys) (drop_more xs i d lt) in (
      cells_rest n m (f (get_or xs i d)) (flat_map f (drop (i + 1) xs)) (subst (HasRoomForCells n) split room) is,
      e ∙ ap (with_cells n) split ∙ sym (cells_both n m (f (get_or xs i d)) (flat_map f (drop (i + 1) xs)) is),
    )

-- the cell of a table with a bit
pub table_made : (table number : ℕ) (one made : Cell) → table ≡ number → (table ≡ 0 → ⊥) → made ≡ one → (if number == 0 then [] else one ∷ []) ≡ made ∷ []
table_made table number one made is bit same =
    let some : (number == 0) ≡ false = grind arith in
    ap (λ b. if b then [] else one ∷ []) some ∙ ap (λ (c : Cell). c ∷ []) (sym same)

-- a cell that is made where a test says so
pub one_made : (test : Bool) (one made : Cell) → test ≡ true → made ≡ one → (if test then one ∷ [] else []) ≡ made ∷ []
one_made test one made hit same = ap (λ b. if b then one ∷ [] else []) hit ∙ ap (λ (c : Cell). c ∷ []) (sym same)
