-- One bit written in the rows of a tile.
use Rattle.std.proofs.Common.{Vec, ◌≡◌, ◌≢◌, ℕ, zero, suc, ◌<◌, ◌≤◌, Bool, true, false, if◌then◌else◌, List, [], ◌∷◌, length, get_or, set, refl, sym, ap, ◌∙◌, subst, arith, rules, tests, get_or-set_same, get_or-set_other}
use Rattle.std.specs.List.{AllZip}
use Rattle.std.specs.Prelude.{◌&&◌, nat_lt, nat_eq}
use Rattle.std.proofs.lemmas.Bool.{and_parts}
use Rattle.std.proofs.lemmas.List.{length-set, map-set}
use Rattle.std.specs.declared.alloc.Global.{Global}
use Rattle.std.proofs.lemmas.List.Elements.{All-get_or, All-from_get_or}
use Rattle.ice_base.specs.declared.bit.BitAt.{BitAt}
use Rattle.ice_bits.specs.Configuration.{bit_in, same_place}
use Rattle.ice_bits.specs.Grids.{is_in, IsGrid}
use Rattle.ice_bits.specs.Rewriting.{rows_with}
use Rattle.ice_bits.specs.TileRows.{rows_view}
use Rattle.ice_base.proofs.Keys.{place_same}

lt_from : (a b : ℕ) → nat_lt a b ≡ true → a < b
lt_from a b e = search (rules, tests)

le_from : (a b : ℕ) → nat_lt a b ≡ false → b ≤ a
le_from a b e = search (rules, tests)

-- nothing is written past the end of a row
pub set_past : (xs : List Bool) (i : ℕ) (v : Bool) → length xs ≤ i → set xs i v ≡ xs
set_past [] i v le = refl
set_past (x ∷ xs) zero v le = absurd (omega arith)
set_past (x ∷ xs) (suc i) v le = ap (λ ys. x ∷ ys) (set_past xs i v (omega arith))

items_at : (rows : List (Vec Bool Global)) (i : ℕ) (d : Vec Bool Global) → i < length rows → get_or (rows_view rows) i [] ≡ (get_or rows i d).items
items_at [] i d lt = absurd (omega arith)
items_at (row ∷ rows) zero d lt = refl
items_at (row ∷ rows) (suc i) d lt = items_at rows i d (omega arith)

-- a bit written in a row that is there
pub one_written : (rows : List (Vec Bool Global)) (p : BitAt) (v : Bool) (i j : ℕ) (d new : Vec Bool Global) → i ≡ p.row → j ≡ p.col → i < length rows
    → new.items ≡ set (get_or rows i d).items j v → rows_view (set rows i new) ≡ rows_with p v (rows_view rows)
one_written rows p v i j d new same_row same_col lt wrote =
    map-set (λ (line : Vec Bool Global). line.items) rows i new
    ∙ ap (set (rows_view rows) i) (wrote ∙ ap (λ (line : List Bool). set line j v) (sym (items_at rows i d lt)))
    ∙ ap (λ r. set (rows_view rows) r (set (get_or (rows_view rows) r []) j v)) same_row
    ∙ ap (λ c. set (rows_view rows) p.row (set (get_or (rows_view rows) p.row []) c v)) same_col

-- the row of the written bit
row_after : (rows : List (List Bool)) (r c : ℕ) (v : Bool) → get_or (set rows r (set (get_or rows r []) c v)) r [] ≡ set (get_or rows r []) c v
row_after [] r c v = refl
row_after (row ∷ rows) zero c v = refl
row_after (row ∷ rows) (suc r) c v = row_after rows r c v

-- every row keeps its length
row_length : (rows : List (List Bool)) (r c j : ℕ) (v : Bool) → length (get_or (set rows r (set (get_or rows r []) c v)) j []) ≡ length (get_or rows j [])
row_length [] r c j v = refl
row_length (row ∷ rows) zero c zero v = length-set row c v
row_length (row ∷ rows) zero c (suc j) v = refl
row_length (row ∷ rows) (suc r) c zero v = refl
row_length (row ∷ rows) (suc r) c (suc j) v = row_length rows r c j v

pub rows_keep : (p b : BitAt) (v : Bool) (rows : List (List Bool)) → is_in (rows_with p v rows) b ≡ is_in rows b
rows_keep p b v rows =
    ap (λ n. nat_lt b.row n && nat_lt b.col (length (get_or (rows_with p v rows) b.row []))) (length-set rows p.row (set (get_or rows p.row []) p.col v))
    ∙ ap (λ n. nat_lt b.row (length rows) && nat_lt b.col n) (row_length rows p.row p.col b.row v)

pub grid_keeps : (p : BitAt) (v : Bool) (width : ℕ) (rows : List (List Bool)) → IsGrid width rows → IsGrid width (rows_with p v rows)
grid_keeps p v width rows is = record {
  tall = length-set rows p.row (set (get_or rows p.row []) p.col v) ∙ is.tall;
  wide = All-from_get_or (λ (row : List Bool). length row ≡ width) (rows_with p v rows) []
      (λ i lt. row_length rows p.row p.col i v
      ∙ All-get_or (λ (row : List Bool). length row ≡ width) rows i [] (let e = length-set rows p.row (set (get_or rows p.row []) p.col v) in omega arith) is.wide);
}

-- ---- what is read
past : {A : Type 0} (xs : List A) (i : ℕ) (d : A) → length xs ≤ i → get_or xs i d ≡ d
past [] i d le = refl
past (x ∷ xs) zero d le = absurd (omega arith)
past (x ∷ xs) (suc i) d le = past xs i d (omega arith)

-- nothing is read where there is no place
pub nothing_outside : (rows : List (List Bool)) (b : BitAt) → is_in rows b ≡ false → bit_in rows b ≡ false
nothing_outside rows b out = by (nat_lt b.row (length rows)) refl (nat_lt b.col (length (get_or rows b.row []))) refl
  where
    by : (x : Bool) → nat_lt b.row (length rows) ≡ x → (y : Bool) → nat_lt b.col (length (get_or rows b.row [])) ≡ y → bit_in rows b ≡ false
    by false row y col = ap (λ (line : List Bool). get_or line b.col false) (past rows b.row [] (le_from b.row (length rows) row))
    by true row false col = past (get_or rows b.row []) b.col false (le_from b.col (length (get_or rows b.row [])) col)
    by true row true col = let e : (true && true) ≡ false = ap (λ z. z && true) (sym row) ∙ (ap (λ z. nat_lt b.row (length rows) && z) (sym col) ∙ out) in absurd (cc)

read_here : (rows : List (List Bool)) (p : BitAt) (v : Bool) → is_in rows p ≡ true → bit_in (rows_with p v rows) p ≡ v
read_here rows p v there =
    let parts = and_parts (nat_lt p.row (length rows)) (nat_lt p.col (length (get_or rows p.row []))) there in
    let col : p.col < length (get_or rows p.row []) = lt_from p.col (length (get_or rows p.row [])) parts.1 in
    ap (λ (line : List Bool). get_or line p.col false) (row_after rows p.row p.col v) ∙ get_or-set_same (get_or rows p.row []) p.col v false col

read_elsewhere : (rows : List (List Bool)) (p b : BitAt) (v : Bool) → same_place p b ≡ false → bit_in (rows_with p v rows) b ≡ bit_in rows b
read_elsewhere rows p b v other = by (nat_eq p.row b.row) refl
  where
    same : nat_eq p.row b.row ≡ true → p.row ≡ b.row
    same e = search (rules, tests)

    differ : nat_eq p.row b.row ≡ false → b.row ≢ p.row
    differ e = search (rules, tests)

    columns_differ : nat_eq p.col b.col ≡ false → b.col ≢ p.col
    columns_differ e = search (rules, tests)

    by : (x : Bool) → nat_eq p.row b.row ≡ x → bit_in (rows_with p v rows) b ≡ bit_in rows b
    by false e = ap (λ (line : List Bool). get_or line b.col false) (get_or-set_other rows p.row b.row (set (get_or rows p.row []) p.col v) [] (differ e))
    by true e =
        let col : nat_eq p.col b.col ≡ false = ap (λ z. z && nat_eq p.col b.col) (sym e) ∙ other in
        ap (λ r. get_or (get_or (rows_with p v rows) r []) b.col false) (sym (same e))
        ∙ ap (λ (line : List Bool). get_or line b.col false) (row_after rows p.row p.col v)
        ∙ get_or-set_other (get_or rows p.row []) p.col b.col v false (columns_differ col)
        ∙ ap (λ r. get_or (get_or rows r []) b.col false) (same e)

pub read_after : (rows : List (List Bool)) (p b : BitAt) (v : Bool)
    → bit_in (rows_with p v rows) b ≡ (if is_in rows b then (if same_place p b then v else bit_in rows b) else false)
read_after rows p b v = by (is_in rows b) refl (same_place p b) refl
  where
    by : (x : Bool) → is_in rows b ≡ x → (y : Bool) → same_place p b ≡ y → bit_in (rows_with p v rows) b ≡ (if x then (if y then v else bit_in rows b) else false)
    by false out y other = nothing_outside (rows_with p v rows) b (rows_keep p b v rows ∙ out)
    by true there false other = read_elsewhere rows p b v other
    by true there true same =
        let e : p ≡ b = place_same p b same in
        subst (λ (q : BitAt). is_in rows q ≡ true → bit_in (rows_with p v rows) q ≡ v) e (read_here rows p v) there

-- rows that are copied one by one
pub rows_copied : (R : Vec Bool Global → Vec Bool Global → Type 0) (rows copies : List (Vec Bool Global)) → AllZip R rows copies → ((row copy : Vec Bool Global) → R row copy → copy.items ≡ row.items)
    → rows_view copies ≡ rows_view rows
rows_copied R [] [] all each = refl
rows_copied R [] (copy ∷ copies) all each = absurd all
rows_copied R (row ∷ rows) [] all each = absurd all
rows_copied R (row ∷ rows) (copy ∷ copies) all each =
    ap (λ (items : List Bool). items ∷ rows_view copies) (each row copy all.0) ∙ ap (λ (others : List (List Bool)). row.items ∷ others) (rows_copied R rows copies all.1 each)
