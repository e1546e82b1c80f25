-- The lines that are written for bits of a chip.
use Rattle.std.proofs.Common.{rules, tests, nat_eq, ◌≡◌, ℕ, ◌<◌, Bool, true, false, Some, List, [], ◌∷◌, ◌++◌, length, get_or, map, refl, sym, ap, ◌∙◌, arith}
use Rattle.std.specs.List.{AllByRecursion, range_with_len, IsDistinct, list_any}
use Rattle.std.specs.Map.{lookup, keys_of}
use Rattle.std.proofs.lemmas.List.{length-map, get_or-map}
use Rattle.std.proofs.lemmas.List.FromFn.{fill_by_all}
use Rattle.std.proofs.lemmas.List.Elements.{All-get_or}
use Rattle.ice_base.specs.declared.number.TileAt.{TileAt}
use Rattle.ice_base.specs.declared.bit.BitAt.{BitAt}
use Rattle.ice_chip.specs.Database.{same_tile}
use Rattle.ice_bits.specs.Configuration.{bit_in}
use Rattle.ice_bits.specs.Grids.{IsGrid}
use Rattle.ice_bits.specs.Rewriting.{tiles_with}
use Rattle.ice_asc.specs.Text.{digit_of_bit, bit_at_place, row_line}

-- ---- rows
row_is : (bits : BitAt → Bool) (rows : List (List Bool)) (width row : ℕ) → length (get_or rows row []) ≡ width → ((b : BitAt) → bits b ≡ bit_in rows b)
    → map digit_of_bit (get_or rows row []) ≡ row_line bits width row
row_is bits rows width row wide same =
    fill_by_all (λ col. digit_of_bit (bits (bit_at_place row col))) (map digit_of_bit (get_or rows row [])) width 0
    (length-map (get_or rows row []) digit_of_bit ∙ wide)
    (λ col lt. get_or-map digit_of_bit (get_or rows row []) col false 0 (let l : col < length (get_or rows row []) = omega (arith, wide) in l) ∙ ap digit_of_bit (sym (same (bit_at_place row col))))

pub rows_are : (bits : BitAt → Bool) (rows : List (List Bool)) (width : ℕ) → IsGrid width rows → ((b : BitAt) → bits b ≡ bit_in rows b)
    → map (row_line bits width) (range_with_len 0 16) ≡ map (map digit_of_bit) rows
rows_are bits rows width is same =
    sym (fill_by_all (λ row. row_line bits width row) (map (map digit_of_bit) rows) 16 [] (length-map rows (map digit_of_bit) ∙ is.tall)
    (λ row lt. get_or-map (map digit_of_bit) rows row [] [] (let l : row < length rows = let e = is.tall in omega arith in l)
    ∙ row_is bits rows width row (All-get_or (λ (line : List Bool). length line ≡ width) rows row [] (let l : row < length rows = let e = is.tall in omega arith in l) is.wide) same))

-- ---- tiles at different places
-- a place is not among these
abbrev pub IsElsewhere : TileAt → List TileAt → Type 0
IsElsewhere t ts = AllByRecursion (λ u. same_tile t u ≡ false) ts

pub flipped : (t u : TileAt) → same_tile t u ≡ false → same_tile u t ≡ false
flipped t u h = search (rules, tests)

at_middle : (t u : TileAt) (xs ys : List TileAt) → IsElsewhere u (xs ++ t ∷ ys) → same_tile u t ≡ false
at_middle t u [] ys h = h.0
at_middle t u (x ∷ xs) ys h = at_middle t u xs ys h.1

pub apart_before : (t : TileAt) (xs ys : List TileAt) → IsDistinct same_tile (xs ++ t ∷ ys) → IsElsewhere t xs
unfolding IsDistinct
apart_before t [] ys h = tt
apart_before t (x ∷ xs) ys h = (flipped x t (at_middle t x xs ys h.0), apart_before t xs ys h.1)

pub unseen : (t : TileAt) (ts : List TileAt) → IsElsewhere t ts → list_any (same_tile t) ts ≡ false
unseen t [] h = refl
unseen t (u ∷ ts) h = rw h.0 (unseen t ts h.1)

pub found : {X : Type 0} (t : TileAt) (x : X) (front rest : List (TileAt × X)) → IsElsewhere t (keys_of front) → same_tile t t ≡ true → lookup (same_tile t) (front ++ (t, x) ∷ rest) ≡ Some x
found t x [] rest h self = rw self refl
found t x (e ∷ front) rest h self = rw h.0 (found t x front rest h.1 self)

pub changed : (t : TileAt) (change : List (List Bool) → List (List Bool)) (x : List (List Bool)) (front rest : List (TileAt × List (List Bool))) → IsElsewhere t (keys_of front) → same_tile t t ≡ true
    → tiles_with t change (front ++ (t, x) ∷ rest) ≡ front ++ (t, change x) ∷ rest
changed t change x [] rest h self = rw self refl
changed t change x (e ∷ front) rest h self = rw h.0 (ap (λ es. e ∷ es) (changed t change x front rest h.1 self))

pub self_same : (t : TileAt) → same_tile t t ≡ true
self_same t = rw (self t.x, self t.y) refl
  where
    self : (n : ℕ) → nat_eq n n ≡ true
    self n = search (rules, tests)
