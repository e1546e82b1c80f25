-- The names of the signals of a circuit differ, and where those of the pins are words all are words that begin no comment.
use Rattle.std.proofs.Common.{◌≡◌, ◌⊎◌, ℕ, zero, suc, ◌+◌, ◌*◌, ◌^◌, ◌<◌, ◌==◌, true, false, Option, List, [], ◌∷◌, ◌++◌, length, drop, length-append, inl, inr, refl, sym, ap, ◌∙◌, subst, true≢false, append_assoc, if◌then◌else◌, arith, rules}
use Rattle.std.specs.Char.{is_ascii_digit}
use Rattle.std.specs.List.{IsDistinct, flat_map}
use Rattle.std.specs.Map.{keys_of}
use Rattle.std.specs.Prelude.{All, bytes_eq, codes, decimal, option_map, slice_index_or, unwrap_or}
use Rattle.std.specs.Str.{all_ascii_digits}
use Rattle.std.proofs.lemmas.Bool.{and_parts}
use Rattle.std.proofs.lemmas.Fmt.{digits_decimal, decimal_injective}
use Rattle.std.proofs.lemmas.Option.{none-some, same_Some}
use Rattle.std.proofs.lemmas.Str.Parse.{IsNumeralModel, numerals_by_fold, tells_all_ascii_digits}
use Rattle.ice_base.specs.Text.{with_digits, begins_with}
use Rattle.ice_base.specs.Lines.{IsWord}
use Rattle.ice_base.specs.declared.number.TileAt.{TileAt}
use Rattle.ice_base.proofs.Keys.{bytes_same, bytes_self}
use Rattle.ice_base.proofs.TextLaws.{decimal_is_word, GoesOn}
use Rattle.ice_base_values.specs.Order.{At, Has, StandOnce}
use Rattle.ice_base_values.proofs.Members.{Has_all, Has_find, find_Has, At_map}
use Rattle.ice_base_values.proofs.Places.{At_same}
use Rattle.ice_base_values.proofs.Once.{once_append, distinct_from_once}
use Rattle.ice_chip.specs.Database.{Parts, PackageRows, same_pad}
use Rattle.ice_chip.specs.IsRead.{IsRead}
use Rattle.ice_chip.specs.Listings.{first_pin}
use Rattle.ice_chip.specs.Within.{IsPackage}
use Rattle.ice_chip.specs.declared.rows.Pad.{Pad}
use Rattle.ice_decode.specs.Cells.{cells, logic_tiles}
use Rattle.ice_decode.proofs.Members.{Has_append_cases}
use Rattle.ice_decode.proofs.PointPlaces.{cell_cases}
use Rattle.ice_back_laws.specs.Numbers.{pin_names, pad_names, cell_name, cell_names, back_names}
use Rattle.ice_back_laws.proofs.Bounds.{pads_once, logic_within}
use Rattle.ice_back_laws.proofs.Once.{once_flat}
use Rattle.ice_back_laws.proofs.PadNumbers.{pad_same, pad_self}
use Rattle.ice_back_laws.proofs.PinTypes.{pinned}
use Rattle.ice_back_laws.proofs.Standing.{flat_back}
use Rattle.ice_back_laws.proofs.TilesOnce.{distinct_once, logic_once}

abbrev head : List ℕ → ℕ
head name = slice_index_or name 0 0

-- ---- names of one pin
-- the last byte
abbrev end : List ℕ → ℕ
end [] = 0
end (x ∷ []) = x
end (x ∷ y ∷ xs) = end (y ∷ xs)

end_is : (xs : List ℕ) (y : ℕ) (ys : List ℕ) → end (xs ++ y ∷ ys) ≡ end (y ∷ ys)
end_is [] y ys = refl
end_is (x ∷ []) y ys = refl
end_is (x ∷ z ∷ xs) y ys = end_is (z ∷ xs) y ys

cut : (w xs ys : List ℕ) → xs ++ w ≡ ys ++ w → xs ≡ ys
cut w [] [] e = refl
cut w [] (y ∷ ys) e = let long = ap length e in let more = length-append (y ∷ ys) w in absurd (omega (arith, long, more))
cut w (x ∷ xs) [] e = let long = ap length e in let more = length-append (x ∷ xs) w in absurd (omega (arith, long, more))
cut w (x ∷ xs) (y ∷ ys) e =
    let first : x ≡ y = ap head e in
    let rest = cut w xs ys (ap (λ (zs : List ℕ). drop 1 zs) e) in
    λ i. first i ∷ rest i

-- which of a pin's five names a name is
abbrev mark : List ℕ → ℕ
mark z = if head z == 112 then 0 else (if head z == 105 then 1 else (if head z == 103 then 4 else (if end z == 110 then 2 else 3)))

marked : (pin : List ℕ) (i : ℕ) (z : List ℕ) → At (pin_names pin) i z → mark z ≡ i
marked pin zero z at = sym (ap mark (same_Some _ z at))
marked pin (suc zero) z at = sym (ap mark (same_Some _ z at))
marked pin (suc (suc zero)) z at = sym (ap mark (same_Some _ z at)) ∙ ap (λ e. if e == 110 then 2 else 3) (end_is (104 ∷ 95 ∷ pin) 95 (105 ∷ 110 ∷ []))
marked pin (suc (suc (suc zero))) z at = sym (ap mark (same_Some _ z at)) ∙ ap (λ e. if e == 110 then 2 else 3) (end_is (104 ∷ 95 ∷ pin) 95 (111 ∷ 117 ∷ 116 ∷ []))
marked pin (suc (suc (suc (suc zero)))) z at = sym (ap mark (same_Some _ z at))
marked pin (suc (suc (suc (suc (suc i))))) z at = absurd (none-some z at)

-- and the name tells the pin
same_pin : (p q : List ℕ) (i : ℕ) (z : List ℕ) → At (pin_names p) i z → At (pin_names q) i z → p ≡ q
same_pin p q zero z a b = ap (λ (name : List ℕ). drop 2 name) (same_Some _ z a ∙ sym (same_Some _ z b))
same_pin p q (suc zero) z a b = ap (λ (name : List ℕ). drop 3 name) (same_Some _ z a ∙ sym (same_Some _ z b))
same_pin p q (suc (suc zero)) z a b = cut (codes "_in") p q (ap (λ (name : List ℕ). drop 2 name) (same_Some _ z a ∙ sym (same_Some _ z b)))
same_pin p q (suc (suc (suc zero))) z a b = cut (codes "_out") p q (ap (λ (name : List ℕ). drop 2 name) (same_Some _ z a ∙ sym (same_Some _ z b)))
same_pin p q (suc (suc (suc (suc zero)))) z a b = ap (λ (name : List ℕ). drop 2 name) (same_Some _ z a ∙ sym (same_Some _ z b))
same_pin p q (suc (suc (suc (suc (suc i))))) z a b = absurd (none-some z a)

-- the first byte of such a name
abbrev IsPinHead : ℕ → Type 0
IsPinHead b = (b ≡ 112) ⊎ ((b ≡ 105) ⊎ ((b ≡ 104) ⊎ (b ≡ 103)))

pin_head : (pin : List ℕ) (i : ℕ) (z : List ℕ) → At (pin_names pin) i z → IsPinHead (head z)
pin_head pin zero z at = inl (sym (ap head (same_Some _ z at)))
pin_head pin (suc zero) z at = inr (inl (sym (ap head (same_Some _ z at))))
pin_head pin (suc (suc zero)) z at = inr (inr (inl (sym (ap head (same_Some _ z at)))))
pin_head pin (suc (suc (suc zero))) z at = inr (inr (inl (sym (ap head (same_Some _ z at)))))
pin_head pin (suc (suc (suc (suc zero)))) z at = inr (inr (inr (sym (ap head (same_Some _ z at)))))
pin_head pin (suc (suc (suc (suc (suc i))))) z at = absurd (none-some z at)

pin_head_low : (b : ℕ) → IsPinHead b → (b ≡ 112) ⊎ (b < 111)
pin_head_low b (inl e) = inl e
pin_head_low b (inr (inl e)) = inr (omega (arith, e))
pin_head_low b (inr (inr (inl e))) = inr (omega (arith, e))
pin_head_low b (inr (inr (inr e))) = inr (omega (arith, e))

-- ---- pins
module _ (width height : ℕ) (rows : PackageRows) (form : IsPackage width height rows) where
  -- the first pin of a pad of the package is one that leads to it
  first_pin_is : (pad : Pad) → Has rows.pads pad → (pin : List ℕ × Pad) × Has rows.pins pin × (pin.1 ≡ pad) × (first_pin rows pad ≡ pin.0)
  first_pin_is pad has =
      let pin = pinned width height rows form pad has in
      let found = Has_find (λ (p : List ℕ × Pad). same_pad pad p.1) rows.pins pin.0 pin.1 (ap (same_pad pad) pin.2 ∙ pad_self pad) in
      let is = find_Has (λ (p : List ℕ × Pad). same_pad pad p.1) rows.pins found.0 found.1 in
      (found.0, is.0, sym (pad_same pad found.0.1 is.1), ap (λ (o : Option (List ℕ × Pad)). unwrap_or (option_map (λ (p : List ℕ × Pad). p.0) o) []) found.1)

  pins_differ : (i j : ℕ) (x y : Pad) → At rows.pads i x → At rows.pads j y → first_pin rows x ≡ first_pin rows y → i ≡ j
  pins_differ i j x y a b e =
      let p = first_pin_is x (i, a) in
      let q = first_pin_is y (j, b) in
      let name : p.0.0 ≡ q.0.0 = sym p.3 ∙ e ∙ q.3 in
      let once = distinct_once bytes_eq bytes_self (keys_of rows.pins) form.once in
      let here : At (keys_of rows.pins) p.1.0 q.0.0 = subst (At (keys_of rows.pins) p.1.0) name (At_map (λ (r : List ℕ × Pad). r.0) rows.pins p.1.0 p.0 p.1.1) in
      let place : p.1.0 ≡ q.1.0 = once p.1.0 q.1.0 q.0.0 here (At_map (λ (r : List ℕ × Pad). r.0) rows.pins q.1.0 q.0 q.1.1) in
      let same : p.0 ≡ q.0 = At_same rows.pins q.1.0 p.0 q.0 (subst (λ k. At rows.pins k p.0) place p.1.1) q.1.1 in
      let pad : x ≡ y = sym p.2 ∙ ap (λ (r : List ℕ × Pad). r.1) same ∙ q.2 in
      distinct_once same_pad pad_self rows.pads (pads_once width height rows form) i j y (subst (At rows.pads i) pad a) b

  -- ---- names of pads
  pad_heads : (z : List ℕ) → Has (flat_map (pad_names rows) rows.pads) z → IsPinHead (head z)
  pad_heads z has =
      let found = flat_back (pad_names rows) rows.pads z has in
      pin_head (first_pin rows found.0) found.2.0 z found.2.1

  pad_heads_low : (z : List ℕ) → Has (flat_map (pad_names rows) rows.pads) z → (head z ≡ 112) ⊎ (head z < 111)
  pad_heads_low z has = pin_head_low (head z) (pad_heads z has)

  five_once : (pad : Pad) → StandOnce (pad_names rows pad)
  five_once pad i j z a b = sym (marked (first_pin rows pad) i z a) ∙ marked (first_pin rows pad) j z b

  pub pad_names_once : StandOnce (flat_map (pad_names rows) rows.pads)
  pad_names_once =
      once_flat (pad_names rows) rows.pads (λ i x at. five_once x)
      (λ i j x y z a b here there.
      let same : here.0 ≡ there.0 = sym (marked (first_pin rows x) here.0 z here.1) ∙ marked (first_pin rows y) there.0 z there.1 in
      pins_differ i j x y a b (same_pin (first_pin rows x) (first_pin rows y) there.0 z (subst (λ k. At (pin_names (first_pin rows x)) k z) same here.1) there.1))

-- ---- digits
model : IsNumeralModel (λ ds. all_ascii_digits ds ≡ true) (with_digits 0)
model = numerals_by_fold _ tells_all_ascii_digits with_digits (search rules)

-- digits end before `_` (95)
digits_end : (a b r s : List ℕ) → all_ascii_digits a ≡ true → all_ascii_digits b ≡ true → a ++ 95 ∷ r ≡ b ++ 95 ∷ s → (a ≡ b) × (r ≡ s)
digits_end [] [] r s p q e = (refl, ap (λ (xs : List ℕ). drop 1 xs) e)
digits_end [] (d ∷ b) r s p q e =
    let both = and_parts (is_ascii_digit d) (all_ascii_digits b) q in
    let same : 95 ≡ d = ap head e in
    let no : is_ascii_digit 95 ≡ true = ap is_ascii_digit same ∙ both.0 in
    absurd (true≢false (sym no))
digits_end (c ∷ a) [] r s p q e =
    let both = and_parts (is_ascii_digit c) (all_ascii_digits a) p in
    let same : c ≡ 95 = ap head e in
    let no : is_ascii_digit 95 ≡ true = ap is_ascii_digit (sym same) ∙ both.0 in
    absurd (true≢false (sym no))
digits_end (c ∷ a) (d ∷ b) r s p q e =
    let one = and_parts (is_ascii_digit c) (all_ascii_digits a) p in
    let two = and_parts (is_ascii_digit d) (all_ascii_digits b) q in
    let first : c ≡ d = ap head e in
    let rest = digits_end a b r s one.1 two.1 (ap (λ (xs : List ℕ). drop 1 xs) e) in
    ((λ i. first i ∷ rest.0 i), rest.1)

-- ---- names of cells
-- a name by its parts, from the right
shape : (w : List ℕ) (c : TileAt × ℕ) → cell_name (95 ∷ w) c ≡ 120 ∷ (decimal c.0.x ++ 95 ∷ (121 ∷ (decimal c.0.y ++ 95 ∷ (w ++ decimal c.1))))
shape w c =
    append_assoc (codes "x" ++ decimal c.0.x ++ codes "_y" ++ decimal c.0.y) (95 ∷ w) (decimal c.1)
    ∙ append_assoc (codes "x" ++ decimal c.0.x ++ codes "_y") (decimal c.0.y) (95 ∷ (w ++ decimal c.1))
    ∙ append_assoc (codes "x" ++ decimal c.0.x) (codes "_y") (decimal c.0.y ++ 95 ∷ (w ++ decimal c.1))

record IsSmall (c : TileAt × ℕ) : Type 0 where
  pub x : c.0.x < 2 ^ 64
  pub y : c.0.y < 2 ^ 64
  pub cell : c.1 < 2 ^ 64

-- equal names are of one column and row, and end in the same
cell_parts : (w v : List ℕ) (c d : TileAt × ℕ) → IsSmall c → IsSmall d → cell_name (95 ∷ w) c ≡ cell_name (95 ∷ v) d → (c.0 ≡ d.0) × (w ++ decimal c.1 ≡ v ++ decimal d.1)
cell_parts w v c d small low e =
    let x = digits_end (decimal c.0.x) (decimal d.0.x) (121 ∷ (decimal c.0.y ++ 95 ∷ (w ++ decimal c.1))) (121 ∷ (decimal d.0.y ++ 95 ∷ (v ++ decimal d.1)))
    (digits_decimal model c.0.x small.x) (digits_decimal model d.0.x low.x) (ap (λ (xs : List ℕ). drop 1 xs) (sym (shape w c) ∙ e ∙ shape v d)) in
    let y = digits_end (decimal c.0.y) (decimal d.0.y) (w ++ decimal c.1) (v ++ decimal d.1)
    (digits_decimal model c.0.y small.y) (digits_decimal model d.0.y low.y) (ap (λ (xs : List ℕ). drop 1 xs) x.1) in
    let column = decimal_injective c.0.x d.0.x small.x low.x x.0 in
    let row = decimal_injective c.0.y d.0.y small.y low.y y.0 in
    ((λ i. record { x = column i; y = row i }), y.1)

-- a name is of the table, of the flip-flop or of the carry
abbrev IsNameOf : TileAt × ℕ → List ℕ → Type 0
IsNameOf c z = (cell_name (codes "_lut_") c ≡ z) ⊎ ((cell_name (codes "_dff_") c ≡ z) ⊎ (cell_name (codes "_carry_") c ≡ z))

cell_name_is : (c : TileAt × ℕ) (z : List ℕ) → Has (cell_names c) z → IsNameOf c z
cell_name_is c z (zero, at) = inl (same_Some _ z at)
cell_name_is c z (suc zero, at) = inr (inl (same_Some _ z at))
cell_name_is c z (suc (suc zero), at) = inr (inr (same_Some _ z at))
cell_name_is c z (suc (suc (suc k)), at) = absurd (none-some z at)

cell_heads : (cs : List (TileAt × ℕ)) (z : List ℕ) → Has (flat_map cell_names cs) z → head z ≡ 120
cell_heads cs z has =
    let found = flat_back cell_names cs z has in
    by found.0 (cell_name_is found.0 z found.2)
  where
    by : (c : TileAt × ℕ) → IsNameOf c z → head z ≡ 120
    by c (inl e) = sym (ap head e) ∙ ap head (shape (codes "lut_") c)
    by c (inr (inl e)) = sym (ap head e) ∙ ap head (shape (codes "dff_") c)
    by c (inr (inr e)) = sym (ap head e) ∙ ap head (shape (codes "carry_") c)

-- equal names are of one cell
same_cell : (c d : TileAt × ℕ) (z : List ℕ) → IsSmall c → IsSmall d → IsNameOf c z → IsNameOf d z → c ≡ d
same_cell c d z small low a b = by a b
  where
    one : (w : List ℕ) → cell_name (95 ∷ w) c ≡ cell_name (95 ∷ w) d → ((xs ys : List ℕ) → w ++ xs ≡ w ++ ys → xs ≡ ys) → c ≡ d
    one w e cut =
        let parts = cell_parts w w c d small low e in
        let number = decimal_injective c.1 d.1 small.cell low.cell (cut (decimal c.1) (decimal d.1) parts.1) in
        λ i. (parts.0 i, number i)

    never : (w v : List ℕ) (m n : ℕ) → cell_name (95 ∷ w) c ≡ cell_name (95 ∷ v) d → ((xs : List ℕ) → head (w ++ xs) ≡ m) → ((xs : List ℕ) → head (v ++ xs) ≡ n) → m ≡ n
    never w v m n e f g = sym (f (decimal c.1)) ∙ ap head (cell_parts w v c d small low e).1 ∙ g (decimal d.1)

    by : IsNameOf c z → IsNameOf d z → c ≡ d
    by (inl e) (inl f) = one (codes "lut_") (e ∙ sym f) (λ xs ys g. ap (λ (name : List ℕ). drop 4 name) g)
    by (inr (inl e)) (inr (inl f)) = one (codes "dff_") (e ∙ sym f) (λ xs ys g. ap (λ (name : List ℕ). drop 4 name) g)
    by (inr (inr e)) (inr (inr f)) = one (codes "carry_") (e ∙ sym f) (λ xs ys g. ap (λ (name : List ℕ). drop 6 name) g)
    by (inl e) (inr (inl f)) = let n : 108 ≡ 100 = never (codes "lut_") (codes "dff_") 108 100 (e ∙ sym f) (λ xs. refl) (λ xs. refl) in absurd (omega (arith, n))
    by (inl e) (inr (inr f)) = let n : 108 ≡ 99 = never (codes "lut_") (codes "carry_") 108 99 (e ∙ sym f) (λ xs. refl) (λ xs. refl) in absurd (omega (arith, n))
    by (inr (inl e)) (inl f) = let n : 100 ≡ 108 = never (codes "dff_") (codes "lut_") 100 108 (e ∙ sym f) (λ xs. refl) (λ xs. refl) in absurd (omega (arith, n))
    by (inr (inl e)) (inr (inr f)) = let n : 100 ≡ 99 = never (codes "dff_") (codes "carry_") 100 99 (e ∙ sym f) (λ xs. refl) (λ xs. refl) in absurd (omega (arith, n))
    by (inr (inr e)) (inl f) = let n : 99 ≡ 108 = never (codes "carry_") (codes "lut_") 99 108 (e ∙ sym f) (λ xs. refl) (λ xs. refl) in absurd (omega (arith, n))
    by (inr (inr e)) (inr (inl f)) = let n : 99 ≡ 100 = never (codes "carry_") (codes "dff_") 99 100 (e ∙ sym f) (λ xs. refl) (λ xs. refl) in absurd (omega (arith, n))

-- and the names of one cell differ
three_once : (c : TileAt × ℕ) → IsSmall c → StandOnce (cell_names c)
three_once c small i j z a b = by i j a b
  where
    no : (w v : List ℕ) (m n : ℕ) → cell_name (95 ∷ w) c ≡ z → cell_name (95 ∷ v) c ≡ z → ((xs : List ℕ) → head (w ++ xs) ≡ m) → ((xs : List ℕ) → head (v ++ xs) ≡ n) → m ≡ n
    no w v m n e f g h = sym (g (decimal c.1)) ∙ ap head (cell_parts w v c c small small (e ∙ sym f)).1 ∙ h (decimal c.1)

    by : (i j : ℕ) → At (cell_names c) i z → At (cell_names c) j z → i ≡ j
    by zero zero a b = refl
    by (suc zero) (suc zero) a b = refl
    by (suc (suc zero)) (suc (suc zero)) a b = refl
    by zero (suc zero) a b = let n : 108 ≡ 100 = no (codes "lut_") (codes "dff_") 108 100 (same_Some _ z a) (same_Some _ z b) (λ xs. refl) (λ xs. refl) in absurd (omega (arith, n))
    by zero (suc (suc zero)) a b = let n : 108 ≡ 99 = no (codes "lut_") (codes "carry_") 108 99 (same_Some _ z a) (same_Some _ z b) (λ xs. refl) (λ xs. refl) in absurd (omega (arith, n))
    by (suc zero) zero a b = let n : 100 ≡ 108 = no (codes "dff_") (codes "lut_") 100 108 (same_Some _ z a) (same_Some _ z b) (λ xs. refl) (λ xs. refl) in absurd (omega (arith, n))
    by (suc zero) (suc (suc zero)) a b = let n : 100 ≡ 99 = no (codes "dff_") (codes "carry_") 100 99 (same_Some _ z a) (same_Some _ z b) (λ xs. refl) (λ xs. refl) in absurd (omega (arith, n))
    by (suc (suc zero)) zero a b = let n : 99 ≡ 108 = no (codes "carry_") (codes "lut_") 99 108 (same_Some _ z a) (same_Some _ z b) (λ xs. refl) (λ xs. refl) in absurd (omega (arith, n))
    by (suc (suc zero)) (suc zero) a b = let n : 99 ≡ 100 = no (codes "carry_") (codes "dff_") 99 100 (same_Some _ z a) (same_Some _ z b) (λ xs. refl) (λ xs. refl) in absurd (omega (arith, n))
    by (suc (suc (suc k))) j a b = absurd (none-some z a)
    by zero (suc (suc (suc k))) a b = absurd (none-some z b)
    by (suc zero) (suc (suc (suc k))) a b = absurd (none-some z b)
    by (suc (suc zero)) (suc (suc (suc k))) a b = absurd (none-some z b)

-- ---- words
go_on : (xs ys : List ℕ) → GoesOn xs → GoesOn ys → GoesOn (xs ++ ys)
go_on [] ys p q = q
go_on (x ∷ xs) ys p q = (p.0, go_on xs ys p.1 q)

cell_is_word : (w : List ℕ) (c : TileAt × ℕ) → IsSmall c → GoesOn w → IsWord (cell_name (95 ∷ w) c)
cell_is_word w c small word =
    subst (λ (name : List ℕ). IsWord name) (sym (shape w c)) (
      omega arith,
      (
        refl,
        go_on (decimal c.0.x) (95 ∷ (121 ∷ (decimal c.0.y ++ 95 ∷ (w ++ decimal c.1)))) (decimal_is_word c.0.x small.x).1 (
          refl,
          (
            refl,
            go_on (decimal c.0.y) (95 ∷ (w ++ decimal c.1)) (decimal_is_word c.0.y small.y).1
                (refl, go_on w (decimal c.1) word (decimal_is_word c.1 small.cell).1),
          ),
        ),
      ),
    )

-- the first byte of each name is a letter of seven
abbrev IsLetter : ℕ → Type 0
IsLetter b = (b ≡ 122) ⊎ ((b ≡ 111) ⊎ ((b ≡ 120) ⊎ IsPinHead b))

abbrev IsOther : ℕ → Type 0
IsOther b = ((122 == b) ≡ false) × ((111 == b) ≡ false) × ((120 == b) ≡ false) × ((112 == b) ≡ false) × ((105 == b) ≡ false) × ((104 == b) ≡ false) × ((103 == b) ≡ false)

no_letter : (b : ℕ) (z : List ℕ) → IsOther b → IsLetter (head z) → begins_with b z ≡ false
no_letter b [] other letter = refl
no_letter b (c ∷ z) other (inl e) = ap (λ n. n == b) e ∙ other.0
no_letter b (c ∷ z) other (inr (inl e)) = ap (λ n. n == b) e ∙ other.1
no_letter b (c ∷ z) other (inr (inr (inl e))) = ap (λ n. n == b) e ∙ other.2
no_letter b (c ∷ z) other (inr (inr (inr (inl e)))) = ap (λ n. n == b) e ∙ other.3
no_letter b (c ∷ z) other (inr (inr (inr (inr (inl e))))) = ap (λ n. n == b) e ∙ other.4
no_letter b (c ∷ z) other (inr (inr (inr (inr (inr (inl e)))))) = ap (λ n. n == b) e ∙ other.5
no_letter b (c ∷ z) other (inr (inr (inr (inr (inr (inr e)))))) = ap (λ n. n == b) e ∙ other.6

module _ (parts : Parts) (read : IsRead parts) where
  cell_small : (i : ℕ) (c : TileAt × ℕ) → At (cells parts) i c → IsSmall c
  cell_small i c at =
      let spot = cell_cases (logic_tiles parts) i c at in
      let place = logic_within parts read c.0 (spot.place, spot.stands) in
      let x = place.x in
      let y = place.y in
      let narrow = read.narrow in
      let low = read.low in
      let below = spot.below in
      record { x = omega (arith, x, narrow); y = omega (arith, y, low); cell = omega (arith, below) }

  cells_once : (i j : ℕ) (c : TileAt × ℕ) → At (cells parts) i c → At (cells parts) j c → i ≡ j
  cells_once i j c a b =
      let one = cell_cases (logic_tiles parts) i c a in
      let two = cell_cases (logic_tiles parts) j c b in
      let place : one.place ≡ two.place = logic_once parts read one.place two.place c.0 one.stands two.stands in
      one.number ∙ ap (λ k. 8 * k + c.1) place ∙ sym two.number

  cell_names_once : StandOnce (flat_map cell_names (cells parts))
  cell_names_once =
      once_flat cell_names (cells parts) (λ i c at. three_once c (cell_small i c at))
      (λ i j c d z a b here there.
      let same : c ≡ d = same_cell c d z (cell_small i c a) (cell_small j d b) (cell_name_is c z here) (cell_name_is d z there) in
      cells_once i j d (subst (At (cells parts) i) same a) b)

  module _ (rows : PackageRows) (has : Has parts.packages rows) where
    form : IsPackage parts.width parts.height rows
    form = Has_all (IsPackage parts.width parts.height) parts.packages rows read.package_forms has

    abbrev levels : List (List ℕ)
    levels = codes "zero" ∷ codes "one" ∷ []

    abbrev of_pads : List (List ℕ)
    of_pads = flat_map (pad_names rows) rows.pads

    abbrev of_cells : List (List ℕ)
    of_cells = flat_map cell_names (cells parts)

    levels_once : StandOnce levels
    levels_once zero zero z a b = refl
    levels_once (suc zero) (suc zero) z a b = refl
    levels_once zero (suc zero) z a b = let e : 122 ≡ 111 = ap head (same_Some _ z a) ∙ sym (ap head (same_Some _ z b)) in absurd (omega (arith, e))
    levels_once (suc zero) zero z a b = let e : 111 ≡ 122 = ap head (same_Some _ z a) ∙ sym (ap head (same_Some _ z b)) in absurd (omega (arith, e))
    levels_once (suc (suc i)) j z a b = absurd (none-some z a)
    levels_once zero (suc (suc j)) z a b = absurd (none-some z b)
    levels_once (suc zero) (suc (suc j)) z a b = absurd (none-some z b)

    level_heads : (z : List ℕ) → Has levels z → (head z ≡ 122) ⊎ (head z ≡ 111)
    level_heads z (zero, at) = inl (sym (ap head (same_Some _ z at)))
    level_heads z (suc zero, at) = inr (sym (ap head (same_Some _ z at)))
    level_heads z (suc (suc k), at) = absurd (none-some z at)

    pad_or_cell : (z : List ℕ) → Has of_pads z → Has of_cells z → ⊥
    pad_or_cell z pad cell =
        let e = cell_heads (cells parts) z cell in
        elim (pad_heads_low parts.width parts.height rows form z pad) [ inl f ↦ omega (arith, e, f) | inr f ↦ omega (arith, e, f) ]

    level_or_other : (z : List ℕ) → Has levels z → Has (of_pads ++ of_cells) z → ⊥
    level_or_other z level other = by (level_heads z level) (Has_append_cases of_pads of_cells z other)
      where
        by : (head z ≡ 122) ⊎ (head z ≡ 111) → Has of_pads z ⊎ Has of_cells z → ⊥
        by (inl e) (inr cell) = let f = cell_heads (cells parts) z cell in omega (arith, e, f)
        by (inr e) (inr cell) = let f = cell_heads (cells parts) z cell in omega (arith, e, f)
        by (inl e) (inl pad) = elim (pad_heads_low parts.width parts.height rows form z pad) [ inl f ↦ omega (arith, e, f) | inr f ↦ omega (arith, e, f) ]
        by (inr e) (inl pad) = elim (pad_heads_low parts.width parts.height rows form z pad) [ inl f ↦ omega (arith, e, f) | inr f ↦ omega (arith, e, f) ]

    names_once : StandOnce (back_names parts rows)
    names_once = once_append levels (of_pads ++ of_cells) levels_once (once_append of_pads of_cells (pad_names_once parts.width parts.height rows form) cell_names_once pad_or_cell) level_or_other

    -- no name stands twice
    pub names_distinct : IsDistinct bytes_eq (back_names parts rows)
    names_distinct = distinct_from_once bytes_eq bytes_same (back_names parts rows) names_once

    -- ---- words
    name_heads : (z : List ℕ) → Has (back_names parts rows) z → IsLetter (head z)
    name_heads z has = elim (Has_append_cases levels (of_pads ++ of_cells) z has) [
      | inl level ↦ elim (level_heads z level) [ inl e ↦ inl e | inr e ↦ inr (inl e) ]
      | inr other ↦ elim (Has_append_cases of_pads of_cells z other) [
        | inl pad ↦ inr (inr (inr (pad_heads parts.width parts.height rows form z pad)))
        | inr cell ↦ inr (inr (inl (cell_heads (cells parts) z cell)))
      ]
    ]

    pub none_begins_comment : (z : List ℕ) → Has (back_names parts rows) z → begins_with 35 z ≡ false
    none_begins_comment z has = no_letter 35 z (refl, refl, refl, refl, refl, refl, refl) (name_heads z has)

    pub none_begins_dollar : (z : List ℕ) → Has (back_names parts rows) z → begins_with 36 z ≡ false
    none_begins_dollar z has = no_letter 36 z (refl, refl, refl, refl, refl, refl, refl) (name_heads z has)

    module _ (pins : All (λ (pin : List ℕ × Pad). IsWord pin.0) rows.pins) where
      level_word : (z : List ℕ) → Has levels z → IsWord z
      level_word z (zero, at) = subst (λ (name : List ℕ). IsWord name) (same_Some _ z at) (omega arith, (refl, (refl, (refl, (refl, tt)))))
      level_word z (suc zero, at) = subst (λ (name : List ℕ). IsWord name) (same_Some _ z at) (omega arith, (refl, (refl, (refl, tt))))
      level_word z (suc (suc k), at) = absurd (none-some z at)

      pin_goes_on : (pad : Pad) → Has rows.pads pad → GoesOn (first_pin rows pad)
      pin_goes_on pad there =
          let pin = first_pin_is parts.width parts.height rows form pad there in
          let word : IsWord pin.0.0 = Has_all (λ (p : List ℕ × Pad). IsWord p.0) rows.pins pin.0 pins pin.1 in
          subst (λ (name : List ℕ). GoesOn name) (sym pin.3) word.1

      pin_word : (pin : List ℕ) → GoesOn pin → (i : ℕ) (z : List ℕ) → At (pin_names pin) i z → IsWord z
      pin_word pin on zero z at = subst (λ (name : List ℕ). IsWord name) (same_Some _ z at) (omega arith, (refl, (refl, on)))
      pin_word pin on (suc zero) z at = subst (λ (name : List ℕ). IsWord name) (same_Some _ z at) (omega arith, (refl, (refl, (refl, on))))
      pin_word pin on (suc (suc zero)) z at =
          subst (λ (name : List ℕ). IsWord name) (same_Some _ z at) (omega arith, (refl, (refl, go_on pin (codes "_in") on (refl, (refl, (refl, tt))))))
      pin_word pin on (suc (suc (suc zero))) z at =
          subst (λ (name : List ℕ). IsWord name) (same_Some _ z at) (omega arith, (refl, (refl, go_on pin (codes "_out") on (refl, (refl, (refl, (refl, tt)))))))
      pin_word pin on (suc (suc (suc (suc zero)))) z at = subst (λ (name : List ℕ). IsWord name) (same_Some _ z at) (omega arith, (refl, (refl, on)))
      pin_word pin on (suc (suc (suc (suc (suc i))))) z at = absurd (none-some z at)

      pad_word : (z : List ℕ) → Has of_pads z → IsWord z
      pad_word z there =
          let found = flat_back (pad_names rows) rows.pads z there in
          pin_word (first_pin rows found.0) (pin_goes_on found.0 found.1) found.2.0 z found.2.1

      cell_word : (z : List ℕ) → Has of_cells z → IsWord z
      cell_word z there =
          let found = flat_back cell_names (cells parts) z there in
          let small = cell_small found.1.0 found.0 found.1.1 in
          by found.0 small (cell_name_is found.0 z found.2)
        where
          by : (c : TileAt × ℕ) → IsSmall c → IsNameOf c z → IsWord z
          by c small (inl e) = subst (λ (name : List ℕ). IsWord name) e (cell_is_word (codes "lut_") c small (refl, (refl, (refl, (refl, tt)))))
          by c small (inr (inl e)) = subst (λ (name : List ℕ). IsWord name) e (cell_is_word (codes "dff_") c small (refl, (refl, (refl, (refl, tt)))))
          by c small (inr (inr e)) = subst (λ (name : List ℕ). IsWord name) e (cell_is_word (codes "carry_") c small (refl, (refl, (refl, (refl, (refl, (refl, tt)))))))

      -- each name is a word, where those of the pins are
      pub names_are_words : (z : List ℕ) → Has (back_names parts rows) z → IsWord z
      names_are_words z there = elim (Has_append_cases levels (of_pads ++ of_cells) z there) [
        | inl level ↦ level_word z level
        | inr other ↦ elim (Has_append_cases of_pads of_cells z other) [ inl pad ↦ pad_word z pad | inr cell ↦ cell_word z cell ]
      ]
