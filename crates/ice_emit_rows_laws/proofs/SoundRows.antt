-- What a sound row is apart from, and that its values turn it on alone in its bundle.
use Rattle.std.proofs.Common.{◌≡◌, ℕ, zero, suc, ◌+◌, Bool, true, false, eqb, None, Some, List, [], ◌∷◌, map, cond, inl, inr, refl, sym, ap, ◌∙◌, subst, arith}
use Rattle.std.specs.Prelude.{◌&&◌, not}
use Rattle.std.specs.Cmp.Lexicographic.{pointwise}
use Rattle.std.proofs.Math.Bool.{beq}
use Rattle.std.specs.List.{list_any}
use Rattle.std.proofs.lemmas.Bool.{or_cases, and_parts, eqb-true, eq-eqb}
use Rattle.std.proofs.lemmas.Option.{same_Some}
use Rattle.ice_base.specs.declared.number.TileAt.{TileAt}
use Rattle.ice_base.specs.declared.bit.BitAt.{BitAt}
use Rattle.ice_base_values.specs.Order.{At, Has}
use Rattle.ice_chip.specs.Database.{Parts, SwitchGroup, SwitchRow, same_tile}
use Rattle.ice_chip.specs.Listings.{rows_of}
use Rattle.ice_chip_laws.specs.Groups.{HasRows}
use Rattle.ice_bits.specs.Configuration.{Bits, same_place}
use Rattle.ice_bits.specs.Settings.{values_of, number_with, row_on}
use Rattle.ice_bits_rows.specs.Sound.{rows_on, value_at, sets, is_one, is_alone}
use Rattle.ice_bits_rows.specs.Bundles.{groups_into, bundle, has_bit, is_of_other, is_shared, shares_bit, is_private}
use Rattle.ice_base_values.proofs.Together.{Has_head, Has_tail}
use Rattle.ice_base_values.proofs.Members.{Has_any, Has_filter, filter_Has}
use Rattle.ice_emit_rows_laws.proofs.Mapped.{Has_mapped_by, mapped_by_Has}
use Rattle.ice_base.proofs.Keys.{tile_same, tile_self, place_same, place_self}

tile_is : (a b : TileAt) → a ≡ b → same_tile a b ≡ true
tile_is a b e = ap (same_tile a) (sym e) ∙ tile_self a

map_same : {X Y : Type 0} (f g : X → Y) (xs : List X) → ((x : X) → Has xs x → f x ≡ g x) → map f xs ≡ map g xs
map_same f g [] same = refl
map_same f g (x ∷ xs) same = ap (λ y. y ∷ map f xs) (same x (Has_head x xs)) ∙ ap (λ ys. g x ∷ ys) (map_same f g xs (λ y has. same y (Has_tail x y xs has)))

-- ---- bits of a row
pub value_has : (ps : List BitAt) (vs : List Bool) (b : BitAt) → value_at ps vs b ≡ true → Has ps b
value_has [] vs b e = cc e
value_has (p ∷ ps) [] b e = cc e
value_has (p ∷ ps) (v ∷ vs) b e = elim (or_cases (same_place p b && v) (value_at ps vs b) e) [
  | inl here ↦ let same : p ≡ b = place_same p b (and_parts (same_place p b) v here).0 in (0, ap Some same)
  | inr there ↦ Has_tail p b ps (value_has ps vs b there)
]

pub sets_parts : (g : SwitchGroup) (r : SwitchRow) (t : TileAt) (b : BitAt) → sets g r t b ≡ true → (g.tile ≡ t) × Has g.bits b
sets_parts g r t b e = let two = and_parts (same_tile g.tile t) (value_at g.bits r.values b) e in (tile_same g.tile t two.0, value_has g.bits r.values b two.1)

-- ---- the row that is on
-- the row of a group that is on depends on the group's bits alone
pub row_on_same : (f h : Bits) (g : SwitchGroup) → ((b : BitAt) → Has g.bits b → f g.tile b ≡ h g.tile b) → row_on f g ≡ row_on h g
row_on_same f h g same = ap (λ vs. cond (list_any (λ v. v) vs) (number_with vs g.first g.rows) None) (map_same (f g.tile) (h g.tile) g.bits same)

-- a row that is on has a bit that is 1
pub on_bit : (bits : Bits) (g : SwitchGroup) (m : ℕ) → row_on bits g ≡ Some m → (b : BitAt) × Has g.bits b × (bits g.tile b ≡ true)
on_bit bits g m e = by (list_any (λ v. v) (values_of bits g)) refl e
  where
    find_one : (f : BitAt → Bool) (ps : List BitAt) → list_any (λ v. v) (map f ps) ≡ true → (b : BitAt) × Has ps b × (f b ≡ true)
    find_one f [] h = cc h
    find_one f (p ∷ ps) h = elim (or_cases (f p) (list_any (λ v. v) (map f ps)) h) [
      | inl here ↦ (p, Has_head p ps, here)
      | inr there ↦ let got = find_one f ps there in (got.0, Has_tail p got.0 ps got.1, got.2)
    ]

    by : (x : Bool) → list_any (λ v. v) (values_of bits g) ≡ x → cond x (number_with (values_of bits g) g.first g.rows) None ≡ Some m → (b : BitAt) × Has g.bits b × (bits g.tile b ≡ true)
    by true is f = find_one (bits g.tile) g.bits is
    by false is f = cc f

-- the number that is found is that of a row
number_at : (values : List Bool) (n : ℕ) (rows : List SwitchRow) (m : ℕ) → number_with values n rows ≡ Some m → (k : ℕ) × (r : SwitchRow) × At rows k r × (m ≡ n + k)
number_at values n [] m e = cc e
number_at values n (r ∷ rows) m e = by (pointwise beq r.values values) (λ f. number_at values (n + 1) rows m f) e
  where
    by : (x : Bool) → (number_with values (n + 1) rows ≡ Some m → (k : ℕ) × (q : SwitchRow) × At rows k q × (m ≡ (n + 1) + k)) → cond x (Some n) (number_with values (n + 1) rows) ≡ Some m
        → (k : ℕ) × (q : SwitchRow) × At (r ∷ rows) k q × (m ≡ n + k)
    by true later f = let same : n ≡ m = same_Some n m f in (0, r, refl, (let g : m ≡ n + 0 = omega arith in g))
    by false later f = let got = later f in let e : m ≡ (n + 1) + got.0 = got.3 in (suc got.0, got.1, got.2, (let g : m ≡ n + suc got.0 = omega arith in g))

pub on_row : (bits : Bits) (g : SwitchGroup) (m : ℕ) → row_on bits g ≡ Some m → (k : ℕ) × (r : SwitchRow) × At g.rows k r × (m ≡ g.first + k)
on_row bits g m e = by (list_any (λ v. v) (values_of bits g)) e
  where
    by : (x : Bool) → cond x (number_with (values_of bits g) g.first g.rows) None ≡ Some m → (k : ℕ) × (r : SwitchRow) × At g.rows k r × (m ≡ g.first + k)
    by true f = number_at (values_of bits g) g.first g.rows m f
    by false f = cc f

-- ---- bundles
pub in_bundle : (groups : List SwitchGroup) (g o : SwitchGroup) → Has groups o → o.tile ≡ g.tile → o.wire ≡ g.wire → Has (bundle groups g.tile g.wire) o
in_bundle groups g o has tile wire =
    Has_filter (λ (x : SwitchGroup). same_tile x.tile g.tile) (groups_into groups g.wire) o
    (Has_filter (λ (x : SwitchGroup). eqb x.wire g.wire) groups o has (eq-eqb o.wire g.wire wire)) (tile_is o.tile g.tile tile)

pub of_bundle : (groups : List SwitchGroup) (g o : SwitchGroup) → Has (bundle groups g.tile g.wire) o → Has groups o × (o.tile ≡ g.tile) × (o.wire ≡ g.wire)
of_bundle groups g o has =
    let one = filter_Has (λ (x : SwitchGroup). same_tile x.tile g.tile) (groups_into groups g.wire) o has in
    let two = filter_Has (λ (x : SwitchGroup). eqb x.wire g.wire) groups o one.0 in
    (two.0, tile_same o.tile g.tile one.1, eqb-true o.wire g.wire two.1)

not_true : (x : Bool) → not x ≡ true → x ≡ false
not_true true e = cc e
not_true false e = refl

has_own_bit : (bits : List BitAt) (b : BitAt) → Has bits b → has_bit bits b ≡ true
has_own_bit bits b has = Has_any (λ p. same_place p b) bits b has.0 has.1 (place_self b)

-- no group into another wire of the tile has a bit of a private bundle
pub private_apart : (parts : Parts) (g s o : SwitchGroup) (b : BitAt) → is_private parts g.tile g.wire ≡ true
    → Has parts.groups s → s.tile ≡ g.tile → s.wire ≡ g.wire → Has s.bits b → Has parts.groups o → o.tile ≡ g.tile → Has o.bits b → o.wire ≡ g.wire
private_apart parts g s o b private hs ts ws bs ho to bo = by (eqb o.wire g.wire) refl
  where
    none : list_any (shares_bit parts) (bundle parts.groups g.tile g.wire) ≡ false
    none = not_true (list_any (shares_bit parts) (bundle parts.groups g.tile g.wire)) private

    by : (x : Bool) → eqb o.wire g.wire ≡ x → o.wire ≡ g.wire
    by true is = eqb-true o.wire g.wire is
    by false is =
        let other : is_of_other parts.groups g.tile g.wire b ≡ true
        = Has_any (λ (x : SwitchGroup). same_tile x.tile g.tile && not (eqb x.wire g.wire) && has_bit x.bits b) parts.groups o ho.0 ho.1 (rw (tile_is o.tile g.tile to, is, has_own_bit o.bits b bo) refl) in
        let shared : is_shared parts g.tile g.wire b ≡ true = rw other refl in
        let shared_s : is_shared parts s.tile s.wire b ≡ true = subst (λ (t : TileAt). is_shared parts t s.wire b ≡ true) (sym ts) (subst (λ (w : ℕ). is_shared parts g.tile w b ≡ true) (sym ws) shared) in
        let shares : shares_bit parts s ≡ true = Has_any (is_shared parts s.tile s.wire) s.bits b bs.0 bs.1 shared_s in
        let hb = in_bundle parts.groups g s hs ts ws in
        let some = Has_any (shares_bit parts) (bundle parts.groups g.tile g.wire) s hb.0 hb.1 shares in
        cc (some, none)

-- ---- alone
one_only : (n : ℕ) (xs : List ℕ) → is_one n xs ≡ true → xs ≡ n ∷ []
one_only n [] e = cc e
one_only n (m ∷ []) e = ap (λ k. k ∷ []) (eqb-true m n e)
one_only n (m ∷ k ∷ xs) e = cc e

only_one : (m n : ℕ) → Has (n ∷ []) m → m ≡ n
only_one m n (zero, at) = sym (same_Some n m at)
only_one m n (suc i, at) = cc at

module _ (parts : Parts) (rows : HasRows parts) where
  -- a number is that of one group's rows
  pub one_group : (g o : SwitchGroup) (r q : SwitchRow) (k l m : ℕ) → Has parts.groups g → At g.rows k r → m ≡ g.first + k → Has parts.groups o → At o.rows l q → m ≡ o.first + l → (o ≡ g) × (q ≡ r)
  one_group g o r q k l m hg ar eg ho aq eo =
      let one : At (rows_of parts.groups) m (g, r) = subst (λ n. At (rows_of parts.groups) n (g, r)) (sym eg) (rows.numbered g k r hg ar) in
      let two : At (rows_of parts.groups) m (o, q) = subst (λ n. At (rows_of parts.groups) n (o, q)) (sym eo) (rows.numbered o l q ho aq) in
      let same : (o, q) ≡ (g, r) = same_Some (o, q) (g, r) (sym two ∙ one) in
      (ap (λ (p : SwitchGroup × SwitchRow). p.0) same, ap (λ (p : SwitchGroup × SwitchRow). p.1) same)

  module _ (g : SwitchGroup) (r : SwitchRow) (k n : ℕ) (hg : Has parts.groups g) (ar : At g.rows k r) (number : n ≡ g.first + k) (alone : is_alone parts.groups g n r ≡ true) where
    on_list : rows_on (sets g r) (bundle parts.groups g.tile g.wire) ≡ n ∷ []
    on_list = one_only n (rows_on (sets g r) (bundle parts.groups g.tile g.wire)) alone

    pub alone_else : (s : SwitchGroup) (m : ℕ) → Has parts.groups s → s.tile ≡ g.tile → s.wire ≡ g.wire → row_on (sets g r) s ≡ Some m → m ≡ n
    alone_else s m hs ts ws on =
        let there = mapped_by_Has (row_on (sets g r)) (bundle parts.groups g.tile g.wire) s m (in_bundle parts.groups g s hs ts ws) on in
        only_one m n (subst (λ (xs : List ℕ). Has xs m) on_list there)

    pub alone_on : row_on (sets g r) g ≡ Some n
    alone_on =
        let got = Has_mapped_by (row_on (sets g r)) (bundle parts.groups g.tile g.wire) n (subst (λ (xs : List ℕ). Has xs n) (sym on_list) (Has_head n [])) in
        let of = of_bundle parts.groups g got.0 got.1 in
        let row = on_row (sets g r) got.0 n got.2 in
        let same = one_group g got.0 r row.1 k row.0 n hg ar number of.0 row.2 row.3 in
        subst (λ (x : SwitchGroup). row_on (sets g r) x ≡ Some n) same.0 got.2
