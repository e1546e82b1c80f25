-- The bits of functions that are read are of nothing else.
use Rattle.std.proofs.Common.{◌≡◌, ℕ, zero, suc, ◌+◌, ◌<◌, Bool, true, false, Option, None, Some, List, [], ◌∷◌, ◌++◌, map, length, slice_get, inl, inr, refl, sym, ap, subst, ◌∙◌, true≢false, arith}
use Rattle.std.specs.Prelude.{◌||◌}
use Rattle.std.specs.List.{flat_map}
use Rattle.std.specs.Option.{option_and_then}
use Rattle.std.proofs.lemmas.Bool.{cases_order, or_right}
use Rattle.std.proofs.lemmas.Option.{none-some, same_Some}
use Rattle.ice_base.specs.declared.bit.BitAt.{BitAt}
use Rattle.ice_chip.specs.Database.{Parts, FunctionRow, SwitchGroup, columns, tile_known}
use Rattle.ice_chip.specs.FirstLacking.{LacksFunctionIsFirst}
use Rattle.ice_chip.specs.FirstShared.{AreShared, AreFirstShared, SharedFunctionIsFirst}
use Rattle.ice_chip.specs.Functions.{is_read, is_foreign}
use Rattle.ice_chip.specs.IsRead.{IsChip}
use Rattle.ice_chip.specs.Lookups.{kind_at, function_of}
use Rattle.ice_chip.specs.Within.{IsBit, IsKept}
use Rattle.ice_chip.specs.SharedFunction.{bit_use, function_uses, group_uses, bit_uses, clash, two_lines}
use Rattle.ice_chip.specs.declared.rows.TileLine.{TileLine}
use Rattle.ice_chip.specs.declared.rows.TileKind.{TileKind}
use Rattle.ice_chip.specs.declared.uses.BitUse.{BitUse}
use Rattle.ice_chip_laws.specs.Bits.{function_place, IsReadAt, HasOwnBits}
use Rattle.ice_base_values.specs.Order.{At, Has}
use Rattle.ice_chip_laws.proofs.FaultFree.{no_fault}
use Rattle.ice_chip_laws.proofs.FunctionLaws.{IsOf, is_of}
use Rattle.ice_chip_laws.proofs.KnownTiles.{known_kind}
use Rattle.ice_base_values.proofs.Members.{At_left, At_right, At_within, At_map, Has_map, Has_all}
use Rattle.ice_chip_laws.proofs.NameTests.{read_not_foreign}
use Rattle.ice_chip_laws.proofs.PlaceLaws.{found_at, found_there, bit_listed, number_below}
use Rattle.ice_base.proofs.Keys.{nat_self}
use Rattle.ice_chip.proofs.SameKinds.{kind_self}

-- ---- one item before another
record Before {X : Type 0} (xs : List X) (x y : X) : Type 0 where
  first : ℕ
  second : ℕ
  order : first < second
  at_first : At xs first x
  at_second : At xs second y

before_left : {X : Type 0} (xs ys : List X) (x y : X) → Before xs x y → Before (xs ++ ys) x y
before_left xs ys x y b = record { first = b.first; second = b.second; order = b.order; at_first = At_left xs ys b.first x b.at_first; at_second = At_left xs ys b.second y b.at_second }

before_right : {X : Type 0} (xs ys : List X) (x y : X) → Before ys x y → Before (xs ++ ys) x y
before_right xs ys x y b =
    let lt = b.order in
    record { first = length xs + b.first; second = length xs + b.second; order = omega arith; at_first = At_right xs ys b.first x b.at_first; at_second = At_right xs ys b.second y b.at_second }

before_across : {X : Type 0} (xs ys : List X) (x y : X) → Has xs x → Has ys y → Before (xs ++ ys) x y
before_across xs ys x y (i, at_x) (j, at_y) =
    let lt : i < length xs = At_within xs i x at_x in
    record { first = i; second = length xs + j; order = omega arith; at_first = At_left xs ys i x at_x; at_second = At_right xs ys j y at_y }

-- ---- lists that are made of parts
has_left : {X : Type 0} (xs ys : List X) (x : X) → Has xs x → Has (xs ++ ys) x
has_left xs ys x (i, at) = (i, At_left xs ys i x at)

has_right : {X : Type 0} (xs ys : List X) (x : X) → Has ys x → Has (xs ++ ys) x
has_right xs ys x (i, at) = (length xs + i, At_right xs ys i x at)

has_part : {X Y : Type 0} (f : X → List Y) (xs : List X) (i : ℕ) (x : X) (y : Y) → At xs i x → Has (f x) y → Has (flat_map f xs) y
has_part f [] i x y at has = absurd (none-some x at)
has_part f (z ∷ xs) zero x y at has = has_left (f z) (flat_map f xs) y (subst (λ w. Has (f w) y) (sym (same_Some z x at)) has)
has_part f (z ∷ xs) (suc i) x y at has = has_right (f z) (flat_map f xs) y (has_part f xs i x y at has)

before_part : {X Y : Type 0} (f : X → List Y) (xs : List X) (i : ℕ) (x : X) (u v : Y) → At xs i x → Before (f x) u v → Before (flat_map f xs) u v
before_part f [] i x u v at b = absurd (none-some x at)
before_part f (z ∷ xs) zero x u v at b = before_left (f z) (flat_map f xs) u v (subst (λ w. Before (f w) u v) (sym (same_Some z x at)) b)
before_part f (z ∷ xs) (suc i) x u v at b = before_right (f z) (flat_map f xs) u v (before_part f xs i x u v at b)

before_parts : {X Y : Type 0} (f : X → List Y) (xs : List X) (i j : ℕ) (x y : X) (u v : Y) → i < j → At xs i x → At xs j y → Has (f x) u → Has (f y) v → Before (flat_map f xs) u v
before_parts f [] i j x y u v lt at_x at_y has_u has_v = absurd (none-some x at_x)
before_parts f (z ∷ xs) i zero x y u v lt at_x at_y has_u has_v = absurd (omega arith)
before_parts f (z ∷ xs) zero (suc j) x y u v lt at_x at_y has_u has_v =
    before_across (f z) (flat_map f xs) u v (subst (λ w. Has (f w) u) (sym (same_Some z x at_x)) has_u) (has_part f xs j y v at_y has_v)
before_parts f (z ∷ xs) (suc i) (suc j) x y u v lt at_x at_y has_u has_v =
    let less : i < j = omega arith in
    before_right (f z) (flat_map f xs) u v (before_parts f xs i j x y u v less at_x at_y has_u has_v)

-- ---- uses that clash
cut : {X : Type 0} (xs : List X) (i : ℕ) (x : X) → At xs i x → (front rest : List X) × (xs ≡ front ++ x ∷ rest)
cut [] i x at = absurd (none-some x at)
cut (z ∷ xs) zero x at = ([], xs, ap (λ w. w ∷ xs) (same_Some z x at))
cut (z ∷ xs) (suc i) x at = let c = cut xs i x at in (z ∷ c.0, c.1, ap (λ ws. z ∷ ws) c.2)

cut_twice : {X : Type 0} (xs : List X) (i j : ℕ) (x y : X) → i < j → At xs i x → At xs j y → (front middle rest : List X) × (xs ≡ front ++ x ∷ (middle ++ y ∷ rest))
cut_twice [] i j x y lt at_x at_y = absurd (none-some x at_x)
cut_twice (z ∷ xs) i zero x y lt at_x at_y = absurd (omega arith)
cut_twice (z ∷ xs) zero (suc j) x y lt at_x at_y =
    let c = cut xs j y at_y in
    let head : z ≡ x = same_Some z x at_x in
    ([], c.0, c.1, ap (λ w. w ∷ xs) head ∙ ap (λ ws. x ∷ ws) c.2)
cut_twice (z ∷ xs) (suc i) (suc j) x y lt at_x at_y =
    let less : i < j = omega arith in
    let c = cut_twice xs i j x y less at_x at_y in
    (z ∷ c.0, c.1, c.2, ap (λ ws. z ∷ ws) c.3)

shared : (uses : List BitUse) (u v : BitUse) → Before uses u v → clash v u ≡ true → AreShared uses (two_lines v.line u.line)
shared uses u v b clashing =
    let c = cut_twice uses b.first b.second u v b.order b.at_first b.at_second in
    record { front = c.0; one = u; middle = c.1; other = v; rest = c.2; stand = c.3; clashing = clashing; on_lines = refl }

one_bit : (kind : TileKind) (b : BitAt) (read other : Bool) (line behind : ℕ) → (read || other) ≡ true → clash (bit_use kind read line b) (bit_use kind other behind b) ≡ true
one_bit kind b read other line behind some = rw (kind_self kind, nat_self b.row, nat_self b.col) some

-- ---- the bits of a function
found_bit : (parts : Parts) (kind : TileKind) (name : List ℕ) (k : ℕ) (b : BitAt) → function_place parts kind name k ≡ Some b → (f : FunctionRow) × IsOf parts kind name f × At f.bits k b
found_bit parts kind name k b e = by (function_of parts kind name) refl e
  where
    by : (o : Option FunctionRow) → function_of parts kind name ≡ o → option_and_then (λ (f : FunctionRow). slice_get f.bits k) o ≡ Some b → (f : FunctionRow) × IsOf parts kind name f × At f.bits k b
    by None found e = absurd (none-some b e)
    by (Some f) found e = (f, is_of parts kind name f found, e)

read_uses : (f : FunctionRow) → is_read f.kind f.name ≡ true → map (bit_use f.kind true f.line) f.bits ≡ function_uses f
read_uses f read = rw read refl

foreign_uses : (f : FunctionRow) → is_read f.kind f.name ≡ false → is_foreign f.kind f.name ≡ true → map (bit_use f.kind false f.line) f.bits ≡ function_uses f
foreign_uses f read foreign = rw (read, foreign) refl

read_use : (f : FunctionRow) (kind : TileKind) (k : ℕ) (b : BitAt) → f.kind ≡ kind → is_read f.kind f.name ≡ true → At f.bits k b → At (function_uses f) k (bit_use kind true f.line b)
read_use f kind k b of read at =
    subst (λ us. At us k (bit_use kind true f.line b)) (read_uses f read)
    (subst (λ (x : TileKind). At (map (bit_use f.kind true f.line) f.bits) k (bit_use x true f.line b)) of (At_map (bit_use f.kind true f.line) f.bits k b at))

foreign_use : (f : FunctionRow) (kind : TileKind) (b : BitAt) → f.kind ≡ kind → is_read f.kind f.name ≡ false → is_foreign f.kind f.name ≡ true → Has f.bits b → Has (function_uses f) (bit_use kind false f.line b)
foreign_use f kind b of read foreign has =
    subst (λ us. Has us (bit_use kind false f.line b)) (foreign_uses f read foreign)
    (subst (λ (x : TileKind). Has (map (bit_use f.kind false f.line) f.bits) (bit_use x false f.line b)) of (Has_map (bit_use f.kind false f.line) f.bits b has))

module _ (parts : Parts) (chip : IsChip parts) (first : SharedFunctionIsFirst) where
  abbrev of_functions : List BitUse
  of_functions = flat_map function_uses parts.functions

  abbrev of_groups : List BitUse
  of_groups = flat_map (λ (g : SwitchGroup). group_uses (tile_known parts.tiles g.tile) g) parts.groups

  none_shared : (lines : ℕ × ℕ) → AreShared (bit_uses parts) lines → ⊥
  none_shared = subst (AreFirstShared (bit_uses parts)) (no_fault parts chip).bits (first parts)

  no_clash : (u v : BitUse) → Before (bit_uses parts) u v → clash v u ≡ true → ⊥
  no_clash u v b clashing = none_shared (two_lines v.line u.line) (shared (bit_uses parts) u v b clashing)

  no_clash_of_functions : (u v : BitUse) → Before of_functions u v → clash v u ≡ true → ⊥
  no_clash_of_functions u v b clashing = no_clash u v (before_left of_functions of_groups u v b) clashing

  read_there : (kind : TileKind) (name : List ℕ) (f : FunctionRow) → IsOf parts kind name f → is_read kind name ≡ true → is_read f.kind f.name ≡ true
  read_there kind name f of read = ap (λ (k : TileKind). is_read k f.name) of.of_kind ∙ ap (is_read kind) of.of_name ∙ read

  -- two bits of one function at one place
  one_place : (f : FunctionRow) (i : ℕ) (kind : TileKind) (k l : ℕ) (b : BitAt) → At parts.functions i f → f.kind ≡ kind → is_read f.kind f.name ≡ true → At f.bits k b → At f.bits l b → k ≡ l
  one_place f i kind k l b at of read at_k at_l = elim (cases_order k l) [
    | inl same ↦ same
    | inr (inl before) ↦ absurd (clashes k l before at_k at_l)
    | inr (inr behind) ↦ absurd (clashes l k behind at_l at_k)
  ]
    where
      clashes : (m n : ℕ) → m < n → At f.bits m b → At f.bits n b → ⊥
      clashes m n lt at_m at_n =
          let bit : BitUse = bit_use kind true f.line b in
          let inside : Before (function_uses f) bit bit = record { first = m; second = n; order = lt; at_first = read_use f kind m b of read at_m; at_second = read_use f kind n b of read at_n } in
          no_clash_of_functions bit bit (before_part function_uses parts.functions i f bit bit at inside) (one_bit kind b true true f.line f.line refl)

  -- two functions of one bit, one of them read, are one
  one_row : (f g : FunctionRow) (i j : ℕ) (kind : TileKind) (b : BitAt) (read : Bool) → At parts.functions i f → At parts.functions j g
      → Has (function_uses f) (bit_use kind true f.line b) → Has (function_uses g) (bit_use kind read g.line b) → i ≡ j
  one_row f g i j kind b read at_f at_g has_f has_g = elim (cases_order i j) [
    | inl same ↦ same
    | inr (inl before) ↦ absurd (no_clash_of_functions (bit_use kind true f.line b) (bit_use kind read g.line b)
        (before_parts function_uses parts.functions i j f g (bit_use kind true f.line b) (bit_use kind read g.line b) before at_f at_g has_f has_g) (one_bit kind b read true g.line f.line (or_right read true refl)))
    | inr (inr behind) ↦ absurd (no_clash_of_functions (bit_use kind read g.line b) (bit_use kind true f.line b)
        (before_parts function_uses parts.functions j i g f (bit_use kind read g.line b) (bit_use kind true f.line b) behind at_g at_f has_g has_f) (one_bit kind b true read f.line g.line refl))
  ]

  one_use : (kind : TileKind) (name other : List ℕ) (k l : ℕ) (b : BitAt) → IsReadAt parts kind name k b → IsReadAt parts kind other l b → (name ≡ other) × (k ≡ l)
  one_use kind name other k l b (read_name, at_k) (read_other, at_l) = by (found_bit parts kind name k b at_k) (found_bit parts kind other l b at_l)
    where
      by : (f : FunctionRow) × IsOf parts kind name f × At f.bits k b → (g : FunctionRow) × IsOf parts kind other g × At g.bits l b → (name ≡ other) × (k ≡ l)
      by (f, of_f, bit_f) (g, of_g, bit_g) =
          let read_f = read_there kind name f of_f read_name in
          let read_g = read_there kind other g of_g read_other in
          let place : of_f.there.0 ≡ of_g.there.0 =
          one_row f g of_f.there.0 of_g.there.0 kind b true of_f.there.1 of_g.there.1 (k, read_use f kind k b of_f.of_kind read_f bit_f) (l, read_use g kind l b of_g.of_kind read_g bit_g) in
          let row : g ≡ f = same_Some g f (sym of_g.there.1 ∙ ap (slice_get parts.functions) (sym place) ∙ of_f.there.1) in
          (sym of_f.of_name ∙ ap (λ (x : FunctionRow). x.name) (sym row) ∙ of_g.of_name, one_place f of_f.there.0 kind k l b of_f.there.1 of_f.of_kind read_f bit_f (subst (λ (x : FunctionRow). At x.bits l b) row bit_g))

  not_foreign : (kind : TileKind) (name : List ℕ) (k : ℕ) (b : BitAt) (g : FunctionRow) → IsReadAt parts kind name k b
      → Has parts.functions g → g.kind ≡ kind → is_foreign kind g.name ≡ true → Has g.bits b → ⊥
  not_foreign kind name k b g (read, at_k) has kind_g foreign bit_g = by (found_bit parts kind name k b at_k)
    where
      foreign_g : is_foreign g.kind g.name ≡ true
      foreign_g = ap (λ (x : TileKind). is_foreign x g.name) kind_g ∙ foreign

      unread : (r : Bool) → is_read g.kind g.name ≡ r → is_read g.kind g.name ≡ false
      unread false is = is
      unread true is = absurd (true≢false (sym foreign_g ∙ read_not_foreign g.kind g.name is))

      by : (f : FunctionRow) × IsOf parts kind name f × At f.bits k b → ⊥
      by (f, of_f, bit_f) =
          let read_f = read_there kind name f of_f read in
          let unread_g : is_read g.kind g.name ≡ false = unread (is_read g.kind g.name) refl in
          let place : of_f.there.0 ≡ has.0 =
          one_row f g of_f.there.0 has.0 kind b false of_f.there.1 has.1 (k, read_use f kind k b of_f.of_kind read_f bit_f) (foreign_use g kind b kind_g unread_g foreign_g bit_g) in
          let row : g ≡ f = same_Some g f (sym has.1 ∙ ap (slice_get parts.functions) (sym place) ∙ of_f.there.1) in
          true≢false (sym read_f ∙ ap (λ (x : FunctionRow). is_read x.kind x.name) (sym row) ∙ unread_g)

  not_grouped : (kind : TileKind) (name : List ℕ) (k : ℕ) (b : BitAt) (g : SwitchGroup) → IsReadAt parts kind name k b
      → Has parts.groups g → kind_at parts g.tile ≡ Some kind → Has g.bits b → ⊥
  not_grouped kind name k b g (read, at_k) has at_g bit_g = by (found_bit parts kind name k b at_k) (known_kind parts g.tile kind at_g)
    where
      by : (f : FunctionRow) × IsOf parts kind name f × At f.bits k b → (known : TileLine) × (tile_known parts.tiles g.tile ≡ Some known) × (known.kind ≡ kind) → ⊥
      by (f, of_f, bit_f) (known, tile, is) =
          let use_f : BitUse = bit_use kind true f.line b in
          let use_g : BitUse = bit_use kind false g.line b in
          let of_tile : Has (group_uses (Some known) g) use_g = subst (λ (x : TileKind). Has (map (bit_use known.kind false g.line) g.bits) (bit_use x false g.line b)) is (Has_map (bit_use known.kind false g.line) g.bits b bit_g) in
          let in_group : Has (group_uses (tile_known parts.tiles g.tile) g) use_g = subst (λ (o : Option TileLine). Has (group_uses o g) use_g) (sym tile) of_tile in
          let from_f : Has of_functions use_f = has_part function_uses parts.functions of_f.there.0 f use_f of_f.there.1 (k, read_use f kind k b of_f.of_kind (read_there kind name f of_f read) bit_f) in
          let from_g : Has of_groups use_g = has_part (λ (x : SwitchGroup). group_uses (tile_known parts.tiles x.tile) x) parts.groups has.0 g use_g has.1 in_group in
          no_clash use_f use_g (before_across of_functions of_groups use_f use_g from_f from_g) (one_bit kind b false true g.line f.line refl)

  -- a bit of a function stands in the tiles of its kind
  within : (kind : TileKind) (name : List ℕ) (k : ℕ) (b : BitAt) → IsReadAt parts kind name k b → (b.row < 16) × (b.col < columns kind)
  within kind name k b (read, at_k) =
      let found = found_bit parts kind name k b at_k in
      let f : FunctionRow = found.0 in
      let kept : IsKept f = Has_all IsKept parts.functions f chip.read.functions_kept found.1.there in
      let bit : IsBit (columns f.kind) b = Has_all (IsBit (columns f.kind)) f.bits b kept.bits (k, found.2) in
      (bit.row, subst (λ (x : TileKind). b.col < columns x) found.1.of_kind bit.column)

  pub bits_are : LacksFunctionIsFirst → HasOwnBits parts
  bits_are lacks = record {
    within = within;
    one_use = one_use;
    not_foreign = not_foreign;
    not_grouped = not_grouped;
    found = found_at parts;
    named = λ t kind name k b at is. found_there parts kind name k b (one_use kind) is (bit_listed kind name k is.0 (number_below parts chip lacks t kind name k b at is));
  }
