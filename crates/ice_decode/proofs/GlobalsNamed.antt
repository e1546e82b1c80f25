-- The global whose name a wire has in a tile is found by looking up the eight names there.
use Rattle.std.proofs.Common.{◌≡◌, ℕ, zero, suc, ◌+◌, ◌<◌, Bool, true, false, cond, Option, None, Some, List, [], ◌∷◌, refl, ap, sym, ◌∙◌, subst, eqb, arith}
use Rattle.std.specs.Prelude.{◌&&◌, codes}
use Rattle.std.specs.Option.{option_map_or}
use Rattle.std.proofs.lemmas.Bool.{and_parts, and_from, eqb-true, eq-eqb, or_right}
use Rattle.std.proofs.lemmas.Option.{same_Some}
use Rattle.ice_base.specs.declared.number.TileAt.{TileAt}
use Rattle.ice_chip.specs.Database.{Parts, same_tile}
use Rattle.ice_chip.specs.Lookups.{names_of, wire_named, placed_at}
use Rattle.ice_chip.specs.Names.{is_global_name}
use Rattle.ice_chip.specs.PinNames.{is_output_of, is_input_name, is_output_name}
use Rattle.ice_chip.specs.declared.rows.TileKind.{TileKind}
use Rattle.ice_chip.specs.declared.rows.TileKind.TheVariants.{Io, Logic, RamBottom, RamTop}
use Rattle.ice_chip.specs.declared.placed.PlacedName.{PlacedName}
use Rattle.ice_chip.specs.WireNames.{tile_wire, global_name}
use Rattle.ice_chip_names.specs.declared.wire_names.TileWire.{TileWire}
use Rattle.ice_chip_names.specs.declared.wire_names.TileWire.TheVariants.{Global}
use Rattle.ice_chip_names.proofs.Prefixes.{set_number}
use Rattle.ice_chip_laws.specs.Laws.{IsLawful}
use Rattle.ice_base_values.specs.Order.{Has}
use Rattle.ice_chip_laws.specs.Names.{HasName}
use Rattle.ice_chip_laws.specs.Pins.{is_pin_in, IsPinOf}
use Rattle.ice_decode.specs.Drivers.{number_at}
use Rattle.ice_decode.specs.Meaning.{global_at}
use Rattle.ice_decode.specs.FirstFaults.{or_else, first_of}
use Rattle.ice_decode.specs.GlobalNames.{is_named, if_named, global_named}
use Rattle.ice_base.proofs.Keys.{tile_same, tile_self}
use Rattle.ice_decode.proofs.Driven.{first_none}

-- ---- names of globals
name_is : (n : ℕ) → n < 8 → (is_global_name (global_name n) ≡ true) × (number_at (global_name n) 10 ≡ n) × (tile_wire (global_name n) ≡ Some (Global n))
name_is zero lt = (refl, refl, refl)
name_is (suc zero) lt = (refl, refl, refl)
name_is (suc (suc zero)) lt = (refl, refl, refl)
name_is (suc (suc (suc zero))) lt = (refl, refl, refl)
name_is (suc (suc (suc (suc zero)))) lt = (refl, refl, refl)
name_is (suc (suc (suc (suc (suc zero))))) lt = (refl, refl, refl)
name_is (suc (suc (suc (suc (suc (suc zero)))))) lt = (refl, refl, refl)
name_is (suc (suc (suc (suc (suc (suc (suc zero))))))) lt = (refl, refl, refl)
name_is (suc (suc (suc (suc (suc (suc (suc (suc n)))))))) lt = absurd (omega arith)

-- a name of a global is one of the eight
globals_name : (name : List ℕ) → is_global_name name ≡ true → (n : ℕ) × (n < 8) × (name ≡ global_name n)
globals_name name e = set_number 8 (codes "glb_netwk_") name (omega arith) e

drives : (kind : TileKind) (n : ℕ) → is_output_of kind (Global n) ≡ true
drives Io n = refl
drives Logic n = refl
drives RamBottom n = refl
drives RamTop n = refl

-- it is a pin's in every kind of tile
pub global_pin : (kind : TileKind) (name : List ℕ) → is_global_name name ≡ true → is_pin_in (Some kind) name ≡ true
global_pin kind name e =
    let which = globals_name name e in
    subst (λ (k : List ℕ). is_pin_in (Some kind) k ≡ true) (sym which.2)
    (or_right (is_input_name kind (global_name which.0)) (is_output_name kind (global_name which.0))
    (ap (λ (o : Option TileWire). option_map_or (is_output_of kind) o false) (name_is which.0 which.1).2 ∙ drives kind which.0))

-- ---- the first of eight
first_meets : (p : ℕ → Bool) (k more n : ℕ) → first_of (λ i. cond (p i) (Some i) None) k more ≡ Some n → (p n ≡ true) × (n < k + more)
first_meets p k zero n e = cc e
first_meets p k (suc more) n e = by (p k) refl (λ f. first_meets p (k + 1) more n f) e
  where
    by : (b : Bool) → p k ≡ b → (first_of (λ i. cond (p i) (Some i) None) (k + 1) more ≡ Some n → (p n ≡ true) × (n < k + 1 + more))
        → or_else (cond b (Some k) None) (first_of (λ i. cond (p i) (Some i) None) (k + 1) more) ≡ Some n → (p n ≡ true) × (n < k + suc more)
    by true is later f = let same : k ≡ n = same_Some k n f in (subst (λ i. p i ≡ true) same is, omega arith)
    by false is later f = let there = later f in (there.0, let lt = there.1 in omega arith)

none_false : (b : Bool) (n : ℕ) → cond b (Some n) None ≡ None → b ≡ false
none_false true n e = cc e
none_false false n e = refl

-- ---- the names of a wire in a tile
module _ (parts : Parts) (lawful : IsLawful parts) (t : TileAt) (w : ℕ) where
  found_named : (name : List ℕ) → is_named parts t name w ≡ true → wire_named parts t name ≡ Some w
  found_named name e = by (wire_named parts t name) e
    where
      by : (o : Option ℕ) → option_map_or (λ v. eqb v w) o false ≡ true → o ≡ Some w
      by None f = cc f
      by (Some v) f = ap (λ x. Some x) (eqb-true v w f)

  named_found : (name : List ℕ) → wire_named parts t name ≡ Some w → is_named parts t name w ≡ true
  named_found name e = ap (λ (o : Option ℕ). option_map_or (λ v. eqb v w) o false) e ∙ eq-eqb w w refl

  -- a name of a global that the wire has is that of a pin
  pin_of_name : (n : PlacedName) → HasName parts w n → is_global_name n.name ≡ true → IsPinOf parts w n
  pin_of_name n has global = let stands = lawful.names.placed w n has in (has, ap (λ o. is_pin_in o n.name) stands.1 ∙ global_pin stands.0 n.name global)

  abbrev is_here : PlacedName → Bool
  is_here n = same_tile n.tile t && is_global_name n.name

  -- a global whose name the wire has here is the one that its names tell
  told : (n : ℕ) → n < 8 → (names : List PlacedName) → ((m : PlacedName) → Has names m → HasName parts w m) → Has names (placed_at t (global_name n)) → global_at t names ≡ Some n
  told n lt [] all has = cc has.1
  told n lt (m ∷ names) all has = by (is_here m) refl has (λ later. told n lt names (λ k held. all k (suc held.0, held.1)) later)
    where
      own : HasName parts w (placed_at t (global_name n))
      own = all (placed_at t (global_name n)) has

      by : (b : Bool) → is_here m ≡ b → Has (m ∷ names) (placed_at t (global_name n)) → (Has names (placed_at t (global_name n)) → global_at t names ≡ Some n)
          → cond b (Some (number_at m.name 10)) (global_at t names) ≡ Some n
      by true is held rest =
          let tests = and_parts (same_tile m.tile t) (is_global_name m.name) is in
          let one = lawful.pins.one_pin w m (placed_at t (global_name n)) (pin_of_name m (all m (0, refl)) tests.1) (pin_of_name (placed_at t (global_name n)) own (name_is n lt).0) in
          ap (λ (name : List ℕ). Some (number_at name 10)) one.0 ∙ ap (λ x. Some x) (name_is n lt).1
      by false is (zero, at) rest =
          let same : m ≡ placed_at t (global_name n) = same_Some m (placed_at t (global_name n)) at in
          let yes : is_here m ≡ true = ap is_here same ∙ and_from (same_tile t t) (is_global_name (global_name n)) (tile_self t) (name_is n lt).0 in
          cc (yes, is)
      by false is (suc i, at) rest = rest (i, at)

  -- where it has none of the eight here, its names tell none
  untold : ((n : ℕ) → n < 8 → is_named parts t (global_name n) w ≡ false) → (names : List PlacedName) → ((m : PlacedName) → Has names m → HasName parts w m) → global_at t names ≡ None
  untold none [] all = refl
  untold none (m ∷ names) all = by (is_here m) refl (untold none names (λ k held. all k (suc held.0, held.1)))
    where
      by : (b : Bool) → is_here m ≡ b → global_at t names ≡ None → cond b (Some (number_at m.name 10)) (global_at t names) ≡ None
      by false is rest = rest
      by true is rest =
          let tests = and_parts (same_tile m.tile t) (is_global_name m.name) is in
          let tile : m.tile ≡ t = tile_same m.tile t tests.0 in
          let which = globals_name m.name tests.1 in
          let name : m.name ≡ global_name which.0 = which.2 in
          let same : m ≡ placed_at t (global_name which.0) = λ i. record { tile = tile i; name = name i } in
          let yes = named_found (global_name which.0) (lawful.names.named t (global_name which.0) w (subst (HasName parts w) same (all m (0, refl)))) in
          let no = none which.0 which.1 in
          cc (yes, no)

  pub global_is : global_named parts t w ≡ global_at t (names_of parts w)
  global_is = by (global_named parts t w) refl
    where
      by : (o : Option ℕ) → global_named parts t w ≡ o → o ≡ global_at t (names_of parts w)
      by None e =
          sym (untold (λ n lt. none_false (is_named parts t (global_name n) w) n (first_none (if_named parts t w) 0 8 e n (omega arith) (omega arith))) (names_of parts w) (λ m has. has))
      by (Some n) e =
          let meets = first_meets (λ i. is_named parts t (global_name i) w) 0 8 n e in
          let lt : n < 8 = (let below = meets.1 in omega arith) in
          sym (told n lt (names_of parts w) (λ m has. has) (lawful.names.found t (global_name n) w (found_named (global_name n) meets.0)))
