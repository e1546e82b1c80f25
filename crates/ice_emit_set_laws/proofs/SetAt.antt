-- A bit of a function that is read is set exactly where it is listed, whatever rows are wanted beside.
use Rattle.std.proofs.Common.{◌≡◌, ℕ, ◌+◌, Bool, true, false, Option, None, Some, List, filter, inl, inr, refl, ap, sym, ◌∙◌, subst, bytes_eq}
use Rattle.std.specs.Prelude.{◌||◌, is_some, slice_get}
use Rattle.std.specs.List.{list_any}
use Rattle.std.specs.Option.{option_map_or, option_and_then}
use Rattle.std.proofs.lemmas.Bool.{and_parts, or_cases, or_right}
use Rattle.std.proofs.lemmas.Option.{same_Some}
use Rattle.ice_base.specs.declared.number.TileAt.{TileAt}
use Rattle.ice_base.specs.declared.bit.BitAt.{BitAt}
use Rattle.ice_base_values.specs.Order.{At, Has}
use Rattle.ice_chip.specs.Database.{Parts, FunctionRow, SwitchGroup, SwitchRow, same_tile}
use Rattle.ice_chip.specs.Functions.{is_read, is_foreign, same_kind}
use Rattle.ice_chip.specs.IsRead.{IsChip}
use Rattle.ice_chip.specs.Lookups.{kind_at, function_of, is_function}
use Rattle.ice_chip.specs.Listings.{rows_of}
use Rattle.ice_chip.specs.Within.{IsKept}
use Rattle.ice_chip.specs.declared.rows.TileKind.{TileKind}
use Rattle.ice_chip.specs.declared.rows.TileKind.TheVariants.{Io, Logic, RamBottom, RamTop}
use Rattle.ice_chip_laws.specs.Bits.{IsReadAt}
use Rattle.ice_chip_laws.specs.Laws.{IsLawful}
use Rattle.ice_bits.specs.Configuration.{Bits, same_place}
use Rattle.ice_bits.specs.Settings.{function_bit, set_at}
use Rattle.ice_decode.specs.declared.driver.Switch.{Switch}
use Rattle.ice_bits_rows.specs.Sound.{sets, is_sound}
use Rattle.ice_emit_rows_laws.specs.Settings.{Setting, sets_one, function_bits, AreRead}
use Rattle.ice_emit_rows_laws.specs.Wanted.{IsRowOf, sets_of, sets_switch, set_bits, AreWanted, AreNoGroups}
use Rattle.ice_emit_defs.specs.Functions.{setting}
use Rattle.ice_base.proofs.Keys.{bytes_same, tile_same, place_same}
use Rattle.ice_base_values.proofs.Members.{Has_all, Has_filter, filter_Has, find_Has, any_none}
use Rattle.ice_emit_rows_laws.proofs.SetBits.{no_groups, bit_set}
use Rattle.ice_emit_rows_laws.proofs.SoundRows.{sets_parts}
use Rattle.ice_emit_set_laws.proofs.FunctionKinds.{IsOwn}
use Rattle.ice_emit_set_laws.proofs.Lists.{any_filter}

pub kind_is : (a b : TileKind) → same_kind a b ≡ true → a ≡ b
kind_is Io Io e = refl
kind_is Logic Logic e = refl
kind_is RamBottom RamBottom e = refl
kind_is RamTop RamTop e = refl
kind_is Io Logic e = cc e
kind_is Io RamBottom e = cc e
kind_is Io RamTop e = cc e
kind_is Logic Io e = cc e
kind_is Logic RamBottom e = cc e
kind_is Logic RamTop e = cc e
kind_is RamBottom Io e = cc e
kind_is RamBottom Logic e = cc e
kind_is RamBottom RamTop e = cc e
kind_is RamTop Io e = cc e
kind_is RamTop Logic e = cc e
kind_is RamTop RamBottom e = cc e

-- the bit of the function stands in a tile of the kind, in which the function is read
pub record IsBitOf (parts : Parts) (t : TileAt) (name : List ℕ) (k : ℕ) (b : BitAt) : Type 0 where
  pub kind : TileKind
  pub known : kind_at parts t ≡ Some kind
  pub there : IsReadAt parts kind name k b

module _ (parts : Parts) (chip : IsChip parts) (lawful : IsLawful parts) where
  -- a function that has a bit is read, if it is not foreign
  is_known : (kind : TileKind) (name : List ℕ) (f : FunctionRow) → is_foreign kind name ≡ false → function_of parts kind name ≡ Some f → is_read kind name ≡ true
  is_known kind name f own is =
      let found = find_Has (is_function kind name) parts.functions f is in
      let both = and_parts (same_kind f.kind kind) (bytes_eq f.name name) found.1 in
      let kept : IsKept f = Has_all IsKept parts.functions f chip.read.functions_kept found.0 in
      let known : (is_read kind f.name || is_foreign kind f.name) ≡ true
      = subst (λ (x : TileKind). (is_read x f.name || is_foreign x f.name) ≡ true) (kind_is f.kind kind both.0) kept.known in
      let same : (is_read kind name || is_foreign kind name) ≡ true = subst (λ (x : List ℕ). (is_read kind x || is_foreign kind x) ≡ true) (bytes_same f.name name both.1) known in
      elim (or_cases (is_read kind name) (is_foreign kind name) same) [ inl read ↦ read | inr foreign ↦ cc (foreign, own) ]

  pub bit_of : (t : TileAt) (name : List ℕ) (k : ℕ) (b : BitAt) → IsOwn parts t name → function_bit parts t name k ≡ Some b → IsBitOf parts t name k b
  bit_of t name k b own e = by (kind_at parts t) refl e
    where
      in_kind : (kind : TileKind) → kind_at parts t ≡ Some kind → (o : Option FunctionRow) → function_of parts kind name ≡ o → option_and_then (λ f. slice_get f.bits k) o ≡ Some b → IsBitOf parts t name k b
      in_kind kind known None is at = cc at
      in_kind kind known (Some f) is at =
          record { kind = kind; known = known; there = (is_known kind name f (own kind known) is, ap (λ o. option_and_then (λ (x : FunctionRow). slice_get x.bits k) o) is ∙ at) }

      by : (o : Option TileKind) → kind_at parts t ≡ o → option_and_then (λ kind. option_and_then (λ f. slice_get f.bits k) (function_of parts kind name)) o ≡ Some b → IsBitOf parts t name k b
      by None known at = cc at
      by (Some kind) known at = in_kind kind known (function_of parts kind name) refl at

  -- what a setting sets
  pub setter : (t : TileAt) (b : BitAt) (x : Setting) → sets_one parts t b x ≡ true → (x.tile ≡ t) × (function_bit parts t x.name x.number ≡ Some b)
  setter t b x e =
      let two = and_parts (same_tile x.tile t) (option_map_or (same_place b) (function_bit parts t x.name x.number) false) e in
      (tile_same x.tile t two.0, by (function_bit parts t x.name x.number) refl two.1)
    where
      by : (o : Option BitAt) → function_bit parts t x.name x.number ≡ o → option_map_or (same_place b) o false ≡ true → function_bit parts t x.name x.number ≡ Some b
      by None is f = cc f
      by (Some c) is f = is ∙ ap Some (sym (place_same b c f))

  -- the setting is of a function that its tile has
  abbrev has_bit : Setting → Bool
  has_bit x = is_some (function_bit parts x.tile x.name x.number)

  -- what a wanted row sets is a bit of its group
  pub record IsRowBit (t : TileAt) (b : BitAt) (s : Switch) : Type 0 where
    pub group : SwitchGroup
    pub row : SwitchRow
    pub is : IsRowOf parts s group row
    pub sound : is_sound parts group s.row.0 row ≡ true
    pub tile : group.tile ≡ t
    pub bit : Has group.bits b

  module _ (wanted : List Switch) (are : AreWanted parts wanted) where
    pub row_bit : (t : TileAt) (b : BitAt) (s : Switch) → Has wanted s → sets_switch parts s t b ≡ true → IsRowBit t b s
    row_bit t b s has set =
        let got = are.rows s has in
        let at : At (rows_of parts.groups) (got.0.first + got.2.place) (got.0, got.1) = lawful.rows.numbered got.0 got.2.place got.1 got.2.in_groups got.2.in_rows in
        let is : sets_switch parts s t b ≡ sets got.0 got.1 t b
        = ap (λ o. sets_of o t b) (subst (λ n. At (rows_of parts.groups) n (got.0, got.1)) (sym got.2.number) at) in
        let two = sets_parts got.0 got.1 t b (sym is ∙ set) in
        record { group = got.0; row = got.1; is = got.2; sound = got.3; tile = two.0; bit = two.1 }

    -- rows set no bit of a function that is read
    rows_unset : (t : TileAt) (name : List ℕ) (k : ℕ) (b : BitAt) → IsBitOf parts t name k b → list_any (λ s. sets_switch parts s t b) wanted ≡ false
    rows_unset t name k b is = any_none (λ s. sets_switch parts s t b) wanted (λ s has set.
        let got = row_bit t b s has set in
        lawful.bits.not_grouped is.kind name k b got.group is.there got.is.in_groups (ap (kind_at parts) got.tile ∙ is.known) got.bit)

  module _ (settings : List Setting) (own : (x : Setting) → Has settings x → IsOwn parts x.tile x.name) where
    abbrev seen : List Setting
    seen = filter has_bit settings

    same_bits : (t : TileAt) (b : BitAt) → function_bits parts seen t b ≡ function_bits parts settings t b
    same_bits t b = any_filter (sets_one parts t b) has_bit (λ x set.
        let one = setter t b x set in
        ap (λ (u : TileAt). is_some (function_bit parts u x.name x.number)) one.0 ∙ ap is_some one.1) settings

    bit_there : (o : Option BitAt) → is_some o ≡ true → (b : BitAt) × (o ≡ Some b)
    bit_there None e = cc e
    bit_there (Some b) e = (b, refl)

    seen_read : AreRead parts seen
    seen_read = record {
      each = λ x kind has known.
          let back = filter_Has has_bit settings x has in
          let at = bit_there (function_bit parts x.tile x.name x.number) back.1 in
          let is = bit_of x.tile x.name x.number at.0 (own x back.0) at.1 in
          let same : is.kind ≡ kind = same_Some is.kind kind (sym is.known ∙ known) in
          subst (λ (y : TileKind). is_read y x.name ≡ true) same is.there.0;
    }

    pub none_grouped : AreNoGroups parts (function_bits parts settings)
    none_grouped = record { each = λ g b hg hb. sym (same_bits g.tile b) ∙ (no_groups parts lawful.bits seen seen_read).each g b hg hb }

    module _ (wanted : List Switch) (are : AreWanted parts wanted) where
      abbrev bits : Bits
      bits = set_bits parts wanted (function_bits parts settings)

      at_place : (t : TileAt) (name : List ℕ) (k : ℕ) (b : BitAt) → function_bit parts t name k ≡ Some b → set_at parts bits t name k ≡ bits t b
      at_place t name k b e = ap (λ o. option_map_or (bits t) o false) e

      pub set_true : (t : TileAt) (name : List ℕ) (k : ℕ) (b : BitAt) → IsOwn parts t name → function_bit parts t name k ≡ Some b → Has settings (setting t name k) → set_at parts bits t name k ≡ true
      set_true t name k b own_one e has =
          let is = bit_of t name k b own_one e in
          let kept = Has_filter has_bit settings (setting t name k) has (ap is_some e) in
          at_place t name k b e
          ∙ or_right (list_any (λ s. sets_switch parts s t b) wanted) (function_bits parts settings t b)
          (sym (same_bits t b) ∙ (bit_set parts lawful.bits seen seen_read t name k b is.kind is.known is.there.0 e).0 kept)

      pub set_false : (t : TileAt) (name : List ℕ) (k : ℕ) → IsOwn parts t name → (Has settings (setting t name k) → ⊥) → set_at parts bits t name k ≡ false
      set_false t name k own_one never = by (function_bit parts t name k) refl
        where
          by : (o : Option BitAt) → function_bit parts t name k ≡ o → set_at parts bits t name k ≡ false
          by None e = ap (λ o. option_map_or (bits t) o false) e
          by (Some b) e =
              let is = bit_of t name k b own_one e in
              at_place t name k b e
              ∙ (λ i. rows_unset wanted are t name k b is i || (sym (same_bits t b) ∙ (bit_set parts lawful.bits seen seen_read t name k b is.kind is.known is.there.0 e).1
              (λ has. never (filter_Has has_bit settings (setting t name k) has).0)) i)

      -- a bit that is listed exactly where a test passes
      pub set_as : (c : Bool) (t : TileAt) (name : List ℕ) (k : ℕ) (b : BitAt) → IsOwn parts t name → function_bit parts t name k ≡ Some b
          → (c ≡ true → Has settings (setting t name k)) → (Has settings (setting t name k) → c ≡ true) → set_at parts bits t name k ≡ c
      set_as true t name k b own_one e on off = set_true t name k b own_one e (on refl)
      set_as false t name k b own_one e on off = set_false t name k own_one (λ has. let bad = off has in cc bad)
