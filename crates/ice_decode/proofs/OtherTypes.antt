-- A pad of a tile that is no IO tile has no type.
use Rattle.std.proofs.Common.{◌≡◌, ℕ, zero, suc, ◌<◌, false, Option, None, Some, List, [], ◌∷◌, refl, sym, ap, ◌∙◌, true≢false, bytes_eq, arith}
use Rattle.std.specs.Prelude.{◌||◌, slice_get}
use Rattle.std.specs.Option.{option_map_or, option_and_then}
use Rattle.std.proofs.lemmas.Bool.{and_parts}
use Rattle.ice_base.specs.declared.bit.BitAt.{BitAt}
use Rattle.ice_base.proofs.Keys.{bytes_same}
use Rattle.ice_base_values.proofs.Members.{Has_all, find_Has}
use Rattle.ice_net.specs.Meaning.{number_of}
use Rattle.ice_chip.specs.Database.{Parts, FunctionRow}
use Rattle.ice_chip.specs.Names.{pin_type_function}
use Rattle.ice_chip.specs.Functions.{is_read, is_foreign, same_kind}
use Rattle.ice_chip.specs.IsRead.{IsRead}
use Rattle.ice_chip.specs.Lookups.{kind_at, is_function, function_of}
use Rattle.ice_chip.specs.Within.{IsKept}
use Rattle.ice_chip.specs.declared.rows.Pad.{Pad}
use Rattle.ice_chip.specs.declared.rows.TileKind.{TileKind}
use Rattle.ice_chip.specs.declared.rows.TileKind.TheVariants.{Io, Logic, RamBottom, RamTop}
use Rattle.ice_chip.proofs.SameKinds.{kind_same}
use Rattle.ice_bits.specs.Configuration.{Bits}
use Rattle.ice_decode.specs.Pads.{pin_type_digit, pin_type}

pub each_two : (P : ℕ → Type 0) → P 0 → P 1 → (n : ℕ) → n < 2 → P n
each_two P a b zero lt = a
each_two P a b (suc zero) lt = b
each_two P a b (suc (suc n)) lt = absurd (omega (arith, lt))

-- the function is neither read nor kept in tiles of the kind
abbrev IsUnknown : List ℕ → TileKind → Type 0
IsUnknown name kind = (is_read kind name || is_foreign kind name) ≡ false

abbrev AreUnknown : ℕ → TileKind → Type 0
AreUnknown pio kind =
    IsUnknown (pin_type_function pio 0) kind × IsUnknown (pin_type_function pio 1) kind × IsUnknown (pin_type_function pio 2) kind × IsUnknown (pin_type_function pio 3) kind
    × IsUnknown (pin_type_function pio 4) kind × IsUnknown (pin_type_function pio 5) kind

unknown : (kind : TileKind) → (kind ≡ Io → ⊥) → (pio : ℕ) → pio < 2 → AreUnknown pio kind
unknown Io other = λ pio lt. absurd (other refl)
unknown Logic other = each_two (λ pio. AreUnknown pio Logic) (refl, refl, refl, refl, refl, refl) (refl, refl, refl, refl, refl, refl)
unknown RamBottom other = each_two (λ pio. AreUnknown pio RamBottom) (refl, refl, refl, refl, refl, refl) (refl, refl, refl, refl, refl, refl)
unknown RamTop other = each_two (λ pio. AreUnknown pio RamTop) (refl, refl, refl, refl, refl, refl) (refl, refl, refl, refl, refl, refl)

module _ (parts : Parts) (bits : Bits) (read : IsRead parts) where
  lacks : (kind : TileKind) (name : List ℕ) → IsUnknown name kind → function_of parts kind name ≡ None
  lacks kind name never = by (function_of parts kind name) refl
    where
      by : (o : Option FunctionRow) → function_of parts kind name ≡ o → o ≡ None
      by None e = refl
      by (Some f) e =
          let found = find_Has (is_function kind name) parts.functions f e in
          let both = and_parts (same_kind f.kind kind) (bytes_eq f.name name) found.1 in
          let k : f.kind ≡ kind = kind_same f.kind kind both.0 in
          let n : f.name ≡ name = bytes_same f.name name both.1 in
          let kept : IsKept f = Has_all IsKept parts.functions f read.functions_kept found.0 in
          absurd (true≢false (sym kept.known ∙ (λ i. (is_read (k i) (n i) || is_foreign (k i) (n i))) ∙ never))

  unset : (pad : Pad) (k : ℕ) → ((kind : TileKind) → kind_at parts pad.tile ≡ Some kind → IsUnknown (pin_type_function pad.pio k) kind) → pin_type_digit parts bits pad k ≡ false
  unset pad k never = by (kind_at parts pad.tile) refl
    where
      name : List ℕ
      name = pin_type_function pad.pio k

      bit_of : TileKind → Option BitAt
      bit_of kind = option_and_then (λ (f : FunctionRow). slice_get f.bits 0) (function_of parts kind name)

      by : (o : Option TileKind) → kind_at parts pad.tile ≡ o → option_map_or (bits pad.tile) (option_and_then bit_of o) false ≡ false
      by None e = refl
      by (Some kind) e = ap (λ (f : Option FunctionRow). option_map_or (bits pad.tile) (option_and_then (λ (x : FunctionRow). slice_get x.bits 0) f) false) (lacks kind name (never kind e))

  -- a pad of a tile of another kind has the type 0
  pub other_untyped : (pad : Pad) → (kind_at parts pad.tile ≡ Some Io → ⊥) → pad.pio < 2 → pin_type parts bits pad ≡ 0
  other_untyped pad other lt =
      let six : (kind : TileKind) → kind_at parts pad.tile ≡ Some kind → AreUnknown pad.pio kind
      = λ kind e. unknown kind (λ f. other (e ∙ ap (λ (x : TileKind). Some x) f)) pad.pio lt in
      let d0 = unset pad 0 (λ kind e. (six kind e).0) in
      let d1 = unset pad 1 (λ kind e. (six kind e).1) in
      let d2 = unset pad 2 (λ kind e. (six kind e).2) in
      let d3 = unset pad 3 (λ kind e. (six kind e).3) in
      let d4 = unset pad 4 (λ kind e. (six kind e).4) in
      let d5 = unset pad 5 (λ kind e. (six kind e).5) in
      λ i. number_of (d0 i ∷ d1 i ∷ d2 i ∷ d3 i ∷ d4 i ∷ d5 i ∷ [])
