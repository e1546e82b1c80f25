-- The bits of a function in a tile.
use Rattle.std.proofs.Common.{◌≡◌, ℕ, Bool, true, false, Option, None, Some, refl, sym, ap, ◌∙◌, subst}
use Rattle.std.specs.Prelude.{slice_get, if◌then◌else◌}
use Rattle.std.specs.Option.{option_map_or, option_and_then}
use Rattle.ice_base.specs.declared.number.TileAt.{TileAt}
use Rattle.ice_base.specs.declared.bit.BitAt.{BitAt}
use Rattle.ice_chip.specs.Database.{FunctionRow}
use Rattle.ice_chip.specs.Lookups.{function_of}
use Rattle.ice_chip.specs.declared.rows.TileKind.{TileKind}
use Rattle.ice_chip.proofs.SameKinds.{kind_self}
use Rattle.ice_bits.specs.Configuration.{Configuration, bits_of}
use Rattle.ice_bits.specs.Grids.{kind_in, is_of_kind, is_there}
use Rattle.ice_bits.specs.FunctionBits.{if_there, bit_place, with_function, ReadsByName}
use Rattle.ice_bits.specs.Rewriting.{Rewrites}
use Rattle.ice_bits.specs.Written.{with_bit}
use Rattle.ice_bits.proofs.TileKinds.{kinds_are}
use Rattle.ice_bits.proofs.TileWrites.{unseen}

-- a function's bit stands where the tile has a place
if_there_is : (k : Configuration) (t : TileAt) (o : Option BitAt) (b : BitAt) → option_and_then (if_there k t) o ≡ Some b → is_there k t b ≡ true
if_there_is k t None b at = absurd (cc)
if_there_is k t (Some p) b at = by (is_there k t p) refl at
  where
    by : (x : Bool) → is_there k t p ≡ x → (if x then Some p else None) ≡ Some b → is_there k t b ≡ true
    by true there is = let same : p ≡ b = cc in subst (λ (q : BitAt). is_there k t q ≡ true) same there
    by false out is = absurd (cc)

pub place_is_there : (k : Configuration) (t : TileAt) (f : FunctionRow) (at : ℕ) (b : BitAt) → bit_place k t f at ≡ Some b → is_there k t b ≡ true
place_is_there k t f at b is = by (is_of_kind f.kind (kind_in k t)) is
  where
    by : (x : Bool) → (if x then option_and_then (if_there k t) (slice_get f.bits at) else None) ≡ Some b → is_there k t b ≡ true
    by true is = if_there_is k t (slice_get f.bits at) b is
    by false is = absurd (cc)

-- ---- writing
-- nothing is written where the function has no bit
pub nowhere_rewrites : (k : Configuration) (t : TileAt) (f : FunctionRow) (at : ℕ) (value : Bool) → bit_place k t f at ≡ None → Rewrites k k (with_function k t f at value)
nowhere_rewrites k t f at value none = record {
  bits = λ u b. ap (λ (o : Option BitAt). option_map_or (λ p. with_bit t p value (bits_of k)) o (bits_of k) u b) (sym none);
  places = λ u b. refl;
  kinds = λ u. refl;
  extras = refl;
  contents = refl;
  form = λ parts is. is;
}

pub somewhere_rewrites : (old new : Configuration) (t : TileAt) (f : FunctionRow) (at : ℕ) (value : Bool) (b : BitAt) → bit_place old t f at ≡ Some b
    → Rewrites old new (with_bit t b value (bits_of old)) → Rewrites old new (with_function old t f at value)
somewhere_rewrites old new t f at value b is writes =
    subst (λ (o : Option BitAt). Rewrites old new (option_map_or (λ p. with_bit t p value (bits_of old)) o (bits_of old))) (sym is) writes

-- ---- a chip's functions
pub reads_by_name : ReadsByName
reads_by_name parts k is t f at stands kind =
    ap (λ (o : Option TileKind). option_map_or (bits_of k t) (if is_of_kind f.kind o then option_and_then (if_there k t) (slice_get f.bits at) else None) false) (kinds_are parts k is t ∙ kind)
    ∙ ap (λ x. option_map_or (bits_of k t) (if x then option_and_then (if_there k t) (slice_get f.bits at) else None) false) (kind_self f.kind)
    ∙ seen (slice_get f.bits at)
    ∙ sym
    (ap (λ (o : Option TileKind). option_map_or (bits_of k t) (option_and_then (λ own. option_and_then (λ (g : FunctionRow). slice_get g.bits at) (function_of parts own f.name)) o) false) kind
    ∙ ap (λ (o : Option FunctionRow). option_map_or (bits_of k t) (option_and_then (λ g. slice_get g.bits at) o) false) stands)
  where
    seen : (o : Option BitAt) → option_map_or (bits_of k t) (option_and_then (if_there k t) o) false ≡ option_map_or (bits_of k t) o false
    seen None = refl
    seen (Some b) = by (is_there k t b) refl
      where
        by : (x : Bool) → is_there k t b ≡ x → option_map_or (bits_of k t) (if x then Some b else None) false ≡ bits_of k t b
        by true there = refl
        by false out = sym (unseen k t b out)
