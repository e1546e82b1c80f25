-- Logic tiles have no foreign functions, and the bits of those of other kinds.
use Rattle.std.proofs.Common.{◌≡◌, ◌+◌, ◌<◌, Bool, false, Some, List, [], ◌∷◌, ◌++◌, length, map, drop, get_or, refl, sym, ap, ◌∙◌}
use Rattle.ice_base.specs.declared.bit.BitAt.{BitAt}
use Rattle.ice_base.specs.Places.{same_place}
use Rattle.std.proofs.lemmas.List.{at_drop_more}
use Rattle.std.proofs.lemmas.List.Folds.{list_any-append}
use Rattle.ice_base.proofs.Booleans.{or_assoc}
use Rattle.ice_chip.specs.Database.{FunctionRow}
use Rattle.ice_chip.specs.Views.{function_view}
use Rattle.ice_chip.specs.declared.sections.Function.{Function}
use Rattle.ice_chip.specs.declared.rows.TileKind.{TileKind}
use Rattle.ice_chip.specs.declared.rows.TileKind.TheVariants.{Io, Logic, RamBottom, RamTop}
use Rattle.ice_chip.specs.Functions.{same_kind, is_foreign}
use Rattle.std.specs.Prelude.{◌&&◌, ◌||◌, ℕ}
use Rattle.ice_bits_rows.specs.Bundles.{has_bit, is_of_function}

not_logic : (k : TileKind) (name : List ℕ) (x rest : Bool) → rest ≡ false → (((same_kind k Logic && is_foreign k name) && x) || rest) ≡ false
not_logic Io name x rest e = e
not_logic Logic name x rest e = e
not_logic RamBottom name x rest e = e
not_logic RamTop name x rest e = e

pub none_of_logic : (functions : List FunctionRow) (b : BitAt) → is_of_function functions (Some Logic) b ≡ false
none_of_logic [] b = refl
none_of_logic (f ∷ fs) b = not_logic f.kind f.name (has_bit f.bits b) (is_of_function fs (Some Logic) b) (none_of_logic fs b)

-- ---- bits
pub bits_joined : (bits others : List BitAt) (b : BitAt) → has_bit (bits ++ others) b ≡ (has_bit bits b || has_bit others b)
bits_joined bits others b = list_any-append (λ p. same_place p b) bits others

-- a function whose bits are added
pub function_more : (kind : TileKind) (functions : List Function) (i : ℕ) (f : Function) (b : BitAt) (before after : Bool) → i < length functions → f ≡ get_or functions i f
    → after ≡ (before || ((same_kind f.kind kind && is_foreign f.kind f.name) && has_bit f.bits.items b))
    → (after || is_of_function (map function_view (drop (i + 1) functions)) (Some kind) b) ≡ (before || is_of_function (map function_view (drop i functions)) (Some kind) b)
function_more kind functions i f b before after lt is added =
    ap (λ z. z || is_of_function (map function_view (drop (i + 1) functions)) (Some kind) b) added
    ∙ or_assoc before ((same_kind f.kind kind && is_foreign f.kind f.name) && has_bit f.bits.items b) (is_of_function (map function_view (drop (i + 1) functions)) (Some kind) b)
    ∙ ap (λ (g : Function). before || is_of_function (map function_view (g ∷ drop (i + 1) functions)) (Some kind) b) is
    ∙ ap (λ z. before || z) (sym (at_drop_more (λ (fs : List Function). is_of_function (map function_view fs) (Some kind) b) functions i f lt))
