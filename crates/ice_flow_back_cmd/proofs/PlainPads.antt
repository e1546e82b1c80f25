-- A sound netlist has no pad that is taken apart where its text is read.
use Rattle.std.proofs.Common.{◌≡◌, ◌∙◌, ℕ, ◌+◌, ◌<◌, zero, suc, Bool, true, false, length, None, Some, if◌then◌else◌, refl, sym, ap, subst, arith, true≢false}
use Rattle.std.specs.Prelude.{All, slice_index_or}
use Rattle.std.specs.Option.{option_map_or}
use Rattle.std.proofs.lemmas.Option.{slice_get-get_or}
use Rattle.ice_net.specs.declared.cell.Cell.{Cell}
use Rattle.ice_net.specs.declared.kind.CellKind.{CellKind}
use Rattle.ice_net.specs.declared.kind.CellKind.TheVariants.{Lut, Cover, Carry, Flop, PadCell, Global}
use Rattle.ice_net.specs.NetlistData.{NetlistData}
use Rattle.ice_check.specs.Faults.{first_number, cell_is, is_type_out}
use Rattle.ice_check.specs.Sound.{IsSound}
use Rattle.ice_blif_write.specs.RoundTrip.{IsPlainKind, IsPlainCell}

none_passes : (test : ℕ → Bool) (k count i : ℕ) → first_number test k count ≡ None → i < count → test (k + i) ≡ false
none_passes test k zero i e lt = absurd (omega (arith, lt))
none_passes test k (suc more) i e lt = by (test k) refl e i lt (λ j g. none_passes test (k + 1) more j g)
  where
    by : (b : Bool) → test k ≡ b → (if b then Some k else first_number test (k + 1) more) ≡ None → (i : ℕ) → i < suc more
        → ((j : ℕ) → first_number test (k + 1) more ≡ None → j < more → test (k + 1 + j) ≡ false) → test (k + i) ≡ false
    by true is g i lt rest = cc g
    by false is g zero lt rest = ap test (let z : k + 0 ≡ k = omega arith in z) ∙ is
    by false is g (suc j) lt rest = ap test (let z : k + suc j ≡ k + 1 + j = omega arith in z) ∙ rest j g (omega (arith, lt))

plain_kind : (kind : CellKind) → is_type_out kind ≡ false → IsPlainKind kind
plain_kind (Lut table) typed = tt
plain_kind (Cover table width) typed = tt
plain_kind Carry typed = tt
plain_kind (Flop falling enable reset) typed = tt
plain_kind (PadCell pin_type pullup) typed = (not_of 0 true≢false, not_of 21 true≢false)
  where
    not_of : (t : ℕ) → (is_type_out (PadCell t pullup) ≡ false → ⊥) → pin_type ≡ t → ⊥
    not_of t out e = out (subst (λ (u : ℕ). is_type_out (PadCell u pullup) ≡ false) e typed)
plain_kind Global typed = tt

pub sound_is_plain : (n : NetlistData) → IsSound n → All IsPlainCell n.cells
sound_is_plain n sound k d lt =
    let test : ℕ → Bool = cell_is n (λ (cell : Cell). is_type_out cell.kind) in
    let cell : Cell = slice_index_or n.cells k d in
    let typed : test (0 + k) ≡ false = none_passes test 0 (length n.cells) k sound.pin_types lt in
    plain_kind cell.kind
    (ap (λ o. option_map_or (λ (c : Cell). is_type_out c.kind) o false) (sym (slice_get-get_or n.cells k d lt))
    ∙ ap test (let z : k ≡ 0 + k = omega arith in z) ∙ typed)
