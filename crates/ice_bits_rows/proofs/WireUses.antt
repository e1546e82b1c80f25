-- What usable rows may do with wires, wire by wire.
use Rattle.std.proofs.Common.{◌≡◌, ℕ, zero, suc, ◌+◌, ◌<◌, Bool, true, false, List, [], ◌∷◌, ◌++◌, length, ◌⊎◌, get_or, slice_index_or, inl, inr, refl, sym, ap, ◌∙◌, subst, length-append, arith}
use Rattle.std.proofs.Math.ListN.{get_or-append}
use Rattle.std.proofs.Math.Seq.{get_or-append_seam}
use Rattle.std.proofs.lemmas.Bool.{or_parts, or_from}
use Rattle.std.specs.List.{list_any}
use Rattle.std.specs.Prelude.{◌&&◌, not, codes, bytes_eq, Option}
use Rattle.ice_chip.specs.Database.{Parts, SwitchRow, SwitchGroup}
use Rattle.ice_chip.specs.Lookups.{kind_at, names_of}
use Rattle.ice_chip.specs.Names.{cell_pin}
use Rattle.ice_chip.specs.declared.placed.PlacedName.{PlacedName}
use Rattle.ice_chip.specs.declared.rows.TileKind.{TileKind}
use Rattle.ice_bits_rows.specs.WireNames.{has_closed_name, has_input_name, has_strange_name, has_output_name, is_closed_in, is_strange_in, may_enter, may_leave}
use Rattle.ice_bits_rows.specs.Sound.{is_alone}
use Rattle.ice_bits_rows.specs.Uses.{is_source, use_at, uses_below, AreUses}
use Rattle.ice_bits_rows.specs.Usable.{is_taken}
use Rattle.ice_bits_rows.specs.declared.uses.WireUse.{WireUse}

-- ---- one wire
-- by whether the wire has a strange name, an input's, an output's and one that closes it
abbrev use_by : Bool → Bool → Bool → Bool → WireUse
use_by m i o c = record { is_source = not m && (not i && not c); is_target = not o && not c }

none_by : (m i o : Bool) → use_by m i o true ≡ record { is_source = false; is_target = false }
none_by true true true = refl
none_by true true false = refl
none_by true false true = refl
none_by true false false = refl
none_by false true true = refl
none_by false true false = refl
none_by false false true = refl
none_by false false false = refl

pub closed_use : (parts : Parts) (w : ℕ) → has_closed_name parts w ≡ true → record { is_source = false; is_target = false } ≡ use_at parts w
closed_use parts w e =
    sym (ap (use_by (has_strange_name parts w) (has_input_name parts w) (has_output_name parts w)) e
    ∙ none_by (has_strange_name parts w) (has_input_name parts w) (has_output_name parts w))

-- strange names close a wire
no_strange : (kind : PlacedName → Option TileKind) (xs : List PlacedName) → list_any (λ n. is_closed_in (kind n) n.name) xs ≡ false → list_any (λ n. is_strange_in (kind n) n.name) xs ≡ false
no_strange kind [] e = refl
no_strange kind (x ∷ xs) e =
    let parts = or_parts (is_closed_in (kind x) x.name) (list_any (λ n. is_closed_in (kind n) n.name) xs) e in
    or_from (is_strange_in (kind x) x.name) (list_any (λ n. is_strange_in (kind n) n.name) xs) (or_parts (is_strange_in (kind x) x.name) (bytes_eq (cell_pin x.name) (codes "lout")) parts.0).0 (no_strange kind xs parts.1)

open_by : (i o : Bool) → record { is_source = not i; is_target = not o } ≡ use_by false i o false
open_by true true = refl
open_by true false = refl
open_by false true = refl
open_by false false = refl

pub open_use : (parts : Parts) (w : ℕ) (i o : Bool) → has_closed_name parts w ≡ false → i ≡ has_input_name parts w → o ≡ has_output_name parts w → record { is_source = not i; is_target = not o } ≡ use_at parts w
open_use parts w i o e is_i is_o =
    let strange : has_strange_name parts w ≡ false = no_strange (λ (n : PlacedName). kind_at parts n.tile) (names_of parts w) e in
    open_by i o
    ∙ ap (λ x. use_by false x o false) is_i
    ∙ ap (λ x. use_by false (has_input_name parts w) x false) is_o
    ∙ ap (λ x. use_by x (has_input_name parts w) (has_output_name parts w) false) (sym strange)
    ∙ ap (use_by (has_strange_name parts w) (has_input_name parts w) (has_output_name parts w)) (sym e)

-- ---- all wires
pub no_use : (parts : Parts) → uses_below parts 0 ≡ []
unfolding uses_below
no_use parts = refl

pub next_use : (parts : Parts) (n : ℕ) → uses_below parts (n + 1) ≡ uses_below parts n ++ use_at parts n ∷ []
unfolding uses_below
next_use parts n = let one : n + 1 ≡ suc n = omega arith in rw one refl

counted : (parts : Parts) (n : ℕ) → length (uses_below parts n) ≡ n
unfolding uses_below
counted parts zero = refl
counted parts (suc n) = length-append (uses_below parts n) (use_at parts n ∷ []) ∙ (let e = counted parts n in omega (arith, e))

less_or_same : (w n : ℕ) → w < suc n → (w < n) ⊎ (w ≡ n)
less_or_same zero zero lt = inr refl
less_or_same zero (suc n) lt = inl (omega arith)
less_or_same (suc w) zero lt = absurd (omega (arith, lt))
less_or_same (suc w) (suc n) lt = elim (less_or_same w n (omega (arith, lt))) [ inl less ↦ inl (omega (arith, less)) | inr same ↦ inr (ap suc same) ]

at_below : (parts : Parts) (n w : ℕ) (d : WireUse) → w < n → get_or (uses_below parts n) w d ≡ use_at parts w
unfolding uses_below
at_below parts zero w d lt = absurd (omega (arith, lt))
at_below parts (suc n) w d lt = elim (less_or_same w n lt) [
  | inl less ↦ get_or-append (uses_below parts n) (use_at parts n ∷ []) d w (let e = counted parts n in omega (arith, e, less)) ∙ at_below parts n w d less
  | inr same ↦ rw same (ap (λ k. get_or (uses_below parts n ++ use_at parts n ∷ []) k d) (sym (counted parts n)) ∙ get_or-append_seam (uses_below parts n) (use_at parts n) [] d)
]

-- what is noted of a wire
use_is : (parts : Parts) (uses : List WireUse) (w : ℕ) (d : WireUse) → AreUses parts uses → w < parts.wires → slice_index_or uses w d ≡ use_at parts w
use_is parts uses w d are lt = ap (λ xs. slice_index_or xs w d) are ∙ at_below parts parts.wires w d lt

pub source_at : (parts : Parts) (uses : List WireUse) (w : ℕ) (d : WireUse) → AreUses parts uses → w < parts.wires → (slice_index_or uses w d).is_source ≡ is_source parts w
source_at parts uses w d are lt = ap (λ (u : WireUse). u.is_source) (use_is parts uses w d are lt)

pub target_at : (parts : Parts) (uses : List WireUse) (w : ℕ) (d : WireUse) → AreUses parts uses → w < parts.wires → (slice_index_or uses w d).is_target ≡ may_enter parts w
target_at parts uses w d are lt = ap (λ (u : WireUse). u.is_target) (use_is parts uses w d are lt)

pub use_within : (parts : Parts) (uses : List WireUse) (w : ℕ) → AreUses parts uses → w < parts.wires → w < length uses
use_within parts uses w are lt = subst (λ xs. w < length xs) (sym are) (let e = counted parts parts.wires in omega (arith, e, lt))

table : (m a l : Bool) → ((m && l) && a) ≡ ((m && a) && l)
table true true true = refl
table true true false = refl
table true false true = refl
table true false false = refl
table false a l = refl

-- a row of an open group is taken where its source is such a wire and it is alone
pub taken_by_source : (parts : Parts) (g : SwitchGroup) (n : ℕ) (r : SwitchRow) → (is_source parts r.source && is_alone parts.groups g n r) ≡ is_taken parts g n r
taken_by_source parts g n r = table (not (has_strange_name parts r.source)) (is_alone parts.groups g n r) (may_leave parts r.source)
