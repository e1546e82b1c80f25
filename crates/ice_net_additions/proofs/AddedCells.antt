-- The cells that are added, one behind the other.
use Rattle.std.proofs.Common.{◌≡◌, ◌⊎◌, ℕ, zero, suc, ◌+◌, ◌<◌, ◌≤◌, ◌==◌, Bool, true, false, Option, None, Some, List, [], ◌∷◌, ◌++◌, length, map, All, inl, inr, refl, ap, sym, ◌∙◌, subst, arith, if◌then◌else◌, eqb-true, eq-eqb}
use Rattle.std.specs.Prelude.{option_map}
use Rattle.std.specs.List.{flat_map}
use Rattle.std.proofs.lemmas.List.Elements.{All-nil, All-cons}
use Rattle.std.proofs.lemmas.Option.{none-some, same_Some}
use Rattle.ice_base.specs.declared.number.SignalNo.{SignalNo}
use Rattle.ice_base_values.specs.Order.{At, Has}
use Rattle.ice_base_values.proofs.Members.{At_parts}
use Rattle.ice_net.specs.declared.cell.Cell.{Cell}
use Rattle.ice_net.specs.declared.kind.CellKind.{CellKind}
use Rattle.ice_net.specs.declared.port.Port.{Port}
use Rattle.ice_net.specs.Drivers.{place_of, pin_by, pin_of, output_of}
use Rattle.ice_net.specs.Formed.{IsFormedCell}
use Rattle.ice_net.specs.Meaning.{reads_by, kept_by, clock_by}
use Rattle.ice_net.specs.Uses.{uses_by}
use Rattle.ice_check.specs.Faults.{uses_of, is_type_out, is_portless}
use Rattle.ice_check.specs.Tables.{once, times}
use Rattle.ice_check.proofs.Places.{wire}
use Rattle.ice_net_additions.specs.AddedCells.{added_cell, added_cells}
use Rattle.ice_net_additions.proofs.AddedNames.{other, next_number, first_number}

abbrev pub Ins : Type 0
Ins = List (Option SignalNo)

-- what is asked of the kind: its output depends on all inputs, it keeps nothing, and it is at no pad
pub record IsAddable (kind : CellKind) : Type 0 where
  pub pin : (ins : Ins) → pin_by kind ins ≡ None
  pub reads : (ins : Ins) → reads_by kind ins ≡ ins
  pub uses : (ins : Ins) → uses_by kind ins ≡ ins
  pub kept : (v : ℕ → Bool) (ins : Ins) (level : Bool) (clock : Option Bool) → kept_by v kind ins level clock ≡ false
  pub clock : (v : ℕ → Bool) (ins : Ins) → clock_by v kind ins ≡ None
  pub pin_type : is_type_out kind ≡ false
  pub portless : (ports : List Port) (pin : Option SignalNo) → is_portless ports kind pin ≡ false

module _ (kind : CellKind) where
  -- ---- the list of cells
  pub length_added : (next : ℕ) (lists : List Ins) → length (added_cells kind next lists) ≡ length lists
  length_added next [] = refl
  length_added next (ins ∷ lists) = ap suc (length_added (next + 1) lists)

  pub added_at : (next : ℕ) (lists : List Ins) (j : ℕ) (ins : Ins) → At lists j ins → At (added_cells kind next lists) j (added_cell kind (next + j) ins)
  added_at next [] j ins at = absurd (none-some ins at)
  added_at next (r ∷ lists) zero ins at =
      ap (λ (k : Ins). Some (added_cell kind next k)) (same_Some r ins at) ∙ ap (λ k. Some (added_cell kind k ins)) (first_number next)
  added_at next (r ∷ lists) (suc j) ins at = added_at (next + 1) lists j ins at ∙ ap (λ k. Some (added_cell kind k ins)) (next_number next j)

  -- each of them reads one of the lists
  pub at_added : (next : ℕ) (lists : List Ins) (j : ℕ) (cell : Cell) → At (added_cells kind next lists) j cell → (ins : Ins) × At lists j ins × (cell ≡ added_cell kind (next + j) ins)
  at_added next [] j cell at = absurd (none-some cell at)
  at_added next (r ∷ lists) zero cell at = (r, refl, sym (same_Some (added_cell kind next r) cell at) ∙ ap (λ k. added_cell kind k r) (first_number next))
  at_added next (r ∷ lists) (suc j) cell at =
      let rest = at_added (next + 1) lists j cell at in (rest.0, rest.1, rest.2 ∙ ap (λ k. added_cell kind k rest.0) (next_number next j))

  -- they are well formed where each of them is
  pub added_formed : (most next : ℕ) (lists : List Ins) → ((j out : ℕ) (ins : Ins) → At lists j ins → out < most → IsFormedCell most (added_cell kind out ins))
      → next + length lists ≤ most → All (IsFormedCell most) (added_cells kind next lists)
  added_formed most next [] each room = All-nil (IsFormedCell most)
  added_formed most next (ins ∷ lists) each room =
      All-cons (IsFormedCell most) (added_cell kind next ins) (added_cells kind (next + 1) lists) (each 0 next ins refl (omega (arith, room)))
      (added_formed most (next + 1) lists (λ j out ins at lt. each (suc j) out ins at lt) (omega (arith, room)))

  -- ---- their outputs
  pub outs_above : (s next : ℕ) (lists : List Ins) → s < next → place_of s (map output_of (added_cells kind next lists)) ≡ None
  outs_above s next [] lt = refl
  outs_above s next (ins ∷ lists) lt =
      ap (λ b. if b then Some 0 else option_map suc (place_of s (map output_of (added_cells kind (next + 1) lists)))) (other s next lt)
      ∙ ap (option_map suc) (outs_above s (next + 1) lists (omega (arith, lt)))

  pub count_outs_above : (s next : ℕ) (lists : List Ins) → s < next → times s (map output_of (added_cells kind next lists)) ≡ 0
  count_outs_above s next [] lt = refl
  count_outs_above s next (ins ∷ lists) lt =
      let here = ap once (other s next lt) in
      let rest = count_outs_above s (next + 1) lists (omega (arith, lt)) in
      omega (arith, here, rest)

  pub out_at : (next : ℕ) (lists : List Ins) (j : ℕ) (ins : Ins) → At lists j ins → place_of (next + j) (map output_of (added_cells kind next lists)) ≡ Some j
  out_at next [] j ins at = absurd (none-some ins at)
  out_at next (r ∷ lists) zero ins at =
      ap (λ b. if b then Some 0 else option_map suc (place_of (next + 0) (map output_of (added_cells kind (next + 1) lists)))) (eq-eqb next (next + 0) (first_number next))
  out_at next (r ∷ lists) (suc j) ins at =
      ap (λ b. if b then Some 0 else option_map suc (place_of (next + suc j) (map output_of (added_cells kind (next + 1) lists)))) (earlier next j)
      ∙ ap (λ s. option_map suc (place_of s (map output_of (added_cells kind (next + 1) lists)))) (sym (next_number next j))
      ∙ ap (option_map suc) (out_at (next + 1) lists j ins at)
    where
      differ : (next j : ℕ) (b : Bool) → (next == next + suc j) ≡ b → b ≡ false
      differ next j true e = let same : next ≡ next + suc j = eqb-true next (next + suc j) e in absurd (omega arith)
      differ next j false e = refl

      earlier : (next j : ℕ) → (next == next + suc j) ≡ false
      earlier next j = differ next j (next == next + suc j) refl

  -- each drives a signal of its own
  pub count_outs : (s next : ℕ) (lists : List Ins) → times s (map output_of (added_cells kind next lists)) ≤ 1
  count_outs s next [] = omega arith
  count_outs s next (ins ∷ lists) = by (next == s) refl (count_outs s (next + 1) lists)
    where
      by : (b : Bool) → (next == s) ≡ b → times s (map output_of (added_cells kind (next + 1) lists)) ≤ 1 → once b + times s (map output_of (added_cells kind (next + 1) lists)) ≤ 1
      by true e rest =
          let same : next ≡ s = eqb-true next s e in
          let none = count_outs_above s (next + 1) lists (omega (arith, same)) in
          omega (arith, none)
      by false e rest = omega (arith, rest)

  module _ (a : IsAddable kind) where
    -- ---- none is at a pad
    pub no_pins : (s next : ℕ) (lists : List Ins) → place_of s (map pin_of (added_cells kind next lists)) ≡ None
    no_pins s next [] = refl
    no_pins s next (ins ∷ lists) =
        ap (λ (pin : Option SignalNo). place_of s (pin ∷ map pin_of (added_cells kind (next + 1) lists))) (a.pin ins) ∙ ap (option_map suc) (no_pins s (next + 1) lists)

    pub count_no_pins : (s next : ℕ) (lists : List Ins) → times s (map pin_of (added_cells kind next lists)) ≡ 0
    count_no_pins s next [] = refl
    count_no_pins s next (ins ∷ lists) =
        let here = ap (λ (pin : Option SignalNo). times s (pin ∷ map pin_of (added_cells kind (next + 1) lists))) (a.pin ins) in
        let rest = count_no_pins s (next + 1) lists in
        omega (arith, here, rest)

    -- ---- what they use is in the lists
    pub added_use : (s next : ℕ) (lists : List Ins) (i : ℕ) → At (flat_map uses_of (added_cells kind next lists)) i (wire s) → (j : ℕ) × (ins : Ins) × At lists j ins × Has ins (wire s)
    added_use s next [] i at = absurd (none-some (wire s) at)
    added_use s next (r ∷ lists) i at =
        by (At_parts r (flat_map uses_of (added_cells kind (next + 1) lists)) i (wire s)
        (subst (λ (xs : Ins). At (xs ++ flat_map uses_of (added_cells kind (next + 1) lists)) i (wire s)) (a.uses r) at)) (λ j there. added_use s (next + 1) lists j there)
      where
        by : At r i (wire s) ⊎ ((j : ℕ) × (i ≡ length r + j) × At (flat_map uses_of (added_cells kind (next + 1) lists)) j (wire s))
            → ((j : ℕ) → At (flat_map uses_of (added_cells kind (next + 1) lists)) j (wire s) → (k : ℕ) × (ins : Ins) × At lists k ins × Has ins (wire s))
            → (k : ℕ) × (ins : Ins) × At (r ∷ lists) k ins × Has ins (wire s)
        by (inl here) rest = (0, r, refl, (i, here))
        by (inr (j, e, there)) rest = let found = rest j there in (suc found.0, found.1, found.2, found.3)
