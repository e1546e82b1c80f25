-- The constraints give the ports of a netlist with promoted clocks the pads that they give by the design of the netlist itself.
use Rattle.std.proofs.Common.{◌≡◌, ℕ, zero, suc, ◌+◌, ◌-◌, ◌<◌, Bool, Option, Ok, List, [], ◌∷◌, length, take, refl, ap, sym, ◌∙◌, arith, length-append, cond}
use Rattle.std.specs.Prelude.{min}
use Rattle.std.specs.List.{count_by, filter, range_with_len}
use Rattle.std.proofs.lemmas.List.Recursion.{is_count_by}
use Rattle.ice_base.specs.declared.number.SignalNo.{SignalNo}
use Rattle.ice_net.specs.declared.cell.Cell.{Cell}
use Rattle.ice_net.specs.declared.kind.CellKind.{CellKind}
use Rattle.ice_net.specs.declared.kind.CellKind.TheVariants.{Lut, Cover, Carry, Flop, PadCell, Global}
use Rattle.ice_net.specs.Formed.{IsFormed}
use Rattle.ice_net.specs.NetlistData.{NetlistData}
use Rattle.ice_net.specs.Limits.{most_signals}
use Rattle.ice_chip.specs.Database.{Parts}
use Rattle.ice_chip.specs.Lookups.{package_of}
use Rattle.ice_pcf.specs.declared.constraint.Constraint.{Constraint}
use Rattle.ice_cells.specs.Packed.{PackPlan, plan_of, global_by}
use Rattle.ice_cells.specs.Packed as packs
use Rattle.ice_cells.specs.Runs.{design_of}
use Rattle.ice_pads.specs.Globals.{globals}
use Rattle.ice_pads.specs.Wants.{wants, buffers}
use Rattle.ice_pads.specs.Assign.{IsGivenAlike, PadsData, assigned, assign_of}
use Rattle.ice_pads.specs.declared.closing.Closing.{Closing}
use Rattle.ice_check_promote.specs.Free.{is_buffer, free_beside}
use Rattle.ice_check_promote.specs.Promoted.{is_promotable, promoted_clocks, promoted}
use Rattle.ice_check_promote.proofs.Unpromoted.{unpromoted}
use Rattle.ice_pads.proofs.Fewer.{fewer, buffers_long, globals_count}
use Rattle.ice_pads_promote_laws.proofs.Wanted.{wants_same}

-- ---- how many global buffers a netlist has
abbrev is_buffer_cell : Cell → Bool
is_buffer_cell cell = is_buffer cell.kind

one_is : (p : PackPlan) (kind : CellKind) (ins : List (Option SignalNo)) (rest : ℕ) → length (global_by p kind ins) + rest ≡ cond (is_buffer kind) (1 + rest) rest
one_is p (Lut t) ins rest = omega arith
one_is p (Cover t width) ins rest = omega arith
one_is p Carry ins rest = omega arith
one_is p (Flop falling enable reset) ins rest = omega arith
one_is p (PadCell pin_type pullup) ins rest = omega arith
one_is p Global ins rest = omega arith

count_is : (p : PackPlan) (cells : List Cell) → length (packs.globals_of p cells) ≡ count_by is_buffer_cell cells
count_is p = is_count_by (λ cells. length (packs.globals_of p cells)) is_buffer_cell refl
    (λ cell cells. length-append (global_by p cell.kind cell.ins) (packs.globals_of p cells) ∙ one_is p cell.kind cell.ins (length (packs.globals_of p cells)))

-- ---- pads
-- where a clock is promoted, some global is free
some_free : (free most clock : ℕ) (all clocks : List ℕ) → take (min free most) all ≡ clock ∷ clocks → 0 < free
some_free zero most clock all clocks e =
    let none : min 0 most ≡ 0 = omega arith in
    let same : take 0 all ≡ clock ∷ clocks = ap (λ k. take k all) (sym none) ∙ e in
    cc same
some_free (suc free) most clock all clocks e = omega arith

pub given_same : (n : NetlistData) (outer : List SignalNo) (free : ℕ) (parts : Parts) (name : List ℕ) (constraints : List Constraint) (closing : Closing) (pads : PadsData) → IsFormed n → IsFormed (promoted n [] free) → IsFormed (promoted n outer free)
    → free ≡ free_beside (length (globals parts)) n → assign_of parts name constraints n closing (design_of (promoted n outer free)) ≡ Ok pads → IsGivenAlike parts name constraints n closing pads
given_same n outer free parts name constraints closing pads formed bare after beside e = by (promoted_clocks n free) refl
  where
    by : (clocks : List ℕ) → promoted_clocks n free ≡ clocks → IsGivenAlike parts name constraints n closing pads
    by [] none = (
      record { numbers = pads.globals; direct = pads.direct },
      ap (λ m. assign_of parts name constraints n closing (design_of m)) (sym (unpromoted n outer free [] (sym none) refl)) ∙ e,
    )
    by (clock ∷ clocks) some =
        let all = filter (is_promotable n) (range_with_len 0 (length n.names)) in
        let positive = some_free free (most_signals - length n.names) clock all clocks some in
        let count = count_is (plan_of n) n.cells in
        fewer parts constraints n closing (wants (design_of n)) (buffers (design_of (promoted n outer free))) (buffers (design_of n)) (package_of parts name) pads
        (λ ports. let long = buffers_long (design_of n) ports in let own = globals_count n in omega (arith, long, own, count, positive, beside))
        (ap (λ ws. assigned parts constraints n closing ws (buffers (design_of (promoted n outer free))) (package_of parts name)) (sym (wants_same n outer free formed bare after)) ∙ e)
