-- Both rewritings, one behind the other.
use Rattle.std.proofs.Common.{◌≡◌, ℕ, ◌+◌, ◌<◌, ◌≤◌, List, [], ◌++◌, length, length-append, length-take, map, take, Ok, refl, sym, ap, ◌∙◌, append_assoc, arith}
use Rattle.std.specs.Prelude.{slice_index_or}
use Rattle.std.proofs.lemmas.List.{length-map}
use Rattle.ice_base.specs.declared.number.SignalNo.{SignalNo}
use Rattle.ice_net.specs.Formed.{IsFormed}
use Rattle.ice_net.specs.Limits.{most_signals}
use Rattle.ice_net.specs.NetlistData.{NetlistData}
use Rattle.ice_chip.specs.Database.{Parts, PackageRows}
use Rattle.ice_chip.specs.declared.rows.Pad.{Pad}
use Rattle.ice_cells.specs.declared.design.Design.{Design}
use Rattle.ice_cells.specs.Runs.{design_of}
use Rattle.ice_flow_globals.specs.Clocks.{free_globals, promoted_on}
use Rattle.ice_flow_globals.proofs.Assigned.{same_pins_by, same_report_by}
use Rattle.ice_pads.specs.Assign.{IsGivenAlike, PadsData, assign_of}
use Rattle.ice_pads.specs.declared.closing.Closing.{Closing}
use Rattle.ice_pcf.specs.declared.constraint.Constraint.{Constraint}
use Rattle.ice_check_promote.specs.Promoted.{buffered_name, promoted_clocks}
use Rattle.ice_check_promote.specs.PromotionLaws.{PromotedAreFormed}
use Rattle.ice_check_promote.proofs.Clocks.{few_clocks}
use Rattle.ice_pads_promote_laws.specs.PadLaws.{PadsAreGivenAlike}
use Rattle.ice_report.specs.PinReport.{pin_text}
use Rattle.ice_carry_tails.specs.Ends.{tables_of, tailed}
use Rattle.ice_carry_tails.specs.Tails.{tail_name, tail_names}
use Rattle.ice_carry_tails.proofs.Ended.{can_take}
use Rattle.ice_pads_tails_laws.specs.PadLaws.{TailedPadsAreGivenAlike}
use Rattle.ice_flow_prepare.specs.Prepared.{prepared_on}
use Rattle.ice_flow_prepare.proofs.Names.{few_cells}

-- ---- all names that are added
abbrev buffer_names : Parts → NetlistData → List (List ℕ)
buffer_names parts n = map (λ clock. buffered_name (slice_index_or n.names clock [])) (promoted_clocks n (free_globals parts n))

abbrev more_names : Parts → NetlistData → List SignalNo → List (List ℕ)
more_names parts n outer = buffer_names parts n ++ tail_names (promoted_on parts n outer).names (length (tables_of (promoted_on parts n outer)))

names_are : (parts : Parts) (n : NetlistData) (outer : List SignalNo) → (prepared_on parts n outer).names ≡ n.names ++ more_names parts n outer
names_are parts n outer = append_assoc n.names (buffer_names parts n) (tail_names (promoted_on parts n outer).names (length (tables_of (promoted_on parts n outer))))

pub pins : (parts : Parts) (n : NetlistData) (outer : List SignalNo) (name : List ℕ) (constraints : List Constraint) (closing : Closing) (d : Design) → IsFormed n
    → assign_of parts name constraints (prepared_on parts n outer) closing d ≡ assign_of parts name constraints n closing d
pins parts n outer name constraints closing d formed = same_pins_by n (prepared_on parts n outer) (more_names parts n outer) parts name constraints closing d formed refl (names_are parts n outer)

pub reports : (parts : Parts) (n : NetlistData) (outer : List SignalNo) (bonded : PackageRows) (pads : List Pad) → IsFormed n → pin_text (prepared_on parts n outer) bonded pads ≡ pin_text n bonded pads
reports parts n outer bonded pads formed = same_report_by n (prepared_on parts n outer) (more_names parts n outer) bonded pads formed refl (names_are parts n outer)

-- ---- how many they are
promoted_few : (parts : Parts) (n : NetlistData) (outer : List SignalNo) → length n.names ≤ most_signals → length (promoted_on parts n outer).names ≤ most_signals
promoted_few parts n outer le =
    let whole : length (promoted_on parts n outer).names ≡ length n.names + length (promoted_clocks n (free_globals parts n)) =
    length-append n.names (buffer_names parts n) ∙ ap (λ k. length n.names + k) (length-map (promoted_clocks n (free_globals parts n)) (λ clock. buffered_name (slice_index_or n.names clock []))) in
    let room = few_clocks n (free_globals parts n) in
    omega (arith, le, room, whole)

tailed_few : (n : NetlistData) → length n.names ≤ most_signals → length (tailed n).names ≤ most_signals
tailed_few n le =
    let whole : length (tailed n).names ≡ length n.names + length (take (length (tables_of n)) n.names) =
    length-append n.names (tail_names n.names (length (tables_of n))) ∙ ap (λ k. length n.names + k) (length-map (take (length (tables_of n)) n.names) tail_name) in
    let count = length-take (length (tables_of n)) n.names in
    let room = (can_take n).room in
    omega (arith, le, room, count, whole)

pub few : (parts : Parts) (n : NetlistData) (outer : List SignalNo) → length n.names ≤ most_signals → length (prepared_on parts n outer).names ≤ most_signals
few parts n outer le = tailed_few (promoted_on parts n outer) (promoted_few parts n outer le)

-- ---- pads
-- the netlist with promoted clocks has the ports of the netlist
promoted_pins : (parts : Parts) (n : NetlistData) (outer : List SignalNo) (name : List ℕ) (constraints : List Constraint) (closing : Closing) (d : Design) → IsFormed n
    → assign_of parts name constraints (promoted_on parts n outer) closing d ≡ assign_of parts name constraints n closing d
promoted_pins parts n outer name constraints closing d formed = same_pins_by n (promoted_on parts n outer) (buffer_names parts n) parts name constraints closing d formed refl refl

pub given : PromotedAreFormed → PadsAreGivenAlike → TailedPadsAreGivenAlike → (parts : Parts) (n : NetlistData) (outer : List SignalNo) (name : List ℕ) (constraints : List Constraint) (closing : Closing) (pads : PadsData)
    → IsFormed n → length n.cells < 1072000000 → assign_of parts name constraints n closing (design_of (prepared_on parts n outer)) ≡ Ok pads → IsGivenAlike parts name constraints n closing pads
given are_formed promoted_alike tailed_alike parts n outer name constraints closing pads formed room e =
    let m = promoted_on parts n outer in
    let free = free_globals parts n in
    let few : length n.cells < 1073000000 = omega (arith, room) in
    let after = are_formed n outer free formed few in
    let one = tailed_alike m parts name constraints closing pads after (few_cells n outer free room) (promoted_pins parts n outer name constraints closing (design_of (prepared_on parts n outer)) formed ∙ e) in
    let two = promoted_alike n outer free parts name constraints closing (record { ports = pads.ports; pullups = pads.pullups; globals = one.0.numbers; direct = one.0.direct }) formed few refl
    (sym (promoted_pins parts n outer name constraints closing (design_of m) formed) ∙ one.1) in
    (two.0, two.1)
