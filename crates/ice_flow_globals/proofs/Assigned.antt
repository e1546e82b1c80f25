-- The pads of the ports of a netlist with promoted clocks, and the report on them.
use Rattle.std.proofs.Common.{◌≡◌, ℕ, ◌+◌, false, Option, None, Some, Result, Ok, Err, List, [], ◌∷◌, ◌++◌, length, map, take, drop, find, nat_lt, slice_get, refl, ap, ◌∙◌, if◌then◌else◌}
use Rattle.std.specs.Prelude.{All, slice_index_or}
use Rattle.std.specs.List.{zip}
use Rattle.std.proofs.lemmas.List.Elements.{All-head, All-tail, All-take}
use Rattle.ice_base.specs.Lines.{text_of_lines}
use Rattle.ice_base.specs.declared.number.SignalNo.{SignalNo}
use Rattle.ice_net.specs.declared.port.Port.{Port}
use Rattle.ice_net.specs.Formed.{IsPortBelow, IsFormed}
use Rattle.ice_net.specs.NetlistData.{NetlistData}
use Rattle.ice_chip.specs.Database.{Parts, PackageRows}
use Rattle.ice_chip.specs.Lookups.{package_of}
use Rattle.ice_chip.specs.declared.rows.Pad.{Pad}
use Rattle.ice_cells.specs.declared.design.Design.{Design}
use Rattle.ice_pcf.specs.declared.constraint.Constraint.{Constraint}
use Rattle.ice_chip_rams.specs.Sites.{sites}
use Rattle.ice_chip_sockets.specs.Pins.{first_pins}
use Rattle.ice_pads.specs.declared.fault.PinFault.{PinFault}
use Rattle.ice_pads.specs.declared.fault.PinFault.TheVariants.{PadLacks, NoPadLeft, TooManyRams}
use Rattle.ice_pads.specs.declared.given.Given.{Given}
use Rattle.ice_pads.specs.declared.given.Chosen.{Chosen}
use Rattle.ice_pads.specs.declared.want.Want.{Want}
use Rattle.ice_pads.specs.declared.want.Buffer.{Buffer}
use Rattle.ice_pads.specs.Constraints.{◌>>=◌, port_named, port_name, want_of, of_port, free_pad, given_to, with_pad, by_port, with_line, given_by}
use Rattle.ice_pads.specs.PadWires.{suits}
use Rattle.ice_pads.specs.Ports.{is_fit, by_free, by_given, next_chosen, with_next, all_chosen}
use Rattle.ice_pads.specs.Globals.{globals_of}
use Rattle.ice_pads.specs.Wants.{wants, buffers}
use Rattle.ice_pads.specs.Assign.{chosen_pads, pads_with, chosen_by, outer_chosen, pin_for, with_pins, with_rams, assigned, assign_of}
use Rattle.ice_pads.specs.Closings.{with_first}
use Rattle.ice_pads.specs.declared.closing.Closing.{Closing}
use Rattle.ice_report.specs.Lines.{line_of}
use Rattle.ice_report.specs.PinReport.{pad_words, way_word, pin_line, pin_text}
use Rattle.ice_check_promote.specs.Promoted.{buffered_name, promoted_clocks, promoted}
use Rattle.ice_flow_globals.proofs.PortNames.{same_port, same_name, same_port_name}

-- what goes on alike gives the same
bind_same : {A B : Type 0} (x : Result A PinFault) (f g : A → Result B PinFault) → ((a : A) → f a ≡ g a) → (x >>= f) ≡ (x >>= g)
bind_same (Ok a) f g same = same a
bind_same (Err fault) f g same = refl

-- two netlists whose ports are the same to what gives them pads
record AreAlike (m n : NetlistData) : Type 0 where
  named : (name : List ℕ) → port_named m name ≡ port_named n name
  names : (k : ℕ) → port_name m k ≡ port_name n k

module _ (parts : Parts) (m n : NetlistData) (alike : AreAlike m n) where
  same_pad : (ws : List Want) (given : List Given) (c : Constraint) (k : ℕ) (pad : Pad) → with_pad parts m ws given c k pad ≡ with_pad parts n ws given c k pad
  same_pad ws given c k pad = ap (λ name. if suits parts (want_of ws k) pad then Ok (given ++ given_to c k pad ∷ []) else Err (PadLacks name)) (alike.names k)

  same_by : (bonded : List (List ℕ × Pad)) (ws : List Want) (given : List Given) (c : Constraint) (o : Option ℕ) → by_port parts bonded m ws given c o ≡ by_port parts bonded n ws given c o
  same_by bonded ws given c None = refl
  same_by bonded ws given c (Some k) = bind_same (free_pad bonded given c k) (with_pad parts m ws given c k) (with_pad parts n ws given c k) (same_pad ws given c k)

  same_line : (bonded : List (List ℕ × Pad)) (ws : List Want) (given : List Given) (c : Constraint) → with_line parts bonded m ws given c ≡ with_line parts bonded n ws given c
  same_line bonded ws given c = ap (by_port parts bonded m ws given c) (alike.named c.name) ∙ same_by bonded ws given c (port_named n c.name)

  same_given : (bonded : List (List ℕ × Pad)) (ws : List Want) (given : List Given) (cs : List Constraint) → given_by parts bonded m ws given cs ≡ given_by parts bonded n ws given cs
  same_given bonded ws given [] = refl
  same_given bonded ws given (c ∷ cs) =
      ap (λ said. said >>= (λ more. given_by parts bonded m ws more cs)) (same_line bonded ws given c)
      ∙ bind_same (with_line parts bonded n ws given c) (λ more. given_by parts bonded m ws more cs) (λ more. given_by parts bonded n ws more cs) (λ more. same_given bonded ws more cs)

  same_free : (k : ℕ) (want : Want) (o : Option Pad) → by_free m k want o ≡ by_free n k want o
  same_free k want None = ap (λ name. Err (NoPadLeft name)) (alike.names k)
  same_free k want (Some pad) = refl

  same_next : (pads : List Pad) (given : List Given) (chosen : List Chosen) (k : ℕ) (want : Want) (o : Option Given) → by_given parts pads m given chosen k want o ≡ by_given parts pads n given chosen k want o
  same_next pads given chosen k want None = same_free k want (find (is_fit parts given chosen want) pads)
  same_next pads given chosen k want (Some g) = refl

  same_chosen : (pads : List Pad) (given : List Given) (chosen : List Chosen) (ws : List Want) → all_chosen parts pads m given chosen ws ≡ all_chosen parts pads n given chosen ws
  same_chosen pads given chosen [] = refl
  same_chosen pads given chosen (want ∷ ws) =
      ap (λ said. with_next chosen said >>= (λ more. all_chosen parts pads m given more ws)) (same_next pads given chosen (length chosen) want (of_port given (length chosen)))
      ∙ bind_same (with_next chosen (next_chosen parts pads n given chosen want)) (λ more. all_chosen parts pads m given more ws) (λ more. all_chosen parts pads n given more ws)
      (λ more. same_chosen pads given more ws)

  -- what the ports get that are seen from outside
  same_outer : (cs : List Constraint) (bonded : PackageRows) (ws : List Want) → chosen_by parts bonded cs m ws ≡ chosen_by parts bonded cs n ws
  same_outer cs bonded ws =
      ap (λ said. said >>= (λ given. all_chosen parts bonded.pads m given [] ws)) (same_given bonded.pins ws [] cs)
      ∙ bind_same (given_by parts bonded.pins n ws [] cs) (λ given. all_chosen parts bonded.pads m given [] ws) (λ given. all_chosen parts bonded.pads n given [] ws) (λ given. same_chosen bonded.pads given [] ws)

  -- what those of block RAMs get
  same_pin : (k : ℕ) (want : Want) (o : Option Pad) → pin_for parts m k want o ≡ pin_for parts n k want o
  same_pin k want None = ap (λ name. Err (NoPadLeft name)) (alike.names k)
  same_pin k want (Some pin) = ap (λ name. if suits parts want pin then Ok (record { pad = pin; pullup = false }) else Err (PadLacks name)) (alike.names k)

  same_behind : (pins : List Pad) (place : ℕ) (chosen : List Chosen) (ws : List Want) → with_pins parts m pins place chosen ws ≡ with_pins parts n pins place chosen ws
  same_behind pins place chosen [] = refl
  same_behind pins place chosen (want ∷ ws) =
      ap (λ said. with_next chosen said >>= (λ more. with_pins parts m pins (place + 1) more ws)) (same_pin (length chosen) want (slice_get pins place))
      ∙ bind_same (with_next chosen (pin_for parts n (length chosen) want (slice_get pins place))) (λ more. with_pins parts m pins (place + 1) more ws) (λ more. with_pins parts n pins (place + 1) more ws)
      (λ more. same_behind pins (place + 1) more ws)

  same_rams : (chosen : List Chosen) (rams : ℕ) (ws : List Want) → with_rams parts m chosen rams ws ≡ with_rams parts n chosen rams ws
  same_rams chosen rams ws =
      ap (λ said. if nat_lt (length (sites parts)) rams then Err (TooManyRams rams (length (sites parts))) else said) (same_behind (first_pins parts rams) 0 chosen ws)

-- all of them
same_of : (parts : Parts) (m n : NetlistData) (cs : List Constraint) (closing : Closing) (ws : List Want) (bs : List Pad → List Buffer) (o : Option PackageRows) → AreAlike m n → AreAlike (with_first closing.first m) (with_first closing.first n)
    → assigned parts cs m closing ws bs o ≡ assigned parts cs n closing ws bs o
same_of parts m n cs closing ws bs None alike seen = refl
same_of parts m n cs closing ws bs (Some bonded) alike seen =
    let first = closing.first in
    let rest = drop closing.first ws in
    ap (λ said. said >>= (λ chosen. globals_of parts (bs (chosen_pads chosen)) >>= (λ taken. with_rams parts m chosen closing.rams (drop closing.first ws) >>= (λ all. Ok (pads_with all taken)))))
    (same_outer parts (with_first first m) (with_first first n) seen cs bonded (take first ws))
    ∙ bind_same (outer_chosen parts bonded cs n first ws)
    (λ chosen. globals_of parts (bs (chosen_pads chosen)) >>= (λ taken. with_rams parts m chosen closing.rams (drop closing.first ws) >>= (λ all. Ok (pads_with all taken))))
    (λ chosen. globals_of parts (bs (chosen_pads chosen)) >>= (λ taken. with_rams parts n chosen closing.rams (drop closing.first ws) >>= (λ all. Ok (pads_with all taken))))
    (λ chosen. ap (λ said. globals_of parts (bs (chosen_pads chosen)) >>= (λ taken. said >>= (λ all. Ok (pads_with all taken)))) (same_rams parts m n alike chosen closing.rams rest))

-- a netlist with the same ports, whose further names stand behind the others
names_behind : (n m : NetlistData) (more : List (List ℕ)) → All (IsPortBelow (length n.names)) n.ports → m.ports ≡ n.ports → m.names ≡ n.names ++ more → AreAlike m n
names_behind n m more below ports names = record {
  named = λ name. same_port n m more name below ports names;
  names = λ k. same_port_name n m more k below ports names;
}

pub same_pins_by : (n m : NetlistData) (more : List (List ℕ)) (parts : Parts) (name : List ℕ) (constraints : List Constraint) (closing : Closing) (d : Design) → IsFormed n → m.ports ≡ n.ports → m.names ≡ n.names ++ more
    → assign_of parts name constraints m closing d ≡ assign_of parts name constraints n closing d
same_pins_by n m more parts name constraints closing d formed ports names =
    same_of parts m n constraints closing (wants d) (buffers d) (package_of parts name) (names_behind n m more formed.ports ports names)
    (names_behind (with_first closing.first n) (with_first closing.first m) more (All-take (IsPortBelow (length n.names)) closing.first n.ports formed.ports) (ap (take closing.first) ports) names)

-- the names of the buffers' signals stand behind the netlist's
abbrev more_names : NetlistData → ℕ → List (List ℕ)
more_names n free = map (λ clock. buffered_name (slice_index_or n.names clock [])) (promoted_clocks n free)

pub same_pins : (n : NetlistData) (outer : List SignalNo) (free : ℕ) (parts : Parts) (name : List ℕ) (constraints : List Constraint) (closing : Closing) (d : Design) → IsFormed n
    → assign_of parts name constraints (promoted n outer free) closing d ≡ assign_of parts name constraints n closing d
same_pins n outer free parts name constraints closing d formed = same_pins_by n (promoted n outer free) (more_names n free) parts name constraints closing d formed refl refl

-- ---- the report
same_lines : (n m : NetlistData) (more : List (List ℕ)) (bonded : PackageRows) (ports : List Port) (pads : List Pad) → All (IsPortBelow (length n.names)) ports → m.names ≡ n.names ++ more
    → map (pin_line m bonded) (zip ports pads) ≡ map (pin_line n bonded) (zip ports pads)
same_lines n m more bonded [] pads below names = refl
same_lines n m more bonded (port ∷ ports) [] below names = refl
same_lines n m more bonded (port ∷ ports) (pad ∷ pads) below names =
    ap (λ word. line_of (word ∷ (pad_words bonded pad ++ way_word port.way ∷ [])) ∷ map (pin_line m bonded) (zip ports pads))
    (same_name n m more port.signal.0 (All-head (IsPortBelow (length n.names)) port ports below) names)
    ∙ ap (λ rest. pin_line n bonded (port, pad) ∷ rest) (same_lines n m more bonded ports pads (All-tail (IsPortBelow (length n.names)) port ports below) names)

pub same_report_by : (n m : NetlistData) (more : List (List ℕ)) (bonded : PackageRows) (pads : List Pad) → IsFormed n → m.ports ≡ n.ports → m.names ≡ n.names ++ more → pin_text m bonded pads ≡ pin_text n bonded pads
same_report_by n m more bonded pads formed ports names =
    ap (λ (ps : List Port). text_of_lines (map (pin_line m bonded) (zip ps pads))) ports
    ∙ ap text_of_lines (same_lines n m more bonded n.ports pads formed.ports names)

pub same_report : (n : NetlistData) (outer : List SignalNo) (free : ℕ) (bonded : PackageRows) (pads : List Pad) → IsFormed n → pin_text (promoted n outer free) bonded pads ≡ pin_text n bonded pads
same_report n outer free bonded pads formed = same_report_by n (promoted n outer free) (more_names n free) bonded pads formed refl refl
