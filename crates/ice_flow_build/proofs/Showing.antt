-- The bits of a placed and routed design show what its netlist shows.
use Rattle.std.proofs.Common.{◌≡◌, ℕ, List, [], length, map, ap, ◌∙◌}
use Rattle.std.proofs.lemmas.List.{length-map}
use Rattle.ice_net.specs.NetlistData.{NetlistData}
use Rattle.ice_pcf.specs.declared.constraint.Constraint.{Constraint}
use Rattle.ice_chip.specs.Database.{Parts}
use Rattle.ice_bits.specs.Configuration.{Configuration, bits_of}
use Rattle.ice_cells.specs.Meaning as design
use Rattle.ice_cells.specs.Packed.{plan_of, packed, unread_by, read_pad}
use Rattle.ice_cells.specs.Runs.{design_of, renamed_pad, moved_numbers, fed_numbers}
use Rattle.ice_cells.specs.declared.design.Design.{Design}
use Rattle.ice_pack.proofs.Padding.{pads_long}
use Rattle.ice_negotiate_defs.specs.Trees.{Route}
use Rattle.ice_carry_form_laws.specs.FormLaws.{DesignsShowTheSame}
use Rattle.ice_pack_laws.specs.PackLaws.{IsSoundInOrder}
use Rattle.ice_emit_defs.specs.Realised.{Realises, port_levels}
use Rattle.ice_emit_defs.specs.Written.{IsWritten, wanted_rows}
use Rattle.ice_emit_meaning_laws.specs.WithoutRams.{IsPlainWithoutRams, ShowsWithoutRams}
use Rattle.ice_flow_build.specs.Laid.{IsLaidOut, StandsOn, plan_in, task_of}
use Rattle.ice_flow_build.specs.Shown.{RealisesNetlist}
use Rattle.ice_flow_build.specs.declared.answer.Layout.{Layout}

design_long : (n : NetlistData) → length (design_of n).pads ≡ length n.ports
design_long n =
    length-map (packed n).pads (renamed_pad (moved_numbers (packed n)) (fed_numbers (packed n)))
    ∙ length-map (unread_by n (plan_of n)).pads (read_pad (unread_by n (plan_of n)))
    ∙ pads_long (plan_of n) n.cells 0 n.ports

pub shows : (parts : Parts) (n : NetlistData) (order : List ℕ) → IsSoundInOrder n order → DesignsShowTheSame → ShowsWithoutRams parts → IsPlainWithoutRams parts
    → (name : List ℕ) (constraints : List Constraint) (layout : Layout) (routes : List Route) (k : Configuration)
    → IsLaidOut (task_of parts name constraints n) layout → StandsOn parts name 0 layout → IsWritten parts (plan_in layout) layout.pads.pullups [] routes k
    → Realises parts (plan_in layout) [] (wanted_rows parts (plan_in layout) routes) (bits_of k) k.extras → RealisesNetlist n layout.pads.ports parts k
shows parts n order sound same all_shown all_plain name constraints layout routes k laid stands written real = record {
  form = written.form;
  plain = all_plain (plan_in layout) (wanted_rows parts (plan_in layout) routes) (bits_of k) k.extras real;
  shows_same = λ bonded. record {
    pad_each = stands.2.pads.ports ∙ ap (λ (d : Design). length d.pads) laid.design ∙ design_long n;
    at_ports = λ steps. all_shown stands.0 (plan_in layout) layout.pads.pullups [] (wanted_rows parts (plan_in layout) routes) (bits_of k) k.extras stands.2 stands.4 real bonded steps
        ∙ ap (λ (d : Design). design.shows d (map (port_levels bonded layout.pads.ports) steps)) laid.design ∙ same n order sound (map (port_levels bonded layout.pads.ports) steps);
    elsewhere = λ steps pad. real.elsewhere bonded steps pad;
  };
}
