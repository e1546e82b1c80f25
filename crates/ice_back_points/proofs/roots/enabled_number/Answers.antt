use Rattle.std.proofs.Common.{None, if◌then◌else◌, sym, ap, ◌∙◌}
use Rattle.ice_back_laws.specs.Roots.{pad_number}
use Rattle.ice_back_points.proofs.Turned.{pad_found}
use Rattle.ice_back_points.proofs.roots.enabled_number.Goals as goal

pub returns : goal.returns
returns c =
    c.get_index_of.ensures.index
    ∙ pad_found c.args.pads.now.keys c.args.pad
    ∙ ap (λ b. if b then pad_number c.args.pad c.args.pads.now.keys else None) (sym (sym c.is_enabled.ensures ∙ c.if-not-is_enabled.false))
