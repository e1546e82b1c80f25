use Rattle.std.proofs.Common.{◌++◌, codes, ap, ◌∙◌, refl}
use Rattle.ice_sample.specs.Lines.{binary}
use Rattle.ice_base.proofs.Pieces.{further}
use Rattle.ice_sample.proofs.Picking.{ended}
use Rattle.ice_sample.proofs.netlist.put_table.Goals as goal

pub returns : goal.returns
returns c =
    ended _ _ _ _
    (further _ _ _ (codes ".param LUT_INIT ") (binary 16 c.args.word) _ c.in_ok-extend_from_slice.ensures.items
    (c.in_ok-put_binary.ensures ∙ ap (λ n. c.extend_from_slice.new.self.items ++ binary 16 n) c.from.ensures) refl)
    c.in_ok-push.ensures.items
