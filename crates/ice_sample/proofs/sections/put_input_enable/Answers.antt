use Rattle.std.proofs.Common.{[], ◌∷◌, refl, sym, append-nil}
use Rattle.ice_base.proofs.Pieces.{further}
use Rattle.ice_sample.proofs.Numbering.{further_on_ok}
use Rattle.ice_sample.proofs.sections.put_input_enable.Goals as goal

pub returns : goal.returns
returns c =
    let line = further _ _ _ _ _ _ (further _ _ _ _ _ _ c.in_ok-put_pad.ensures c.in_ok-push.ensures.items refl) c.in_ok-put_pad-2.ensures refl in
    further_on_ok c.end_line.result _ _ c.end_line.new.text.items _ (10 ∷ []) _ line c.end_line.ensures (sym (append-nil _))
