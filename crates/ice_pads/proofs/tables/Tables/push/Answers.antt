use Rattle.std.proofs.Common.{◌==◌, None, Some, if◌then◌else◌, sym, ap, ◌∙◌}
use Rattle.std.specs.Option.{option_or}
use Rattle.ice_chip.specs.Database.{same_pad}
use Rattle.ice_pads.specs.Constraints.{of_port, of_pad}
use Rattle.ice_pads.proofs.Noting.{port_more, pad_more}
use Rattle.ice_pads.proofs.tables.Tables.push.Goals as goal

pub returns-clause-kept : goal.returns-clause-kept
returns-clause-kept c = record {
  by_port = λ k.
      c.in_ok-note_port.ensures k
      ∙ ap (λ o. option_or o (if c.args.given.port == k then Some c.args.given else None)) (c.requires.by_port k)
      ∙ sym (port_more c.args.self.now.given.items c.args.given k)
      ∙ ap (λ given. of_port given k) (sym c.in_ok-push.ensures.items);
  by_pad = λ pad.
      c.in_ok-note_pad.ensures pad
      ∙ ap (λ o. option_or o (if same_pad pad c.args.given.pad then Some c.args.given else None)) (c.requires.by_pad pad)
      ∙ sym (pad_more c.args.self.now.given.items c.args.given pad)
      ∙ ap (λ given. of_pad given pad) (sym c.in_ok-push.ensures.items);
}
