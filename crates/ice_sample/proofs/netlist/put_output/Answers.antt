use Rattle.std.proofs.Common.{◌≡◌, ◌+◌, ◌++◌, codes, decimal, ap, ◌∙◌, arith}
use Rattle.ice_sample.specs.Netlist.{names, found}
use Rattle.ice_sample.proofs.Picking.{output_name, two_lines}
use Rattle.ice_sample.proofs.netlist.put_output.Goals as goal

pub returns : goal.returns
returns c =
    let place : c.from.result + c.from-2.result ≡ c.args.cells + c.args.output = omega (arith, c.from.ensures, c.from-2.ensures) in
    two_lines _ _ _ _ _ (codes ".names ") _ (codes " o" ++ decimal c.args.output) (codes "1 1")
    c.in_ok-extend_from_slice.ensures.items
    (c.in_ok-put_name_of.ensures ∙ ap (λ p. c.extend_from_slice.new.self.items ++ found (names c.args.cells) p) place ∙ ap (λ x. c.extend_from_slice.new.self.items ++ x) (output_name c.args.cells c.args.output))
    c.in_ok-put_lettered.ensures c.in_ok-extend_from_slice-2.ensures.items
