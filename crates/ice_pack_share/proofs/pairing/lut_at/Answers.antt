use Rattle.std.proofs.Common.{◌≡◌, ap, ◌∙◌, rules}
use Rattle.std.specs.Map.{lookup}
use Rattle.ice_pack_share.specs.contracts.pairing.TurnPartialEq.TheImpl as turns
use Rattle.ice_pack_share.proofs.Counting.{turns_equal}
use Rattle.ice_pack_share.proofs.pairing.lut_at.Goals as goal

pub returns : goal.returns
returns c =
    let e : c.copied.result ≡ lookup ((turns.eq-value).it c.args.turn) c.args.luts.now.entries = search rules in
    e ∙ ap (λ equal. lookup (equal c.args.turn) c.args.luts.now.entries) turns_equal
