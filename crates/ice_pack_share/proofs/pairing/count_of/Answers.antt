use Rattle.std.proofs.Common.{◌≡◌, ap, ◌∙◌, rules}
use Rattle.std.specs.Prelude.{unwrap_or}
use Rattle.std.specs.Map.{lookup}
use Rattle.ice_cells.specs.contracts.share.PairPartialEq.TheImpl as pairs
use Rattle.ice_cells.proofs.SamePairs.{pairs_equal}
use Rattle.ice_pack_share.proofs.pairing.count_of.Goals as goal

pub returns : goal.returns
returns c =
    let e : c.unwrap_or.result ≡ unwrap_or (lookup ((pairs.eq-value).it c.args.pair) c.args.counts.now.entries) 0 = search rules in
    e ∙ ap (λ equal. unwrap_or (lookup (equal c.args.pair) c.args.counts.now.entries) 0) pairs_equal
