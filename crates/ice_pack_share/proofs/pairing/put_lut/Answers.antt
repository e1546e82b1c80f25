use Rattle.std.proofs.Common.{◌≡◌, Some, Bool, cond, subst}
use Rattle.std.specs.Map.{lookup}
use Rattle.ice_pack_share.specs.declared.pairing.Turn.{Turn}
use Rattle.ice_pack_share.proofs.Counting.{turns_equal}
use Rattle.ice_pack_share.proofs.pairing.put_lut.Goals as goal

pub returns : goal.returns
returns c = λ t.
    subst (λ (test : Turn → Turn → Bool). lookup (test t) c.insert.new.self.entries ≡ cond (test c.args.turn t) (Some c.args.j) (lookup (test t) c.args.luts.now.entries)) turns_equal (c.in_ok-insert.ensures.updates.0 t)
