use Rattle.std.proofs.Common.{ℕ, Option, sym, ap, ◌∙◌}
use Rattle.ice_anneal.specs.Least.{is_rigid}
use Rattle.ice_anneal.proofs.Tables.{rigid_none}
use Rattle.ice_anneal.proofs.free.is_rigid.Goals as goal

pub returns-in-None : goal.returns-in-None
returns-in-None c chunks knows = sym (rigid_none chunks) ∙ ap (λ (own : Option (ℕ × ℕ)). is_rigid chunks own) (sym c.in-None.is)
