use Rattle.std.proofs.Common.{◌≡◌, drop}
use Rattle.std.specs.List.{list_any}
use Rattle.ice_bits_rows.proofs.rows.has_one.Given as goal

abbrev pub invariant-loop-value : goal.invariant-loop-value
invariant-loop-value l = list_any (λ v. v) l.values ≡ list_any (λ v. v) (drop l.value-index l.values)
