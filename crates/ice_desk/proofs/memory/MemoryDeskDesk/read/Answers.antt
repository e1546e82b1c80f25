use Rattle.std.proofs.Common.{◌≡◌, ◌≤◌, ◌-◌, length, take, drop, arith, rules, refl}
use Rattle.std.proofs.lemmas.Grind.{common_steps}
use Rattle.ice_desk.specs.Memory.{source_bytes}
use Rattle.ice_desk.specs.declared.calls.DeskCall.TheVariants.{Read}
use Rattle.ice_desk.proofs.Desks.{given_and_left, named_by}
use Rattle.ice_desk.proofs.memory.MemoryDeskDesk.read.Goals as goal

pub returns-clause-bytes : goal.returns-clause-bytes
returns-clause-bytes c =
    let d = c.args.self.now in
    let bytes = source_bytes d.files.items d.source in
    let got : c.copy_from_slice.new.self ≡ take c.min-count.result (drop d.at bytes) = search rules in
    let len : length c.copy_from_slice.new.self ≡ c.min-count.result = grind (arith, common_steps) in
    let le : c.min-count.result ≤ d.end - d.at = grind (arith, common_steps) in
    λ t. given_and_left bytes c.copy_from_slice.new.self c.args.piece.now d.at d.end c.min-count.result got len le

pub returns-then-is_named-clause-fails : goal.returns-then-is_named-clause-fails
returns-then-is_named-clause-fails c = ((λ _. named_by _ _ Read _ _ c.as_slice.ensures.value c.saturating_add-self.ensures (c.is_named.ensures.0 c.if-is_named.true)), λ _. refl)
