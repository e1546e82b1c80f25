use Rattle.std.proofs.Common.{refl, inl}
use Rattle.ice_desk.specs.declared.calls.DeskCall.TheVariants.{Begin}
use Rattle.ice_desk.proofs.Desks.{named_by}
use Rattle.ice_desk.proofs.memory.MemoryDeskDesk.begin.Goals as goal

pub returns-then-is_named-clause-fails : goal.returns-then-is_named-clause-fails
returns-then-is_named-clause-fails c = ((λ _. inl (named_by _ _ Begin _ _ c.as_slice.ensures.value c.saturating_add-self.ensures (c.is_named.ensures.0 c.if-is_named.true))), λ _. refl)
