-- The plan of a design, of the slices that functions are handed.
use Rattle.ice_cells.specs.Packed.{PackPlan}
use Rattle.ice_pack_sinks.specs.declared.slices.Slices.{Slices}

abbrev pub plan : Slices → PackPlan
plan s = record {
  origins = s.origins.now;
  facts = record { parts = s.parts.now; takers = s.takers.now; luts = s.luts.now };
  carriers = s.carriers.now;
  roots = s.roots.now;
  zero = s.zero;
  one = s.one;
}
