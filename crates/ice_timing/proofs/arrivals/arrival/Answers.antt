use Rattle.std.proofs.Common.{◌+◌, ◌∙◌, get_or, inl, inr, ap, subst, arith}
use Rattle.ice_bits.specs.Configuration.{bits_of}
use Rattle.ice_decode.specs.Reads.{depends_on}
use Rattle.ice_timing.specs.Latest.{IsLatest, IsLatestRead}
use Rattle.ice_timing.proofs.Numbers.{wire_there, latest_within}
use Rattle.ice_timing.proofs.arrivals.arrival.Goals as goal

pub start_of-requires-clause-point : goal.start_of-requires-clause-point
start_of-requires-clause-point c = wire_there c.args.chip.now c.args.numbering.now c.requires.points c.args.point c.requires.point

pub delay_of-requires-clause-point : goal.delay_of-requires-clause-point
delay_of-requires-clause-point c = wire_there c.args.chip.now c.args.numbering.now c.requires.points c.args.point c.requires.point

pub bounds-at-number : goal.bounds-at-number
bounds-at-number c =
    latest_within c.args.numbering.now (depends_on c.args.chip.now (bits_of c.args.circuit.now.configuration) c.args.circuit.now.configuration.extras c.args.point) c.args.at.now c.in-Some.number c.requires.long
    (subst (IsLatest c.args.numbering.now c.args.at.now (depends_on c.args.chip.now (bits_of c.args.circuit.now.configuration) c.args.circuit.now.configuration.extras c.args.point)) c.in-Some.is c.in_ok-latest_read.ensures)

pub returns-in-None-clause-reached : goal.returns-in-None-clause-reached
returns-in-None-clause-reached c = inl (record {
  free = subst (IsLatest c.args.numbering.now c.args.at.now (depends_on c.args.chip.now (bits_of c.args.circuit.now.configuration) c.args.circuit.now.configuration.extras c.args.point)) c.in-None.is c.in_ok-latest_read.ensures;
  is = c.from.ensures ∙ c.start_of.ensures.value;
})

pub returns-in-None-clause-soon : goal.returns-in-None-clause-soon
returns-in-None-clause-soon c = λ most within. omega (arith, c.start_of.ensures.small)

pub returns-in-Some-clause-reached : goal.returns-in-Some-clause-reached
returns-in-Some-clause-reached c = inr (record {
  number = c.in-Some.number;
  latest = subst (IsLatest c.args.numbering.now c.args.at.now (depends_on c.args.chip.now (bits_of c.args.circuit.now.configuration) c.args.circuit.now.configuration.extras c.args.point)) c.in-Some.is c.in_ok-latest_read.ensures;
  is = ap (λ n. get_or c.args.at.now c.in-Some.number 0 + n) (c.from-in-Some.ensures ∙ c.delay_of.ensures.value);
})

pub returns-in-Some-clause-soon : goal.returns-in-Some-clause-soon
returns-in-Some-clause-soon c = λ most within. (let le = within c.in-Some.number in omega (arith, le, c.delay_of.ensures.small))
