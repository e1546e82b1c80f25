use Rattle.std.proofs.Common.{◌<◌, ◌^◌, drop}
use Rattle.ice_base.proofs.Digits.{ReadTo}
use Rattle.ice_base.proofs.decimal.short_number.Given as goal

abbrev pub invariant-loop-digit : goal.invariant-loop-digit
invariant-loop-digit l = record {
  read : ReadTo l.word (drop l.digit-index l.word) l.number;
  below : l.number < 10 ^ l.digit-index;
}
