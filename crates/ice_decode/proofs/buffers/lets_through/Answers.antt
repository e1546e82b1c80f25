use Rattle.std.proofs.Common.{ap, sym, ◌∙◌}
use Rattle.ice_bits.specs.Configuration.{bits_of}
use Rattle.ice_bits.specs.Settings.{set_at}
use Rattle.ice_decode.specs.Meaning.{lets_through}
use Rattle.ice_decode.proofs.buffers.lets_through.Goals as goal

pub returns-in-Some : goal.returns-in-Some
returns-in-Some c =
    c.setting.ensures
    ∙ ap (λ name. set_at c.args.chip.now (bits_of c.args.bits.now) c.in-Some.buffer name 0) c.column_buffer_function.ensures
    ∙ ap (λ buffer. lets_through c.args.chip.now (bits_of c.args.bits.now) buffer c.args.global) (sym c.in-Some.is ∙ c.colbuf_of.ensures)
