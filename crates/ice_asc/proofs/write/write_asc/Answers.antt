use Rattle.ice_asc.proofs.write.write_asc.Goals as goal

pub returns-clause-read_back : goal.returns-clause-read_back
returns-clause-read_back c = λ form. c.written_is_read.ensures c.args.chip.now c.args.bits.now c.is_chip.ensures form c.in_ok-put_text.ensures.small
