use Rattle.ice_blif_write.proofs.write.write_blif.Goals as goal

pub returns-clause-read_back : goal.returns-clause-read_back
returns-clause-read_back c = λ writable. c.written_is_read.ensures c.args.netlist.now c.ports.ensures.formed c.in_ok-put_text.ensures.small c.ports.ensures.single writable
