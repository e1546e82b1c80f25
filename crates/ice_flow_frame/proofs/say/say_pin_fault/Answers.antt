use Rattle.ice_flow_frame.proofs.say.say_pin_fault.Goals as goal

pub returns-in-NoPadLeft-clause-same : goal.returns-in-NoPadLeft-clause-same
returns-in-NoPadLeft-clause-same g c = c.say_name_line.ensures.same

pub returns-in-NoPadLeft-clause-names_read : goal.returns-in-NoPadLeft-clause-names_read
returns-in-NoPadLeft-clause-names_read g c = c.say_name_line.ensures.names_read

pub returns-in-NoPadLeft-clause-names_written : goal.returns-in-NoPadLeft-clause-names_written
returns-in-NoPadLeft-clause-names_written g c = c.say_name_line.ensures.names_written

pub returns-in-NoPadLeft-clause-said : goal.returns-in-NoPadLeft-clause-said
returns-in-NoPadLeft-clause-said g c = rw c.in-NoPadLeft.is c.say_name_line.ensures.said

pub returns-in-PadLacks-clause-same : goal.returns-in-PadLacks-clause-same
returns-in-PadLacks-clause-same g c = c.say_name_line-in-PadLacks.ensures.same

pub returns-in-PadLacks-clause-names_read : goal.returns-in-PadLacks-clause-names_read
returns-in-PadLacks-clause-names_read g c = c.say_name_line-in-PadLacks.ensures.names_read

pub returns-in-PadLacks-clause-names_written : goal.returns-in-PadLacks-clause-names_written
returns-in-PadLacks-clause-names_written g c = c.say_name_line-in-PadLacks.ensures.names_written

pub returns-in-PadLacks-clause-said : goal.returns-in-PadLacks-clause-said
returns-in-PadLacks-clause-said g c = rw c.in-PadLacks.is c.say_name_line-in-PadLacks.ensures.said

pub returns-in_default-clause-same : goal.returns-in_default-clause-same
returns-in_default-clause-same g c = c.say_pieces.ensures.same

pub returns-in_default-clause-names_read : goal.returns-in_default-clause-names_read
returns-in_default-clause-names_read g c = c.say_pieces.ensures.names_read

pub returns-in_default-clause-names_written : goal.returns-in_default-clause-names_written
returns-in_default-clause-names_written g c = c.say_pieces.ensures.names_written
