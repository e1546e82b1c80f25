use Rattle.ice_flow_frame.proofs.say.say_fault.Goals as goal

pub returns-in-Undriven-clause-same : goal.returns-in-Undriven-clause-same
returns-in-Undriven-clause-same g c = c.say_name_line.ensures.same

pub returns-in-Undriven-clause-names_read : goal.returns-in-Undriven-clause-names_read
returns-in-Undriven-clause-names_read g c = c.say_name_line.ensures.names_read

pub returns-in-Undriven-clause-names_written : goal.returns-in-Undriven-clause-names_written
returns-in-Undriven-clause-names_written g c = c.say_name_line.ensures.names_written

pub returns-in-Undriven-clause-said : goal.returns-in-Undriven-clause-said
returns-in-Undriven-clause-said g c = rw c.in-Undriven.is c.say_name_line.ensures.said

pub returns-in-DrivenTwice-clause-same : goal.returns-in-DrivenTwice-clause-same
returns-in-DrivenTwice-clause-same g c = c.say_name_line-in-DrivenTwice.ensures.same

pub returns-in-DrivenTwice-clause-names_read : goal.returns-in-DrivenTwice-clause-names_read
returns-in-DrivenTwice-clause-names_read g c = c.say_name_line-in-DrivenTwice.ensures.names_read

pub returns-in-DrivenTwice-clause-names_written : goal.returns-in-DrivenTwice-clause-names_written
returns-in-DrivenTwice-clause-names_written g c = c.say_name_line-in-DrivenTwice.ensures.names_written

pub returns-in-DrivenTwice-clause-said : goal.returns-in-DrivenTwice-clause-said
returns-in-DrivenTwice-clause-said g c = rw c.in-DrivenTwice.is c.say_name_line-in-DrivenTwice.ensures.said

pub returns-in-Loop-clause-same : goal.returns-in-Loop-clause-same
returns-in-Loop-clause-same g c = c.say_names_line.ensures.same

pub returns-in-Loop-clause-names_read : goal.returns-in-Loop-clause-names_read
returns-in-Loop-clause-names_read g c = c.say_names_line.ensures.names_read

pub returns-in-Loop-clause-names_written : goal.returns-in-Loop-clause-names_written
returns-in-Loop-clause-names_written g c = c.say_names_line.ensures.names_written

pub returns-in-Loop-clause-said : goal.returns-in-Loop-clause-said
returns-in-Loop-clause-said g c = rw c.in-Loop.is c.say_names_line.ensures.said

pub returns-in-PadShared-clause-same : goal.returns-in-PadShared-clause-same
returns-in-PadShared-clause-same g c = c.say_name_line-in-PadShared.ensures.same

pub returns-in-PadShared-clause-names_read : goal.returns-in-PadShared-clause-names_read
returns-in-PadShared-clause-names_read g c = c.say_name_line-in-PadShared.ensures.names_read

pub returns-in-PadShared-clause-names_written : goal.returns-in-PadShared-clause-names_written
returns-in-PadShared-clause-names_written g c = c.say_name_line-in-PadShared.ensures.names_written

pub returns-in-PadShared-clause-said : goal.returns-in-PadShared-clause-said
returns-in-PadShared-clause-said g c = rw c.in-PadShared.is c.say_name_line-in-PadShared.ensures.said

pub returns-in-InoutBare-clause-same : goal.returns-in-InoutBare-clause-same
returns-in-InoutBare-clause-same g c = c.say_name_line-in-InoutBare.ensures.same

pub returns-in-InoutBare-clause-names_read : goal.returns-in-InoutBare-clause-names_read
returns-in-InoutBare-clause-names_read g c = c.say_name_line-in-InoutBare.ensures.names_read

pub returns-in-InoutBare-clause-names_written : goal.returns-in-InoutBare-clause-names_written
returns-in-InoutBare-clause-names_written g c = c.say_name_line-in-InoutBare.ensures.names_written

pub returns-in-InoutBare-clause-said : goal.returns-in-InoutBare-clause-said
returns-in-InoutBare-clause-said g c = rw c.in-InoutBare.is c.say_name_line-in-InoutBare.ensures.said

pub returns-in_default-clause-same : goal.returns-in_default-clause-same
returns-in_default-clause-same g c = c.say_pieces.ensures.same

pub returns-in_default-clause-names_read : goal.returns-in_default-clause-names_read
returns-in_default-clause-names_read g c = c.say_pieces.ensures.names_read

pub returns-in_default-clause-names_written : goal.returns-in_default-clause-names_written
returns-in_default-clause-names_written g c = c.say_pieces.ensures.names_written
