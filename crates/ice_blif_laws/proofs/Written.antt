-- A text with the ports and cells of a sound netlist by their names says the same.
use Rattle.ice_blif.proofs.Limits.{alone_has}
use Rattle.ice_blif_laws.specs.SameNames.{WrittenShowsTheSame}
use Rattle.ice_blif_laws.proofs.NamesOnce.{texts_name_once}
use Rattle.ice_blif_laws.proofs.Sound.{still_sound}
use Rattle.ice_blif_laws.proofs.Steps.{shows_same}
use Rattle.ice_blif_laws.proofs.Tied.{AreTied, tied}

pub written_shows_the_same : WrittenShowsTheSame
written_shows_the_same text n formed single words sound has =
    let are : AreTied n has.0 = tied n has.0 formed single.names words (texts_name_once text has.0 (alone_has text has.0 has.1)) has.2 in
    record { said = has.0; is_said = has.1; by_names = has.2; sound = still_sound n has.0 are sound; shows_same = shows_same n has.0 are }
