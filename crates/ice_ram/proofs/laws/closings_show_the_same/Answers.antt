use Rattle.ice_ram.proofs.laws.closings_show_the_same.Goals as goal
use Rattle.ice_ram.proofs.Closings.{closings_alike}

pub returns : goal.returns
returns g c = λ f g' into seen f_joined g_joined f_takes g_takes outside mine joins takes s t alike n ls.
    closings_alike f g' into seen f_joined g_joined f_takes g_takes outside mine joins takes s t alike n ls
