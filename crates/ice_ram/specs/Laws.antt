-- The laws of closings.
use Rattle.std.specs.Prelude.{◌≡◌, List, map}
use Rattle.ice_base_values.specs.System.{machine_shows}
use Rattle.ice_ram.specs.Closing.{closed}

-- The second machine's levels tell the first's by `into`, and what it shows tells what the first shows by `seen`; both show the same
-- for every list of levels. Its memories tell the first's by `mine`. Closed, both show the same.
abbrev pub ClosingsShowTheSame : Type 0 → Type 0 → Type 0 → Type 0 → Type 0 → Type 0 → Type 0 → Type 0 → Type 0 → Type 0 → Type 0
ClosingsShowTheSame S T M N I J O P K L =
    (f : S → I → S × O) (g : T → J → T × P) (into : J → I) (seen : P → O)
    (f_joined : K → M → I) (g_joined : L → N → J) (f_takes : M → O → M) (g_takes : N → P → N) (outside : L → K) (mine : N → M)
    → ((l : L) (n : N) → into (g_joined l n) ≡ f_joined (outside l) (mine n))
    → ((n : N) (p : P) → mine (g_takes n p) ≡ f_takes (mine n) (seen p))
    → (s : S) (t : T) → ((js : List J) → machine_shows f s (map into js) ≡ map seen (machine_shows g t js))
    → (n : N) (ls : List L) → machine_shows (closed f f_joined f_takes) (s, mine n) (map outside ls) ≡ map seen (machine_shows (closed g g_joined g_takes) (t, n) ls)
