-- The kinds of cells: the words that name them, the places of their ports, and what a flip-flop keeps.
use Rattle.std.specs.Prelude.{ℕ, ◌+◌, Bool, true, false, List, [], ◌∷◌, ◌++◌, length, take, drop, Option, Some, None, if◌then◌else◌, option_map, codes, bytes_eq, not, ◌&&◌}
use Rattle.ice_base.specs.Text.{begins_with}
use Rattle.ice_net.specs.declared.kind.Reset.{Reset}
use Rattle.ice_net.specs.declared.kind.Reset.TheVariants.{Nothing, SyncReset, AsyncReset, SyncSet, AsyncSet}
use Rattle.ice_net.specs.declared.kind.CellKind.{CellKind}
use Rattle.ice_net.specs.declared.kind.CellKind.TheVariants.{Lut, Cover, Carry, Flop, PadCell, Global}

-- ---- ports
-- the port that enables a flip-flop
abbrev pub enable_names : Bool → List (List ℕ)
enable_names true = codes "E" ∷ []
enable_names false = []

-- the port that sets or resets a flip-flop
abbrev pub reset_names : Reset → List (List ℕ)
reset_names Nothing = []
reset_names SyncReset = codes "R" ∷ []
reset_names AsyncReset = codes "R" ∷ []
reset_names reset = codes "S" ∷ []

-- the inputs of a kind, in order; those of a cover have no names
abbrev pub in_names : CellKind → List (List ℕ)
in_names (Lut table) = codes "I0" ∷ codes "I1" ∷ codes "I2" ∷ codes "I3" ∷ []
in_names (Cover table width) = []
in_names Carry = codes "I0" ∷ codes "I1" ∷ codes "CI" ∷ []
in_names (Flop falling enable reset) = codes "C" ∷ codes "D" ∷ (enable_names enable ++ reset_names reset)
in_names (PadCell pin_type pullup) =
    codes "PACKAGE_PIN" ∷ codes "D_OUT_0" ∷ codes "OUTPUT_ENABLE" ∷ codes "D_OUT_1" ∷ codes "LATCH_INPUT_VALUE" ∷ codes "CLOCK_ENABLE" ∷ codes "INPUT_CLK" ∷ codes "OUTPUT_CLK" ∷ []
in_names Global = codes "USER_SIGNAL_TO_GLOBAL_BUFFER" ∷ []

-- the outputs of a kind, in order
abbrev pub out_names : CellKind → List (List ℕ)
out_names (Lut table) = codes "O" ∷ []
out_names (Cover table width) = []
out_names Carry = codes "CO" ∷ []
out_names (Flop falling enable reset) = codes "Q" ∷ []
out_names (PadCell pin_type pullup) = codes "D_IN_0" ∷ codes "D_IN_1" ∷ []
out_names Global = codes "GLOBAL_BUFFER_OUTPUT" ∷ []

-- how many inputs a kind has
abbrev pub ins_count : CellKind → ℕ
ins_count (Lut table) = 4
ins_count (Cover table width) = width
ins_count Carry = 3
ins_count (Flop falling enable reset) = 2 + (length (enable_names enable) + length (reset_names reset))
ins_count (PadCell pin_type pullup) = 8
ins_count Global = 1

-- how many outputs a kind has
abbrev pub outs_count : CellKind → ℕ
outs_count (PadCell pin_type pullup) = 2
outs_count kind = 1

-- the place of a name in a list whose first has the place k
abbrev pub place_from : ℕ → List (List ℕ) → List ℕ → Option ℕ
place_from k [] name = None
place_from k (n ∷ names) name = if bytes_eq name n then Some k else place_from (k + 1) names name

-- the place of a port among the inputs and then the outputs of its kind
abbrev pub port_place : CellKind → List ℕ → Option ℕ
port_place kind name = place_from 0 (in_names kind ++ out_names kind) name

-- ---- words
-- how a flip-flop is set or reset: R and S alone are asynchronous
abbrev pub reset_named : List ℕ → Option Reset
reset_named word =
    if bytes_eq word (codes "") then Some Nothing
    else (if bytes_eq word (codes "SR") then Some SyncReset
    else (if bytes_eq word (codes "R") then Some AsyncReset
    else (if bytes_eq word (codes "SS") then Some SyncSet
    else (if bytes_eq word (codes "S") then Some AsyncSet
    else None))))

-- `E` for an enable (69), or nothing, and then how the flip-flop is set or reset
abbrev pub edge_flop_of : Bool → List ℕ → Option CellKind
edge_flop_of falling word =
    if begins_with 69 word then option_map (λ reset. Flop falling true reset) (reset_named (drop 1 word))
    else option_map (λ reset. Flop falling false reset) (reset_named word)

-- `N` for a falling clock (78), or nothing, and then the rest of a flip-flop's word behind `SB_DFF`
abbrev pub flop_of : List ℕ → Option CellKind
flop_of word = if begins_with 78 word then edge_flop_of true (drop 1 word) else edge_flop_of false word

-- the kind that a word names, with parameters of 0
abbrev pub kind_of : List ℕ → Option CellKind
kind_of word =
    if bytes_eq word (codes "SB_LUT4") then Some (Lut 0)
    else (if bytes_eq word (codes "SB_CARRY") then Some Carry
    else (if bytes_eq word (codes "SB_IO") then Some (PadCell 0 false)
    else (if bytes_eq word (codes "SB_GB") then Some Global
    else (if bytes_eq (take 6 word) (codes "SB_DFF") then flop_of (drop 6 word)
    else None))))

-- The clock's level of the step before and its level now make the active edge: from 1 to 0 for a flip-flop with a falling clock,
-- from 0 to 1 for the others. In the first step there is no level before, and no edge.
abbrev pub is_edge : Bool → Option Bool → Bool → Bool
is_edge falling None now = false
is_edge true (Some before) now = before && not now
is_edge false (Some before) now = not before && now

-- what a flip-flop takes at an edge with its enable at 1: its synchronous set or reset, else its data
abbrev pub taken : Reset → Bool → Bool → Bool
taken SyncReset set datum = if set then false else datum
taken SyncSet set datum = if set then true else datum
taken reset set datum = datum

-- an asynchronous set or reset at 1 forces a flip-flop, at once
abbrev pub forced : Reset → Bool → Bool → Bool
forced AsyncReset set kept = if set then false else kept
forced AsyncSet set kept = if set then true else kept
forced reset set kept = kept

-- What a flip-flop keeps after a step. It fires where there is an edge and its enable is 1; a synchronous set or reset acts
-- only then. An asynchronous one acts whatever the edge and the enable are.
abbrev pub fired : Reset → Bool → Bool → Bool → Bool → Bool → Bool
fired reset edge enable set datum kept = forced reset set (if edge && enable then taken reset set datum else kept)
