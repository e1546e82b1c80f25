-- Chains of carries, and the runs that they make.
use Rattle.std.specs.Prelude.{ℕ, ◌+◌, Bool, true, false, not, List, [], ◌∷◌, ◌++◌, length, fold, min, find, filter_map, option_map, Option, None, Some, if◌then◌else◌, slice_index_or}
use Rattle.std.specs.List.{range_with_len}
use Rattle.std.specs.Option.{option_map_or}
use Rattle.std.proofs.Common.{zero, suc}
use Rattle.ice_cells.specs.declared.cell.LogicCell.{LogicCell}
use Rattle.ice_cells.specs.declared.design.Run.{Run}
use Rattle.ice_cells.specs.declared.root.CarryIn.{CarryIn}
use Rattle.ice_cells.specs.declared.root.CarryIn.TheVariants.{Fixed, Read}
use Rattle.ice_cells.specs.declared.root.Root.{Root}
use Rattle.ice_cells.specs.declared.root.Root.TheVariants.{PadIn, CellOut, GlobalOut, CarryOut}
use Rattle.ice_cells.specs.declared.follow.Follow.{Follow}
use Rattle.ice_cells.specs.declared.follow.Follow.TheVariants.{Nobody, Next, Other}
use Rattle.ice_cells.specs.Tables.{is_place, keep, scattered, table}

abbrev pub next_by : Follow → Option ℕ
next_by Nobody = None
next_by (Next d) = Some d
next_by Other = None

-- the carry that follows
abbrev pub next : List Follow → ℕ → Option ℕ
next marks c = next_by (slice_index_or marks c Nobody)

-- the carries from one on, at most so many
abbrev pub chain : List Follow → ℕ → ℕ → List ℕ
chain marks zero c = []
chain marks (suc k) c = c ∷ option_map_or (chain marks k) (next marks c) []

-- the last of them
abbrev pub end : List Follow → ℕ → ℕ → ℕ
end marks zero c = c
end marks (suc k) c = option_map_or (end marks k) (next marks c) c

-- a carry, and what comes into it
abbrev pub Head : Type 0
Head = ℕ × CarryIn

abbrev pub no_head : Option Head
no_head = None

-- the carry follows the one with that root
abbrev pub is_behind : List Follow → ℕ → Root → Bool
is_behind marks c (PadIn k) = false
is_behind marks c (CellOut e) = false
is_behind marks c (GlobalOut g) = false
is_behind marks c (CarryOut e) = is_place c (next marks e)

-- the carry follows no other
abbrev pub is_first : List Follow → ℕ → CarryIn → Bool
is_first marks c (Fixed level) = true
is_first marks c (Read root) = not (is_behind marks c root)

-- the lowest cell of the chain from a carry on
abbrev pub lowest : List Follow → ℕ → ℕ
lowest marks c = fold min c (chain marks (length marks) c)

-- the cell whose place the run of a carry has in the order of runs, where the carry is the first of its run
abbrev pub leads : List Follow → Head → Option ℕ
leads marks head = if is_first marks head.0 head.1 then Some (lowest marks head.0) else None

-- the first carry of the run that has its place by that cell
abbrev pub leader : List Follow → List Head → ℕ → Option Head
leader marks carries c = find (λ head. is_place c (leads marks head)) carries

-- the first carries of all runs, in the order of the lowest carries
abbrev pub heads : List Follow → List Head → List Head
heads marks carries = filter_map (leader marks carries) (range_with_len 0 (length marks))

-- ---- the same, all cells at once
abbrev pub keep_first : Option Head → Head → Option Head
keep_first None head = Some head
keep_first (Some before) head = Some before

abbrev pub all_led : List Follow → List (Option Head) → List Head → List (Option Head)
all_led marks leaders heads = scattered (leads marks) keep_first None leaders heads

abbrev pub present_of : List (Option Head) → List Head
present_of leaders = filter_map (λ leader. leader) leaders

-- ---- runs, with the cells that take a signal into the first carry and pass the last one on
abbrev pub is_read : CarryIn → Bool
is_read (Fixed level) = false
is_read (Read root) = true

abbrev pub is_other : Follow → Bool
is_other Nobody = false
is_other (Next d) = false
is_other Other = true

abbrev pub set_level : CarryIn → Bool
set_level (Fixed level) = level
set_level (Read root) = true

abbrev pub takes_in : Head → Bool
takes_in head = is_read head.1

abbrev pub passes_out : List Follow → Head → Bool
passes_out marks head = is_other (slice_index_or marks (end marks (length marks) head.0) Nobody)

abbrev pub one_if : Bool → ℕ
one_if b = if b then 1 else 0

abbrev pub list_if : Bool → ℕ → List ℕ
list_if b c = if b then c ∷ [] else []

-- how many cells a run has beside its carries
abbrev pub feeds : List Follow → Head → ℕ
feeds marks head = one_if (takes_in head) + one_if (passes_out marks head)

-- the run of a first carry, where these cells are numbered from k on
abbrev pub run_from : List Follow → ℕ → Head → Run
run_from marks k head = record {
  cells = list_if (takes_in head) k ++ chain marks (length marks) head.0 ++ list_if (passes_out marks head) (k + one_if (takes_in head));
  set = set_level head.1;
}

abbrev pub runs_from : List Follow → ℕ → List Head → List Run
runs_from marks k [] = []
runs_from marks k (head ∷ heads) = run_from marks k head ∷ runs_from marks (k + feeds marks head) heads

-- ---- the cells that the runs have beside their carries
abbrev pub feed_in : CarryIn → List LogicCell
feed_in (Fixed level) = []
feed_in (Read root) = (record { table = 0; ins = None ∷ Some root ∷ None ∷ None ∷ []; carry = true; carry_to_in3 = false; flop = None }) ∷ []

-- the table that passes the last input
abbrev pub feed_out : Bool → List LogicCell
feed_out false = []
feed_out true = (record { table = 65280; ins = None ∷ None ∷ None ∷ None ∷ []; carry = false; carry_to_in3 = true; flop = None }) ∷ []

abbrev pub feed_cells : List Follow → Head → List LogicCell
feed_cells marks head = feed_in head.1 ++ feed_out (passes_out marks head)

-- a carry, and the cell that passes it on
abbrev pub Fed : Type 0
Fed = ℕ × ℕ

abbrev pub fed_if : Bool → Fed → List Fed
fed_if b fed = if b then fed ∷ [] else []

abbrev pub fed_from : List Follow → ℕ → List Head → List Fed
fed_from marks k [] = []
fed_from marks k (head ∷ heads) = fed_if (passes_out marks head) (end marks (length marks) head.0, k + one_if (takes_in head)) ++ fed_from marks (k + feeds marks head) heads

-- ---- numbers by cells: the first pair of a cell counts
abbrev pub place_at : Fed → Option ℕ
place_at pair = Some pair.0

abbrev pub number_at : Fed → ℕ
number_at pair = pair.1

abbrev pub number_by : List Fed → ℕ → Option ℕ
number_by pairs c = option_map number_at (find (λ pair. is_place c (place_at pair)) pairs)

abbrev pub numbers_by : List Fed → ℕ → List (Option ℕ)
numbers_by pairs count = table (number_by pairs) count

abbrev pub no_number : Option ℕ
no_number = None

abbrev pub all_noted : List (Option ℕ) → List Fed → List (Option ℕ)
all_noted numbers pairs = scattered place_at (keep number_at) None numbers pairs
