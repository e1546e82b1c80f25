-- What is known of each group of a chip.
use Rattle.std.proofs.Common.{◌≡◌, ℕ, zero, suc, ◌+◌, ◌<◌, ◌≤◌, true, Some, All, List, [], ◌∷◌, map, length, get_or, ◌==◌, refl, ap, sym, subst, ◌∙◌, arith}
use Rattle.std.specs.List.{Contains}
use Rattle.std.specs.Option.{option_map}
use Rattle.std.specs.Borrow.{Bor}
use Rattle.std.proofs.lemmas.Option.{slice_get-map, slice_get-get_or}
use Rattle.std.proofs.lemmas.List.Elements.{All-get_or, All-tail, All-head, All-cons, All-nil, All-filter}
use Rattle.ice_chip.specs.Database.{Parts, SwitchGroup}
use Rattle.ice_chip.specs.Limits.{most_rows}
use Rattle.ice_chip.specs.IsRead.{HasWiresBelow, AreNumbered, IsRead}
use Rattle.ice_chip.specs.Listings.{rows_of}
use Rattle.ice_chip.specs.Views.{row_view, group_view}
use Rattle.ice_chip.specs.declared.sections.Row.{Row}
use Rattle.ice_chip.specs.declared.sections.Group.{Group}
use Rattle.ice_chip.proofs.GroupRows.{rows_count}
use Rattle.ice_bits_rows.specs.Bundles.{groups_into}
use Rattle.ice_bits_rows.specs.Lists.{views}
use Rattle.ice_bits_rows.specs.Plain.{AreAlone}
use Rattle.ice_bits_rows.specs.Sound.{is_alone}

-- the source of each row of a group is one of the chip's wires
pub source_below : (wires : ℕ) (rows : List Row) (k : ℕ) (d : Row) → All (λ r. r.source < wires) (map row_view rows) → k < length rows → (get_or rows k d).source.0 < wires
source_below wires [] k d all lt = absurd (omega arith)
source_below wires (r ∷ rows) zero d all lt = All-get_or (λ x. x.source < wires) (map row_view (r ∷ rows)) 0 (row_view r) (omega arith) all
source_below wires (r ∷ rows) (suc k) d all lt = source_below wires rows k d (All-tail (λ x. x.source < wires) (row_view r) (map row_view rows) all) (omega arith)

-- the rows up to a group's last are no more than so many
pub record EndsBy (most : ℕ) (g : SwitchGroup) : Type 0 where
  pub end : g.first + length g.rows ≤ most

pub all_end : (most n : ℕ) (groups : List SwitchGroup) → AreNumbered n groups → n + length (rows_of groups) ≤ most → All (EndsBy most) groups
all_end most n [] are few = All-nil (EndsBy most)
all_end most n (g ∷ groups) are few =
    let count : length (rows_of (g ∷ groups)) ≡ length g.rows + length (rows_of groups) = rows_count g groups in
    let first : g.first ≡ n = are.0 in
    let here : g.first + length g.rows ≤ most = omega arith in
    let more : (n + length g.rows) + length (rows_of groups) ≤ most = omega arith in
    All-cons (EndsBy most) g groups (record { end = here }) (all_end most (n + length g.rows) groups are.1 more)

-- what is known of a group: its wires are the chip's, and its rows are few
pub record IsKnown (wires : ℕ) (g : SwitchGroup) : Type 0 where
  pub wires_below : HasWiresBelow wires g
  pub few : g.first + length g.rows ≤ most_rows

pub all_known : (wires : ℕ) (groups : List SwitchGroup) → All (HasWiresBelow wires) groups → All (EndsBy most_rows) groups → All (IsKnown wires) groups
all_known wires groups wires_below ends = λ k d lt. record { wires_below = wires_below k d lt; few = (ends k d lt).end }

pub chip_known : (parts : Parts) → IsRead parts → All (IsKnown parts.wires) parts.groups
chip_known parts read = all_known parts.wires parts.groups read.group_wires (all_end most_rows 0 parts.groups read.numbered (let few : length (rows_of parts.groups) ≤ most_rows = read.few_rows in omega arith))

-- of each group of a list of borrowed ones
pub viewed : (P : SwitchGroup → Type 0) (groups : List (Bor Group)) (i : ℕ) (d : Bor Group) → All P (views groups) → i < length groups → P (group_view (get_or groups i d).now)
viewed P [] i d all lt = absurd (omega arith)
viewed P (g ∷ groups) zero d all lt = All-head P (group_view g.now) (views groups) all
viewed P (g ∷ groups) (suc i) d all lt = viewed P groups i d (All-tail P (group_view g.now) (views groups) all) (omega arith)

-- of each group into a wire
pub into_known : (parts : Parts) (target : ℕ) (groups : List (Bor Group)) (i : ℕ) (d : Bor Group) → IsRead parts → views groups ≡ groups_into parts.groups target → i < length groups
    → IsKnown parts.wires (group_view (get_or groups i d).now)
into_known parts target groups i d read into lt =
    viewed (IsKnown parts.wires) groups i d (subst (λ gs. All (IsKnown parts.wires) gs) (sym into) (All-filter (λ g. g.wire == target) (IsKnown parts.wires) parts.groups (chip_known parts read))) lt

-- of each group
pub group_known : (parts : Parts) (groups : List Group) (i : ℕ) (d : Group) → IsRead parts → map group_view groups ≡ parts.groups → i < length groups → IsKnown parts.wires (group_view (get_or groups i d))
group_known parts groups i d read are lt = known_at groups i (subst (λ gs. All (IsKnown parts.wires) gs) (sym are) (chip_known parts read)) lt
  where
    known_at : (gs : List Group) (k : ℕ) → All (IsKnown parts.wires) (map group_view gs) → k < length gs → IsKnown parts.wires (group_view (get_or gs k d))
    known_at [] k all lt = absurd (omega arith)
    known_at (g ∷ gs) zero all lt = All-head (IsKnown parts.wires) (group_view g) (map group_view gs) all
    known_at (g ∷ gs) (suc k) all lt = known_at gs k (All-tail (IsKnown parts.wires) (group_view g) (map group_view gs) all) (omega arith)

-- a group that stands at a place is one of the chip's
pub group_there : (parts : Parts) (groups : List Group) (i : ℕ) (d : Group) → map group_view groups ≡ parts.groups → i < length groups → Contains parts.groups (group_view (get_or groups i d))
group_there parts groups i d are lt = subst (λ gs. Contains gs (group_view (get_or groups i d))) are (there groups i lt)
  where
    there : (gs : List Group) (k : ℕ) → k < length gs → Contains (map group_view gs) (group_view (get_or gs k d))
    there [] k less = absurd (omega arith)
    there (g ∷ gs) zero less = (0, omega arith, refl)
    there (g ∷ gs) (suc k) less = let c = there gs k (omega arith) in let within = c.1 in (suc c.0, omega (arith, within), c.2)

-- a row of a group whose rows are alone
pub alone_row : (all : List SwitchGroup) (g : Group) (k : ℕ) (r d : Row) → AreAlone all (group_view g) → r ≡ get_or g.rows.items k d → k < length g.rows.items
    → is_alone all (group_view g) (g.first.0 + k) (row_view r) ≡ true
alone_row all g k r d alone at lt =
    alone k (row_view r) (slice_get-map row_view g.rows.items k ∙ ap (option_map row_view) (slice_get-get_or g.rows.items k d lt) ∙ ap (λ (x : Row). Some (row_view x)) (sym at))
