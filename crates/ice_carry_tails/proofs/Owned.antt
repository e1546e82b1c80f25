-- Tables that are kept, as they are gone through.
use Rattle.std.proofs.Common.{◌≡◌, ℕ, ◌+◌, ◌<◌, ◌≤◌, Bool, Option, None, List, [], ◌∷◌, ◌++◌, length, get_or, drop, take, filter, ap, sym, ◌∙◌, arith, append-nil, append_assoc, if◌then◌else◌, drop_of_length-le}
use Rattle.std.specs.Prelude.{slice_index_or}
use Rattle.std.proofs.lemmas.List.{drop_more, take_more, take_all}
use Rattle.std.proofs.lemmas.List.Elements.{filter-append}
use Rattle.ice_cells.specs.Tables.{is_place}
use Rattle.ice_net.specs.declared.cell.Cell.{Cell}
use Rattle.ice_net.specs.declared.port.Port.{Port}
use Rattle.ice_net.specs.NetlistData.{NetlistData}
use Rattle.ice_cells.specs.declared.origin.Origin.{Origin}
use Rattle.ice_cells.specs.Homes.{Facts, facts_of, carriers_of}
use Rattle.ice_cells.specs.Origins.{origins}
use Rattle.ice_cells.specs.Packed.{facts}
use Rattle.ice_cells.specs.Uses.{bare_outputs}
use Rattle.ice_carry_tails.specs.Ends.{own, can_share, is_free}

abbrev pub kept_at : List (Option ℕ) → ℕ → ℕ → List ℕ
kept_at luts place table = if is_place table (slice_index_or luts place None) then table ∷ [] else []

pub own_start : (luts : List (Option ℕ)) (first : ℕ) (tables : List ℕ) → [] ++ own luts (first + 0) (drop 0 tables) ≡ own luts first tables
own_start luts first tables = ap (λ k. own luts k tables) (let e : first + 0 ≡ first = omega arith in e)

pub own_next : (luts : List (Option ℕ)) (first place d : ℕ) (tables so_far now whole : List ℕ) → place < length tables → now ≡ so_far ++ kept_at luts (first + place) (get_or tables place d)
    → so_far ++ own luts (first + place) (drop place tables) ≡ whole → now ++ own luts (first + (place + 1)) (drop (place + 1) tables) ≡ whole
own_next luts first place d tables so_far now whole lt is h =
    ap (λ xs. xs ++ own luts (first + (place + 1)) (drop (place + 1) tables)) is
    ∙ append_assoc so_far (kept_at luts (first + place) (get_or tables place d)) (own luts (first + (place + 1)) (drop (place + 1) tables))
    ∙ ap (λ k. so_far ++ (kept_at luts (first + place) (get_or tables place d) ++ own luts k (drop (place + 1) tables))) (let e : first + (place + 1) ≡ first + place + 1 = omega arith in e)
    ∙ ap (λ xs. so_far ++ own luts (first + place) xs) (sym (drop_more tables place d lt))
    ∙ h

pub own_end : (luts : List (Option ℕ)) (first place : ℕ) (tables so_far whole : List ℕ) → length tables ≤ place → so_far ++ own luts (first + place) (drop place tables) ≡ whole → so_far ≡ whole
own_end luts first place tables so_far whole le h =
    sym (append-nil so_far) ∙ ap (λ xs. so_far ++ own luts (first + place) xs) (sym (drop_of_length-le tables le)) ∙ h

-- ---- those that pass a test
pub free_more : (test : ℕ → Bool) (tables : List ℕ) (i d : ℕ) (b : Bool) (old new : List ℕ) → i < length tables → b ≡ test (get_or tables i d) → old ≡ filter test (take i tables)
    → new ≡ old ++ (if b then get_or tables i d ∷ [] else []) → new ≡ filter test (take (i + 1) tables)
free_more test tables i d b old new lt is before now =
    now
    ∙ ap (λ xs. xs ++ (if b then get_or tables i d ∷ [] else [])) before
    ∙ ap (λ c. filter test (take i tables) ++ (if c then get_or tables i d ∷ [] else [])) is
    ∙ sym (filter-append test (take i tables) (get_or tables i d ∷ []))
    ∙ ap (filter test) (sym (take_more tables i d lt))

pub free_all : (test : ℕ → Bool) (tables found : List ℕ) (i : ℕ) → length tables ≤ i → found ≡ filter test (take i tables) → found ≡ filter test tables
free_all test tables found i le e = e ∙ ap (filter test) (take_all i tables le)

-- the carriers of the look-up tables of a netlist and the origins of its signals tell which are free
pub free_is : (n : NetlistData) (os : List Origin) (cells : List Cell) (bare : List Port) (known : Facts) (carriers : List (Option ℕ)) (tables found : List ℕ)
    → os ≡ origins n → cells ≡ n.cells → bare ≡ bare_outputs n → known ≡ facts_of os cells bare → carriers ≡ carriers_of known
    → found ≡ filter (can_share carriers os cells) tables → found ≡ filter (is_free n) tables
free_is n os cells bare known carriers tables found a b c d e f =
    f
    ∙ ap (λ cs. filter (can_share cs os cells) tables) e
    ∙ ap (λ (k : Facts). filter (can_share (carriers_of k) os cells) tables) (d ∙ ap (λ x. facts_of x cells bare) a ∙ ap (λ x. facts_of (origins n) x bare) b ∙ ap (λ x. facts_of (origins n) n.cells x) c)
    ∙ ap (λ x. filter (can_share (carriers_of (facts n)) x cells) tables) a
    ∙ ap (λ x. filter (can_share (carriers_of (facts n)) (origins n) x) tables) b
