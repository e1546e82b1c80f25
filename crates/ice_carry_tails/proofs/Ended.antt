-- Carries can be added at the ends of chains.
use Rattle.std.proofs.Common.{◌≡◌, ℕ, zero, suc, ◌+◌, ◌-◌, ◌<◌, ◌≤◌, Bool, true, false, Option, None, Some, List, [], ◌∷◌, ◌++◌, length, get_or, All, refl, ap, sym, ◌∙◌, subst, arith, length-take, if◌then◌else◌, append-nil}
use Rattle.std.specs.Prelude.{slice_get, slice_index_or}
use Rattle.std.specs.List.{filter, range_with_len}
use Rattle.std.specs.Option.{option_map_or}
use Rattle.std.proofs.lemmas.Bool.{and_parts}
use Rattle.std.proofs.lemmas.List.{nil_from_length}
use Rattle.std.proofs.lemmas.Option.{none-some, slice_get-get_or, slice_get_within}
use Rattle.ice_base_values.specs.Order.{Has}
use Rattle.ice_base_values.proofs.Members.{filter_Has}
use Rattle.ice_base_values.proofs.Places.{At_take}
use Rattle.ice_net.specs.declared.cell.Cell.{Cell}
use Rattle.ice_net.specs.NetlistData.{NetlistData}
use Rattle.ice_cells.specs.Origins.{origins}
use Rattle.ice_cells.specs.Pairs.{luts_of}
use Rattle.ice_cells.specs.Tables.{is_place}
use Rattle.ice_cells.proofs.RangeFilters.{filter_more}
use Rattle.ice_pack_share.specs.Behind.{roles_behind}
use Rattle.ice_carry_tails.specs.Tails.{with_tails}
use Rattle.ice_carry_tails.specs.TailLaws.{is_lut, IsTableAt, CanTakeTails}
use Rattle.ice_carry_tails.specs.Ends.{is_last_carry, ends_chain, is_end, chain_ends, is_free, free_ends, own, own_ends, most_tails, tables_of, tailed}

-- what is kept was there
own_in : (luts : List (Option ℕ)) (place : ℕ) (tables : List ℕ) (x : ℕ) → Has (own luts place tables) x → Has tables x
own_in luts place [] x has = absurd (none-some x has.1)
own_in luts place (i ∷ tables) x has = by (is_place i (slice_index_or luts place None)) has (own_in luts (place + 1) tables x)
  where
    by : (b : Bool) → Has ((if b then i ∷ [] else []) ++ own luts (place + 1) tables) x → (Has (own luts (place + 1) tables) x → Has tables x) → Has (i ∷ tables) x
    by true (zero, at) rest = (0, at)
    by true (suc k, at) rest = let found = rest (k, at) in (suc found.0, found.1)
    by false has rest = let found = rest has in (suc found.0, found.1)

end_is_table : (n : NetlistData) (i : ℕ) → is_end n i ≡ true → IsTableAt n i
end_is_table n i on = by (slice_get n.cells i) refl on
  where
    by : (o : Option Cell) → slice_get n.cells i ≡ o → option_map_or (ends_chain n) o false ≡ true → IsTableAt n i
    by None e h = cc h
    by (Some cell) e h = (cell, e, (and_parts (is_lut cell.kind) (is_last_carry n (slice_index_or cell.ins 3 None)) h).0)

pub ends_below : (n : NetlistData) → All (λ table. table < length n.cells) (free_ends n)
ends_below n k d lt =
    let end = (filter_Has (is_free n) (chain_ends n) (get_or (free_ends n) k d) (k, slice_get-get_or (free_ends n) k d lt)).0 in
    let found = filter_Has (is_end n) (range_with_len 0 (length n.cells)) (get_or (free_ends n) k d) end in
    let table = end_is_table n (get_or (free_ends n) k d) found.1 in
    slice_get_within n.cells (get_or (free_ends n) k d) table.0 table.1

pub can_take : (n : NetlistData) → CanTakeTails n (tables_of n)
can_take n = record { few = few; room = room; tables_are = tables_are }
  where
    long : length (tables_of n) ≤ most_tails n
    long = let e = length-take (most_tails n) (own_ends n (free_ends n)) in omega (arith, e)

    few : length (tables_of n) ≤ length n.names
    few = omega (arith, long)

    room : length (tables_of n) ≤ 65534 - length n.names
    room = omega (arith, long)

    tables_are : All (IsTableAt n) (tables_of n)
    tables_are k d lt =
        let at = slice_get-get_or (tables_of n) k d lt in
        let taken = At_take (most_tails n) (own_ends n (free_ends n)) k (get_or (tables_of n) k d) at in
        let kept = own_in (luts_of (roles_behind (origins n) n.cells (free_ends n))) (length n.cells) (free_ends n) (get_or (tables_of n) k d) (k, taken.1) in
        let end = (filter_Has (is_free n) (chain_ends n) (get_or (tables_of n) k d) kept).0 in
        let found = filter_Has (is_end n) (range_with_len 0 (length n.cells)) (get_or (tables_of n) k d) end in
        end_is_table n (get_or (tables_of n) k d) found.1

-- without tables nothing is added
pub without : (n : NetlistData) (tables : List ℕ) → tables ≡ [] → with_tails n tables ≡ n
without n tables e =
    ap (with_tails n) e
    ∙ ap (λ (names : List (List ℕ)). record { names = names; ports = n.ports; cells = n.cells ++ [] }) (append-nil n.names)
    ∙ ap (λ (cells : List Cell). record n { cells = cells }) (append-nil n.cells)

-- ---- as the cells are gone through
pub ends_more : (n : NetlistData) (i : ℕ) (cell : Cell) (b : Bool) (old new : List ℕ) → i < length n.cells → cell ≡ get_or n.cells i cell → b ≡ ends_chain n cell
    → old ≡ filter (is_end n) (range_with_len 0 i) → new ≡ old ++ (if b then i ∷ [] else []) → new ≡ filter (is_end n) (range_with_len 0 (i + 1))
ends_more n i cell b old new lt is e before now =
    now
    ∙ ap (λ xs. xs ++ (if b then i ∷ [] else [])) before
    ∙ ap (λ c. filter (is_end n) (range_with_len 0 i) ++ (if c then i ∷ [] else [])) (e ∙ ap (ends_chain n) is ∙ sym (ap (λ (o : Option Cell). option_map_or (ends_chain n) o false) (slice_get-get_or n.cells i cell lt)))
    ∙ sym (filter_more (is_end n) i)

-- the ends of chains are cells
pub chain_below : (n : NetlistData) → All (λ table. table < length n.cells) (chain_ends n)
chain_below n k d lt =
    let found = filter_Has (is_end n) (range_with_len 0 (length n.cells)) (get_or (chain_ends n) k d) (k, slice_get-get_or (chain_ends n) k d lt) in
    let table = end_is_table n (get_or (chain_ends n) k d) found.1 in
    slice_get_within n.cells (get_or (chain_ends n) k d) table.0 table.1

pub chain_of : (n : NetlistData) (ends : List ℕ) → ends ≡ chain_ends n → All (λ table. table < length n.cells) ends
chain_of n ends e = subst (λ xs. All (λ table. table < length n.cells) xs) (sym e) (chain_below n)

pub ends_of : (n : NetlistData) (ends free : List ℕ) → ends ≡ chain_ends n → free ≡ filter (is_free n) ends → All (λ table. table < length n.cells) free
ends_of n ends free is e = subst (λ xs. All (λ table. table < length n.cells) xs) (sym (e ∙ ap (filter (is_free n)) is)) (ends_below n)

-- ---- as the carries are added
pub can_at : (n m : NetlistData) (tables : List ℕ) → m ≡ n → tables ≡ tables_of n → CanTakeTails m tables
can_at n m tables e f = rw (e, f) (can_take n)

pub tailed_is : (n m : NetlistData) (tables : List ℕ) (made : NetlistData) → m ≡ n → tables ≡ tables_of n → made ≡ with_tails m tables → made ≡ tailed n
tailed_is n m tables made e f is = is ∙ rw (e, f) refl

pub tailed_none : (n : NetlistData) (tables : List ℕ) → tables ≡ tables_of n → length tables ≡ 0 → n ≡ tailed n
tailed_none n tables e none = sym (ap (with_tails n) (sym e) ∙ without n tables (nil_from_length tables none))
