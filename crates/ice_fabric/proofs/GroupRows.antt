-- The usable rows of a group.
use Rattle.std.proofs.Common.{◌≡◌, ℕ, ◌+◌, ◌<◌, ◌≤◌, Bool, true, false, cond, List, [], ◌∷◌, ◌++◌, length, get_or, drop, length-append, append_assoc, append-nil, ap, sym, ◌∙◌, refl, arith}
use Rattle.std.proofs.lemmas.List.{at_drop_more, at_drop_all}
use Rattle.ice_base.specs.declared.number.TileAt.{TileAt}
use Rattle.ice_graph.specs.declared.edge.Edge.{Edge}
use Rattle.ice_chip.specs.Database.{Parts, SwitchRow, SwitchGroup}
use Rattle.ice_bits_rows.specs.Usable.{is_open, is_usable}
use Rattle.ice_bits_rows.proofs.Taken.{unusable}
use Rattle.ice_fabric.specs.Edges.{edge, edges_of, edges_from, places_of, places_from, usable_places, usable_rows}

-- there is none in a group that is not open
pub none : (parts : Parts) (g : SwitchGroup) (n : ℕ) (rows : List SwitchRow) → is_open parts g ≡ false → edges_of parts g n rows ≡ []
none parts g n [] e = refl
none parts g n (r ∷ rows) e = rw (unusable parts g n r e) (none parts g (n + 1) rows e)

pub none_placed : (parts : Parts) (g : SwitchGroup) (n : ℕ) (rows : List SwitchRow) → is_open parts g ≡ false → places_of parts g n rows ≡ []
none_placed parts g n [] e = refl
none_placed parts g n (r ∷ rows) e = rw (unusable parts g n r e) (none_placed parts g (n + 1) rows e)

-- there are as many places as edges
placed_row : (parts : Parts) (g : SwitchGroup) (n : ℕ) (r : SwitchRow) (rows : List SwitchRow) (b : Bool) → length (places_of parts g (n + 1) rows) ≡ length (edges_of parts g (n + 1) rows)
    → length (cond b (g.tile ∷ places_of parts g (n + 1) rows) (places_of parts g (n + 1) rows)) ≡ length (cond b (edge g n r ∷ edges_of parts g (n + 1) rows) (edges_of parts g (n + 1) rows))
placed_row parts g n r rows true same = omega (arith, same)
placed_row parts g n r rows false same = same

placed_of : (parts : Parts) (g : SwitchGroup) (n : ℕ) (rows : List SwitchRow) → length (places_of parts g n rows) ≡ length (edges_of parts g n rows)
placed_of parts g n [] = refl
placed_of parts g n (r ∷ rows) = placed_row parts g n r rows (is_usable parts g n r) (placed_of parts g (n + 1) rows)

placed_from : (parts : Parts) (groups : List SwitchGroup) → length (places_from parts groups) ≡ length (edges_from parts groups)
placed_from parts [] = refl
placed_from parts (g ∷ groups) =
    let a = length-append (places_of parts g g.first g.rows) (places_from parts groups) in
    let b = length-append (edges_of parts g g.first g.rows) (edges_from parts groups) in
    let c = placed_of parts g g.first g.rows in
    let d = placed_from parts groups in
    omega (arith, a, b, c, d)

pub placed : (parts : Parts) → length (usable_places parts) ≡ length (usable_rows parts)
placed parts = placed_from parts parts.groups

-- one row more: what was added and what is left make what was to come
more_by : {X : Type 0} (old new : List X) (x : X) (left : List X) (b c : Bool) → b ≡ c → new ≡ cond b (old ++ x ∷ []) old → new ++ left ≡ old ++ cond c (x ∷ left) left
more_by old new x left true true same is = ap (λ xs. xs ++ left) is ∙ append_assoc old (x ∷ []) left
more_by old new x left false false same is = ap (λ xs. xs ++ left) is
more_by old new x left true false same is = absurd (cc)
more_by old new x left false true same is = absurd (cc)

pub row_more : (parts : Parts) (g : SwitchGroup) (n : ℕ) (r : SwitchRow) (rows : List SwitchRow) (old new : List Edge) (b : Bool) → b ≡ is_usable parts g n r → new ≡ cond b (old ++ edge g n r ∷ []) old
    → new ++ edges_of parts g (n + 1) rows ≡ old ++ edges_of parts g n (r ∷ rows)
row_more parts g n r rows old new b same is = more_by old new (edge g n r) (edges_of parts g (n + 1) rows) b (is_usable parts g n r) same is

pub place_more : (parts : Parts) (g : SwitchGroup) (n : ℕ) (r : SwitchRow) (rows : List SwitchRow) (old new : List TileAt) (b : Bool) → b ≡ is_usable parts g n r → new ≡ cond b (old ++ g.tile ∷ []) old
    → new ++ places_of parts g (n + 1) rows ≡ old ++ places_of parts g n (r ∷ rows)
place_more parts g n r rows old new b same is = more_by old new g.tile (places_of parts g (n + 1) rows) b (is_usable parts g n r) same is

-- ---- a list that is made piece by piece of the things of another
-- the piece of the next thing is added
pub next_piece : {X Y : Type 0} (made_of : List Y → List X) (ys : List Y) (i : ℕ) (y : Y) (piece old new all : List X) → i < length ys → y ≡ get_or ys i y
    → made_of (y ∷ drop (i + 1) ys) ≡ piece ++ made_of (drop (i + 1) ys) → new ≡ old ++ piece → old ++ made_of (drop i ys) ≡ all → new ++ made_of (drop (i + 1) ys) ≡ all
next_piece made_of ys i y piece old new all lt item step added were =
    ap (λ xs. xs ++ made_of (drop (i + 1) ys)) added ∙ append_assoc old piece (made_of (drop (i + 1) ys))
    ∙ ap (λ xs. old ++ xs) (sym (at_drop_more made_of ys i y lt ∙ ap (λ x. made_of (x ∷ drop (i + 1) ys)) (sym item) ∙ step))
    ∙ were

-- nothing is left
pub all_pieces : {X Y : Type 0} (made_of : List Y → List X) (ys : List Y) (i : ℕ) (old all : List X) → length ys ≤ i → made_of [] ≡ [] → old ++ made_of (drop i ys) ≡ all → old ≡ all
all_pieces made_of ys i old all le none were = sym (append-nil old) ∙ sym (ap (λ xs. old ++ xs) (at_drop_all made_of ys i le ∙ none)) ∙ were
