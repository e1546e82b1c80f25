-- What is held of the bits of tiles, block by block.
use Rattle.std.proofs.Common.{◌≡◌, ◌≢◌, ℕ, zero, suc, ◌+◌, ◌<◌, ◌≤◌, All, Bool, true, false, cond, eqb, nat_lt, not, position, unwrap_or, Vec, Option, None, Some, List, [], ◌∷◌, ◌++◌, length, map, get_or, set, length-set, length-append, refl, sym, ap, subst, ◌∙◌, arith, rules, tests, true≢false, replicate}
use Rattle.std.specs.Prelude.{◌&&◌}
use Rattle.std.specs.List.{list_any, position_or_len}
use Rattle.std.proofs.lemmas.Bool.{and_parts, eq-eqb, eqb-true, or_parts}
use Rattle.std.proofs.lemmas.List.{get_or_append_left, get_or_past, get_or_push, get_or-replicate, get_or-set_same, get_or-set_other, length-map, length-replicate, map-append, map-set}
use Rattle.std.proofs.lemmas.List.Elements.{All-head, All-tail}
use Rattle.std.proofs.lemmas.List.Folds.{position_or_len_push}
use Rattle.std.proofs.lemmas.List.Sums.{passes_at_first, prefix_len-le-length}
use Rattle.std.specs.declared.alloc.Global.{Global}
use Rattle.ice_base.specs.declared.number.TileAt.{TileAt}
use Rattle.ice_base.specs.declared.bit.BitAt.{BitAt}
use Rattle.ice_base.specs.Places.{same_place}
use Rattle.ice_base.proofs.Keys.{place_same, tile_same, tile_self}
use Rattle.ice_chip.specs.Database.{SwitchGroup, same_tile}
use Rattle.ice_chip.specs.Views.{group_view}
use Rattle.ice_chip.specs.Within.{IsBit, IsGroup}
use Rattle.ice_chip.specs.declared.sections.Group.{Group}
use Rattle.ice_bits_rows.specs.Owners.{items_of, owner_among, owner_in, owner_with, with_owner, is_within, place_of, same_key, AreEven}
use Rattle.ice_bits_rows.specs.declared.owners.Owner.{Owner}

-- ---- places
pub place_below : (b : BitAt) → is_within b ≡ true → place_of b < 1024
place_below b e =
    let parts = and_parts (nat_lt b.row 16) (nat_lt b.col 64) e in
    let low : nat_lt b.row 16 ≡ true = parts.0 in
    let left : nat_lt b.col 64 ≡ true = parts.1 in
    let row : b.row < 16 = search (rules, tests) in
    let col : b.col < 64 = search (rules, tests) in
    omega (arith, row, col)

bit_within : (b : BitAt) → IsBit 54 b → is_within b ≡ true
bit_within b is =
    let row_below : b.row < 16 = is.row in
    let col_below : b.col < 64 = (let c = is.column in omega (arith, c)) in
    let row : nat_lt b.row 16 ≡ true = search (rules, tests) in
    let col : nat_lt b.col 64 ≡ true = search (rules, tests) in
    rw (row, col) refl

-- the bits of all groups of a chip have places
pub groups_within : (width height : ℕ) (groups : List SwitchGroup) → All (IsGroup width height) groups → All (λ g. All (λ b. is_within b ≡ true) g.bits) groups
groups_within width height groups all = λ k d lt j e less. bit_within (get_or (get_or groups k d).bits j e) ((all k d lt).bits j e less)

pub bits_at : (groups : List Group) (i : ℕ) (d : Group) → All (λ g. All (λ b. is_within b ≡ true) g.bits) (map group_view groups) → i < length groups → All (λ b. is_within b ≡ true) (get_or groups i d).bits.items
bits_at [] i d all lt = absurd (omega arith)
bits_at (g ∷ groups) zero d all lt = All-head (λ h. All (λ b. is_within b ≡ true) h.bits) (group_view g) (map group_view groups) all
bits_at (g ∷ groups) (suc i) d all lt = bits_at groups i d (All-tail (λ h. All (λ b. is_within b ≡ true) h.bits) (group_view g) (map group_view groups) all) (omega arith)

-- different bits have different places
pub places_differ : (b bit : BitAt) → is_within b ≡ true → is_within bit ≡ true → same_place bit b ≡ false → place_of b ≢ place_of bit
places_differ b bit here there apart = λ e.
    let parts = and_parts (nat_lt b.row 16) (nat_lt b.col 64) here in
    let others = and_parts (nat_lt bit.row 16) (nat_lt bit.col 64) there in
    let left : nat_lt b.col 64 ≡ true = parts.1 in
    let other : nat_lt bit.col 64 ≡ true = others.1 in
    let col_below : b.col < 64 = search (rules, tests) in
    let other_below : bit.col < 64 = search (rules, tests) in
    let rows : bit.row ≡ b.row = omega (arith, e, col_below, other_below) in
    let cols : bit.col ≡ b.col = omega (arith, e, rows) in
    true≢false (sym (both rows cols) ∙ apart)
  where
    both : bit.row ≡ b.row → bit.col ≡ b.col → same_place bit b ≡ true
    both rows cols = rw (eq-eqb bit.row b.row rows, eq-eqb bit.col b.col cols) refl

-- ---- one block
-- nothing is held of any bit in a blank block
nothing_in : (block : List (Option Owner)) (b : BitAt) → ((i : ℕ) → get_or block i None ≡ None) → owner_in block b ≡ None
nothing_in block b none = by (is_within b)
  where
    by : (within : Bool) → cond within (get_or block (place_of b) None) None ≡ None
    by true = none (place_of b)
    by false = refl

pub held_in : (block : List (Option Owner)) (bit : BitAt) (o : Owner) (b : BitAt) → is_within bit ≡ true → length block ≡ 1024
    → owner_in (set block (place_of bit) (Some o)) b ≡ cond (same_place bit b) (Some o) (owner_in block b)
held_in block bit o b within long = by (same_place bit b) refl
  where
    here : place_of bit < length block
    here = let lt = place_below bit within in omega (arith, lt, long)

    other : same_place bit b ≡ false → (there : Bool) → is_within b ≡ there
        → cond there (get_or (set block (place_of bit) (Some o)) (place_of b) None) None ≡ cond there (get_or block (place_of b) None) None
    other apart false is = refl
    other apart true is = get_or-set_other block (place_of bit) (place_of b) (Some o) None (places_differ b bit is within apart)

    by : (same : Bool) → same_place bit b ≡ same → owner_in (set block (place_of bit) (Some o)) b ≡ cond same (Some o) (owner_in block b)
    by true is =
        subst (λ c. owner_in (set block (place_of bit) (Some o)) c ≡ Some o) (place_same bit b is)
        (ap (λ w. cond w (get_or (set block (place_of bit) (Some o)) (place_of bit) None) None) within ∙ get_or-set_same block (place_of bit) (Some o) None here)
    by false is = other is (is_within b) refl

pub length_with : (block : List (Option Owner)) (bit : BitAt) (wire : ℕ) → length (with_owner block bit wire) ≡ length block
length_with block bit wire = length-set block (place_of bit) (Some (owner_with wire (get_or block (place_of bit) None)))

-- ---- the blocks of tiles
-- a bit of one tile is noted
pub held_among : (tiles : List TileAt) (blocks : List (List (Option Owner))) (n : ℕ) (tile : TileAt) (bit : BitAt) (o : Owner) (t : TileAt) (b : BitAt)
    → n ≡ position_or_len (same_tile tile) tiles → n < length blocks → length blocks ≡ length tiles → is_within bit ≡ true → length (get_or blocks n []) ≡ 1024
    → owner_among tiles (set blocks n (set (get_or blocks n []) (place_of bit) (Some o))) t b ≡ cond (same_key tile bit t b) (Some o) (owner_among tiles blocks t b)
held_among tiles blocks n tile bit o t b number lt count within long = by (same_tile tile t) refl
  where
    here : owner_among tiles (set blocks n (set (get_or blocks n []) (place_of bit) (Some o))) tile b ≡ cond (same_place bit b) (Some o) (owner_among tiles blocks tile b)
    here =
        subst (λ m. owner_in (get_or (set blocks n (set (get_or blocks n []) (place_of bit) (Some o))) m []) b ≡ cond (same_place bit b) (Some o) (owner_in (get_or blocks m []) b)) number
        (ap (λ x. owner_in x b) (get_or-set_same blocks n (set (get_or blocks n []) (place_of bit) (Some o)) [] lt) ∙ held_in (get_or blocks n []) bit o b within long)

    elsewhere : same_tile tile t ≡ false → position_or_len (same_tile t) tiles ≢ n
    elsewhere apart = λ e.
        let there : position_or_len (same_tile t) tiles < length tiles = omega (arith, e, lt, count) in
        let own : position_or_len (same_tile tile) tiles < length tiles = omega (arith, number, lt, count) in
        let is_t : t ≡ get_or tiles (position_or_len (same_tile t) tiles) t = tile_same t (get_or tiles (position_or_len (same_tile t) tiles) t) (passes_at_first (same_tile t) tiles t there) in
        let is_tile : tile ≡ get_or tiles (position_or_len (same_tile tile) tiles) t =
        tile_same tile (get_or tiles (position_or_len (same_tile tile) tiles) t) (passes_at_first (same_tile tile) tiles t own) in
        let same : tile ≡ t = is_tile ∙ ap (λ m. get_or tiles m t) (sym (e ∙ number)) ∙ sym is_t in
        true≢false (sym (subst (λ u. same_tile tile u ≡ true) same (tile_self tile)) ∙ apart)

    by : (same : Bool) → same_tile tile t ≡ same
        → owner_among tiles (set blocks n (set (get_or blocks n []) (place_of bit) (Some o))) t b ≡ cond (same && same_place bit b) (Some o) (owner_among tiles blocks t b)
    by true is =
        subst (λ u. owner_among tiles (set blocks n (set (get_or blocks n []) (place_of bit) (Some o))) u b ≡ cond (same_place bit b) (Some o) (owner_among tiles blocks u b)) (tile_same tile t is) here
    by false is =
        ap (λ x. owner_in x b) (get_or-set_other blocks n (position_or_len (same_tile t) tiles) (set (get_or blocks n []) (place_of bit) (Some o)) [] (elsewhere is))

-- the same of the blocks that are there behind it
pub noted : (tiles : List TileAt) (blocks new : List (List (Option Owner))) (n : ℕ) (tile : TileAt) (bit : BitAt) (wire : ℕ) (t : TileAt) (b : BitAt) → n ≡ position_or_len (same_tile tile) tiles → n < length blocks → AreEven tiles blocks
    → is_within bit ≡ true → new ≡ set blocks n (with_owner (get_or blocks n []) bit wire)
    → owner_among tiles new t b ≡ cond (same_key tile bit t b) (Some (owner_with wire (owner_among tiles blocks tile bit))) (owner_among tiles blocks t b)
noted tiles blocks new n tile bit wire t b number lt even within is =
    ap (λ bs. owner_among tiles bs t b) is
    ∙ held_among tiles blocks n tile bit (owner_with wire (get_or (get_or blocks n []) (place_of bit) None)) t b number lt even.count within (even.full n lt)
    ∙ ap (λ o. cond (same_key tile bit t b) (Some (owner_with wire o)) (owner_among tiles blocks t b)) own
  where
    own : get_or (get_or blocks n []) (place_of bit) None ≡ owner_among tiles blocks tile bit
    own =
        ap (λ m. get_or (get_or blocks m []) (place_of bit) None) number
        ∙ sym (ap (λ w. cond w (get_or (get_or blocks (position_or_len (same_tile tile) tiles) []) (place_of bit) None) None) within)

pub even_with : (tiles : List TileAt) (blocks : List (List (Option Owner))) (n : ℕ) (bit : BitAt) (wire : ℕ) → AreEven tiles blocks → n < length blocks
    → AreEven tiles (set blocks n (with_owner (get_or blocks n []) bit wire))
even_with tiles blocks n bit wire even lt = record {
  count = length-set blocks n (with_owner (get_or blocks n []) bit wire) ∙ even.count;
  full = λ i less. full_at i (omega (arith, less, length-set blocks n (with_owner (get_or blocks n []) bit wire))) (eqb i n) refl;
}
  where
    full_at : (i : ℕ) → i < length blocks → (same : Bool) → eqb i n ≡ same → length (get_or (set blocks n (with_owner (get_or blocks n []) bit wire)) i []) ≡ 1024
    full_at i less true is =
        let e : i ≡ n = eqb-true i n is in
        ap (λ j. length (get_or (set blocks n (with_owner (get_or blocks n []) bit wire)) j [])) e
        ∙ ap length (get_or-set_same blocks n (with_owner (get_or blocks n []) bit wire) [] lt)
        ∙ length_with (get_or blocks n []) bit wire
        ∙ even.full n lt
    full_at i less false is =
        ap length (get_or-set_other blocks n i (with_owner (get_or blocks n []) bit wire) [] (λ e. true≢false (sym (eq-eqb i n e) ∙ is)))
        ∙ even.full i less

-- a tile is added
absent_at : (p : TileAt → Bool) (tiles : List TileAt) → list_any p tiles ≡ false → position_or_len p tiles ≡ length tiles
absent_at p [] e = refl
absent_at p (t ∷ tiles) e =
    let parts = or_parts (p t) (list_any p tiles) e in
    rw parts.0 (let rest = absent_at p tiles parts.1 in omega (arith, rest))

pub added_at : (tile : TileAt) (tiles : List TileAt) → list_any (same_tile tile) tiles ≡ false → length tiles ≡ position_or_len (same_tile tile) (tiles ++ tile ∷ [])
added_at tile tiles e =
    let at : position_or_len (same_tile tile) tiles ≡ length tiles = absent_at (same_tile tile) tiles e in
    sym (position_or_len_push (same_tile tile) tiles tile
    ∙ ap (λ c. cond c (length tiles + cond (same_tile tile tile) 0 1) (position_or_len (same_tile tile) tiles)) (eq-eqb (position_or_len (same_tile tile) tiles) (length tiles) at)
    ∙ ap (λ c. length tiles + cond c 0 1) (tile_self tile)
    ∙ omega arith)

-- a block in which nothing is held makes no difference
blank_more : (blocks : List (List (Option Owner))) (block : List (Option Owner)) (n : ℕ) (b : BitAt) → ((i : ℕ) → get_or block i None ≡ None)
    → owner_in (get_or (blocks ++ block ∷ []) n []) b ≡ owner_in (get_or blocks n []) b
blank_more [] block zero b none = nothing_in block b none ∙ sym (nothing_in [] b (λ i. get_or_past [] i None (omega arith)))
blank_more [] block (suc n) b none = refl
blank_more (x ∷ blocks) block zero b none = refl
blank_more (x ∷ blocks) block (suc n) b none = blank_more blocks block n b none

pub same_among : (tiles : List TileAt) (blocks : List (List (Option Owner))) (tile : TileAt) (block : List (Option Owner)) (t : TileAt) (b : BitAt) → length blocks ≡ length tiles → ((i : ℕ) → get_or block i None ≡ None)
    → owner_among (tiles ++ tile ∷ []) (blocks ++ block ∷ []) t b ≡ owner_among tiles blocks t b
same_among tiles blocks tile block t b count none =
    blank_more blocks block (position_or_len (same_tile t) (tiles ++ tile ∷ [])) b none
    ∙ ap (λ m. owner_in (get_or blocks m []) b) (position_or_len_push (same_tile t) tiles tile)
    ∙ by (eqb (position_or_len (same_tile t) tiles) (length tiles)) refl
  where
    by : (last : Bool) → eqb (position_or_len (same_tile t) tiles) (length tiles) ≡ last
        → owner_in (get_or blocks (cond last (length tiles + cond (same_tile t tile) 0 1) (position_or_len (same_tile t) tiles)) []) b ≡ owner_among tiles blocks t b
    by false is = refl
    by true is =
        let at : position_or_len (same_tile t) tiles ≡ length tiles = eqb-true (position_or_len (same_tile t) tiles) (length tiles) is in
        ap (λ x. owner_in x b)
        (get_or_past blocks (length tiles + cond (same_tile t tile) 0 1) [] (omega (arith, count))
        ∙ sym (get_or_past blocks (position_or_len (same_tile t) tiles) [] (omega (arith, count, at))))

pub even_more : (tiles : List TileAt) (blocks : List (List (Option Owner))) (tile : TileAt) (block : List (Option Owner)) → AreEven tiles blocks → length block ≡ 1024 → AreEven (tiles ++ tile ∷ []) (blocks ++ block ∷ [])
even_more tiles blocks tile block even long = record {
  count = (let c = even.count in let a = length-append blocks (block ∷ []) in let d = length-append tiles (tile ∷ []) in omega (arith, c, a, d));
  full = λ i less. full_at i (omega (arith, less, length-append blocks (block ∷ []))) (nat_lt i (length blocks)) refl;
}
  where
    full_at : (i : ℕ) → i < length blocks + 1 → (inner : Bool) → nat_lt i (length blocks) ≡ inner → length (get_or (blocks ++ block ∷ []) i []) ≡ 1024
    full_at i less true is =
        let lt : i < length blocks = search (rules, tests) in
        ap length (get_or_append_left blocks (block ∷ []) [] i lt) ∙ even.full i lt
    full_at i less false is =
        let least : length blocks ≤ i = search (rules, tests) in
        let last : length blocks ≡ i = omega (arith, less, least) in
        ap length (get_or_push blocks block [] i last) ∙ long

-- ---- a blank block
pub none_at : (places i : ℕ) → get_or (replicate {A = Option Owner} places None) i None ≡ None
none_at places i = by (nat_lt i places) refl
  where
    by : (inner : Bool) → nat_lt i places ≡ inner → get_or (replicate {A = Option Owner} places None) i None ≡ None
    by true is =
        let lt : i < places = search (rules, tests) in get_or-replicate places i None None lt
    by false is =
        let least : places ≤ i = search (rules, tests) in
        get_or_past (replicate {A = Option Owner} places None) i None (let long = length-replicate {A = Option Owner} places None in omega (arith, long, least))

-- ---- blocks as they are kept
pub items_at : (blocks : List (Vec (Option Owner) Global)) (i : ℕ) (d : Vec (Option Owner) Global) → i < length blocks → get_or (items_of blocks) i [] ≡ (get_or blocks i d).items
items_at [] i d lt = absurd (omega arith)
items_at (block ∷ blocks) zero d lt = refl
items_at (block ∷ blocks) (suc i) d lt = items_at blocks i d (omega arith)

pub items_set : (blocks : List (Vec (Option Owner) Global)) (n : ℕ) (d new : Vec (Option Owner) Global) (bit : BitAt) (wire : ℕ) → n < length blocks → new.items ≡ with_owner (get_or blocks n d).items bit wire
    → items_of (set blocks n new) ≡ set (items_of blocks) n (with_owner (get_or (items_of blocks) n []) bit wire)
items_set blocks n d new bit wire lt is =
    map-set (λ v. v.items) blocks n new
    ∙ ap (set (items_of blocks) n) (is ∙ ap (λ xs. with_owner xs bit wire) (sym (items_at blocks n d lt)))

pub items_push : (blocks : List (Vec (Option Owner) Global)) (block : Vec (Option Owner) Global) (new : List (Vec (Option Owner) Global)) → new ≡ blocks ++ block ∷ [] → items_of new ≡ items_of blocks ++ block.items ∷ []
items_push blocks block new is = ap items_of is ∙ map-append (λ v. v.items) blocks (block ∷ [])

pub items_long : (blocks : List (Vec (Option Owner) Global)) → length (items_of blocks) ≡ length blocks
items_long blocks = length-map blocks (λ v. v.items)

-- the number of a tile that is sought
pub sought_at : (p : TileAt → Bool) (tiles : List TileAt) → unwrap_or (position p tiles) (length tiles) ≡ position_or_len p tiles
sought_at p tiles = by (nat_lt (position_or_len p tiles) (length tiles)) refl
  where
    by : (b : Bool) → nat_lt (position_or_len p tiles) (length tiles) ≡ b → unwrap_or (cond b (Some (position_or_len p tiles)) None) (length tiles) ≡ position_or_len p tiles
    by true is = refl
    by false is =
        let most : position_or_len p tiles ≤ length tiles = prefix_len-le-length (λ t. not (p t)) tiles in
        let least : length tiles ≤ position_or_len p tiles = search (rules, tests) in
        omega arith
