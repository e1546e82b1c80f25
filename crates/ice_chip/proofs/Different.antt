-- Rows that name different places and texts each: none of their names is one of two wires.
use Rattle.std.proofs.Common.{◌≡◌, ℕ, suc, ◌+◌, ◌≤◌, Bool, true, false, cond, Option, None, Some, is_some, List, [], ◌∷◌, ◌++◌, length, map, filter, length-append, refl, sym, ap, subst, ◌∙◌, arith}
use Rattle.std.specs.Map.{lookup}
use Rattle.std.specs.Option.{option_or}
use Rattle.std.proofs.lemmas.List.{length-map, map-append}
use Rattle.std.proofs.lemmas.Option.{none-some}
use Rattle.ice_base.specs.declared.number.TileAt.{TileAt}
use Rattle.ice_chip.specs.Database.{WireName, tile_known}
use Rattle.ice_chip.specs.Indices.{firsts, numbered, put_first, same_numbered}
use Rattle.ice_chip.specs.Lookups.{is_placed, placed, placed_wire, same_placed}
use Rattle.ice_chip.specs.NameIndex.{no_names}
use Rattle.ice_chip.specs.WholeFaults.{name_of_two_wires, unless_clash, wire_line, with_name, with_placed}
use Rattle.ice_chip.specs.declared.placed.PlacedName.{PlacedName}
use Rattle.ice_chip.specs.declared.name_lines.WireLine.{WireLine}
use Rattle.ice_chip.specs.declared.rows.TileLine.{TileLine}
use Rattle.ice_chip.proofs.Firsts.{lookup-append}
use Rattle.ice_chip.proofs.Numbering.{AreKnown, by_number, found_is, is_known, rows_known, wires_are}

-- ---- rows with keys of their own
-- no row has the key of one before it
abbrev AreNew : {K V : Type 0} → (K → K → Bool) → List (K × V) → List (K × V) → Type 0
AreNew eq done [] = Unit {0}
AreNew eq done (row ∷ rows) = (lookup (eq row.0) done ≡ None) × AreNew eq (done ++ row ∷ []) rows

few_firsts : {K V : Type 0} (eq : K → K → Bool) (entries rows : List (K × V)) → length (firsts eq entries rows) ≤ length entries + length rows
few_firsts eq entries [] = omega arith
few_firsts {K} {V} eq entries (row ∷ rows) = by (lookup (eq row.0) entries) (few_firsts eq (entries ++ row ∷ []) rows) (few_firsts eq entries rows)
  where
    by : (o : Option V) → length (firsts eq (entries ++ row ∷ []) rows) ≤ length (entries ++ row ∷ []) + length rows → length (firsts eq entries rows) ≤ length entries + length rows
        → length (firsts eq (put_first entries row o) rows) ≤ length entries + suc (length rows)
    by None more same = let long = length-append entries (row ∷ []) in omega (arith, more, long)
    by (Some old) more same = omega (arith, same)

-- where the first rows of the keys are all rows
all_new : {K V : Type 0} (eq : K → K → Bool) (done rows : List (K × V)) → length (firsts eq done rows) ≡ length done + length rows → AreNew eq done rows
all_new eq done [] e = tt
all_new {K} {V} eq done (row ∷ rows) e = by (lookup (eq row.0) done) refl e (λ count. all_new eq (done ++ row ∷ []) rows count)
  where
    by : (o : Option V) → lookup (eq row.0) done ≡ o → length (firsts eq (put_first done row o) rows) ≡ length done + suc (length rows)
        → (length (firsts eq (done ++ row ∷ []) rows) ≡ length (done ++ row ∷ []) + length rows → AreNew eq (done ++ row ∷ []) rows) → (lookup (eq row.0) done ≡ None) × AreNew eq (done ++ row ∷ []) rows
    by None is count rest = (is, rest (let long = length-append done (row ∷ []) in omega (arith, count, long)))
    by (Some old) is count rest = absurd (let few = few_firsts eq done rows in omega (arith, few, count))

-- ---- the names for their numbers
known_one_more : (names : List (List ℕ)) (done : List (PlacedName × ℕ)) (row : PlacedName × ℕ) → AreKnown names done → is_known names row.0.name ≡ true → AreKnown names (done ++ row ∷ [])
known_one_more names [] row all known = (known, tt)
known_one_more names (first ∷ done) row all known = (all.0, known_one_more names done row all.1 known)

named_new : (names : List (List ℕ)) (done rows : List (PlacedName × ℕ)) → AreKnown names done → AreKnown names rows → AreNew same_numbered (map (by_number names) done) (map (by_number names) rows) → AreNew same_placed done rows
named_new names done [] before known new = tt
named_new names done (row ∷ rows) before known new = (
  sym (found_is row.0.tile row.0.name names done before) ∙ new.0,
  named_new names (done ++ row ∷ []) rows (known_one_more names done row before known.0) known.1
      (subst (λ entries. AreNew same_numbered entries (map (by_number names) rows)) (sym (map-append (by_number names) done (row ∷ []))) new.1),
)

-- ---- the search for a name of two wires
neither : {X : Type 0} (a b : Option X) → option_or a b ≡ None → (a ≡ None) × (b ≡ None)
neither None b e = (refl, e)
neither (Some x) b e = absurd (none-some x (sym e))

unseen : {X Y : Type 0} (test : Bool) (x : X) (y : Y) → cond test (Some x) None ≡ None → cond test (Some y) None ≡ None
unseen true x y e = absurd (none-some x (sym e))
unseen false x y e = refl

no_clash : (tiles : List (TileAt × TileLine)) (seen : List (PlacedName × WireLine)) (done : List (PlacedName × ℕ)) (names : List WireName) → ((key : PlacedName) → lookup (same_placed key) done ≡ None → lookup (same_placed key) seen ≡ None)
    → AreNew same_placed done (map placed_wire (filter (is_placed tiles) names)) → name_of_two_wires tiles seen names ≡ None
no_clash tiles seen done [] kept new = refl
no_clash tiles seen done (n ∷ names) kept new =
    by (tile_known tiles n.tile) new (λ left. no_clash tiles seen done names kept left)
    (λ left. no_clash tiles (seen ++ (placed n, wire_line n) ∷ []) (done ++ (placed n, n.wire) ∷ []) names more left)
  where
    more : (key : PlacedName) → lookup (same_placed key) (done ++ (placed n, n.wire) ∷ []) ≡ None → lookup (same_placed key) (seen ++ (placed n, wire_line n) ∷ []) ≡ None
    more key none =
        let parts = neither (lookup (same_placed key) done) (cond (same_placed key (placed n)) (Some n.wire) None) (sym (lookup-append (same_placed key) done ((placed n, n.wire) ∷ [])) ∙ none) in
        lookup-append (same_placed key) seen ((placed n, wire_line n) ∷ [])
        ∙ ap (λ o. option_or o (cond (same_placed key (placed n)) (Some (wire_line n)) None)) (kept key parts.0)
        ∙ unseen (same_placed key (placed n)) n.wire (wire_line n) parts.1

    by : (tile : Option TileLine) → AreNew same_placed done (map placed_wire (cond (is_some tile) (n ∷ filter (is_placed tiles) names) (filter (is_placed tiles) names)))
        → (AreNew same_placed done (map placed_wire (filter (is_placed tiles) names)) → name_of_two_wires tiles seen names ≡ None)
        → (AreNew same_placed (done ++ (placed n, n.wire) ∷ []) (map placed_wire (filter (is_placed tiles) names)) → name_of_two_wires tiles (seen ++ (placed n, wire_line n) ∷ []) names ≡ None)
        → unless_clash (with_name tile seen n) (λ others. name_of_two_wires tiles others names) ≡ None
    by None left passed noted = passed left
    by (Some tile) left passed noted =
        ap (λ o. unless_clash (with_placed seen (placed n) (wire_line n) o) (λ others. name_of_two_wires tiles others names)) (kept (placed n) left.0) ∙ noted left.1

few_left : (tiles : List (TileAt × TileLine)) (names : List WireName) → length (filter (is_placed tiles) names) ≤ length names
few_left tiles [] = omega arith
few_left tiles (n ∷ names) = by (is_placed tiles n) (few_left tiles names)
  where
    by : (here : Bool) → length (filter (is_placed tiles) names) ≤ length names → length (cond here (n ∷ filter (is_placed tiles) names) (filter (is_placed tiles) names)) ≤ suc (length names)
    by true few = omega (arith, few)
    by false few = omega (arith, few)

-- where as many names at places are known as there are rows
pub different : (tiles : List (TileAt × TileLine)) (names : List WireName) → length (numbered no_names (map placed_wire (filter (is_placed tiles) names))).wires ≡ length names → name_of_two_wires tiles [] names ≡ None
different tiles names count =
    let rows : List (PlacedName × ℕ) = map placed_wire (filter (is_placed tiles) names) in
    let texts : List (List ℕ) = (numbered no_names rows).texts in
    let are = ap length (wires_are no_names rows) in
    let few = few_firsts same_numbered [] (map (by_number texts) rows) in
    let numbers = length-map rows (by_number texts) in
    let placed_rows = length-map (filter (is_placed tiles) names) placed_wire in
    let left = few_left tiles names in
    no_clash tiles [] [] names (λ key none. refl)
    (named_new texts [] rows tt (rows_known no_names rows) (all_new same_numbered [] (map (by_number texts) rows) (omega (arith, count, are, few, numbers, placed_rows, left))))
