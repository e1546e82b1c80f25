-- What is found by a place of a name is the first of the name.
use Rattle.std.proofs.Common.{◌≡◌, ℕ, ◌+◌, ◌<◌, ◌&&◌, Bool, true, false, cond, List, [], ◌∷◌, ◌++◌, map, find, length, get_or, drop, slice_get, option_map, Option, None, Some, Vec, bytes_eq, is_some, Bor, option_copied, IfSome, nat_lt, zero, suc, ◌≤◌, arith, rules, tests, append_assoc, true≢false, refl, sym, ap, ◌∙◌}
use Rattle.std.specs.Map.{lookup}
use Rattle.std.specs.Option.{option_and_then, option_or}
use Rattle.std.specs.declared.alloc.Global.{Global}
use Rattle.std.proofs.lemmas.Option.{slice_get-map, slice_get-get_or}
use Rattle.std.proofs.lemmas.List.{drop_more, length_push}
use Rattle.ice_chip.specs.Database.{Parts, FunctionRow, PackageRows}
use Rattle.ice_chip.specs.Functions.{same_kind}
use Rattle.ice_chip.specs.Lookups.{is_function, function_of, package_of}
use Rattle.ice_chip.specs.Indices.{put_first, with_first, firsts}
use Rattle.ice_chip.specs.NamePlaces.{by_text, PlacesByKind, no_places, of_kind, put_kind, function_places, package_places}
use Rattle.ice_chip.specs.Views.{function_view, package_view}
use Rattle.ice_chip.specs.declared.sections.Function.{Function}
use Rattle.ice_chip.specs.declared.rows.TileKind.{TileKind}
use Rattle.ice_chip.specs.declared.rows.TileKind.TheVariants.{Io, Logic, RamBottom, RamTop}
use Rattle.ice_chip.specs.declared.parts.Package.{Package}
use Rattle.ice_chip.proofs.Firsts.{lookup-firsts}
use Rattle.ice_base.proofs.Keys.{bytes_same, bytes_self}

-- ---- names in memory
pub lookup_text : (name : List ℕ) (entries : List (Vec ℕ Global × ℕ)) → lookup (λ key. bytes_eq name key.items) entries ≡ lookup (bytes_eq name) (by_text entries)
lookup_text name [] = refl
lookup_text name (e ∷ es) = ap (cond (bytes_eq name e.0.items) (Some e.1)) (lookup_text name es)

-- ---- one row on
pub next_function : (fs : List Function) (i : ℕ) (f : Function) (whole before now : PlacesByKind) → i < length fs → f ≡ get_or fs i f
    → whole ≡ function_places before i (map function_view (drop i fs)) → now ≡ put_kind before f.kind (f.name, i)
    → whole ≡ function_places now (i + 1) (map function_view (drop (i + 1) fs))
next_function fs i f whole before now lt at so_far is =
    so_far
    ∙ ap (λ xs. function_places before i (map function_view xs)) (drop_more fs i f lt ∙ ap (λ y. y ∷ drop (i + 1) fs) (sym at))
    ∙ ap (λ s. function_places s (i + 1) (map function_view (drop (i + 1) fs))) (sym is)

pub next_package : (ps : List Package) (i : ℕ) (p : Package) (whole before now : List (List ℕ × ℕ)) → i < length ps → p ≡ get_or ps i p
    → whole ≡ package_places before i (map package_view (drop i ps)) → now ≡ with_first bytes_eq before (p.name, i)
    → whole ≡ package_places now (i + 1) (map package_view (drop (i + 1) ps))
next_package ps i p whole before now lt at so_far is =
    so_far
    ∙ ap (λ xs. package_places before i (map package_view xs)) (drop_more ps i p lt ∙ ap (λ y. y ∷ drop (i + 1) ps) (sym at))
    ∙ ap (λ s. package_places s (i + 1) (map package_view (drop (i + 1) ps))) (sym is)

-- ---- the first of a name
equal_ways : (a b : List ℕ) → bytes_eq a b ≡ bytes_eq b a
equal_ways a b = by (bytes_eq a b) (bytes_eq b a) refl refl
  where
    by : (c d : Bool) → bytes_eq a b ≡ c → bytes_eq b a ≡ d → c ≡ d
    by true true is at = refl
    by false false is at = refl
    by true false is at = sym (bytes_self b) ∙ ap (λ x. bytes_eq b x) (sym (bytes_same a b is)) ∙ at
    by false true is at = sym is ∙ ap (λ x. bytes_eq a x) (bytes_same b a at) ∙ bytes_self a

-- the rows of functions of a kind, each with its number
abbrev rows_of_kind : TileKind → ℕ → List FunctionRow → List (List ℕ × ℕ)
rows_of_kind kind n [] = []
rows_of_kind kind n (f ∷ fs) = cond (same_kind f.kind kind) ((f.name, n) ∷ rows_of_kind kind (n + 1) fs) (rows_of_kind kind (n + 1) fs)

put_of_kind : (s : PlacesByKind) (k kind : TileKind) (row : List ℕ × ℕ) → of_kind (put_kind s k row) kind ≡ cond (same_kind k kind) (with_first bytes_eq (of_kind s kind) row) (of_kind s kind)
put_of_kind s Io Io row = refl
put_of_kind s Io Logic row = refl
put_of_kind s Io RamBottom row = refl
put_of_kind s Io RamTop row = refl
put_of_kind s Logic Io row = refl
put_of_kind s Logic Logic row = refl
put_of_kind s Logic RamBottom row = refl
put_of_kind s Logic RamTop row = refl
put_of_kind s RamBottom Io row = refl
put_of_kind s RamBottom Logic row = refl
put_of_kind s RamBottom RamBottom row = refl
put_of_kind s RamBottom RamTop row = refl
put_of_kind s RamTop Io row = refl
put_of_kind s RamTop Logic row = refl
put_of_kind s RamTop RamBottom row = refl
put_of_kind s RamTop RamTop row = refl

kind_places : (s : PlacesByKind) (kind : TileKind) (n : ℕ) (fs : List FunctionRow) → of_kind (function_places s n fs) kind ≡ firsts bytes_eq (of_kind s kind) (rows_of_kind kind n fs)
kind_places s kind n [] = refl
kind_places s kind n (f ∷ fs) =
    kind_places (put_kind s f.kind (f.name, n)) kind (n + 1) fs
    ∙ ap (λ entries. firsts bytes_eq entries (rows_of_kind kind (n + 1) fs)) (put_of_kind s f.kind kind (f.name, n))
    ∙ by (same_kind f.kind kind)
  where
    by : (b : Bool) → firsts bytes_eq (cond b (with_first bytes_eq (of_kind s kind) (f.name, n)) (of_kind s kind)) (rows_of_kind kind (n + 1) fs)
        ≡ firsts bytes_eq (of_kind s kind) (cond b ((f.name, n) ∷ rows_of_kind kind (n + 1) fs) (rows_of_kind kind (n + 1) fs))
    by true = refl
    by false = refl

none_of_kind : (kind : TileKind) → of_kind no_places kind ≡ []
none_of_kind Io = refl
none_of_kind Logic = refl
none_of_kind RamBottom = refl
none_of_kind RamTop = refl

-- rows of packages, each with its number
abbrev rows_of_packages : ℕ → List PackageRows → List (List ℕ × ℕ)
rows_of_packages n [] = []
rows_of_packages n (p ∷ ps) = (p.name, n) ∷ rows_of_packages (n + 1) ps

all_places : (entries : List (List ℕ × ℕ)) (n : ℕ) (ps : List PackageRows) → package_places entries n ps ≡ firsts bytes_eq entries (rows_of_packages n ps)
all_places entries n [] = refl
all_places entries n (p ∷ ps) = all_places (with_first bytes_eq entries (p.name, n)) (n + 1) ps

-- the item at each number behind the items before it
item_behind : {X : Type 0} (before : List X) (x : X) (xs : List X) → slice_get (before ++ x ∷ xs) (length before) ≡ Some x
item_behind [] x xs = refl
item_behind (b ∷ before) x xs = item_behind before x xs

-- what is found among the rows behind one more is found behind it
behind : {X : Type 0} (before : List X) (x : X) (xs : List X) (rows : ℕ → List (List ℕ × ℕ)) (name : List ℕ) (o : Option X)
    → option_and_then (slice_get ((before ++ x ∷ []) ++ xs)) (lookup (bytes_eq name) (rows (length (before ++ x ∷ [])))) ≡ o
    → option_and_then (slice_get (before ++ x ∷ xs)) (lookup (bytes_eq name) (rows (length before + 1))) ≡ o
behind before x xs rows name o e =
    ap (λ n. option_and_then (slice_get (before ++ x ∷ xs)) (lookup (bytes_eq name) (rows n))) (sym (length_push before x))
    ∙ ap (λ all. option_and_then (slice_get all) (lookup (bytes_eq name) (rows (length (before ++ x ∷ []))))) (sym (append_assoc before (x ∷ []) xs))
    ∙ e

-- a row more, which has the name or not
row_more : {X : Type 0} (before : List X) (x : X) (xs : List X) (rows : List (List ℕ × ℕ)) (name text : List ℕ) (o : Option X)
    → option_and_then (slice_get (before ++ x ∷ xs)) (lookup (bytes_eq name) rows) ≡ o
    → option_and_then (slice_get (before ++ x ∷ xs)) (lookup (bytes_eq name) ((text, length before) ∷ rows)) ≡ cond (bytes_eq text name) (Some x) o
row_more before x xs rows name text o rest =
    ap (λ c. option_and_then (slice_get (before ++ x ∷ xs)) (cond c (Some (length before)) (lookup (bytes_eq name) rows))) (equal_ways name text)
    ∙ by (bytes_eq text name)
  where
    by : (c : Bool) → option_and_then (slice_get (before ++ x ∷ xs)) (cond c (Some (length before)) (lookup (bytes_eq name) rows)) ≡ cond c (Some x) o
    by true = item_behind before x xs
    by false = rest

function_more : (kind : TileKind) (name : List ℕ) (before : List FunctionRow) (f : FunctionRow) (fs : List FunctionRow)
    → option_and_then (slice_get ((before ++ f ∷ []) ++ fs)) (lookup (bytes_eq name) (rows_of_kind kind (length (before ++ f ∷ [])) fs)) ≡ find (is_function kind name) fs
    → option_and_then (slice_get (before ++ f ∷ fs)) (lookup (bytes_eq name) (rows_of_kind kind (length before) (f ∷ fs))) ≡ find (is_function kind name) (f ∷ fs)
function_more kind name before f fs e = by (same_kind f.kind kind)
  where
    by : (b : Bool) → option_and_then (slice_get (before ++ f ∷ fs)) (lookup (bytes_eq name) (cond b ((f.name, length before) ∷ rows_of_kind kind (length before + 1) fs) (rows_of_kind kind (length before + 1) fs)))
        ≡ cond (b && bytes_eq f.name name) (Some f) (find (is_function kind name) fs)
    by true = row_more before f fs (rows_of_kind kind (length before + 1) fs) name f.name (find (is_function kind name) fs) (behind before f fs (λ n. rows_of_kind kind n fs) name (find (is_function kind name) fs) e)
    by false = behind before f fs (λ n. rows_of_kind kind n fs) name (find (is_function kind name) fs) e

function_at : (kind : TileKind) (name : List ℕ) (before fs : List FunctionRow)
    → option_and_then (slice_get (before ++ fs)) (lookup (bytes_eq name) (rows_of_kind kind (length before) fs)) ≡ find (is_function kind name) fs
function_at kind name before [] = refl
function_at kind name before (f ∷ fs) = function_more kind name before f fs (function_at kind name (before ++ f ∷ []) fs)

package_at : (name : List ℕ) (before ps : List PackageRows)
    → option_and_then (slice_get (before ++ ps)) (lookup (bytes_eq name) (rows_of_packages (length before) ps)) ≡ find (λ p. bytes_eq p.name name) ps
package_at name before [] = refl
package_at name before (p ∷ ps) =
    row_more before p ps (rows_of_packages (length before + 1) ps) name p.name (find (λ q. bytes_eq q.name name) ps)
    (behind before p ps (λ n. rows_of_packages n ps) name (find (λ q. bytes_eq q.name name) ps) (package_at name (before ++ p ∷ []) ps))

-- by its place a function is found as in the rows themselves
pub function_found : (parts : Parts) (s : PlacesByKind) (kind : TileKind) (name : List ℕ) → s ≡ function_places no_places 0 parts.functions
    → option_and_then (slice_get parts.functions) (lookup (bytes_eq name) (of_kind s kind)) ≡ function_of parts kind name
function_found parts s kind name e =
    ap (λ places. option_and_then (slice_get parts.functions) (lookup (bytes_eq name) (of_kind places kind))) e
    ∙ ap (λ entries. option_and_then (slice_get parts.functions) (lookup (bytes_eq name) entries)) (kind_places no_places kind 0 parts.functions)
    ∙ ap (option_and_then (slice_get parts.functions)) (lookup-firsts bytes_eq bytes_same name (of_kind no_places kind) (rows_of_kind kind 0 parts.functions))
    ∙ ap (λ entries. option_and_then (slice_get parts.functions) (option_or (lookup (bytes_eq name) entries) (lookup (bytes_eq name) (rows_of_kind kind 0 parts.functions)))) (none_of_kind kind)
    ∙ function_at kind name [] parts.functions

-- and so is a package
pub package_found : (parts : Parts) (entries : List (List ℕ × ℕ)) (name : List ℕ) → entries ≡ package_places [] 0 parts.packages
    → option_and_then (slice_get parts.packages) (lookup (bytes_eq name) entries) ≡ package_of parts name
package_found parts entries name e =
    ap (λ places. option_and_then (slice_get parts.packages) (lookup (bytes_eq name) places)) (e ∙ all_places [] 0 parts.packages)
    ∙ ap (option_and_then (slice_get parts.packages)) (lookup-firsts bytes_eq bytes_same name [] (rows_of_packages 0 parts.packages))
    ∙ package_at name [] parts.packages

-- ---- a name more
text_kept_if : (name : List ℕ) (place : ℕ) (entries : List (List ℕ × ℕ)) (o : Option ℕ) → is_some o ≡ true → entries ≡ put_first entries (name, place) o
text_kept_if name place entries None e = absurd (true≢false (sym e))
text_kept_if name place entries (Some x) e = refl

pub text_kept : (name : List ℕ) (place : ℕ) (entries : List (Vec ℕ Global × ℕ)) → is_some (lookup (λ key. bytes_eq name key.items) entries) ≡ true
    → by_text entries ≡ with_first bytes_eq (by_text entries) (name, place)
text_kept name place entries e = text_kept_if name place (by_text entries) (lookup (bytes_eq name) (by_text entries)) (ap is_some (sym (lookup_text name entries)) ∙ e)

by_text_last : (entries : List (Vec ℕ Global × ℕ)) (e : Vec ℕ Global × ℕ) → by_text (entries ++ e ∷ []) ≡ by_text entries ++ (e.0.items, e.1) ∷ []
by_text_last [] e = refl
by_text_last (x ∷ xs) e = ap (λ es. (x.0.items, x.1) ∷ es) (by_text_last xs e)

pub text_put : (name : List ℕ) (place : ℕ) (entries now : List (Vec ℕ Global × ℕ)) (key : Vec ℕ Global) → key.items ≡ name
    → lookup (λ k. bytes_eq name k.items) entries ≡ None → now ≡ entries ++ (key, place) ∷ []
    → by_text now ≡ with_first bytes_eq (by_text entries) (name, place)
text_put name place entries now key is none put =
    ap by_text put
    ∙ by_text_last entries (key, place)
    ∙ ap (λ text. by_text entries ++ (text, place) ∷ []) is
    ∙ ap (put_first (by_text entries) (name, place)) (sym (sym (lookup_text name entries) ∙ none))

-- ---- an item found by its place
pub seen_at : {X Y : Type 0} (view : X → Y) (found : Option (Bor X)) (xs : List X) (i : ℕ) → option_copied found ≡ slice_get xs i → option_map (λ x. view x.now) found ≡ slice_get (map view xs) i
seen_at {X} {Y} view found xs i e = by found ∙ ap (option_map view) e ∙ sym (slice_get-map view xs i)
  where
    by : (o : Option (Bor X)) → option_map (λ x. view x.now) o ≡ option_map view (option_copied o)
    by None = refl
    by (Some x) = refl

none_at : {X : Type 0} (xs : List X) (i : ℕ) → length xs ≤ i → slice_get xs i ≡ None
none_at [] i le = refl
none_at (x ∷ xs) zero le = absurd (omega arith)
none_at (x ∷ xs) (suc i) le = none_at xs i (omega arith)

pub item_found : {X : Type 0} (xs : List X) (i : ℕ) (found : Option (Bor X)) → is_some found ≡ nat_lt i (length xs) → IfSome found (λ x. x.now ≡ get_or xs i x.now) → option_copied found ≡ slice_get xs i
item_found xs i None e is =
    let le : length xs ≤ i = search (rules, tests) in
    sym (none_at xs i le)
item_found xs i (Some x) e is =
    let lt : i < length xs = search (rules, tests) in
    ap Some is ∙ sym (slice_get-get_or xs i x.now lt)
