-- What is known of the uses of bits so far gives the first two lines of all uses that clash.
use Rattle.std.proofs.Common.{◌≡◌, ℕ, Bool, true, false, Option, None, Some, List, [], ◌∷◌, ◌++◌, fold, map, refl, sym, ap, ◌∙◌, true≢false, nat_lt, ◌==◌, ◌&&◌, ◌||◌, if◌then◌else◌, arith, eqb-true}
use Rattle.std.proofs.Math.Path.{fun_ext}
use Rattle.std.proofs.lemmas.Grind.{common_steps}
use Rattle.std.proofs.lemmas.List.Sums.{fold-append}
use Rattle.std.specs.List.{flat_map}
use Rattle.std.specs.Map.{lookup}
use Rattle.indexmap.specs.IndexMap.{insert_entry}
use Rattle.ice_base.specs.declared.number.TileAt.{TileAt}
use Rattle.ice_base.specs.declared.bit.BitAt.{BitAt}
use Rattle.ice_chip_build.specs.BitsUsed.{BitsUsed, none_used, with_line, with_clash, with_use, with_uses, with_functions, with_groups, with_others, groups_shared}
use Rattle.ice_chip.specs.Database.{Parts, FunctionRow, SwitchGroup, tile_known}
use Rattle.ice_chip.specs.Functions.{same_kind}
use Rattle.ice_chip.specs.LeastLine.{least_of}
use Rattle.ice_chip.specs.SharedFunction.{same_bit, bit_use, bit_uses, function_uses, group_uses, clash, two_lines, clashes_with, clashes, first_of, shared_function}
use Rattle.ice_chip.specs.declared.rows.TileLine.{TileLine}
use Rattle.ice_chip.specs.declared.rows.TileKind.{TileKind}
use Rattle.ice_chip.specs.declared.uses.BitUse.{BitUse}
use Rattle.ice_chip.specs.declared.uses.KindBit.{KindBit}
use Rattle.std.proofs.lemmas.Bool.{and_parts}
use Rattle.ice_base.proofs.Booleans.{and_true, and_false}
use Rattle.ice_chip.proofs.SameKinds.{kind_same, kind_self}

-- ---- the order of lines
-- the first of the lines of a use with two others is that with the least of them
pub with_least : (best : Option (ℕ × ℕ)) (u v m : ℕ) → first_of (first_of best (two_lines u v)) (two_lines u m) ≡ first_of best (two_lines u (if nat_lt v m then v else m))
with_least None u v m = grind (arith, common_steps)
with_least (Some (b, c)) u v m = grind (arith, common_steps)

-- ---- bits

pub same_bit_is : (a b : KindBit) → same_bit a b ≡ true → a ≡ b
same_bit_is a b e =
    let kind_and_bit = and_parts (same_kind a.kind b.kind) ((a.bit.row == b.bit.row) && (a.bit.col == b.bit.col)) e in
    let row_and_col = and_parts (a.bit.row == b.bit.row) (a.bit.col == b.bit.col) kind_and_bit.1 in
    let kinds : a.kind ≡ b.kind = kind_same a.kind b.kind kind_and_bit.0 in
    let rows : a.bit.row ≡ b.bit.row = eqb-true a.bit.row b.bit.row row_and_col.0 in
    let cols : a.bit.col ≡ b.bit.col = eqb-true a.bit.col b.bit.col row_and_col.1 in
    λ i. record { kind = kinds i; bit = record { row = rows i; col = cols i } }

pub same_bit_self : (a : KindBit) → same_bit a a ≡ true
same_bit_self a =
    let rows : (a.bit.row == a.bit.row) ≡ true = grind arith in
    let cols : (a.bit.col == a.bit.col) ≡ true = grind arith in
    rw (kind_self a.kind, rows, cols) refl

-- ---- a map of lines
pub lookup-insert_entry : (es : List (KindBit × ℕ)) (k : KindBit) (v : ℕ) (q : KindBit) → lookup (same_bit q) (insert_entry same_bit es k v) ≡ (if same_bit q k then Some v else lookup (same_bit q) es)
lookup-insert_entry [] k v q = refl
lookup-insert_entry (e ∷ es) k v q = by_key (same_bit k e.0) refl (lookup-insert_entry es k v q)
  where
    there : (b : Bool) → same_bit q e.0 ≡ b → (if b then Some v else lookup (same_bit q) es) ≡ (if b then Some v else (if b then Some e.1 else lookup (same_bit q) es))
    there true is = refl
    there false is = refl

    apart : (b c : Bool) → same_bit q k ≡ b → same_bit q e.0 ≡ c → same_bit k e.0 ≡ false
        → (if c then Some e.1 else (if b then Some v else lookup (same_bit q) es)) ≡ (if b then Some v else (if c then Some e.1 else lookup (same_bit q) es))
    apart true true at_k at_e other = absurd (true≢false (sym (sym other ∙ ap (λ key. same_bit key e.0) (sym (same_bit_is q k at_k)) ∙ at_e)))
    apart true false at_k at_e other = refl
    apart false true at_k at_e other = refl
    apart false false at_k at_e other = refl

    by_key : (b : Bool) → same_bit k e.0 ≡ b → lookup (same_bit q) (insert_entry same_bit es k v) ≡ (if same_bit q k then Some v else lookup (same_bit q) es)
        → lookup (same_bit q) (insert_entry same_bit (e ∷ es) k v) ≡ (if same_bit q k then Some v else lookup (same_bit q) (e ∷ es))
    by_key true is rest =
        let same : k ≡ e.0 = same_bit_is k e.0 is in
        rw (is, same) (there (same_bit q e.0) refl)
    by_key false is rest = rw (is, rest) (apart (same_bit q k) (same_bit q e.0) refl refl is)

-- ---- the least line of the uses that pass a test, the last use first
abbrev pub least_where : (BitUse → Bool) → List BitUse → Option ℕ
least_where test [] = None
least_where test (u ∷ us) = if test u then Some (least_of (least_where test us) u.line) else least_where test us

pub first_with : (best : Option (ℕ × ℕ)) (u : BitUse) (vs : List BitUse) → fold first_of best (clashes_with u vs) ≡ with_clash best u.line (least_where (clash u) vs)
first_with best u [] = refl
first_with best u (v ∷ vs) = by_clash (clash u v) refl (first_with best u vs) (first_with (first_of best (two_lines u.line v.line)) u vs)
  where
    joined : (known : Option ℕ) → with_clash (first_of best (two_lines u.line v.line)) u.line known ≡ first_of best (two_lines u.line (least_of known v.line))
    joined None = refl
    joined (Some m) = with_least best u.line v.line m

    by_clash : (b : Bool) → clash u v ≡ b
        → fold first_of best (clashes_with u vs) ≡ with_clash best u.line (least_where (clash u) vs)
        → fold first_of (first_of best (two_lines u.line v.line)) (clashes_with u vs) ≡ with_clash (first_of best (two_lines u.line v.line)) u.line (least_where (clash u) vs)
        → fold first_of best (clashes_with u (v ∷ vs)) ≡ with_clash best u.line (least_where (clash u) (v ∷ vs))
    by_clash true is over with = rw is (with ∙ joined (least_where (clash u) vs))
    by_clash false is over with = rw is over

-- ---- what is known of the uses so far, the last one first
abbrev pub uses_of : KindBit → BitUse → Bool
uses_of p v = same_bit p v.place

abbrev pub reads_of : KindBit → BitUse → Bool
reads_of p v = same_bit p v.place && v.is_read

pub record Knows (s : BitsUsed) (before : List BitUse) : Type 0 where
  pub any : (p : KindBit) → lookup (same_bit p) s.any ≡ least_where (uses_of p) before
  pub read : (p : KindBit) → lookup (same_bit p) s.read ≡ least_where (reads_of p) before

-- a map that has the least lines has them with one more line
module _ (test : KindBit → BitUse → Bool) (lines : List (KindBit × ℕ)) (before : List BitUse) (u : BitUse)
    (known : (p : KindBit) → lookup (same_bit p) lines ≡ least_where (test p) before) where
  one_more : (p : KindBit) (b : Bool) → same_bit p u.place ≡ b
      → (if b then Some (least_of (lookup (same_bit u.place) lines) u.line) else lookup (same_bit p) lines) ≡ (if b then Some (least_of (least_where (test p) before) u.line) else least_where (test p) before)
  one_more p true is = ap (λ held. Some (least_of held u.line)) (ap (λ key. lookup (same_bit key) lines) (sym (same_bit_is p u.place is)) ∙ known p)
  one_more p false is = known p

  pub with_one : (p : KindBit) → test p u ≡ same_bit p u.place → lookup (same_bit p) (with_line lines u.place u.line) ≡ least_where (test p) (u ∷ before)
  with_one p tests_bit =
      lookup-insert_entry lines u.place (least_of (lookup (same_bit u.place) lines) u.line) p
      ∙ one_more p (same_bit p u.place) refl
      ∙ ap (λ t. if t then Some (least_of (least_where (test p) before) u.line) else least_where (test p) before) (sym tests_bit)

pub knows_more : (s : BitsUsed) (before : List BitUse) (u : BitUse) (b : Bool) → u.is_read ≡ b → Knows s before → Knows (with_use s u b) (u ∷ before)
knows_more s before u true is known = record {
  any = λ p. with_one uses_of s.any before u known.any p refl;
  read = λ p. with_one reads_of s.read before u known.read p (ap (λ r. same_bit p u.place && r) is ∙ and_true (same_bit p u.place));
}
knows_more s before u false is known = record {
  any = λ p. with_one uses_of s.any before u known.any p refl;
  read = λ p. known.read p ∙ ap (λ t. if t then Some (least_of (least_where (reads_of p) before) u.line) else least_where (reads_of p) before) (sym (ap (λ r. same_bit p u.place && r) is ∙ and_false (same_bit p u.place)));
}

shared_more : (s : BitsUsed) (before : List BitUse) (u : BitUse) (b : Bool) → u.is_read ≡ b → Knows s before → (with_use s u b).shared ≡ fold first_of s.shared (clashes_with u before)
shared_more s before u true is known =
    let every : clash u ≡ uses_of u.place = fun_ext (λ (v : BitUse). ap (λ r. same_bit u.place v.place && (r || v.is_read)) is ∙ and_true (same_bit u.place v.place)) in
    ap (with_clash s.shared u.line) (known.any u.place ∙ ap (λ test. least_where test before) (sym every)) ∙ sym (first_with s.shared u before)
shared_more s before u false is known =
    let reads : clash u ≡ reads_of u.place = fun_ext (λ (v : BitUse). ap (λ r. same_bit u.place v.place && (r || v.is_read)) is) in
    ap (with_clash s.shared u.line) (known.read u.place ∙ ap (λ test. least_where test before) (sym reads)) ∙ sym (first_with s.shared u before)

pub first_of_uses : (s : BitsUsed) (before us : List BitUse) → Knows s before → (with_uses s us).shared ≡ fold first_of s.shared (clashes before us)
first_of_uses s before [] known = refl
first_of_uses s before (u ∷ us) known =
    first_of_uses (with_use s u u.is_read) (u ∷ before) us (knows_more s before u u.is_read refl known)
    ∙ ap (λ best. fold first_of best (clashes (u ∷ before) us)) (shared_more s before u u.is_read refl known)
    ∙ sym (fold-append first_of s.shared (clashes_with u before) (clashes (u ∷ before) us))

-- ---- functions and groups in one list
with_uses-append : (s : BitsUsed) (us vs : List BitUse) → with_uses s (us ++ vs) ≡ with_uses (with_uses s us) vs
with_uses-append s [] vs = refl
with_uses-append s (u ∷ us) vs = with_uses-append (with_use s u u.is_read) us vs

functions_are_uses : (s : BitsUsed) (fs : List FunctionRow) → with_functions s fs ≡ with_uses s (flat_map function_uses fs)
functions_are_uses s [] = refl
functions_are_uses s (f ∷ fs) = functions_are_uses (with_uses s (function_uses f)) fs ∙ sym (with_uses-append s (function_uses f) (flat_map function_uses fs))

groups_are_uses : (tiles : List (TileAt × TileLine)) (s : BitsUsed) (gs : List SwitchGroup) → with_groups tiles s gs ≡ with_uses s (flat_map (λ g. group_uses (tile_known tiles g.tile) g) gs)
groups_are_uses tiles s [] = refl
groups_are_uses tiles s (g ∷ gs) =
    groups_are_uses tiles (with_uses s (group_uses (tile_known tiles g.tile) g)) gs
    ∙ sym (with_uses-append s (group_uses (tile_known tiles g.tile) g) (flat_map (λ g. group_uses (tile_known tiles g.tile) g) gs))

pub shared_is_first : (parts : Parts) → (with_groups parts.tiles (with_functions none_used parts.functions) parts.groups).shared ≡ shared_function parts
shared_is_first parts =
    let functions = flat_map function_uses parts.functions in
    let groups = flat_map (λ g. group_uses (tile_known parts.tiles g.tile) g) parts.groups in
    ap (λ s. s.shared) (groups_are_uses parts.tiles (with_functions none_used parts.functions) parts.groups
    ∙ ap (λ s. with_uses s groups) (functions_are_uses none_used parts.functions)
    ∙ sym (with_uses-append none_used functions groups))
    ∙ first_of_uses none_used [] (bit_uses parts) (record { any = λ p. refl; read = λ p. refl })

-- ---- groups, of which none is a read function
others_read : (s : BitsUsed) (kind : TileKind) (line : ℕ) (bits : List BitAt) → (with_uses s (map (bit_use kind false line) bits)).read ≡ s.read
others_read s kind line [] = refl
others_read s kind line (b ∷ bits) = others_read (with_use s (bit_use kind false line b) false) kind line bits

others_shared : (s : BitsUsed) (kind : TileKind) (line : ℕ) (bits : List BitAt) → (with_uses s (map (bit_use kind false line) bits)).shared ≡ with_others s.read s.shared (map (bit_use kind false line) bits)
others_shared s kind line [] = refl
others_shared s kind line (b ∷ bits) = others_shared (with_use s (bit_use kind false line b) false) kind line bits

group_read : (s : BitsUsed) (tile : Option TileLine) (g : SwitchGroup) → (with_uses s (group_uses tile g)).read ≡ s.read
group_read s None g = refl
group_read s (Some tile) g = others_read s tile.kind g.line g.bits

group_shared : (s : BitsUsed) (tile : Option TileLine) (g : SwitchGroup) → (with_uses s (group_uses tile g)).shared ≡ with_others s.read s.shared (group_uses tile g)
group_shared s None g = refl
group_shared s (Some tile) g = others_shared s tile.kind g.line g.bits

groups_are_shared : (tiles : List (TileAt × TileLine)) (s : BitsUsed) (gs : List SwitchGroup) → (with_groups tiles s gs).shared ≡ groups_shared tiles s.read s.shared gs
groups_are_shared tiles s [] = refl
groups_are_shared tiles s (g ∷ gs) =
    groups_are_shared tiles (with_uses s (group_uses (tile_known tiles g.tile) g)) gs
    ∙ ap (λ read. groups_shared tiles read (with_uses s (group_uses (tile_known tiles g.tile) g)).shared gs) (group_read s (tile_known tiles g.tile) g)
    ∙ ap (λ shared. groups_shared tiles s.read shared gs) (group_shared s (tile_known tiles g.tile) g)

pub groups_first : (parts : Parts) → groups_shared parts.tiles (with_functions none_used parts.functions).read (with_functions none_used parts.functions).shared parts.groups ≡ shared_function parts
groups_first parts = sym (groups_are_shared parts.tiles (with_functions none_used parts.functions) parts.groups) ∙ shared_is_first parts
