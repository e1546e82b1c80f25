-- The first function that is lacking or has a wrong number of bits.
use Rattle.std.proofs.Common.{◌≡◌, ℕ, ◌≤◌, Bool, true, false, not, Option, None, Some, is_some, List, [], ◌∷◌, ◌++◌, refl, sym, ap, subst, ◌∙◌, true≢false, inl, inr, ◌&&◌, ◌||◌, nat_lt, if◌then◌else◌, arith}
use Rattle.std.specs.Prelude.{◌⊎◌}
use Rattle.std.proofs.lemmas.Grind.{common_steps}
use Rattle.ice_base.specs.declared.number.TileAt.{TileAt}
use Rattle.ice_chip.specs.Database.{Parts, FunctionRow}
use Rattle.ice_chip.specs.FirstLacking.{is_needed, Lacks, IsWrong, IsFirstLack}
use Rattle.ice_chip.specs.Functions.{function_line}
use Rattle.ice_chip.specs.LacksFunction.{has_tile, is_buffer_source, has_needed, lacks_needed, has_wrong_bits, wrong_bits, lacks_function}
use Rattle.ice_chip.specs.declared.rows.TileLine.{TileLine}
use Rattle.ice_chip.specs.declared.rows.TileKind.{TileKind}
use Rattle.ice_chip.specs.declared.rows.TileKind.TheVariants.{Io, Logic, RamBottom, RamTop}
use Rattle.std.proofs.lemmas.Bool.{and_parts, or_cases}
use Rattle.ice_base.proofs.Booleans.{or_true}
use Rattle.ice_chip.proofs.NeededNames.{Missing, has_what_it_needs, lacks_what_it_needs}

-- ---- lacking functions
none_from_test : (o : Option ℕ) → is_some o ≡ false → o ≡ None
none_from_test None e = refl
none_from_test (Some line) e = absurd (true≢false e)

not_true : (b : Bool) → not b ≡ true → b ≡ false
not_true true e = sym e
not_true false e = refl

lacks_from : (parts : Parts) (kind : TileKind) → lacks_needed parts kind ≡ true → Lacks parts
lacks_from parts kind lacks =
    of_name (and_parts (has_tile kind parts.tiles) (not (has_needed is_source kind parts.functions)) lacks)
  where
    is_source : Bool
    is_source = is_buffer_source kind parts.tiles parts.colbuf

    of_missing : has_tile kind parts.tiles ≡ true → Missing kind parts.functions (is_needed is_source kind) → Lacks parts
    of_missing tile m = record { kind = kind; name = m.name; tile = tile; needed = m.passes; lacking = none_from_test (function_line kind m.name parts.functions) m.lacking }

    of_name : (has_tile kind parts.tiles ≡ true) × (not (has_needed is_source kind parts.functions) ≡ true) → Lacks parts
    of_name both = of_missing both.0 (lacks_what_it_needs is_source kind parts.functions (not_true (has_needed is_source kind parts.functions) both.1))

lacks_to : (parts : Parts) (l : Lacks parts) → lacks_needed parts l.kind ≡ true
lacks_to parts l = ap (λ t. t && not (has_needed is_source l.kind parts.functions)) l.tile ∙ ap not (fails (has_needed is_source l.kind parts.functions) refl)
  where
    is_source : Bool
    is_source = is_buffer_source l.kind parts.tiles parts.colbuf

    fails : (b : Bool) → has_needed is_source l.kind parts.functions ≡ b → has_needed is_source l.kind parts.functions ≡ false
    fails true all = absurd (true≢false (sym (has_what_it_needs is_source l.kind parts.functions l.name all l.needed) ∙ ap is_some l.lacking))
    fails false none = none

-- ---- functions with a wrong number of bits
abbrev pub IsWrongIn : List (TileAt × TileLine) → List FunctionRow → ℕ → Type 0
IsWrongIn tiles [] line = ⊥
IsWrongIn tiles (f ∷ fs) line = ((has_wrong_bits tiles f ≡ true) × (line ≡ f.line)) ⊎ IsWrongIn tiles fs line

record WrongAt (tiles : List (TileAt × TileLine)) (fs : List FunctionRow) (line : ℕ) : Type 0 where
  front : List FunctionRow
  function : FunctionRow
  rest : List FunctionRow
  stands : fs ≡ front ++ function ∷ rest
  wrong : has_wrong_bits tiles function ≡ true
  on_line : line ≡ function.line

wrong_at : (tiles : List (TileAt × TileLine)) (fs : List FunctionRow) (line : ℕ) → IsWrongIn tiles fs line → WrongAt tiles fs line
wrong_at tiles [] line is = absurd is
wrong_at tiles (f ∷ fs) line (inl here) = record { front = []; function = f; rest = fs; stands = refl; wrong = here.0; on_line = here.1 }
wrong_at tiles (f ∷ fs) line (inr behind) =
    let w = wrong_at tiles fs line behind in
    record { front = f ∷ w.front; function = w.function; rest = w.rest; stands = ap (λ gs. f ∷ gs) w.stands; wrong = w.wrong; on_line = w.on_line }

wrong_in : (tiles : List (TileAt × TileLine)) (front : List FunctionRow) (f : FunctionRow) (rest : List FunctionRow) (line : ℕ) → has_wrong_bits tiles f ≡ true → line ≡ f.line → IsWrongIn tiles (front ++ f ∷ rest) line
wrong_in tiles [] f rest line wrong on_line = inl (wrong, on_line)
wrong_in tiles (g ∷ front) f rest line wrong on_line = inr (wrong_in tiles front f rest line wrong on_line)

-- the least of a line and of the lines of what is wrong behind it
record LeastWrong (tiles : List (TileAt × TileLine)) (known : ℕ) (fs : List FunctionRow) : Type 0 where
  least : ℕ
  is : wrong_bits tiles (Some known) fs ≡ Some least
  among : (least ≡ known) ⊎ IsWrongIn tiles fs least
  begin : least ≤ known
  others : (x : ℕ) → IsWrongIn tiles fs x → least ≤ x

lesser_left : (known line : ℕ) → (if nat_lt line known then line else known) ≤ known
lesser_left known line = grind (arith, common_steps)

lesser_right : (known line : ℕ) → (if nat_lt line known then line else known) ≤ line
lesser_right known line = grind (arith, common_steps)

transitive : (a b c : ℕ) → a ≤ b → b ≤ c → a ≤ c
transitive a b c ab bc = omega arith

no_more : (n : ℕ) → n ≤ n
no_more n = omega arith

least_wrong : (tiles : List (TileAt × TileLine)) (known : ℕ) (fs : List FunctionRow) → LeastWrong tiles known fs
least_wrong tiles known [] = record { least = known; is = refl; among = inl refl; begin = no_more known; others = λ x is. absurd is }
least_wrong tiles known (f ∷ fs) = by_test (has_wrong_bits tiles f) refl (least_wrong tiles (if nat_lt f.line known then f.line else known) fs) (least_wrong tiles known fs)
  where
    chosen : (b : Bool) → nat_lt f.line known ≡ b → has_wrong_bits tiles f ≡ true → (least : ℕ) → (least ≡ (if b then f.line else known)) ⊎ IsWrongIn tiles fs least → (least ≡ known) ⊎ IsWrongIn tiles (f ∷ fs) least
    chosen true before wrong least (inl e) = inr (inl (wrong, e))
    chosen false not_before wrong least (inl e) = inl e
    chosen b is wrong least (inr behind) = inr (inr behind)

    by_test : (b : Bool) → has_wrong_bits tiles f ≡ b → LeastWrong tiles (if nat_lt f.line known then f.line else known) fs → LeastWrong tiles known fs → LeastWrong tiles known (f ∷ fs)
    by_test true wrong l passed = record {
      least = l.least;
      is = rw wrong l.is;
      among = chosen (nat_lt f.line known) refl wrong l.least l.among;
      begin = transitive l.least (if nat_lt f.line known then f.line else known) known l.begin (lesser_left known f.line);
      others = λ x is. elim is [
        | inl here ↦ subst (λ y. l.least ≤ y) (sym here.1) (transitive l.least (if nat_lt f.line known then f.line else known) f.line l.begin (lesser_right known f.line))
        | inr behind ↦ l.others x behind
      ];
    }
    by_test false right l passed = record {
      least = passed.least;
      is = rw right passed.is;
      among = elim passed.among [ inl e ↦ inl e | inr behind ↦ inr (inr behind) ];
      begin = passed.begin;
      others = λ x is. elim is [ inl here ↦ absurd (true≢false (sym here.0 ∙ right)) | inr behind ↦ passed.others x behind ];
    }

-- what is wrong, if anything is
abbrev pub IsLeastOf : List (TileAt × TileLine) → List FunctionRow → Option ℕ → Type 0
IsLeastOf tiles fs None = (x : ℕ) → IsWrongIn tiles fs x → ⊥
IsLeastOf tiles fs (Some least) = IsWrongIn tiles fs least × ((x : ℕ) → IsWrongIn tiles fs x → least ≤ x)

least_of_wrong : (tiles : List (TileAt × TileLine)) (fs : List FunctionRow) → IsLeastOf tiles fs (wrong_bits tiles None fs)
least_of_wrong tiles [] = λ x is. is
least_of_wrong tiles (f ∷ fs) = by_test (has_wrong_bits tiles f) refl (least_wrong tiles f.line fs) (least_of_wrong tiles fs)
  where
    passed : (o : Option ℕ) → has_wrong_bits tiles f ≡ false → IsLeastOf tiles fs o → IsLeastOf tiles (f ∷ fs) o
    passed None right none = λ x is. elim is [ inl here ↦ true≢false (sym here.0 ∙ right) | inr behind ↦ none x behind ]
    passed (Some least) right some = (inr some.0, λ x is. elim is [ inl here ↦ absurd (true≢false (sym here.0 ∙ right)) | inr behind ↦ some.1 x behind ])

    by_test : (b : Bool) → has_wrong_bits tiles f ≡ b → LeastWrong tiles f.line fs → IsLeastOf tiles fs (wrong_bits tiles None fs) → IsLeastOf tiles (f ∷ fs) (wrong_bits tiles None (f ∷ fs))
    by_test true wrong l none = rw (wrong, l.is) (
      elim l.among [ inl e ↦ inl (wrong, e) | inr behind ↦ inr behind ],
      λ x is. elim is [ inl here ↦ subst (λ y. l.least ≤ y) (sym here.1) l.begin | inr behind ↦ l.others x behind ],
    )
    by_test false right l rest = rw right (passed (wrong_bits tiles None fs) right rest)

-- ---- the law
any_kind : (parts : Parts) (kind : TileKind) → lacks_needed parts kind ≡ true → (lacks_needed parts Io || lacks_needed parts Logic || lacks_needed parts RamBottom || lacks_needed parts RamTop) ≡ true
any_kind parts Io is = ap (λ t. t || lacks_needed parts Logic || lacks_needed parts RamBottom || lacks_needed parts RamTop) is
any_kind parts Logic is =
    ap (λ t. t || lacks_needed parts RamBottom || lacks_needed parts RamTop) (ap (λ t. lacks_needed parts Io || t) is ∙ or_true (lacks_needed parts Io))
any_kind parts RamBottom is =
    ap (λ t. t || lacks_needed parts RamTop) (ap (λ t. lacks_needed parts Io || lacks_needed parts Logic || t) is ∙ or_true (lacks_needed parts Io || lacks_needed parts Logic))
any_kind parts RamTop is =
    ap (λ t. lacks_needed parts Io || lacks_needed parts Logic || lacks_needed parts RamBottom || t) is ∙ or_true (lacks_needed parts Io || lacks_needed parts Logic || lacks_needed parts RamBottom)

some_kind : (parts : Parts) → (lacks_needed parts Io || lacks_needed parts Logic || lacks_needed parts RamBottom || lacks_needed parts RamTop) ≡ true → Lacks parts
some_kind parts is = elim (or_cases (lacks_needed parts Io || lacks_needed parts Logic || lacks_needed parts RamBottom) (lacks_needed parts RamTop) is) [
  | inr top ↦ lacks_from parts RamTop top
  | inl others ↦ elim (or_cases (lacks_needed parts Io || lacks_needed parts Logic) (lacks_needed parts RamBottom) others) [
    | inr bottom ↦ lacks_from parts RamBottom bottom
    | inl first ↦ elim (or_cases (lacks_needed parts Io) (lacks_needed parts Logic) first) [
      | inl io ↦ lacks_from parts Io io
      | inr logic ↦ lacks_from parts Logic logic
    ]
  ]
]

to_law : (parts : Parts) (line : ℕ) → IsWrongIn parts.tiles parts.functions line → IsWrong parts line
to_law parts line is =
    let w = wrong_at parts.tiles parts.functions line is in
    record { front = w.front; function = w.function; rest = w.rest; stands = w.stands; wrong = w.wrong; on_line = w.on_line }

from_law : (parts : Parts) (line : ℕ) → IsWrong parts line → IsWrongIn parts.tiles parts.functions line
from_law parts line w = subst (λ fs. IsWrongIn parts.tiles fs line) (sym w.stands) (wrong_in parts.tiles w.front w.function w.rest line w.wrong w.on_line)

pub first_lack : (parts : Parts) → IsFirstLack parts (lacks_function parts)
first_lack parts = by_test (lacks_needed parts Io || lacks_needed parts Logic || lacks_needed parts RamBottom || lacks_needed parts RamTop) refl
  where
    told : (o : Option ℕ) → (Lacks parts → ⊥) → IsLeastOf parts.tiles parts.functions o → IsFirstLack parts o
    told None all none = (all, λ line w. none line (from_law parts line w))
    told (Some line) all some = inr (all, to_law parts line some.0, λ other w. some.1 other (from_law parts other w))

    by_test : (b : Bool) → (lacks_needed parts Io || lacks_needed parts Logic || lacks_needed parts RamBottom || lacks_needed parts RamTop) ≡ b → IsFirstLack parts (lacks_function parts)
    by_test true lacks = rw lacks (inl (some_kind parts lacks, refl))
    by_test false none = rw none (told (wrong_bits parts.tiles None parts.functions) (λ l. true≢false (sym (any_kind parts l.kind (lacks_to parts l)) ∙ none)) (least_of_wrong parts.tiles parts.functions))
