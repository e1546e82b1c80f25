-- The cell with a parameter that the reader takes is that with the parameter that the text says.
use Rattle.std.proofs.Common.{◌≡◌, ◌∙◌, ℕ, ◌^◌, ◌==◌, Bool, true, false, ◌&&◌, List, [], ◌∷◌, length, fold, nat_lt, nat_le, Option, Some, None, Result, Ok, IfOk, IfSome, if◌then◌else◌, codes, bytes_eq, refl, ap}
use Rattle.ice_base.specs.Text.{words}
use Rattle.ice_net.specs.declared.cell.Cell.{Cell}
use Rattle.ice_net.specs.declared.kind.CellKind.{CellKind}
use Rattle.ice_net.specs.declared.kind.CellKind.TheVariants.{Lut, Cover, Carry, Flop, PadCell, Global}
use Rattle.ice_blif.specs.declared.fault.BlifFault.{BlifFault}
use Rattle.ice_blif.specs.Gates.{with_param_digit}
use Rattle.ice_blif.specs.Parameters.{bits_from, read_value, bits_say, standard_says, is_digit}
use Rattle.ice_blif.specs.State.{LastCell, Nothing, Gate, Memory, Rows, with_kind}
use Rattle.ice_blif.specs.Cells.{◌>>=◌, lut_says, pad_says, kind_says, memory_says, param_says}
use Rattle.ice_blif.proofs.Kept.{bind_keeps, any_ok}
use Rattle.ice_blif_laws.specs.NetlistText.{kind_with, param_joins}

-- ---- parameters
digits_said : (limit : ℕ) (digits : List ℕ) (n : ℕ) → IfSome (bits_from limit n digits) (λ (m : ℕ). fold with_param_digit n digits ≡ m)
digits_said limit [] n = refl
digits_said limit (digit ∷ digits) n = by (is_digit digit && nat_lt (with_param_digit n digit) limit) (digits_said limit digits (with_param_digit n digit))
  where
    by : (b : Bool) → IfSome (bits_from limit (with_param_digit n digit) digits) (λ (m : ℕ). fold with_param_digit (with_param_digit n digit) digits ≡ m)
        → IfSome (if b then bits_from limit (with_param_digit n digit) digits else None) (λ (m : ℕ). fold with_param_digit n (digit ∷ digits) ≡ m)
    by true rest = rest
    by false rest = tt

value_said : (line limit : ℕ) (word : List ℕ) → IfOk (bits_say line limit (word ∷ [])) (λ (m : ℕ). fold with_param_digit 0 word ≡ m)
value_said line limit word = short (nat_le 1 (length word) && nat_le (length word) 128)
  where
    known : (o : Option ℕ) → IfSome o (λ (m : ℕ). fold with_param_digit 0 word ≡ m) → IfOk (read_value line o) (λ (m : ℕ). fold with_param_digit 0 word ≡ m)
    known None is = tt
    known (Some n) is = is

    short : (b : Bool) → IfOk (read_value line (if b then bits_from limit 0 word else None)) (λ (m : ℕ). fold with_param_digit 0 word ≡ m)
    short true = known (bits_from limit 0 word) (digits_said limit word 0)
    short false = tt

-- the kind with the parameter of a line
abbrev kind_joins : CellKind → List ℕ → List (List ℕ) → CellKind
kind_joins kind name (value ∷ []) = kind_with kind name (fold with_param_digit 0 value)
kind_joins kind name words = kind

abbrev KindSaid : CellKind → List ℕ → List (List ℕ) → CellKind → Type 0
KindSaid before name words kind = kind_joins before name words ≡ kind

lut_said : (line table : ℕ) (name : List ℕ) (values : List (List ℕ)) → IfOk (lut_says line table name values) (KindSaid (Lut table) name values)
lut_said line table name [] = by (bytes_eq name (codes "LUT_INIT"))
  where
    by : (b : Bool) → IfOk (if b then bits_say line (2 ^ 16) [] >>= (λ n. Ok (Lut n)) else Ok (Lut table)) (KindSaid (Lut table) name [])
    by true = tt
    by false = refl
lut_said line table name (value ∷ []) = by (bytes_eq name (codes "LUT_INIT")) refl
  where
    by : (b : Bool) → bytes_eq name (codes "LUT_INIT") ≡ b → IfOk (if b then bits_say line (2 ^ 16) (value ∷ []) >>= (λ n. Ok (Lut n)) else Ok (Lut table)) (KindSaid (Lut table) name (value ∷ []))
    by true e = bind_keeps (λ (m : ℕ). fold with_param_digit 0 value ≡ m) (KindSaid (Lut table) name (value ∷ [])) (bits_say line (2 ^ 16) (value ∷ [])) (λ n. Ok (Lut n)) (value_said line (2 ^ 16) value) (λ n one. rw e (ap (λ (m : ℕ). Lut m) one))
    by false e = rw e refl
lut_said line table name (v ∷ w ∷ values) = by (bytes_eq name (codes "LUT_INIT"))
  where
    by : (b : Bool) → IfOk (if b then bits_say line (2 ^ 16) (v ∷ w ∷ values) >>= (λ n. Ok (Lut n)) else Ok (Lut table)) (KindSaid (Lut table) name (v ∷ w ∷ values))
    by true = tt
    by false = refl

module _ (line pin_type : ℕ) (pullup : Bool) (name : List ℕ) where
  -- what the parameters of a pad say, by the names' tests
  abbrev by_tests : (a b c d : Bool) → List (List ℕ) → Result CellKind BlifFault
  by_tests a b c d values =
      if a then bits_say line (2 ^ 6) values >>= (λ n. Ok (PadCell n pullup))
      else (if b then bits_say line (2 ^ 1) values >>= (λ n. Ok (PadCell pin_type (n == 1)))
      else (if c then bits_say line (2 ^ 0) values >>= (λ n. Ok (PadCell pin_type pullup))
      else (if d then standard_says line values >>= (λ allowed. Ok (PadCell pin_type pullup))
      else Ok (PadCell pin_type pullup))))

  none_said : (a b c d : Bool) → IfOk (by_tests a b c d []) (KindSaid (PadCell pin_type pullup) name [])
  none_said true b c d = tt
  none_said false true c d = tt
  none_said false false true d = tt
  none_said false false false true = tt
  none_said false false false false = refl

  many_said : (v w : List ℕ) (values : List (List ℕ)) (a b c d : Bool) → IfOk (by_tests a b c d (v ∷ w ∷ values)) (KindSaid (PadCell pin_type pullup) name (v ∷ w ∷ values))
  many_said v w values true b c d = tt
  many_said v w values false true c d = tt
  many_said v w values false false true d = tt
  many_said v w values false false false true = tt
  many_said v w values false false false false = refl

  one_said : (value : List ℕ) (a b c d : Bool) → bytes_eq name (codes "PIN_TYPE") ≡ a → bytes_eq name (codes "PULLUP") ≡ b → IfOk (by_tests a b c d (value ∷ [])) (KindSaid (PadCell pin_type pullup) name (value ∷ []))
  one_said value true b c d e f =
      bind_keeps (λ (m : ℕ). fold with_param_digit 0 value ≡ m) (KindSaid (PadCell pin_type pullup) name (value ∷ [])) (bits_say line (2 ^ 6) (value ∷ [])) (λ n. Ok (PadCell n pullup)) (value_said line (2 ^ 6) value)
      (λ n one. rw e (ap (λ (m : ℕ). PadCell m pullup) one))
  one_said value false true c d e f =
      bind_keeps (λ (m : ℕ). fold with_param_digit 0 value ≡ m) (KindSaid (PadCell pin_type pullup) name (value ∷ [])) (bits_say line (2 ^ 1) (value ∷ [])) (λ n. Ok (PadCell pin_type (n == 1))) (value_said line (2 ^ 1) value)
      (λ n one. rw e (rw f (ap (λ (m : ℕ). PadCell pin_type (m == 1)) one)))
  one_said value false false true d e f =
      bind_keeps (λ (m : ℕ). Unit {0}) (KindSaid (PadCell pin_type pullup) name (value ∷ [])) (bits_say line (2 ^ 0) (value ∷ [])) (λ n. Ok (PadCell pin_type pullup)) (any_ok (bits_say line (2 ^ 0) (value ∷ []))) (λ n one. rw e (rw f refl))
  one_said value false false false true e f =
      bind_keeps (λ (m : Bool). Unit {0}) (KindSaid (PadCell pin_type pullup) name (value ∷ [])) (standard_says line (value ∷ [])) (λ allowed. Ok (PadCell pin_type pullup)) (any_ok (standard_says line (value ∷ []))) (λ allowed one. rw e (rw f refl))
  one_said value false false false false e f = rw e (rw f refl)

  pad_said : (values : List (List ℕ)) → IfOk (pad_says line pin_type pullup name values) (KindSaid (PadCell pin_type pullup) name values)
  pad_said [] = none_said (bytes_eq name (codes "PIN_TYPE")) (bytes_eq name (codes "PULLUP")) (bytes_eq name (codes "NEG_TRIGGER")) (bytes_eq name (codes "IO_STANDARD"))
  pad_said (value ∷ []) = one_said value (bytes_eq name (codes "PIN_TYPE")) (bytes_eq name (codes "PULLUP")) (bytes_eq name (codes "NEG_TRIGGER")) (bytes_eq name (codes "IO_STANDARD")) refl refl
  pad_said (v ∷ w ∷ values) = many_said v w values (bytes_eq name (codes "PIN_TYPE")) (bytes_eq name (codes "PULLUP")) (bytes_eq name (codes "NEG_TRIGGER")) (bytes_eq name (codes "IO_STANDARD"))

-- kinds without parameters
abbrev IsPlain : CellKind → Type 0
IsPlain kind = (name : List ℕ) (value : ℕ) → kind_with kind name value ≡ kind

plain_said : (kind : CellKind) (name : List ℕ) (values : List (List ℕ)) → IsPlain kind → kind_joins kind name values ≡ kind
plain_said kind name [] plain = refl
plain_said kind name (value ∷ []) plain = plain name (fold with_param_digit 0 value)
plain_said kind name (v ∷ w ∷ values) plain = refl

kind_said : (line : ℕ) (kind : CellKind) (name : List ℕ) (values : List (List ℕ)) → IfOk (kind_says line kind name values) (KindSaid kind name values)
kind_said line (Lut table) name values = lut_said line table name values
kind_said line (PadCell pin_type pullup) name values = pad_said line pin_type pullup name values
kind_said line (Cover table width) name values = plain_said (Cover table width) name values (λ word value. refl)
kind_said line Carry name values = plain_said Carry name values (λ word value. refl)
kind_said line (Flop falling enable reset) name values = plain_said (Flop falling enable reset) name values (λ word value. refl)
kind_said line Global name values = plain_said Global name values (λ word value. refl)

with_kind_joined : (cell : Cell) (name : List ℕ) (values : List (List ℕ)) → param_joins (Gate cell) (name ∷ values) ≡ Gate (with_kind cell (kind_joins cell.kind name values))
with_kind_joined cell name [] = refl
with_kind_joined cell name (value ∷ []) = refl
with_kind_joined cell name (v ∷ w ∷ values) = refl

pub param_said : (line : ℕ) (last : LastCell) (ws : List (List ℕ)) → IfOk (param_says line last ws) (λ (k : LastCell). param_joins last ws ≡ k)
param_said line Nothing [] = refl
param_said line Nothing (name ∷ values) = refl
param_said line Memory [] = refl
param_said line Memory (name ∷ values) =
    bind_keeps (λ (good : Bool). Unit {0}) (λ (k : LastCell). param_joins Memory (name ∷ values) ≡ k) (memory_says line name values) (λ good. Ok Memory) (any_ok (memory_says line name values)) (λ good one. refl)
param_said line (Rows cover) [] = refl
param_said line (Rows cover) (name ∷ values) = refl
param_said line (Gate cell) [] = refl
param_said line (Gate cell) (name ∷ values) =
    bind_keeps (KindSaid cell.kind name values) (λ (k : LastCell). param_joins (Gate cell) (name ∷ values) ≡ k) (kind_says line cell.kind name values) (λ kind. Ok (Gate (with_kind cell kind))) (kind_said line cell.kind name values)
    (λ kind one. with_kind_joined cell name values ∙ ap (λ (k : CellKind). Gate (with_kind cell k)) one)
