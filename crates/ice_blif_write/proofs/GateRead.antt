-- The first line of a gate is read as its cell.
use Rattle.std.proofs.Common.{◌≡◌, ◌≢◌, ℕ, ◌+◌, ◌<◌, ◌≤◌, ◌==◌, ◌||◌, zero, suc, Bool, true, false, not, Option, Some, None, Ok, Err, List, [], ◌∷◌, ◌++◌, length, map, take, drop, slice_set, slice_index_or, nat_lt, nat_le, if◌then◌else◌, codes, bytes_eq, refl, sym, ap, ◌∙◌, subst, append-nil, append_assoc, length-append, arith, rules, tests}
use Rattle.std.specs.List.{position_or_len, list_all}
use Rattle.std.proofs.lemmas.Bool.{and_parts}
use Rattle.std.proofs.Math.Seq.{drop-append_seam, take-append_seam, get_or-append_seam, set-append_seam}
use Rattle.ice_base.specs.declared.number.SignalNo.{SignalNo}
use Rattle.ice_base.specs.Lists.{with_name, number_of_name}
use Rattle.ice_base.proofs.Keys.{bytes_same}
use Rattle.ice_net.specs.declared.kind.CellKind.{CellKind}
use Rattle.ice_net.specs.declared.kind.CellKind.TheVariants.{Lut, Cover, Carry, Flop, PadCell, Global}
use Rattle.ice_net.specs.declared.kind.Reset.{Reset}
use Rattle.ice_net.specs.declared.kind.Reset.TheVariants.{Nothing, SyncReset, AsyncReset, SyncSet, AsyncSet}
use Rattle.ice_net.specs.Kinds.{port_place, ins_count}
use Rattle.ice_net.specs.Formed.{IsGateKind}
use Rattle.ice_net.specs.NetlistData.{NetlistData}
use Rattle.ice_blif.specs.Cells.{◌>>=◌}
use Rattle.ice_blif.specs.Gates.{plain_gate, gate_kind_of}
use Rattle.ice_blif.specs.State.{named, signal_of}
use Rattle.ice_blif.specs.Reading.{Connections}
use Rattle.ice_blif.specs.Grammar.{no_wiring, wired, is_missing, connect, connect_at, connect_by, equals_at, connection_says, connections_say}
use Rattle.ice_blif.specs.declared.fault.BlifFault.TheVariants.{PortTwice}
use Rattle.ice_blif.specs.Formals.{of_gate}
use Rattle.ice_blif_write.specs.RoundTrip.{IsName, named_signal}
use Rattle.ice_blif_write.specs.Text.{name_of, connections, port_names, kind_word}
use Rattle.ice_blif_write.proofs.NamesRead.{Grows, grows_same, grows_more, grows_name, Know, know_later, know_more, know_name}

-- ---- a word FORMAL=ACTUAL
equals_behind : (formal actual : List ℕ) → list_all (λ b. not (b == 61)) formal ≡ true → position_or_len (λ b. b == 61) (formal ++ 61 ∷ actual) ≡ length formal
equals_behind [] actual h = refl
equals_behind (b ∷ formal) actual h =
    let both = and_parts (not (b == 61)) (list_all (λ c. not (c == 61)) formal) h in
    ap (λ t. if t then 1 + position_or_len (λ c. c == 61) (formal ++ 61 ∷ actual) else 0) both.0
    ∙ ap (λ n. 1 + n) (equals_behind formal actual both.1) ∙ (let e : 1 + length formal ≡ suc (length formal) = omega arith in e)

formal_ends : (formal actual : List ℕ) → list_all (λ b. not (b == 61)) formal ≡ true → equals_at (formal ++ 61 ∷ actual) ≡ Some (length formal)
unfolding equals_at
formal_ends formal actual h =
    let at : position_or_len (λ b. b == 61) (formal ++ 61 ∷ actual) ≡ length formal = equals_behind formal actual h in
    let long : length (formal ++ 61 ∷ actual) ≡ length formal + suc (length actual) = length-append formal (61 ∷ actual) in
    let within : nat_lt (length formal) (length (formal ++ 61 ∷ actual)) ≡ true = (let lt : length formal < length (formal ++ 61 ∷ actual) = omega (arith, long) in search (rules, tests)) in
    ap (λ n. if nat_lt n (length (formal ++ 61 ∷ actual)) then Some n else None) at ∙ ap (λ t. if t then Some (length formal) else None) within

actual_behind : (formal actual : List ℕ) → drop (length formal + 1) (formal ++ 61 ∷ actual) ≡ actual
actual_behind formal actual =
    ap (λ xs. drop (length formal + 1) xs) (sym (append_assoc formal (61 ∷ []) actual))
    ∙ ap (λ n. drop n ((formal ++ 61 ∷ []) ++ actual)) (sym (length-append formal (61 ∷ [])))
    ∙ drop-append_seam (formal ++ 61 ∷ []) actual

-- ---- the places of names
-- the names have the places from k on, and no `=`
abbrev pub ArePlaced : CellKind → ℕ → List (List ℕ) → Type 0
ArePlaced kind k [] = Unit {0}
ArePlaced kind k (formal ∷ formals) = (port_place kind formal ≡ Some k) × (list_all (λ b. not (b == 61)) formal ≡ true) × ArePlaced kind (suc k) formals

pub placed : (kind : CellKind) → IsGateKind kind → ArePlaced kind 0 (port_names kind)
placed (Lut table) h = (refl, refl, (refl, refl, (refl, refl, (refl, refl, (refl, refl, tt)))))
placed (Cover table width) h = absurd h
placed Carry h = (refl, refl, (refl, refl, (refl, refl, (refl, refl, tt))))
placed (Flop falling enable reset) h = flop falling enable reset
  where
    flop : (falling enable : Bool) (reset : Reset) → ArePlaced (Flop falling enable reset) 0 (port_names (Flop falling enable reset))
    flop falling true Nothing = (refl, refl, (refl, refl, (refl, refl, (refl, refl, tt))))
    flop falling true SyncReset = (refl, refl, (refl, refl, (refl, refl, (refl, refl, (refl, refl, tt)))))
    flop falling true AsyncReset = (refl, refl, (refl, refl, (refl, refl, (refl, refl, (refl, refl, tt)))))
    flop falling true SyncSet = (refl, refl, (refl, refl, (refl, refl, (refl, refl, (refl, refl, tt)))))
    flop falling true AsyncSet = (refl, refl, (refl, refl, (refl, refl, (refl, refl, (refl, refl, tt)))))
    flop falling false Nothing = (refl, refl, (refl, refl, (refl, refl, tt)))
    flop falling false SyncReset = (refl, refl, (refl, refl, (refl, refl, (refl, refl, tt))))
    flop falling false AsyncReset = (refl, refl, (refl, refl, (refl, refl, (refl, refl, tt))))
    flop falling false SyncSet = (refl, refl, (refl, refl, (refl, refl, (refl, refl, tt))))
    flop falling false AsyncSet = (refl, refl, (refl, refl, (refl, refl, (refl, refl, tt))))
placed (PadCell pin_type pullup) h = (refl, refl, (refl, refl, (refl, refl, (refl, refl, (refl, refl, (refl, refl, (refl, refl, (refl, refl, (refl, refl, (refl, refl, tt))))))))))
placed Global h = (refl, refl, (refl, refl, tt))

-- ---- the word of a kind
-- a kind without its parameters
abbrev pub bare : CellKind → CellKind
bare (Lut table) = Lut 0
bare (Cover table width) = Cover table width
bare Carry = Carry
bare (Flop falling enable reset) = Flop falling enable reset
bare (PadCell pin_type pullup) = PadCell 0 false
bare Global = Global

pub kind_read : (kind : CellKind) → IsGateKind kind → gate_kind_of (kind_word kind) ≡ Some (plain_gate (bare kind))
kind_read (Lut table) h = refl
kind_read (Cover table width) h = absurd h
kind_read Carry h = refl
kind_read (Flop falling enable reset) h = flop falling enable reset
  where
    flop : (falling enable : Bool) (reset : Reset) → gate_kind_of (kind_word (Flop falling enable reset)) ≡ Some (plain_gate (Flop falling enable reset))
    flop true true Nothing = refl
    flop true true SyncReset = refl
    flop true true AsyncReset = refl
    flop true true SyncSet = refl
    flop true true AsyncSet = refl
    flop true false Nothing = refl
    flop true false SyncReset = refl
    flop true false AsyncReset = refl
    flop true false SyncSet = refl
    flop true false AsyncSet = refl
    flop false true Nothing = refl
    flop false true SyncReset = refl
    flop false true AsyncReset = refl
    flop false true SyncSet = refl
    flop false true AsyncSet = refl
    flop false false Nothing = refl
    flop false false SyncReset = refl
    flop false false AsyncReset = refl
    flop false false SyncSet = refl
    flop false false AsyncSet = refl
kind_read (PadCell pin_type pullup) h = refl
kind_read Global h = refl

-- ---- connections
abbrev pub nones : ℕ → List (Option SignalNo)
nones zero = []
nones (suc k) = None ∷ nones k

abbrev pub frees : ℕ → List Bool
frees zero = []
frees (suc k) = false ∷ frees k

-- the first places are connected to these signals, so many places are left, and no port was named twice
pub record IsWired (names read : List (List ℕ)) (w : Connections) (done : List (Option SignalNo)) (left : ℕ) : Type 0 where
  pub front : List (Option SignalNo)
  pub flags : List Bool
  pub signals : w.signals ≡ front ++ nones left
  pub taken : w.taken ≡ flags ++ frees left
  pub long : length front ≡ length done
  pub wide : length flags ≡ length done
  pub know : Know read front (map (named_signal names) done)
  pub twice : w.twice ≡ false

pub none_wired : (names read : List (List ℕ)) → IsWired names read no_wiring [] 76
none_wired names read = record { front = []; flags = []; signals = refl; taken = refl; long = refl; wide = refl; know = λ later. refl; twice = refl }

push_at : {X : Type 0} (front : List X) (old new : X) (rest : List X) (k : ℕ) → length front ≡ k → slice_set (front ++ old ∷ rest) k new ≡ (front ++ new ∷ []) ++ rest
push_at front old new rest k long =
    ap (λ n. slice_set (front ++ old ∷ rest) n new) (sym long) ∙ set-append_seam front old rest new ∙ sym (append_assoc front (new ∷ []) rest)

skip_at : {X : Type 0} (front : List X) (old : X) (rest : List X) → front ++ old ∷ rest ≡ (front ++ old ∷ []) ++ rest
skip_at front old rest = sym (append_assoc front (old ∷ []) rest)

longer : {X Y : Type 0} (xs : List X) (ys : List Y) (x : X) (y : Y) → length xs ≡ length ys → length (xs ++ x ∷ []) ≡ length (ys ++ y ∷ [])
longer xs ys x y e = length-append xs (x ∷ []) ∙ ap (λ n. n + 1) e ∙ sym (length-append ys (y ∷ []))

pub said_more : (names : List (List ℕ)) (done : List (Option SignalNo)) (signal : Option SignalNo) → map (named_signal names) done ++ named_signal names signal ∷ [] ≡ map (named_signal names) (done ++ signal ∷ [])
said_more names [] signal = refl
said_more names (s ∷ done) signal = ap (λ xs. named_signal names s ∷ xs) (said_more names done signal)

-- a port that is not connected
pass_wired : (names read : List (List ℕ)) (w : Connections) (done : List (Option SignalNo)) (left : ℕ) → IsWired names read w done (suc left) → IsWired names read w (done ++ None ∷ []) left
pass_wired names read w done left is = record {
  front = is.front ++ None ∷ [];
  flags = is.flags ++ false ∷ [];
  signals = is.signals ∙ skip_at is.front None (nones left);
  taken = is.taken ∙ skip_at is.flags false (frees left);
  long = longer is.front done None None is.long;
  wide = longer is.flags done false None is.wide;
  know = subst (λ said. Know read (is.front ++ None ∷ []) said) (said_more names done None) (know_more read is.front (map (named_signal names) done) None None is.know (λ later. refl));
  twice = is.twice;
}

-- a port that is connected
join_wired : (names read : List (List ℕ)) (w : Connections) (done : List (Option SignalNo)) (left place : ℕ) (signal : SignalNo) → IsWired names read w done (suc left) → length done ≡ place
    → IsWired names (with_name read (name_of names signal)) (wired w place (Some (record { 0 = number_of_name read (name_of names signal) }))) (done ++ Some signal ∷ []) left
join_wired names read w done left place signal is at =
    let name : List ℕ = name_of names signal in
    let new : Option SignalNo = Some (record { 0 = number_of_name read name }) in
    let later : Know (with_name read name) is.front (map (named_signal names) done) = know_later read (with_name read name) is.front (map (named_signal names) done) (grows_name read name) is.know in
    record {
      front = is.front ++ new ∷ [];
      flags = is.flags ++ true ∷ [];
      signals = ap (λ ss. slice_set ss place new) is.signals ∙ push_at is.front None new (nones left) place (is.long ∙ at);
      taken = ap (λ ts. slice_set ts place true) is.taken ∙ push_at is.flags false true (frees left) place (is.wide ∙ at);
      long = longer is.front done new (Some signal) is.long;
      wide = longer is.flags done true (Some signal) is.wide;
      know = subst (λ said. Know (with_name read name) (is.front ++ new ∷ []) said) (said_more names done (Some signal))
          (know_more (with_name read name) is.front (map (named_signal names) done) new (Some name) later (know_name read name));
      twice = ap (λ t. t || slice_index_or w.taken place false) is.twice ∙ ap (λ ts. slice_index_or ts place false) is.taken ∙ ap (λ n. slice_index_or (is.flags ++ false ∷ frees left) n false) (sym (is.wide ∙ at))
          ∙ get_or-append_seam is.flags false (frees left) false;
    }

-- an actual that appears
appears : (output : Bool) (name : List ℕ) → IsName name → (output ≡ true → name ≢ codes "$undef") → is_missing output name ≡ false
appears output [] h defined = absurd (let some = h.word.0 in omega arith)
appears false (b ∷ name) h defined = refl
appears true (b ∷ name) h defined = by (bytes_eq (b ∷ name) (codes "$undef")) refl
  where
    by : (t : Bool) → bytes_eq (b ∷ name) (codes "$undef") ≡ t → t ≡ false
    by true e = absurd (defined refl (bytes_same (b ∷ name) (codes "$undef") e))
    by false e = refl

-- what is read of a gate's signals: names appear, and ports and cells stay
pub record AreRead (names : List (List ℕ)) (n : NetlistData) (done : List (Option SignalNo)) (left : ℕ) (c : NetlistData × Connections) : Type 0 where
  pub grows : Grows n.names c.0.names
  pub ports : c.0.ports ≡ n.ports
  pub cells : c.0.cells ≡ n.cells
  pub wired : IsWired names c.0.names c.1 done left

-- a signal that can be written at this place of a kind
pub record IsActual (names : List (List ℕ)) (output : Bool) (signal : SignalNo) : Type 0 where
  pub name : IsName (name_of names signal)
  pub defined : output ≡ true → name_of names signal ≢ codes "$undef"

abbrev pub MayBeActual : List (List ℕ) → Bool → Option SignalNo → Type 0
MayBeActual names output None = Unit {0}
MayBeActual names output (Some signal) = IsActual names output signal

-- signals at the places from k on
abbrev pub AreActuals : List (List ℕ) → CellKind → ℕ → List (Option SignalNo) → Type 0
AreActuals names kind k [] = Unit {0}
AreActuals names kind k (signal ∷ signals) = MayBeActual names (nat_le (ins_count kind) k) signal × AreActuals names kind (suc k) signals

connected : (line : ℕ) (kind : CellKind) (n : NetlistData) (w : Connections) (formal actual : List ℕ) (place : ℕ) → list_all (λ b. not (b == 61)) formal ≡ true → port_place kind formal ≡ Some place
    → connection_says line (of_gate (plain_gate kind)) n w (formal ++ 61 ∷ actual) ≡ Ok (connect n w place (nat_le (ins_count kind) place) actual)
connected line kind n w formal actual place plain at =
    ap (connect_by line (of_gate (plain_gate kind)) n w (formal ++ 61 ∷ actual)) (formal_ends formal actual plain)
    ∙ ap (λ a. connect_at line (of_gate (plain_gate kind)) n w a (port_place kind (take (length formal) (formal ++ 61 ∷ actual)))) (actual_behind formal actual)
    ∙ ap (λ f. connect_at line (of_gate (plain_gate kind)) n w actual (port_place kind f)) (take-append_seam formal (61 ∷ actual))
    ∙ ap (connect_at line (of_gate (plain_gate kind)) n w actual) at

named_connect : (n : NetlistData) (w : Connections) (place : ℕ) (output : Bool) (actual : List ℕ) → is_missing output actual ≡ false
    → connect n w place output actual ≡ (named n actual, wired w place (Some (signal_of n actual)))
named_connect n w place output actual e = ap (λ (b : Bool). (if b then n else named n actual, wired w place (if b then None else Some (signal_of n actual)))) e

-- all signals of a gate
pub signals_read : (names : List (List ℕ)) (line : ℕ) (kind : CellKind) (n : NetlistData) (w : Connections) (done signals : List (Option SignalNo)) (place left : ℕ) (formals : List (List ℕ))
    → ArePlaced kind place formals → length signals ≡ length formals → length done ≡ place → length signals ≤ left → AreActuals names kind place signals → IsWired names n.names w done left
    → (c : NetlistData × Connections) × (rest : ℕ) × (connections_say line (of_gate (plain_gate kind)) n w (connections names formals signals) ≡ Ok c) × AreRead names n (done ++ signals) rest c
signals_read names line kind n w done [] place left [] is same at fits are wiring = (
  (n, w),
  left,
  ap (λ t. if t then Err (PortTwice line) else Ok (n, w)) wiring.twice,
  record {
    grows = grows_same n.names;
    ports = refl;
    cells = refl;
    wired = subst (λ (ds : List (Option SignalNo)). IsWired names n.names w ds left) (sym (append-nil done)) wiring;
  },
)
signals_read names line kind n w done [] place left (formal ∷ formals) is same at fits are wiring = absurd (omega arith)
signals_read names line kind n w done (signal ∷ signals) place left [] is same at fits are wiring = absurd (omega arith)
signals_read names line kind n w done (signal ∷ signals) place zero (formal ∷ formals) is same at fits are wiring = absurd (omega arith)
signals_read names line kind n w done (None ∷ signals) place (suc left) (formal ∷ formals) is same at fits are wiring =
    let later = signals_read names line kind n w (done ++ None ∷ []) signals (suc place) left formals is.2 (omega arith) (length-append done (None ∷ []) ∙ omega arith) (omega arith) are.1 (pass_wired names n.names w done left wiring) in
    (later.0, later.1, later.2, subst (λ (ds : List (Option SignalNo)). AreRead names n ds later.1 later.0) (append_assoc done (None ∷ []) signals) later.3)
signals_read names line kind n w done (Some signal ∷ signals) place (suc left) (formal ∷ formals) is same at fits are wiring =
    let name : List ℕ = name_of names signal in
    let m : NetlistData = named n name in
    let v : Connections = wired w place (Some (signal_of n name)) in
    let later = signals_read names line kind m v (done ++ Some signal ∷ []) signals (suc place) left formals is.2 (omega arith) (length-append done (Some signal ∷ []) ∙ omega arith) (omega arith) are.1
    (join_wired names n.names w done left place signal wiring at) in
    let first : connection_says line (of_gate (plain_gate kind)) n w (formal ++ 61 ∷ name) ≡ Ok (m, v) =
    connected line kind n w formal name place is.1 is.0
    ∙ ap Ok (named_connect n w place (nat_le (ins_count kind) place) name (appears (nat_le (ins_count kind) place) name are.0.name are.0.defined)) in
    let read : AreRead names m ((done ++ Some signal ∷ []) ++ signals) later.1 later.0 = later.3 in (
      later.0,
      later.1,
      ap (λ r. r >>= (λ c. connections_say line (of_gate (plain_gate kind)) c.0 c.1 (connections names formals signals))) first ∙ later.2,
      record {
        grows = grows_more n.names (with_name n.names name) later.0.0.names (grows_name n.names name) read.grows;
        ports = read.ports;
        cells = read.cells;
        wired = subst (λ (ds : List (Option SignalNo)). IsWired names later.0.0.names later.0.1 ds later.1) (append_assoc done (Some signal ∷ []) signals) read.wired;
      },
    )
