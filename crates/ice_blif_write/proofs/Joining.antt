-- Texts that are written piece by piece.
use Rattle.std.proofs.Common.{◌≡◌, ℕ, ◌+◌, ◌-◌, ◌/◌, ◌%◌, ◌^◌, ◌<◌, ◌≤◌, ◌==◌, zero, suc, Bool, true, false, Option, Some, List, All, [], ◌∷◌, ◌++◌, length, map, take, drop, get_or, slice_get, if◌then◌else◌, codes, refl, sym, ap, subst, ◌∙◌, append-nil, append_assoc, arith}
use Rattle.std.specs.List.{flat_map}
use Rattle.std.proofs.lemmas.Grind.{flat_map-append}
use Rattle.std.proofs.lemmas.List.{map-append, take_more, drop_all, get_or_default}
use Rattle.std.proofs.Math.Seq.{drop-cons}
use Rattle.ice_base.specs.declared.number.SignalNo.{SignalNo}
use Rattle.ice_base.specs.Lines.{text_of_lines}
use Rattle.ice_net.specs.declared.cell.Cell.{Cell}
use Rattle.ice_net.specs.declared.kind.CellKind.{CellKind}
use Rattle.ice_net.specs.declared.kind.CellKind.TheVariants.{Lut, Cover, Carry, Flop, PadCell, Global}
use Rattle.ice_net.specs.declared.port.Port.{Port}
use Rattle.ice_net.specs.Formed.{IsBelow, IsPortBelow}
use Rattle.ice_net.specs.NetlistData.{NetlistData}
use Rattle.ice_blif_write.specs.Text.{Words, behind_space, ends_in, guarded, line_of, signal_words, connection, connections, port_names, kind_word, gate_line, digit_of, digits_of, levels_of, row_line, entry_lines, rows_from, first_line, port_lines_by, port_lines, cell_lines, blif_text}
use Rattle.ice_blif_write.proofs.WrittenLines.{ends_behind}

-- ---- the end of a line
pub last_ends : (line : List ℕ) (x : ℕ) → Some x ≡ slice_get line (length line - 1) → (x == 92) ≡ ends_in 92 line
last_ends [] x e = absurd (cc)
last_ends (c ∷ []) x e = let is : x ≡ c = cc in ap (λ y. y == 92) is
last_ends (c ∷ d ∷ line) x e =
    last_ends (d ∷ line) x (e ∙ ap (λ n. slice_get (c ∷ d ∷ line) n) (let e : suc (suc (length line)) - 1 ≡ suc (length line) = omega arith in e)
    ∙ ap (λ n. slice_get (d ∷ line) n) (let e : length line ≡ suc (length line) - 1 = omega arith in e))

guarded_behind : (old : List ℕ) (b : ℕ) (line : List ℕ) → guarded (old ++ b ∷ line) ≡ old ++ guarded (b ∷ line)
guarded_behind old b line = ap (λ t. if t then (old ++ b ∷ line) ++ 32 ∷ 35 ∷ [] else old ++ b ∷ line) (ends_behind 92 old b line) ∙ by (ends_in 92 (b ∷ line))
  where
    by : (t : Bool) → (if t then (old ++ b ∷ line) ++ 32 ∷ 35 ∷ [] else old ++ b ∷ line) ≡ old ++ (if t then (b ∷ line) ++ 32 ∷ 35 ∷ [] else b ∷ line)
    by true = append_assoc old (b ∷ line) (32 ∷ 35 ∷ [])
    by false = refl

-- the text of lines of words
abbrev pub text_of : List Words → List ℕ
text_of wss = text_of_lines (map line_of wss)

-- a line is ended
pub line_ended : (old out new : List ℕ) (b : ℕ) (first : List ℕ) (others : List (List ℕ)) → out ≡ old ++ ((b ∷ first) ++ flat_map behind_space others) → new ≡ guarded out ++ 10 ∷ []
    → new ≡ old ++ text_of ((b ∷ first, others) ∷ [])
line_ended old out new b first others is ended =
    ended ∙ ap (λ text. guarded text ++ 10 ∷ []) is ∙ ap (λ text. text ++ 10 ∷ []) (guarded_behind old b (first ++ flat_map behind_space others))
    ∙ append_assoc old (line_of (b ∷ first, others)) (10 ∷ []) ∙ ap (λ text. old ++ text) (sym (append-nil (line_of (b ∷ first, others) ++ 10 ∷ [])))

pub line_of_two : (old a out new : List ℕ) (first word : List ℕ) → 0 < length first → a ≡ old ++ first → out ≡ a ++ behind_space word → new ≡ guarded out ++ 10 ∷ []
    → new ≡ old ++ text_of ((first, word ∷ []) ∷ [])
line_of_two old a out new [] word some begun put ended = absurd (omega arith)
line_of_two old a out new (b ∷ first) word some begun put ended =
    line_ended old out new b first (word ∷ []) (put ∙ ap (λ text. text ++ behind_space word) begun ∙ append_assoc old (b ∷ first) (behind_space word)
    ∙ ap (λ text. old ++ ((b ∷ first) ++ text)) (sym (append-nil (behind_space word)))) ended

-- ---- lines behind other lines
pub joined : (old : List ℕ) (xs ys : List Words) → (old ++ text_of xs) ++ text_of ys ≡ old ++ text_of (xs ++ ys)
joined old xs ys =
    append_assoc old (text_of xs) (text_of ys)
    ∙ ap (λ text. old ++ text) (sym (flat_map-append (λ (line : List ℕ). line ++ 10 ∷ []) (map line_of xs) (map line_of ys)) ∙ ap text_of_lines (sym (map-append line_of xs ys)))

pub both_joined : (old mid new : List ℕ) (xs ys : List Words) → mid ≡ old ++ text_of xs → new ≡ mid ++ text_of ys → new ≡ old ++ text_of (xs ++ ys)
both_joined old mid new xs ys first second = second ∙ ap (λ text. text ++ text_of ys) first ∙ joined old xs ys

-- the lines of one item more
pub item_more : {X : Type 0} (f : X → List Words) (xs : List X) (i : ℕ) (d : X) (old out new : List ℕ) → i < length xs → out ≡ old ++ text_of (flat_map f (take i xs)) → new ≡ out ++ text_of (f (get_or xs i d))
    → new ≡ old ++ text_of (flat_map f (take (i + 1) xs))
item_more f xs i d old out new lt so_far put =
    both_joined old out new (flat_map f (take i xs)) (f (get_or xs i d)) so_far put
    ∙ ap (λ ls. old ++ text_of ls)
    (ap (λ ls. flat_map f (take i xs) ++ ls) (sym (append-nil (f (get_or xs i d)))) ∙ sym (flat_map-append f (take i xs) (get_or xs i d ∷ [])) ∙ ap (flat_map f) (sym (take_more xs i d lt)))

-- the lines of one port more, where `name` is that of its signal
pub port_more : (names : List (List ℕ)) (ports : List Port) (i : ℕ) (d : Port) (name old out new : List ℕ) → i < length ports → All (IsPortBelow (length names)) ports
    → name ≡ get_or names (get_or ports i d).signal.0 name → out ≡ old ++ text_of (flat_map (port_lines names) (take i ports))
    → new ≡ out ++ text_of (port_lines_by name (get_or ports i d).way) → new ≡ old ++ text_of (flat_map (port_lines names) (take (i + 1) ports))
port_more names ports i d name old out new lt below is so_far put =
    let port : Port = get_or ports i d in
    item_more (port_lines names) ports i d old out new lt so_far
    (put ∙ ap (λ text. out ++ text_of (port_lines_by text port.way)) (is ∙ get_or_default names port.signal.0 name [] (below i d lt)))

-- ---- digits
pub digits_step : (left n : ℕ) → 0 < left → digits_of left n ≡ digit_of (n / 2 ^ (left - 1) % 2) ∷ digits_of (left - 1) n
digits_step zero n some = absurd (omega arith)
digits_step (suc left) n some = ap (λ k. digit_of (n / 2 ^ k % 2) ∷ digits_of k n) (let e : left ≡ suc left - 1 = omega arith in e)

pub levels_step : (left n : ℕ) → 0 < left → levels_of left n ≡ digit_of (n % 2) ∷ levels_of (left - 1) (n / 2)
levels_step zero n some = absurd (omega arith)
levels_step (suc left) n some = ap (λ k. digit_of (n % 2) ∷ levels_of k (n / 2)) (let e : left ≡ suc left - 1 = omega arith in e)

-- what is put in front of what is left
pub put_digit : (whole out new rest : List ℕ) (digit : ℕ) → new ≡ out ++ digit ∷ [] → out ++ digit ∷ rest ≡ whole → new ++ rest ≡ whole
put_digit whole out new rest digit put so_far = ap (λ text. text ++ rest) put ∙ append_assoc out (digit ∷ []) rest ∙ so_far

-- ---- rows
pub rows_step : (table width j left : ℕ) → 0 < left → rows_from table width j left ≡ entry_lines table width j ++ rows_from table width (j + 1) (left - 1)
rows_step table width j zero some = absurd (omega arith)
rows_step table width j (suc left) some = ap (λ k. entry_lines table width j ++ rows_from table width (j + 1) k) (let e : left ≡ suc left - 1 = omega arith in e)

-- the rows of one number more
pub entry_put : (whole out new : List ℕ) (table width j left next : ℕ) → 0 < left → next ≡ left - 1 → new ≡ out ++ text_of (entry_lines table width j) → out ++ text_of (rows_from table width j left) ≡ whole
    → new ++ text_of (rows_from table width (j + 1) next) ≡ whole
entry_put whole out new table width j left next some is put so_far =
    ap (λ k. new ++ text_of (rows_from table width (j + 1) k)) is ∙ ap (λ text. text ++ text_of (rows_from table width (j + 1) (left - 1))) put
    ∙ joined out (entry_lines table width j) (rows_from table width (j + 1) (left - 1)) ∙ ap (λ ls. out ++ text_of ls) (sym (rows_step table width j left some)) ∙ so_far

-- a row of a cover without inputs, and of one with some
pub level_put : (old a new : List ℕ) (width n : ℕ) → width ≡ 0 → a ≡ old ++ 49 ∷ [] → new ≡ guarded a ++ 10 ∷ [] → new ≡ old ++ text_of (row_line width n ∷ [])
level_put old a new zero n none put ended = line_ended old a new 49 [] [] put ended
level_put old a new (suc width) n none put ended = absurd (omega arith)

pub row_put : (old a b new : List ℕ) (width n : ℕ) → 0 < width → a ≡ old ++ levels_of width n → b ≡ a ++ 32 ∷ 49 ∷ [] → new ≡ guarded b ++ 10 ∷ [] → new ≡ old ++ text_of (row_line width n ∷ [])
row_put old a b new zero n some one two ended = absurd (omega arith)
row_put old a b new (suc width) n some one two ended =
    line_ended old b new (digit_of (n % 2)) (levels_of width (n / 2)) (codes "1" ∷ []) (two ∙ ap (λ text. text ++ 32 ∷ 49 ∷ []) one ∙ append_assoc old (levels_of (suc width) n) (32 ∷ 49 ∷ [])) ended

-- a parameter
pub param_put : (old a b c d new name digits : List ℕ) → a ≡ old ++ codes ".param" → b ≡ a ++ behind_space name → c ≡ b ++ 32 ∷ [] → d ≡ c ++ digits → new ≡ guarded d ++ 10 ∷ []
    → new ≡ old ++ text_of ((codes ".param", name ∷ digits ∷ []) ∷ [])
param_put old a b c d new name digits one two three four ended =
    line_ended old d new 46 (codes "param") (name ∷ digits ∷ [])
    (four ∙ ap (λ text. text ++ digits) three ∙ ap (λ text. (text ++ 32 ∷ []) ++ digits) two ∙ ap (λ text. ((text ++ behind_space name) ++ 32 ∷ []) ++ digits) one
    ∙ append_assoc ((old ++ codes ".param") ++ behind_space name) (32 ∷ []) digits ∙ append_assoc (old ++ codes ".param") (behind_space name) (32 ∷ digits)
    ∙ append_assoc old (codes ".param") (behind_space name ++ 32 ∷ digits) ∙ ap (λ text. old ++ (codes ".param" ++ (behind_space name ++ text))) (sym (append-nil (32 ∷ digits)))) ended

-- ---- connections
pub no_connections : (names formals : List (List ℕ)) → connections names formals [] ≡ []
no_connections names [] = refl
no_connections names (formal ∷ formals) = refl

connections_at : (names formals : List (List ℕ)) (signals : List (Option SignalNo)) (k p q : ℕ) (d : Option SignalNo) → k < length formals → p < length signals → q ≡ k + 1
    → connections names (drop k formals) (drop p signals) ≡ connection names (get_or formals k []) (get_or signals p d) ++ connections names (drop q formals) (drop (p + 1) signals)
connections_at names formals signals k p q d lt_k lt_p next =
    ap (λ fs. connections names fs (drop p signals)) (drop-cons formals k [] lt_k) ∙ ap (λ ss. connections names (get_or formals k [] ∷ drop (suc k) formals) ss) (drop-cons signals p d lt_p)
    ∙ ap (λ n. connection names (get_or formals k []) (get_or signals p d) ++ connections names (drop n formals) (drop (suc p) signals)) (let e : suc k ≡ q = omega (arith, next) in e)
    ∙ ap (λ n. connection names (get_or formals k []) (get_or signals p d) ++ connections names (drop q formals) (drop n signals)) (let e : suc p ≡ p + 1 = omega arith in e)

-- a connection is put in front of what is left
pub connection_put : (whole out new : List ℕ) (names formals : List (List ℕ)) (signals : List (Option SignalNo)) (formal : List ℕ) (k p q : ℕ) (d : Option SignalNo) → k < length formals → p < length signals → q ≡ k + 1
    → formal ≡ get_or formals k [] → new ≡ out ++ flat_map behind_space (connection names formal (get_or signals p d))
    → out ++ flat_map behind_space (connections names (drop k formals) (drop p signals)) ≡ whole
    → new ++ flat_map behind_space (connections names (drop q formals) (drop (p + 1) signals)) ≡ whole
connection_put whole out new names formals signals formal k p q d lt_k lt_p next is put so_far =
    ap (λ text. text ++ flat_map behind_space (connections names (drop q formals) (drop (p + 1) signals))) put
    ∙ append_assoc out (flat_map behind_space (connection names formal (get_or signals p d))) (flat_map behind_space (connections names (drop q formals) (drop (p + 1) signals)))
    ∙ ap (λ text. out ++ text) (sym (flat_map-append behind_space (connection names formal (get_or signals p d)) (connections names (drop q formals) (drop (p + 1) signals))))
    ∙ ap (λ f. out ++ flat_map behind_space (connection names f (get_or signals p d) ++ connections names (drop q formals) (drop (p + 1) signals))) is
    ∙ ap (λ ws. out ++ flat_map behind_space ws) (sym (connections_at names formals signals k p q d lt_k lt_p next)) ∙ so_far

pub connections_both : (names formals : List (List ℕ)) (ins outs : List (Option SignalNo)) → connections names formals (ins ++ outs) ≡ connections names formals ins ++ connections names (drop (length ins) formals) outs
connections_both names formals [] outs = ap (λ ws. ws ++ connections names formals outs) (sym (no_connections names formals))
connections_both names [] (s ∷ ins) outs = refl
connections_both names (formal ∷ formals) (s ∷ ins) outs =
    ap (λ ws. connection names formal s ++ ws) (connections_both names formals ins outs)
    ∙ sym (append_assoc (connection names formal s) (connections names formals ins) (connections names (drop (length ins) formals) outs))

-- the first line of a gate
pub gate_put : (old a b c d new : List ℕ) (names : List (List ℕ)) (kind : CellKind) (ins outs : List (Option SignalNo)) → a ≡ old ++ codes ".gate " → b ≡ a ++ kind_word kind
    → c ≡ b ++ flat_map behind_space (connections names (port_names kind) ins) → d ≡ c ++ flat_map behind_space (connections names (drop (length ins) (port_names kind)) outs) → new ≡ guarded d ++ 10 ∷ []
    → new ≡ old ++ text_of (gate_line names kind ins outs ∷ [])
gate_put old a b c d new names kind ins outs one two three four ended =
    let x : List ℕ = flat_map behind_space (connections names (port_names kind) ins) in
    let y : List ℕ = flat_map behind_space (connections names (drop (length ins) (port_names kind)) outs) in
    let both : x ++ y ≡ flat_map behind_space (connections names (port_names kind) (ins ++ outs)) =
    sym (flat_map-append behind_space (connections names (port_names kind) ins) (connections names (drop (length ins) (port_names kind)) outs)) ∙ ap (flat_map behind_space) (sym (connections_both names (port_names kind) ins outs)) in
    line_ended old d new 46 (codes "gate") (kind_word kind ∷ connections names (port_names kind) (ins ++ outs))
    (four ∙ ap (λ text. text ++ y) three ∙ ap (λ text. (text ++ x) ++ y) two ∙ ap (λ text. ((text ++ kind_word kind) ++ x) ++ y) one
    ∙ append_assoc ((old ++ codes ".gate ") ++ kind_word kind) x y ∙ ap (λ text. ((old ++ codes ".gate ") ++ kind_word kind) ++ text) both
    ∙ append_assoc (old ++ codes ".gate ") (kind_word kind) (flat_map behind_space (connections names (port_names kind) (ins ++ outs)))
    ∙ append_assoc old (codes ".gate ") (kind_word kind ++ flat_map behind_space (connections names (port_names kind) (ins ++ outs)))) ended

-- ---- signals
pub signal_put : (names : List (List ℕ)) (o : Option SignalNo) (signal : SignalNo) (name out new : List ℕ) → o ≡ Some signal → IsBelow (length names) o
    → name ≡ get_or names signal.0 name → new ≡ out ++ behind_space name → new ≡ out ++ flat_map behind_space (signal_words names o)
signal_put names o signal name out new there below is put =
    let lt : signal.0 < length names = subst (IsBelow (length names)) there below in
    put
    ∙ ap (λ text. out ++ behind_space text) (is ∙ get_or_default names signal.0 name [] lt)
    ∙ ap (λ text. out ++ text) (sym (append-nil (behind_space (get_or names signal.0 []))))
    ∙ ap (λ s. out ++ flat_map behind_space (signal_words names s)) (sym there)

pub signals_step : (names : List (List ℕ)) (signals : List (Option SignalNo)) (i : ℕ) (d : Option SignalNo) (old out new : List ℕ) → i < length signals → out ≡ old ++ flat_map behind_space (flat_map (signal_words names) (take i signals))
    → new ≡ out ++ flat_map behind_space (signal_words names (get_or signals i d)) → new ≡ old ++ flat_map behind_space (flat_map (signal_words names) (take (i + 1) signals))
signals_step names signals i d old out new lt so_far put =
    let xs : List (List ℕ) = flat_map (signal_words names) (take i signals) in
    let ys : List (List ℕ) = signal_words names (get_or signals i d) in
    put ∙ ap (λ text. text ++ flat_map behind_space ys) so_far ∙ append_assoc old (flat_map behind_space xs) (flat_map behind_space ys)
    ∙ ap (λ text. old ++ text) (sym (flat_map-append behind_space xs ys))
    ∙ ap (λ ws. old ++ flat_map behind_space ws)
    (ap (λ zs. xs ++ zs) (sym (append-nil ys)) ∙ sym (flat_map-append (signal_words names) (take i signals) (get_or signals i d ∷ [])) ∙ ap (flat_map (signal_words names)) (sym (take_more signals i d lt)))

-- the first line of a cover
pub names_put : (old a b c new : List ℕ) (names : List (List ℕ)) (ins outs : List (Option SignalNo)) → a ≡ old ++ codes ".names" → b ≡ a ++ flat_map behind_space (flat_map (signal_words names) ins)
    → c ≡ b ++ flat_map behind_space (flat_map (signal_words names) outs) → new ≡ guarded c ++ 10 ∷ []
    → new ≡ old ++ text_of ((codes ".names", flat_map (signal_words names) (ins ++ outs)) ∷ [])
names_put old a b c new names ins outs one two three ended =
    let x : List (List ℕ) = flat_map (signal_words names) ins in
    let y : List (List ℕ) = flat_map (signal_words names) outs in
    line_ended old c new 46 (codes "names") (flat_map (signal_words names) (ins ++ outs))
    (three ∙ ap (λ text. text ++ flat_map behind_space y) two ∙ ap (λ text. (text ++ flat_map behind_space x) ++ flat_map behind_space y) one
    ∙ append_assoc (old ++ codes ".names") (flat_map behind_space x) (flat_map behind_space y)
    ∙ ap (λ text. (old ++ codes ".names") ++ text) (sym (flat_map-append behind_space x y) ∙ ap (flat_map behind_space) (sym (flat_map-append (signal_words names) ins outs)))
    ∙ append_assoc old (codes ".names") (flat_map behind_space (flat_map (signal_words names) (ins ++ outs)))) ended

-- all connections are put
pub connections_end : (whole out : List ℕ) (names formals : List (List ℕ)) (signals : List (Option SignalNo)) (k p : ℕ) → length signals ≤ p
    → out ++ flat_map behind_space (connections names (drop k formals) (drop p signals)) ≡ whole → out ≡ whole
connections_end whole out names formals signals k p le so_far =
    sym (append-nil out)
    ∙ ap (λ ws. out ++ flat_map behind_space ws) (sym (ap (connections names (drop k formals)) (drop_all p signals le) ∙ no_connections names (drop k formals)))
    ∙ so_far

-- the first line of a cell that is no cover is that of a gate
pub gate_is_first : (names : List (List ℕ)) (kind : CellKind) (ins outs : List (Option SignalNo)) → ((table width : ℕ) → kind ≡ Cover table width → ⊥) → gate_line names kind ins outs ≡ first_line names kind ins outs
gate_is_first names (Lut table) ins outs other = refl
gate_is_first names (Cover table width) ins outs other = absurd (other table width refl)
gate_is_first names Carry ins outs other = refl
gate_is_first names (Flop falling enable reset) ins outs other = refl
gate_is_first names (PadCell pin_type pullup) ins outs other = refl
gate_is_first names Global ins outs other = refl

-- the whole text
pub text_put : (old a b c new : List ℕ) (n : NetlistData) (ports : List Port) (cells : List Cell) → a ≡ old ++ text_of ((codes ".model", codes "back" ∷ []) ∷ []) → ports ≡ n.ports → b ≡ a ++ text_of (flat_map (port_lines n.names) ports)
    → cells ≡ n.cells → c ≡ b ++ text_of (flat_map (cell_lines n.names) cells) → new ≡ c ++ text_of ((codes ".end", []) ∷ []) → new ≡ old ++ blif_text n
text_put old a b c new n ports cells model are two same three end =
    let ps : List Words = flat_map (port_lines n.names) ports in
    let cs : List Words = flat_map (cell_lines n.names) cells in
    let head : List Words = (codes ".model", codes "back" ∷ []) ∷ [] in
    let last : List Words = (codes ".end", []) ∷ [] in
    both_joined old c new ((head ++ ps) ++ cs) last (both_joined old b c (head ++ ps) cs (both_joined old a b head ps model two) three) end
    ∙ ap (λ ls. old ++ text_of ls) (append_assoc (head ++ ps) cs last ∙ append_assoc head ps (cs ++ last))
    ∙ ap (λ xs. old ++ text_of (head ++ (flat_map (port_lines n.names) xs ++ (cs ++ last)))) are
    ∙ ap (λ xs. old ++ text_of (head ++ (flat_map (port_lines n.names) n.ports ++ (flat_map (cell_lines n.names) xs ++ last)))) same
