-- The cells that runs have beside their carries, one run after another.
use Rattle.std.proofs.Common.{◌≡◌, ℕ, ◌+◌, ◌<◌, ◌≤◌, Bool, true, false, Option, List, [], ◌∷◌, ◌++◌, append-nil, append_assoc, length, get_or, drop, refl, ap, sym, ◌∙◌}
use Rattle.std.specs.Prelude.{option_to_list}
use Rattle.std.specs.List.{flat_map}
use Rattle.std.proofs.lemmas.List.{drop_more, drop_all, length-append}
use Rattle.ice_cells.specs.declared.cell.LogicCell.{LogicCell}
use Rattle.ice_cells.specs.declared.follow.Follow.{Follow}
use Rattle.ice_cells.specs.declared.root.CarryIn.{CarryIn}
use Rattle.ice_cells.specs.declared.design.Run.{Run}
use Rattle.ice_cells.specs.declared.root.CarryIn.TheVariants.{Fixed, Read}
use Rattle.ice_cells.specs.Chains.{Head, Fed, is_read, passes_out, end, one_if, feeds, feed_in, feed_out, feed_cells, fed_if, fed_from, run_from, runs_from}

in_count : (into : CarryIn) → length (feed_in into) ≡ one_if (is_read into)
in_count (Fixed level) = refl
in_count (Read root) = refl

out_count : (passes : Bool) → length (feed_out passes) ≡ one_if passes
out_count true = refl
out_count false = refl

feeds_counted : (marks : List Follow) (head : Head) → length (feed_cells marks head) ≡ feeds marks head
feeds_counted marks head = length-append (feed_in head.1) (feed_out (passes_out marks head)) ∙ (λ i. in_count head.1 i + out_count (passes_out marks head) i)

pub feeds_more : (marks : List Follow) (heads : List Head) (i : ℕ) (d : Head) (old new : List LogicCell) → i < length heads → new ≡ old ++ feed_cells marks (get_or heads i d)
    → new ++ flat_map (feed_cells marks) (drop (i + 1) heads) ≡ old ++ flat_map (feed_cells marks) (drop i heads)
feeds_more marks heads i d old new lt now =
    let rest = flat_map (feed_cells marks) (drop (i + 1) heads) in
    ap (λ (xs : List LogicCell). xs ++ rest) now
    ∙ append_assoc old (feed_cells marks (get_or heads i d)) rest
    ∙ ap (λ (xs : List Head). old ++ flat_map (feed_cells marks) xs) (sym (drop_more heads i d lt))

pub feeds_end : (marks : List Follow) (heads : List Head) (i : ℕ) (cells : List LogicCell) → length heads ≤ i → cells ≡ cells ++ flat_map (feed_cells marks) (drop i heads)
feeds_end marks heads i cells le = sym (append-nil cells) ∙ ap (λ (xs : List Head). cells ++ flat_map (feed_cells marks) xs) (sym (drop_all i heads le))

pub fed_more : (marks : List Follow) (heads : List Head) (i : ℕ) (d : Head) (old new : List LogicCell) (before after : List Fed) (fed : Option Fed) → i < length heads
    → new ≡ old ++ feed_cells marks (get_or heads i d)
    → option_to_list fed ≡ fed_if (passes_out marks (get_or heads i d)) (end marks (length marks) (get_or heads i d).0, length old + one_if (is_read (get_or heads i d).1))
    → after ≡ before ++ option_to_list fed
    → after ++ fed_from marks (length new) (drop (i + 1) heads) ≡ before ++ fed_from marks (length old) (drop i heads)
fed_more marks heads i d old new before after fed lt now is put =
    let head = get_or heads i d in
    let this = fed_if (passes_out marks head) (end marks (length marks) head.0, length old + one_if (is_read head.1)) in
    let all : after ≡ before ++ this = put ∙ ap (λ (xs : List Fed). before ++ xs) is in
    let count : length new ≡ length old + feeds marks head
    = ap length now ∙ length-append old (feed_cells marks head) ∙ ap (λ n. length old + n) (feeds_counted marks head) in
    (λ j. all j ++ fed_from marks (count j) (drop (i + 1) heads))
    ∙ append_assoc before this (fed_from marks (length old + feeds marks head) (drop (i + 1) heads))
    ∙ ap (λ (xs : List Head). before ++ fed_from marks (length old) xs) (sym (drop_more heads i d lt))

pub fed_end : (marks : List Follow) (heads : List Head) (i k : ℕ) (all : List Fed) → length heads ≤ i → all ≡ all ++ fed_from marks k (drop i heads)
fed_end marks heads i k all le = sym (append-nil all) ∙ ap (λ (xs : List Head). all ++ fed_from marks k xs) (sym (drop_all i heads le))

-- ---- one run after another
pub runs_more : (marks : List Follow) (heads : List Head) (i : ℕ) (d : Head) (k first next : ℕ) (before after : List Run) (run : Run) → i < length heads → first ≡ k → run ≡ run_from marks first (get_or heads i d)
    → next ≡ first + feeds marks (get_or heads i d) → after ≡ before ++ run ∷ [] → after ++ runs_from marks next (drop (i + 1) heads) ≡ before ++ runs_from marks k (drop i heads)
runs_more marks heads i d k first next before after run lt same is step now =
    let head = get_or heads i d in
    let rest = drop (i + 1) heads in
    (λ j. now j ++ runs_from marks (step j) rest)
    ∙ append_assoc before (run ∷ []) (runs_from marks (first + feeds marks head) rest)
    ∙ ap (λ (x : Run). before ++ x ∷ runs_from marks (first + feeds marks head) rest) is
    ∙ ap (λ n. before ++ run_from marks n head ∷ runs_from marks (n + feeds marks head) rest) same
    ∙ ap (λ (xs : List Head). before ++ runs_from marks k xs) (sym (drop_more heads i d lt))

pub runs_end : (marks : List Follow) (heads : List Head) (i k : ℕ) (runs : List Run) → length heads ≤ i → runs ≡ runs ++ runs_from marks k (drop i heads)
runs_end marks heads i k runs le = sym (append-nil runs) ∙ ap (λ (xs : List Head). runs ++ runs_from marks k xs) (sym (drop_all i heads le))
