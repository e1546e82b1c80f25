-- Where bytes are cut at one of them.
use Rattle.std.proofs.Common.{◌≡◌, ◌≢◌, ℕ, ◌<◌, ◌≤◌, ◌+◌, ◌-◌, ◌==◌, true, false, List, [], ◌∷◌, ◌++◌, length, get_or, take, drop, refl, sym, ap, ◌∙◌, Option, None, Some, option_map, rules, tests, append-nil, append_assoc}
use Rattle.std.proofs.lemmas.List.{at_drop_more, at_drop_all, take_more}
use Rattle.ice_base.specs.Places.{cut_at, onto_front}
use Rattle.ice_base.proofs.Cuts.{tail_is}

-- a cut of the bytes behind the first i, as one of all bytes
abbrev pub behind_front : List ℕ → ℕ → List ℕ × List ℕ → List ℕ × List ℕ
behind_front bytes i cut = (take i bytes ++ cut.0, cut.1)

pub cut_begins : (bytes : List ℕ) (cut : Option (List ℕ × List ℕ)) → cut ≡ option_map (behind_front bytes 0) cut
cut_begins bytes None = refl
cut_begins bytes (Some cut) = refl

pub one_more : (bytes : List ℕ) (i : ℕ) (cut : Option (List ℕ × List ℕ)) → i < length bytes
    → option_map (behind_front bytes i) (option_map (onto_front (get_or bytes i 0)) cut) ≡ option_map (behind_front bytes (i + 1)) cut
one_more bytes i None lt = refl
one_more bytes i (Some cut) lt =
    ap (λ front. Some (front, cut.1)) (sym (append_assoc (take i bytes) (get_or bytes i 0 ∷ []) cut.0) ∙ ap (λ front. front ++ cut.0) (sym (take_more bytes i 0 lt)))

pub passed : (byte b : ℕ) (bytes : List ℕ) → b ≢ byte → cut_at byte (b ∷ bytes) ≡ option_map (onto_front b) (cut_at byte bytes)
passed byte b bytes other = let test : (b == byte) ≡ false = search (rules, tests) in rw test refl

pub here : (byte b : ℕ) (bytes : List ℕ) → b ≡ byte → cut_at byte (b ∷ bytes) ≡ Some ([], bytes)
here byte b bytes same = let test : (b == byte) ≡ true = search (rules, tests) in rw test refl

pub cut_goes_on : (byte : ℕ) (bytes : List ℕ) (i : ℕ) → cut_at byte bytes ≡ option_map (behind_front bytes i) (cut_at byte (drop i bytes)) → i < length bytes → get_or bytes i 0 ≢ byte
    → cut_at byte bytes ≡ option_map (behind_front bytes (i + 1)) (cut_at byte (drop (i + 1) bytes))
cut_goes_on byte bytes i so_far lt other =
    so_far
    ∙ ap (option_map (behind_front bytes i)) (at_drop_more (cut_at byte) bytes i 0 lt ∙ passed byte (get_or bytes i 0) (drop (i + 1) bytes) other)
    ∙ one_more bytes i (cut_at byte (drop (i + 1) bytes)) lt

pub cut_is_here : (byte : ℕ) (bytes : List ℕ) (i : ℕ) → cut_at byte bytes ≡ option_map (behind_front bytes i) (cut_at byte (drop i bytes)) → i < length bytes → get_or bytes i 0 ≡ byte
    → cut_at byte bytes ≡ Some (take i bytes, take (length bytes - (i + 1)) (drop (i + 1) bytes))
cut_is_here byte bytes i so_far lt same =
    so_far
    ∙ ap (option_map (behind_front bytes i)) (at_drop_more (cut_at byte) bytes i 0 lt ∙ here byte (get_or bytes i 0) (drop (i + 1) bytes) same)
    ∙ ap (λ front. Some (front, drop (i + 1) bytes)) (append-nil (take i bytes))
    ∙ ap (λ tail. Some (take i bytes, tail)) (sym (tail_is bytes (i + 1)))

pub cut_is_nowhere : (byte : ℕ) (bytes : List ℕ) (i : ℕ) → cut_at byte bytes ≡ option_map (behind_front bytes i) (cut_at byte (drop i bytes)) → length bytes ≤ i → cut_at byte bytes ≡ None
cut_is_nowhere byte bytes i so_far le = so_far ∙ ap (option_map (behind_front bytes i)) (at_drop_all (cut_at byte) bytes i le)
