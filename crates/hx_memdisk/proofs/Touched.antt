-- Where two contents may differ, after a write or a cut of the one; and how the one is made the other.
use Rattle.std.proofs.Common.{◌≡◌, ◌<◌, ◌≤◌, ℕ, ◌+◌, ◌-◌, min, max, List, [], ◌∷◌, ◌++◌, length, take, drop, get_or, set, refl, sym, ◌∙◌, ap, arith, ⊎_elim, length-drop, take-take, drop-drop, take_at, drop_at}
use Rattle.std.proofs.lemmas.List.{take-append-drop, append_assoc, length-take, take_all, drop_all, drop-take, get_or-take, get_or-drop, take_more, take-set, drop-set, ext_get_or}
use Rattle.std.proofs.lemmas.Slice.{take-put_mid_below, drop-put_mid}
use Rattle.std.proofs.lemmas.Bool.{cases_lt}
use Rattle.hx_disk.specs.Overlay.{overlaid}
use Rattle.hx_memdisk.specs.Replay.{mixed, mixed_byte}
use Rattle.hx_memdisk.specs.Sound.{length-mixed, mixed_at, mixed_same}
use Rattle.hx_memdisk.specs.Touched.{SameOutside}

narrower : (k from : ℕ) (a b : List ℕ) → k ≤ from → take from a ≡ take from b → take k a ≡ take k b
narrower k from a b le same = sym (take-take k from a le) ∙ ap (λ (l : List ℕ). take k l) same ∙ take-take k from b le

further : (k to : ℕ) (a b : List ℕ) → to ≤ k → drop to a ≡ drop to b → drop k a ≡ drop k b
further k to a b le same =
    let on : to + (k - to) ≡ k = omega (arith, le) in
    ap (λ n. drop n a) (sym on) ∙ sym (drop-drop (k - to) to a) ∙ ap (λ (l : List ℕ). drop (k - to) l) same ∙ drop-drop (k - to) to b ∙ ap (λ n. drop n b) on

pub none_apart : (from to : ℕ) (a b : List ℕ) → a ≡ b → SameOutside from to a b
none_apart from to a b is = record { before = ap (λ (l : List ℕ). take from l) is; behind = ap (λ (l : List ℕ). drop to l) is }

-- after a write of the first
pub apart_written : (from to new_from new_to at : ℕ) (a b part new : List ℕ) → at ≤ length a → new ≡ overlaid a at part → new_from ≤ from → new_from ≤ at → to ≤ new_to → at + length part ≤ new_to → SameOutside from to a b → SameOutside new_from new_to new b
apart_written from to new_from new_to at a b part new within wrote low low_at high high_at same =
    let is : new ≡ take at a ++ (part ++ drop (length part) (drop at a)) = wrote ∙ append_assoc (take at a) part (drop (at + length part) a) ∙ ap (λ (l : List ℕ). take at a ++ (part ++ l)) (sym (drop-drop (length part) at a)) in
    record {
      before = ap (λ (l : List ℕ). take new_from l) is ∙ take-put_mid_below at (length part) a part new_from low_at within ∙ narrower new_from from a b low same.before;
      behind = ap (λ (l : List ℕ). drop new_to l) is ∙ drop-put_mid at (length part) a part new_to high_at within refl ∙ further new_to to a b high same.behind;
    }

-- after a cut of the first
pub apart_cut : (from to new_from new_to len : ℕ) (a b new : List ℕ) → new ≡ take len a → new_from ≤ from → new_from ≤ len → to ≤ new_to → length a ≤ new_to → SameOutside from to a b → SameOutside new_from new_to new b
apart_cut from to new_from new_to len a b new cut low low_len high high_end same =
    let none : drop new_to a ≡ [] = drop_all new_to a high_end in
    record {
      before = ap (λ (l : List ℕ). take new_from l) cut ∙ take-take new_from len a low_len ∙ narrower new_from from a b low same.before;
      behind = ap (λ (l : List ℕ). drop new_to l) cut ∙ drop_all new_to (take len a) (omega (arith, length-take len a, high_end)) ∙ sym none ∙ further new_to to a b high same.behind;
    }

behind_cut : (to : ℕ) (a b : List ℕ) → drop to a ≡ drop to b → drop (min to (length a)) (take (length a) b) ≡ drop (min to (length a)) a
behind_cut to a b same = ⊎_elim
    (λ (inside : to < length a).
    let on : to + (length a - to) ≡ length a = omega (arith, inside) in
    ap (λ n. drop n (take (length a) b)) (omega (arith, inside)) ∙ ap (λ n. drop to (take n b)) (sym on) ∙ drop-take to (length a - to) b
    ∙ ap (λ (l : List ℕ). take (length a - to) l) (sym same) ∙ take_all (length a - to) (drop to a) (omega (arith, length-drop to a)) ∙ ap (λ n. drop n a) (omega (arith, inside)))
    (λ (past : length a ≤ to).
    drop_all (min to (length a)) (take (length a) b) (omega (arith, past, length-take (length a) b)) ∙ sym (drop_all (min to (length a)) a (omega (arith, past))))
    (cases_lt to (length a))

-- the second is made the first by what stands at these places
pub carried : (from to start end : ℕ) (a b short part new : List ℕ) → SameOutside from to a b → end ≡ min to (length a) → start ≡ min from end → short ≡ take (length a) b → new ≡ overlaid short start part
    → part ≡ take (end - start) (drop start a) → new ≡ a
carried from to start end a b short part new same ends starts truncated put is =
    let size : start + length part ≡ end = omega (arith, ap length is, length-take (end - start) (drop start a), length-drop start a, ends, starts) in
    let on : start + (end - start) ≡ end = omega (arith, ends, starts) in
    let front : take start (take (length a) b) ≡ take start a = take-take start (length a) b (omega (arith, ends, starts)) ∙ sym (narrower start from a b (omega (arith, starts)) same.before) in
    let rest : drop (start + length part) (take (length a) b) ≡ drop end a = ap (λ n. drop n (take (length a) b)) (size ∙ ends) ∙ behind_cut to a b same.behind ∙ ap (λ n. drop n a) (sym ends) in
    let back : drop end a ≡ drop (end - start) (drop start a) = ap (λ n. drop n a) (sym on) ∙ sym (drop-drop (end - start) start a) in
    let whole : take (end - start) (drop start a) ++ drop (end - start) (drop start a) ≡ drop start a = take-append-drop (end - start) (drop start a) in
    put
    ∙ ap (λ (l : List ℕ). overlaid l start part) truncated
    ∙ append_assoc (take start (take (length a) b)) part (drop (start + length part) (take (length a) b))
    ∙ ap (λ (l : List ℕ). l ++ (part ++ drop (start + length part) (take (length a) b))) front
    ∙ ap (λ (l : List ℕ). take start a ++ l) (ap (λ (l : List ℕ). part ++ l) (rest ∙ back) ∙ ap (λ (l : List ℕ). l ++ drop (end - start) (drop start a)) is ∙ whole)
    ∙ take-append-drop start a

-- outside these places a mixture is what it is mixed of
same_place : (from to i : ℕ) (a b : List ℕ) → SameOutside from to a b → i < length a → i < from → (i < length b) × (get_or a i 0 ≡ get_or b i 0)
same_place from to i a b same here before =
    let long : min from (length a) ≡ min from (length b) = sym (length-take from a) ∙ ap length same.before ∙ length-take from b in
    (omega (arith, long, here, before), sym (get_or-take from a i 0 before) ∙ ap (λ (l : List ℕ). get_or l i 0) same.before ∙ get_or-take from b i 0 before)

same_place_behind : (from to i : ℕ) (a b : List ℕ) → SameOutside from to a b → i < length a → to ≤ i → (i < length b) × (get_or a i 0 ≡ get_or b i 0)
same_place_behind from to i a b same here behind =
    let long : length a - to ≡ length b - to = sym (length-drop to a) ∙ ap length same.behind ∙ length-drop to b in
    let on : to + (i - to) ≡ i = omega (arith, behind) in
    (omega (arith, long, here, behind), ap (λ n. get_or a n 0) (sym on) ∙ sym (get_or-drop to a (i - to) 0) ∙ ap (λ (l : List ℕ). get_or l (i - to) 0) same.behind ∙ get_or-drop to b (i - to) 0 ∙ ap (λ n. get_or b n 0) on)

pub mixed_before : (pick from to k : ℕ) (a b : List ℕ) → SameOutside from to a b → k ≤ from → take k (mixed pick a b) ≡ take k a
mixed_before pick from to k a b same le = ext_get_or 0 (take k (mixed pick a b)) (take k a) (omega (arith, length-take k (mixed pick a b), length-take k a, length-mixed pick a b))
    (λ i lt.
    let under : i < k = omega (arith, lt, length-take k (mixed pick a b)) in
    let here : i < length a = omega (arith, lt, length-take k (mixed pick a b), length-mixed pick a b) in
    let at = same_place from to i a b same here (omega (arith, under, le)) in
    get_or-take k (mixed pick a b) i 0 under ∙ mixed_same pick a b i here at.0 at.1 ∙ sym at.1 ∙ sym (get_or-take k a i 0 under))

pub mixed_behind : (pick from to k : ℕ) (a b : List ℕ) → SameOutside from to a b → min to (length a) ≤ k → drop k (mixed pick a b) ≡ drop k a
mixed_behind pick from to k a b same le = ext_get_or 0 (drop k (mixed pick a b)) (drop k a) (omega (arith, length-drop k (mixed pick a b), length-drop k a, length-mixed pick a b))
    (λ i lt.
    let here : k + i < length a = omega (arith, lt, length-drop k (mixed pick a b), length-mixed pick a b) in
    let at = same_place_behind from to (k + i) a b same here (omega (arith, le, here)) in
    get_or-drop k (mixed pick a b) i 0 ∙ mixed_same pick a b (k + i) here at.0 at.1 ∙ sym at.1 ∙ sym (get_or-drop k a i 0))

-- the mixture is made in place, one place after the other
pub mix_begins : (pick from to : ℕ) (a b : List ℕ) → SameOutside from to a b → a ≡ take from (mixed pick a b) ++ drop from a
mix_begins pick from to a b same = sym (ap (λ (l : List ℕ). l ++ drop from a) (mixed_before pick from to from a b same (omega arith)) ∙ take-append-drop from a)

pub mix_ends : (pick from to i : ℕ) (a b now : List ℕ) → SameOutside from to a b → min to (length a) ≤ i → now ≡ take i (mixed pick a b) ++ drop i a → now ≡ mixed pick a b
mix_ends pick from to i a b now same le is = is ∙ ap (λ (l : List ℕ). take i (mixed pick a b) ++ l) (sym (mixed_behind pick from to i a b same le)) ∙ take-append-drop i (mixed pick a b)

pub mix_goes_on : (pick i byte chosen : ℕ) (a b now new : List ℕ) → i < length a → now ≡ take i (mixed pick a b) ++ drop i a → byte ≡ get_or now i 0 → chosen ≡ mixed_byte pick b i byte → new ≡ set now i chosen
    → new ≡ take (i + 1) (mixed pick a b) ++ drop (i + 1) a
mix_goes_on pick i byte chosen a b now new here is read picked put =
    let whole : List ℕ = mixed pick a b in
    let front : length (take i whole) ≡ i = omega (arith, length-take i whole, length-mixed pick a b, here) in
    let rest : drop i now ≡ drop i a = ap (λ (l : List ℕ). drop i l) is ∙ drop_at (take i whole) (drop i a) i front in
    let on : i + 0 ≡ i = omega arith in
    let was : get_or now i 0 ≡ get_or a i 0 = ap (λ n. get_or now n 0) (sym on) ∙ sym (get_or-drop i now 0 0) ∙ ap (λ (l : List ℕ). get_or l 0 0) rest ∙ get_or-drop i a 0 0 ∙ ap (λ n. get_or a n 0) on in
    let one : chosen ≡ get_or whole i 0 = picked ∙ ap (λ n. mixed_byte pick b i n) (read ∙ was) ∙ sym (mixed_at pick a b i here) in
    let inside : i < length now = omega (arith, ap length rest, length-drop i now, length-drop i a, here) in
    put
    ∙ sym (take-append-drop i (set now i chosen))
    ∙ ap (λ (l : List ℕ). l ++ drop i (set now i chosen)) (take-set now i chosen ∙ ap (λ (l : List ℕ). take i l) is ∙ take_at (take i whole) (drop i a) i front)
    ∙ ap (λ (l : List ℕ). take i whole ++ l) (drop-set now i chosen inside ∙ ap (λ n. n ∷ drop (i + 1) now) one
    ∙ ap (λ (l : List ℕ). get_or whole i 0 ∷ l) (sym (drop-drop 1 i now) ∙ ap (λ (l : List ℕ). drop 1 l) rest ∙ drop-drop 1 i a))
    ∙ sym (append_assoc (take i whole) (get_or whole i 0 ∷ []) (drop (i + 1) a))
    ∙ ap (λ (l : List ℕ). l ++ drop (i + 1) a) (sym (take_more whole i 0 (omega (arith, length-mixed pick a b, here))))

pub apart_mixed : (pick from to : ℕ) (a b : List ℕ) → SameOutside from to a b → SameOutside from to (mixed pick a b) b
apart_mixed pick from to a b same = record {
  before = mixed_before pick from to from a b same (omega arith) ∙ same.before;
  behind = mixed_behind pick from to to a b same (omega arith) ∙ same.behind;
}
