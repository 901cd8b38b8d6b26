-- What the images of a file are in the states that matter most, and how those after a call follow from those before it.
use Rattle.std.specs.Prelude.{◌≡◌, ◌⊎◌, ◌<◌, ◌≤◌, ℕ, ◌+◌, ◌-◌, min, max, List, length, take, drop, get_or}
use Rattle.std.proofs.Common.{sym, ◌∙◌, ap, subst, arith, inl, inr, ⊎_elim, length-drop}
use Rattle.std.proofs.lemmas.List.{ext_get_or, get_or-take, get_or-drop, length-take}
use Rattle.std.proofs.lemmas.Bool.{cases_lt}
use Rattle.hx_disk.specs.File.{FileState, IsOutside, IsUntouched, IsImage, IsSound, IsSettled, IsAtRest, Tried, TriedCut, SameContent}
use Rattle.hx_disk.specs.Overlay.{overlaid, length-overlaid, overlaid_before, overlaid_within, overlaid_behind}

-- A write of n bytes at this place was cut short: any bytes in the range and past the old end, the same elsewhere.
pub record IsTorn (at n : ℕ) (before after : List ℕ) : Type 0 where
  pub front : take at after ≡ take at before
  pub behind : drop (at + n) after ≡ drop (at + n) before
  pub no_shorter : length before ≤ length after
  pub no_longer : length after ≤ max (length before) (at + n)

-- A cut to this length was cut short: the same bytes before the new end, any behind it, and no more than there were.
pub record IsTornCut (len : ℕ) (before after : List ℕ) : Type 0 where
  pub front : take len after ≡ take len before
  pub no_longer : length after ≤ length before

-- A file at rest has its reading as the only image.
pub rest_settled : (file : FileState) → IsAtRest file → IsSettled file
rest_settled file rest image is =
    let long : length image ≡ length file.reading = omega (arith, is.no_shorter, is.no_longer, rest.least, rest.greatest) in
    ext_get_or 0 image file.reading long
    (λ i below. is.untouched i (record { below = omega (arith, below, long, rest.least); outside = subst (λ (w : List (ℕ × ℕ)). IsOutside w i) (sym rest.written) tt })
    ∙ ap (λ (l : List ℕ). get_or l i 0) rest.stable)

-- A change of the stat alone changes no image.
pub same_images : (old new : FileState) → SameContent old new → (image : List ℕ) → IsImage new image → IsImage old image
same_images old new same image is = record {
  no_shorter = omega (arith, is.no_shorter, same.least);
  no_longer = omega (arith, is.no_longer, same.greatest);
  untouched = λ i u.
      is.untouched i (record { below = omega (arith, u.below, same.least); outside = subst (λ (w : List (ℕ × ℕ)). IsOutside w i) (sym same.written) u.outside })
      ∙ ap (λ (l : List ℕ). get_or l i 0) same.stable;
}

-- What was stable in a range, as far as no cut has touched it.
stable_in : FileState → ℕ → ℕ → List ℕ
stable_in old at n = take n (drop at (take old.least old.stable))

length-stable_in : (old : FileState) (at n : ℕ) → old.least ≤ length old.stable → length (stable_in old at n) ≡ min n (old.least - at)
unfolding stable_in
length-stable_in old at n whole = omega (arith, length-take n (drop at (take old.least old.stable)), length-drop at (take old.least old.stable), length-take old.least old.stable)

stable_in_at : (old : FileState) (at n i : ℕ) → at ≤ i → i < at + n → i < old.least → get_or (stable_in old at n) (i - at) 0 ≡ get_or old.stable i 0
unfolding stable_in
stable_in_at old at n i from to below =
    get_or-take n (drop at (take old.least old.stable)) (i - at) 0 (omega (arith, from, to))
    ∙ get_or-drop at (take old.least old.stable) (i - at) 0
    ∙ ap (λ k. get_or (take old.least old.stable) k 0) (omega (arith, from))
    ∙ get_or-take old.least old.stable i 0 below

-- Each image after a write, torn or whole, is one from before it with the range torn.
module _ (at n : ℕ) (old new : FileState) (sound : IsSound old) (within : at ≤ length old.reading) (tried : Tried at n old new) (image : List ℕ) (is : IsImage new image) where
  -- the bytes of the image, but in the range those that were stable
  mended : List ℕ
  mended = overlaid image at (stable_in old at n)

  -- no longer than any image before
  torn_before : List ℕ
  torn_before = take old.greatest mended

  part : length (stable_in old at n) ≡ min n (old.least - at)
  part = length-stable_in old at n sound.least

  length-mended : length mended ≡ length image
  unfolding mended
  length-mended = omega (arith, length-overlaid image at (stable_in old at n), part, is.no_shorter, tried.least)

  length-before : length torn_before ≡ min old.greatest (length image)
  unfolding torn_before
  length-before = omega (arith, length-take old.greatest mended, length-mended)

  outside_same : (i : ℕ) → i < length torn_before → (i < at) ⊎ (at + n ≤ i) → get_or torn_before i 0 ≡ get_or image i 0
  unfolding torn_before mended
  outside_same i here apart =
      get_or-take old.greatest (overlaid image at (stable_in old at n)) i 0 (omega (arith, here, length-before))
      ∙ ⊎_elim
      (λ before. overlaid_before image at (stable_in old at n) i (omega (arith, here, length-before)) before)
      (λ behind. overlaid_behind image at (stable_in old at n) i (omega (arith, here, length-before)) (omega (arith, part, behind)))
      apart

  inside_stable : (i : ℕ) → i < length torn_before → at ≤ i → i < at + n → i < old.least → get_or torn_before i 0 ≡ get_or old.stable i 0
  unfolding torn_before mended
  inside_stable i here from to below =
      get_or-take old.greatest (overlaid image at (stable_in old at n)) i 0 (omega (arith, here, length-before))
      ∙ overlaid_within image at (stable_in old at n) i (omega (arith, here, length-before, from)) from (omega (arith, part, from, to, below))
      ∙ stable_in_at old at n i from to below

  untouched_before : (i : ℕ) → IsUntouched old i → get_or torn_before i 0 ≡ get_or old.stable i 0
  untouched_before i u =
      let here : i < length torn_before = omega (arith, length-before, u.below, is.no_shorter, tried.least, sound.stable.no_longer, sound.least) in
      let apart : (i < at) ⊎ (at + n ≤ i) → get_or torn_before i 0 ≡ get_or old.stable i 0 = λ out.
      outside_same i here out
      ∙ is.untouched i (record { below = omega (arith, tried.least, u.below); outside = subst (λ (w : List (ℕ × ℕ)). IsOutside w i) (sym tried.written) (out, u.outside) })
      ∙ ap (λ (l : List ℕ). get_or l i 0) tried.stable in
      ⊎_elim (λ before. apart (inl before))
      (λ from. ⊎_elim (λ to. inside_stable i here from to u.below) (λ behind. apart (inr behind)) (cases_lt i (at + n)))
      (cases_lt i at)

  pub write_tears : (before : List ℕ) × IsImage old before × IsTorn at n before image
  write_tears =
      let size = length-before in (
        torn_before,
        record {
          no_shorter = omega (arith, size, is.no_shorter, tried.least, sound.stable.no_longer, sound.least);
          no_longer = omega (arith, size);
          untouched = untouched_before;
        },
        record {
          front = ext_get_or 0 (take at image) (take at torn_before) (omega (arith, length-take at image, length-take at torn_before, size, within, sound.reading.no_longer))
              (λ i below.
              let here : i < at = omega (arith, below, length-take at image) in
              get_or-take at image i 0 here ∙ sym (outside_same i (omega (arith, below, length-take at image, size, within, sound.reading.no_longer)) (inl here)) ∙ sym (get_or-take at torn_before i 0 here));
          behind = ext_get_or 0 (drop (at + n) image) (drop (at + n) torn_before) (omega (arith, length-drop (at + n) image, length-drop (at + n) torn_before, size, is.no_longer, tried.greatest))
              (λ i below.
              let there : at + n + i < length torn_before = omega (arith, below, length-drop (at + n) image, size, is.no_longer, tried.greatest) in
              get_or-drop (at + n) image i 0 ∙ sym (outside_same (at + n + i) there (inr (omega arith))) ∙ sym (get_or-drop (at + n) torn_before i 0));
          no_shorter = omega (arith, size);
          no_longer = omega (arith, size, is.no_longer, tried.greatest);
        },
      )

-- Each image after a cut, torn or whole, is one from before it with what lies behind the new end torn.
module _ (len : ℕ) (old new : FileState) (sound : IsSound old) (tried : TriedCut len old new) (image : List ℕ) (is : IsImage new image) where
  -- the image with the stable bytes behind the new end
  cut_before : List ℕ
  cut_before = overlaid image len (stable_in old len old.least)

  tail : length (stable_in old len old.least) ≡ old.least - len
  tail = omega (arith, length-stable_in old len old.least sound.least)

  length-uncut : length cut_before ≡ max (length image) old.least
  unfolding cut_before
  length-uncut = omega (arith, length-overlaid image len (stable_in old len old.least), tail, is.no_shorter, tried.least)

  front_same : (i : ℕ) → i < length image → i < len → get_or cut_before i 0 ≡ get_or image i 0
  unfolding cut_before
  front_same i here before = overlaid_before image len (stable_in old len old.least) i here before

  tail_stable : (i : ℕ) → len ≤ i → i < old.least → get_or cut_before i 0 ≡ get_or old.stable i 0
  unfolding cut_before
  tail_stable i from below =
      overlaid_within image len (stable_in old len old.least) i (omega (arith, is.no_shorter, tried.least, from, below)) from (omega (arith, tail, from, below))
      ∙ stable_in_at old len old.least i from (omega (arith, below)) below

  pub cut_tears : (before : List ℕ) × IsImage old before × IsTornCut len before image
  cut_tears = (
    cut_before,
    record {
      no_shorter = omega (arith, length-uncut);
      no_longer = omega (arith, length-uncut, is.no_longer, tried.greatest, sound.stable.no_longer, sound.least);
      untouched = λ i u. ⊎_elim
          (λ before.
          front_same i (omega (arith, before, u.below, is.no_shorter, tried.least)) before
          ∙ is.untouched i (record { below = omega (arith, before, u.below, tried.least); outside = subst (λ (w : List (ℕ × ℕ)). IsOutside w i) (sym tried.written) u.outside })
          ∙ ap (λ (l : List ℕ). get_or l i 0) tried.stable)
          (λ from. tail_stable i from u.below)
          (cases_lt i len);
    },
    record {
      front = ext_get_or 0 (take len image) (take len cut_before) (omega (arith, length-take len image, length-take len cut_before, length-uncut, is.no_shorter, tried.least))
          (λ i below.
          let here : i < len = omega (arith, below, length-take len image) in
          get_or-take len image i 0 here ∙ sym (front_same i (omega (arith, below, length-take len image)) here) ∙ sym (get_or-take len cut_before i 0 here));
      no_longer = omega (arith, length-uncut);
    },
  )
