-- Each state that calls make is sound, and each pick names an image of it.
use Rattle.std.specs.Prelude.{◌≡◌, ◌<◌, ◌≤◌, ℕ, ◌+◌, ◌-◌, ◌/◌, ◌%◌, min, Bool, true, false, ◌==◌, if◌then◌else◌, List, [], ◌∷◌, length, slice_index_or, get_or, Option, Some, None, MatchOption, refl}
use Rattle.std.proofs.Common.{sym, ◌∙◌, ap, subst, ⊎_elim, arith}
use Rattle.std.proofs.lemmas.List.{get_or-take, length-take, length-map, get_or-map, get_or_default}
use Rattle.std.proofs.lemmas.List.FromFn.{length-enumerate_from, get_or-enumerate_from}
use Rattle.std.proofs.lemmas.Bool.{eqb-true}
use Rattle.std.specs.List.{enumerate_from}
use Rattle.hx_etag.specs.declared.stat.Stat.{Stat}
use Rattle.hx_disk.specs.Overlay.{overlaid, length-overlaid, overlaid_before, overlaid_behind, overlaid-nil}
use Rattle.hx_disk.specs.File.{FileState, IsImage, IsSound}
use Rattle.hx_memdisk.specs.Event.{Event, Writes, Cuts, Syncs, SetsMtime, Crashes}
use Rattle.hx_memdisk.specs.Replay.{no_file, part_of, resized, mtime_of, write_after, cut_after, sync_after, mtime_after, mixed_byte, mixed, pick_of, crash_after, after, replayed, replayed-nil, replayed-cons}

-- Besides, nothing is stable of a file that doesn't exist: no call takes a file away.
pub record IsKept (s : FileState) : Type 0 where
  pub sound : IsSound s
  pub absent : MatchOption s.stat (s.stable ≡ []) (λ t. Unit {0})

pub length-mixed : (pick : ℕ) (reading stable : List ℕ) → length (mixed pick reading stable) ≡ length reading
length-mixed pick reading stable = simp (length-map, length-enumerate_from)

-- place by place
pub mixed_at : (pick : ℕ) (reading stable : List ℕ) (i : ℕ) → i < length reading → get_or (mixed pick reading stable) i 0 ≡ mixed_byte pick stable i (get_or reading i 0)
mixed_at pick reading stable i here =
    get_or-map (λ (x : ℕ × ℕ). mixed_byte pick stable x.0 x.1) (enumerate_from 0 reading) i (0, 0) 0 (omega (arith, length-enumerate_from 0 reading, here))
    ∙ ap (λ (x : ℕ × ℕ). mixed_byte pick stable x.0 x.1) (get_or-enumerate_from 0 reading i (0, 0) here ∙ ap (λ n. (n, get_or reading i 0)) (omega arith))

-- where both have one byte, so has the mixture
pub mixed_same : (pick : ℕ) (reading stable : List ℕ) (i : ℕ) → i < length reading → i < length stable → get_or reading i 0 ≡ get_or stable i 0 → get_or (mixed pick reading stable) i 0 ≡ get_or stable i 0
mixed_same pick reading stable i here there same =
    mixed_at pick reading stable i here
    ∙ elim ((i + pick) % 2 == 0) as (λ t. (if t then get_or reading i 0 else slice_index_or stable i 1) ≡ get_or stable i 0) [ true ↦ same | false ↦ get_or_default stable i 1 0 there ]

choose : (P : List ℕ → Type 0) (a b : Bool) (x y z : List ℕ) → P x → P y → P z → P (if a then x else (if b then y else z))
choose P true b x y z px py pz = px
choose P false true x y z px py pz = py
choose P false false x y z px py pz = pz

mixed_image : (pick : ℕ) (s : FileState) → IsSound s → IsImage s (mixed pick s.reading s.stable)
mixed_image pick s sound = record {
  no_shorter = omega (arith, length-mixed pick s.reading s.stable, sound.reading.no_shorter);
  no_longer = omega (arith, length-mixed pick s.reading s.stable, sound.reading.no_longer);
  untouched = λ i u. mixed_same pick s.reading s.stable i (omega (arith, u.below, sound.reading.no_shorter)) (omega (arith, u.below, sound.least)) (sound.reading.untouched i u);
}

pub picked_image : (pick : ℕ) (s : FileState) → IsSound s → IsImage s (pick_of pick s)
picked_image pick s sound = choose (IsImage s) (pick == 0) (pick == 1) s.stable s.reading (mixed pick s.reading s.stable) sound.stable sound.reading (mixed_image pick s sound)

-- the size that a write leaves is that of the reading
written_size : (ok nothing : Bool) (mtime : ℕ) (old : Option Stat) (was new : List ℕ) → (nothing ≡ true → new ≡ was) → MatchOption old (was ≡ []) (λ s. s.size ≡ length was)
    → MatchOption (if ok then Some (record { mtime = mtime; size = length new }) else (if nothing then old else Some (record { mtime = mtime_of old; size = length new }))) (new ≡ []) (λ s. s.size ≡ length new)
written_size true nothing mtime old was new same held = refl
written_size false false mtime old was new same held = refl
written_size false true mtime old was new same held = subst (λ (l : List ℕ). MatchOption old (l ≡ []) (λ s. s.size ≡ length l)) (sym (same refl)) held

written_absent : (ok nothing : Bool) (mtime size : ℕ) (old : Option Stat) (stable : List ℕ) → MatchOption old (stable ≡ []) (λ s. Unit {0})
    → MatchOption (if ok then Some (record { mtime = mtime; size = size }) else (if nothing then old else Some (record { mtime = mtime_of old; size = size }))) (stable ≡ []) (λ s. Unit {0})
written_absent true nothing mtime size old stable held = tt
written_absent false false mtime size old stable held = tt
written_absent false true mtime size old stable held = held

length-part : (bytes : List ℕ) (ok : Bool) → length (part_of bytes ok) ≤ length bytes
length-part bytes true = omega arith
length-part bytes false = omega (arith, length-take (length bytes / 2) bytes)

write_kept : (at : ℕ) (bytes : List ℕ) (ok : Bool) (mtime : ℕ) (s : FileState) → IsKept s → IsKept (write_after at bytes ok mtime s)
write_kept at bytes ok mtime s held =
    let sound = held.sound in
    let part : List ℕ = part_of bytes ok in
    let long : length part ≤ length bytes = length-part bytes ok in
    let size : length (overlaid s.reading at part) ≡ min at (length s.reading) + length part + (length s.reading - (at + length part)) = length-overlaid s.reading at part in
    record {
      sound = record {
        stable = record { no_shorter = sound.stable.no_shorter; no_longer = omega (arith, sound.stable.no_longer); untouched = λ i u. refl };
        reading = record {
          no_shorter = omega (arith, size, sound.reading.no_shorter);
          no_longer = omega (arith, size, long, sound.reading.no_longer);
          untouched = λ i u.
              let here : i < length s.reading = omega (arith, u.below, sound.reading.no_shorter) in
              ⊎_elim (λ before. overlaid_before s.reading at part i here before) (λ behind. overlaid_behind s.reading at part i here (omega (arith, behind, long))) u.outside.0
              ∙ sound.reading.untouched i (record { below = u.below; outside = u.outside.1 });
        };
        least = sound.least;
        stat = written_size ok (length part == 0) mtime s.stat s.reading (overlaid s.reading at part) (λ none. overlaid-nil s.reading at part (eqb-true (length part) 0 none)) sound.stat;
      };
      absent = written_absent ok (length part == 0) mtime (length (overlaid s.reading at part)) s.stat s.stable held.absent;
    }

cut_kept : (len : ℕ) (ok : Bool) (mtime : ℕ) (s : FileState) → IsKept s → IsKept (cut_after len ok mtime s)
cut_kept len true mtime s held =
    let sound = held.sound in
    record {
      sound = record {
        stable = record { no_shorter = omega (arith, sound.stable.no_shorter); no_longer = sound.stable.no_longer; untouched = λ i u. refl };
        reading = record {
          no_shorter = omega (arith, length-take len s.reading, sound.reading.no_shorter);
          no_longer = omega (arith, length-take len s.reading, sound.reading.no_longer);
          untouched = λ i u. get_or-take len s.reading i 0 (omega (arith, u.below)) ∙ sound.reading.untouched i (record { below = omega (arith, u.below); outside = u.outside });
        };
        least = omega (arith, sound.least);
        stat = refl;
      };
      absent = tt;
    }
cut_kept len false mtime s held =
    let sound = held.sound in
    record {
      sound = record {
        stable = record { no_shorter = omega (arith, sound.stable.no_shorter); no_longer = sound.stable.no_longer; untouched = λ i u. refl };
        reading = record {
          no_shorter = omega (arith, sound.reading.no_shorter);
          no_longer = sound.reading.no_longer;
          untouched = λ i u. sound.reading.untouched i (record { below = omega (arith, u.below); outside = u.outside });
        };
        least = omega (arith, sound.least);
        stat = sound.stat;
      };
      absent = held.absent;
    }

-- nothing but these bytes
sole : (bytes : List ℕ) (stat : Option Stat) → MatchOption stat (bytes ≡ []) (λ t. t.size ≡ length bytes)
    → IsSound (record { reading = bytes; stat = stat; stable = bytes; written = []; least = length bytes; greatest = length bytes })
sole bytes stat held = record {
  stable = record { no_shorter = omega arith; no_longer = omega arith; untouched = λ i u. refl };
  reading = record { no_shorter = omega arith; no_longer = omega arith; untouched = λ i u. refl };
  least = omega arith;
  stat = held;
}

absent_of : (stat : Option Stat) (bytes : List ℕ) → MatchOption stat (bytes ≡ []) (λ t. t.size ≡ length bytes) → MatchOption stat (bytes ≡ []) (λ t. Unit {0})
absent_of None bytes held = held
absent_of (Some t) bytes held = tt

sync_kept : (ok : Bool) (s : FileState) → IsKept s → IsKept (sync_after ok s)
sync_kept true s held = record { sound = sole s.reading s.stat held.sound.stat; absent = absent_of s.stat s.reading held.sound.stat }
sync_kept false s held = held

mtime_kept : (mtime : ℕ) (ok : Bool) (s : FileState) → IsKept s → IsKept (mtime_after mtime ok s)
mtime_kept mtime true s held =
    let sound = held.sound in
    record {
      sound = record {
        stable = record { no_shorter = sound.stable.no_shorter; no_longer = sound.stable.no_longer; untouched = λ i u. refl };
        reading = record { no_shorter = sound.reading.no_shorter; no_longer = sound.reading.no_longer; untouched = λ i u. sound.reading.untouched i (record { below = u.below; outside = u.outside }) };
        least = sound.least;
        stat = refl;
      };
      absent = tt;
    }
mtime_kept mtime false s held = held

mixed-nil : (pick : ℕ) (reading stable : List ℕ) → reading ≡ [] → mixed pick reading stable ≡ []
mixed-nil pick [] stable none = refl
mixed-nil pick (b ∷ reading) stable none = cc

picked_size : (stat : Option Stat) (image reading stable : List ℕ) → (reading ≡ [] → stable ≡ [] → image ≡ []) → MatchOption stat (reading ≡ []) (λ t. t.size ≡ length reading) → MatchOption stat (stable ≡ []) (λ t. Unit {0})
    → MatchOption (resized stat (length image)) (image ≡ []) (λ t. t.size ≡ length image)
picked_size None image reading stable none held absent = none held absent
picked_size (Some t) image reading stable none held absent = refl

crash_kept : (pick : ℕ) (s : FileState) → IsKept s → IsKept (crash_after pick s)
crash_kept pick s held =
    let image : List ℕ = pick_of pick s in
    let none : s.reading ≡ [] → s.stable ≡ [] → image ≡ [] = λ r t. choose (λ (l : List ℕ). l ≡ []) (pick == 0) (pick == 1) s.stable s.reading (mixed pick s.reading s.stable) t r (mixed-nil pick s.reading s.stable r) in
    let size = picked_size s.stat image s.reading s.stable none held.sound.stat held.absent in
    record { sound = sole image (resized s.stat (length image)) size; absent = absent_of (resized s.stat (length image)) image size }

if_own : (mine : Bool) (new s : FileState) → IsKept new → IsKept s → IsKept (if mine then new else s)
if_own true new s of_new of_old = of_new
if_own false new s of_new of_old = of_old

after_kept : (f : ℕ) (call : Event) (s : FileState) → IsKept s → IsKept (after f call s)
unfolding after
after_kept f (Writes file at bytes ok mtime) s held = if_own (f == file) (write_after at bytes ok mtime s) s (write_kept at bytes ok mtime s held) held
after_kept f (Cuts file len ok mtime) s held = if_own (f == file) (cut_after len ok mtime s) s (cut_kept len ok mtime s held) held
after_kept f (Syncs file ok) s held = if_own (f == file) (sync_after ok s) s (sync_kept ok s held) held
after_kept f (SetsMtime file mtime ok) s held = if_own (f == file) (mtime_after mtime ok s) s (mtime_kept mtime ok s held) held
after_kept f (Crashes pick) s held = crash_kept pick s held

replayed_kept : (f : ℕ) (s : FileState) (calls : List Event) → IsKept s → IsKept (replayed f s calls)
replayed_kept f s [] held = subst IsKept (sym (replayed-nil f s)) held
replayed_kept f s (call ∷ calls) held = subst IsKept (sym (replayed-cons f s call calls)) (replayed_kept f (after f call s) calls (after_kept f call s held))

pub file_kept : (f : ℕ) (calls : List Event) → IsKept (replayed f no_file calls)
file_kept f calls = replayed_kept f no_file calls (record { sound = sole [] None refl; absent = refl })

pub file_sound : (f : ℕ) (calls : List Event) → IsSound (replayed f no_file calls)
file_sound f calls = (file_kept f calls).sound
