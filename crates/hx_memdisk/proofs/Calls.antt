-- What each recorded call makes of its file and of all files, as the clauses of the disk say it.
use Rattle.std.proofs.Common.{◌≡◌, ◌≢◌, ◌<◌, ℕ, Bool, true, false, List, [], ◌∷◌, ◌++◌, length, take, get_or, set, if◌then◌else◌, Option, Some, IsSome, refl, sym, ◌∙◌, ap, subst, arith, eqb, ⊎_elim}
use Rattle.std.proofs.lemmas.List.{get_or-set_same, get_or-set_other, length-set}
use Rattle.std.proofs.lemmas.Bool.Decides.{eqb_tells}
use Rattle.hx_etag.specs.declared.stat.Stat.{Stat}
use Rattle.hx_disk.specs.Disk.{Elapses}
use Rattle.hx_disk.specs.File.{FileState, Tried, Wrote, TriedCut, WasCut, Synced, SameContent, Crashed}
use Rattle.hx_disk.specs.Overlay.{overlaid}
use Rattle.hx_memdisk.specs.Event.{Event, Writes, Cuts, Syncs, SetsMtime, Crashes}
use Rattle.hx_memdisk.specs.Kept.{IsAfter, Takes, HasLeft, stat_of}
use Rattle.hx_memdisk.specs.Room.{FileTakes}
use Rattle.hx_memdisk.specs.Replay.{part_of, written_stat, resized, write_after, cut_after, sync_after, mtime_after, crash_after, pick_of, pick_of_bytes, file_after}
use Rattle.hx_memdisk.specs.declared.kept.Kept.{Kept}
use Rattle.hx_memdisk.proofs.Steps.{after_write, after_cut, after_sync, after_mtime, after_crash, length_new, past_kept, now_after, own_after, all_after}

-- Time goes on by the one call, and no other file changes.
pub elapses : (calls new : List Event) (call : Event) → new ≡ calls ++ call ∷ [] → Elapses length (λ (l : List Event) (t f : ℕ). file_after (take t l) f) calls new
elapses calls new call more = record {
  later = omega (arith, length_new calls new call more);
  by_one = omega (arith, length_new calls new call more);
  kept = past_kept calls new call more;
}

-- the file after the call
pub state_write : (calls new : List Event) (file number at mtime : ℕ) (bytes : List ℕ) (ok : Bool) → number ≡ file → new ≡ calls ++ Writes number at bytes ok mtime ∷ []
    → file_after new file ≡ write_after at bytes ok mtime (file_after calls file)
state_write calls new file number at mtime bytes ok on more = now_after calls new (Writes number at bytes ok mtime) more file ∙ after_write file number at mtime bytes ok (file_after calls file) (sym on)

pub state_cut : (calls new : List Event) (file number len mtime : ℕ) (ok : Bool) → number ≡ file → new ≡ calls ++ Cuts number len ok mtime ∷ []
    → file_after new file ≡ cut_after len ok mtime (file_after calls file)
state_cut calls new file number len mtime ok on more = now_after calls new (Cuts number len ok mtime) more file ∙ after_cut file number len mtime ok (file_after calls file) (sym on)

pub state_sync : (calls new : List Event) (file number : ℕ) (ok : Bool) → number ≡ file → new ≡ calls ++ Syncs number ok ∷ [] → file_after new file ≡ sync_after ok (file_after calls file)
state_sync calls new file number ok on more = now_after calls new (Syncs number ok) more file ∙ after_sync file number ok (file_after calls file) (sym on)

pub state_mtime : (calls new : List Event) (file number mtime : ℕ) (ok : Bool) → number ≡ file → new ≡ calls ++ SetsMtime number mtime ok ∷ [] → file_after new file ≡ mtime_after mtime ok (file_after calls file)
state_mtime calls new file number mtime ok on more = now_after calls new (SetsMtime number mtime ok) more file ∙ after_mtime file number mtime ok (file_after calls file) (sym on)

pub state_crash : (calls new : List Event) (pick : ℕ) → new ≡ calls ++ Crashes pick ∷ [] → (f : ℕ) → file_after new f ≡ crash_after pick (file_after calls f)
state_crash calls new pick more f = now_after calls new (Crashes pick) more f ∙ after_crash f pick (file_after calls f)

-- such a state is as the disk model says of the call
pub tried : (at : ℕ) (bytes : List ℕ) (ok : Bool) (mtime : ℕ) (s new : FileState) → new ≡ write_after at bytes ok mtime s → Tried at (length bytes) s new
tried at bytes ok mtime s new is = subst (λ (n : FileState). Tried at (length bytes) s n) (sym is) (record { stable = refl; written = refl; least = refl; greatest = refl })

pub wrote : (at : ℕ) (bytes : List ℕ) (mtime : ℕ) (s new : FileState) → new ≡ write_after at bytes true mtime s → Wrote at bytes s new
wrote at bytes mtime s new is = record { tried = tried at bytes true mtime s new is; reading = ap (λ (n : FileState). n.reading) is; exists = subst (λ (n : FileState). IsSome n.stat) (sym is) refl }

pub tried_cut : (len : ℕ) (ok : Bool) (mtime : ℕ) (s new : FileState) → new ≡ cut_after len ok mtime s → TriedCut len s new
tried_cut len ok mtime s new is = subst (λ (n : FileState). TriedCut len s n) (sym is) (record { stable = refl; written = refl; least = refl; greatest = refl })

pub was_cut : (len mtime : ℕ) (s new : FileState) → new ≡ cut_after len true mtime s → WasCut len s new
was_cut len mtime s new is = record { tried = tried_cut len true mtime s new is; reading = ap (λ (n : FileState). n.reading) is; exists = subst (λ (n : FileState). IsSome n.stat) (sym is) refl }

pub synced : (s new : FileState) → new ≡ sync_after true s → Synced s new
synced s new is = subst (λ (n : FileState). Synced s n) (sym is) (record { reading = refl; stat = refl; rest = record { stable = refl; written = refl; least = refl; greatest = refl } })

same_after : (mtime : ℕ) (ok : Bool) (s : FileState) → SameContent s (mtime_after mtime ok s)
same_after mtime true s = record { reading = refl; stable = refl; written = refl; least = refl; greatest = refl }
same_after mtime false s = record { reading = refl; stable = refl; written = refl; least = refl; greatest = refl }

pub same_content : (mtime : ℕ) (ok : Bool) (s new : FileState) → new ≡ mtime_after mtime ok s → SameContent s new
same_content mtime ok s new is = subst (λ (n : FileState). SameContent s n) (sym is) (same_after mtime ok s)

pub crashed : (pick : ℕ) (s new : FileState) → new ≡ crash_after pick s → Crashed (pick_of pick s) new
crashed pick s new is = subst (λ (n : FileState). Crashed (pick_of pick s) n) (sym is) (record { reading = refl; rest = record { stable = refl; written = refl; least = refl; greatest = refl } })

-- the files after the call
module _ (calls new : List Event) (number : ℕ) (files : List Kept) (elem kept : Kept) (within : number < length files) (known : number < 384) (value : elem ≡ get_or files number elem)
    (before : (f : ℕ) (d : Kept) → f < 384 → IsAfter calls f (get_or files f d)) where
  was : IsAfter calls number elem
  was = subst (λ (k : Kept). IsAfter calls number k) (sym value) (before number elem known)

  pub each_write : (at mtime : ℕ) (bytes : List ℕ) (ok : Bool) → new ≡ calls ++ Writes number at bytes ok mtime ∷ [] → kept.bytes.items ≡ overlaid elem.bytes.items at (part_of bytes ok)
      → stat_of kept ≡ written_stat ok (length (part_of bytes ok)) mtime (stat_of elem) (length kept.bytes.items) → kept.stable.items ≡ elem.stable.items
      → (f : ℕ) (d : Kept) → f < 384 → IsAfter new f (get_or (set files number kept) f d)
  each_write at mtime bytes ok more items stat stable =
      let s : FileState = file_after calls number in
      let reading : kept.bytes.items ≡ overlaid s.reading at (part_of bytes ok) = items ∙ ap (λ (l : List ℕ). overlaid l at (part_of bytes ok)) was.reading in
      let size = ap (λ (o : Option Stat). written_stat ok (length (part_of bytes ok)) mtime o (length kept.bytes.items)) was.stat ∙ ap (λ (l : List ℕ). written_stat ok (length (part_of bytes ok)) mtime s.stat (length l)) reading in
      all_after calls new (Writes number at bytes ok mtime) more number files kept refl within
      (own_after calls new (Writes number at bytes ok mtime) more number kept (write_after at bytes ok mtime s) (after_write number number at mtime bytes ok s refl) reading (stat ∙ size) (stable ∙ was.stable)) before

  cut_same : (len : ℕ) (ok : Bool) (mtime : ℕ) (s : FileState) → kept.bytes.items ≡ (if ok then take len s.reading else s.reading) → stat_of kept ≡ (if ok then Some (record { mtime = mtime; size = length kept.bytes.items }) else s.stat)
      → stat_of kept ≡ (cut_after len ok mtime s).stat
  cut_same len true mtime s items stat = stat ∙ ap (λ (l : List ℕ). Some (record { mtime = mtime; size = length l })) items
  cut_same len false mtime s items stat = stat

  pub each_cut : (len mtime : ℕ) (ok : Bool) → new ≡ calls ++ Cuts number len ok mtime ∷ [] → kept.bytes.items ≡ (if ok then take len elem.bytes.items else elem.bytes.items)
      → stat_of kept ≡ (if ok then Some (record { mtime = mtime; size = length kept.bytes.items }) else stat_of elem) → kept.stable.items ≡ elem.stable.items
      → (f : ℕ) (d : Kept) → f < 384 → IsAfter new f (get_or (set files number kept) f d)
  each_cut len mtime ok more items stat stable =
      let s : FileState = file_after calls number in
      let reading : kept.bytes.items ≡ (if ok then take len s.reading else s.reading) = items ∙ ap (λ (l : List ℕ). if ok then take len l else l) was.reading in
      let size = cut_same len ok mtime s reading (stat ∙ ap (λ (o : Option Stat). if ok then Some (record { mtime = mtime; size = length kept.bytes.items }) else o) was.stat) in
      all_after calls new (Cuts number len ok mtime) more number files kept refl within
      (own_after calls new (Cuts number len ok mtime) more number kept (cut_after len ok mtime s) (after_cut number number len mtime ok s refl) reading size (stable ∙ was.stable)) before

  pub each_mtime : (mtime : ℕ) (ok : Bool) → new ≡ calls ++ SetsMtime number mtime ok ∷ [] → kept.bytes.items ≡ elem.bytes.items
      → stat_of kept ≡ (if ok then Some (record { mtime = mtime; size = length elem.bytes.items }) else stat_of elem) → kept.stable.items ≡ elem.stable.items
      → (f : ℕ) (d : Kept) → f < 384 → IsAfter new f (get_or (set files number kept) f d)
  each_mtime mtime ok more items stat stable =
      let s : FileState = file_after calls number in
      all_after calls new (SetsMtime number mtime ok) more number files kept refl within
      (own_after calls new (SetsMtime number mtime ok) more number kept (mtime_after mtime ok s) (after_mtime number number mtime ok s refl) (reading ok) (size ok stat) (fixed ok)) before
    where
      reading : (b : Bool) → kept.bytes.items ≡ (mtime_after mtime b (file_after calls number)).reading
      reading true = items ∙ was.reading
      reading false = items ∙ was.reading

      size : (b : Bool) → stat_of kept ≡ (if b then Some (record { mtime = mtime; size = length elem.bytes.items }) else stat_of elem) → stat_of kept ≡ (mtime_after mtime b (file_after calls number)).stat
      size true is = is ∙ ap (λ (l : List ℕ). Some (record { mtime = mtime; size = length l })) was.reading
      size false is = is ∙ was.stat

      fixed : (b : Bool) → kept.stable.items ≡ (mtime_after mtime b (file_after calls number)).stable
      fixed true = stable ∙ was.stable
      fixed false = stable ∙ was.stable

  pub each_sync : (ok : Bool) → new ≡ calls ++ Syncs number ok ∷ [] → kept.bytes.items ≡ elem.bytes.items → stat_of kept ≡ stat_of elem → kept.stable.items ≡ (if ok then elem.bytes.items else elem.stable.items)
      → (f : ℕ) (d : Kept) → f < 384 → IsAfter new f (get_or (set files number kept) f d)
  each_sync true more items stat stable =
      let s : FileState = file_after calls number in
      all_after calls new (Syncs number true) more number files kept refl within
      (own_after calls new (Syncs number true) more number kept (sync_after true s) (after_sync number number true s refl) (items ∙ was.reading) (stat ∙ was.stat) (stable ∙ was.reading)) before
  each_sync false more items stat stable =
      let s : FileState = file_after calls number in
      all_after calls new (Syncs number false) more number files kept refl within
      (own_after calls new (Syncs number false) more number kept (sync_after false s) (after_sync number number false s refl) (items ∙ was.reading) (stat ∙ was.stat) (stable ∙ was.stable)) before

-- what a crash has left of each file
pub each_crash : (calls new : List Event) (pick : ℕ) (files left : List Kept) → new ≡ calls ++ Crashes pick ∷ [] → ((f : ℕ) (d : Kept) → f < 384 → IsAfter calls f (get_or files f d))
    → ((f : ℕ) (d : Kept) → f < 384 → HasLeft pick (get_or files f d) (get_or left f d)) → (f : ℕ) (d : Kept) → f < 384 → IsAfter new f (get_or left f d)
each_crash calls new pick files left more before has f d known =
    let s : FileState = file_after calls f in
    let old : Kept = get_or files f d in
    let kept : Kept = get_or left f d in
    let was : IsAfter calls f old = before f d known in
    let made : HasLeft pick old kept = has f d known in
    let image : kept.bytes.items ≡ pick_of pick s = made.bytes ∙ ap (λ (l : List ℕ). pick_of_bytes pick l old.stable.items) was.reading ∙ ap (λ (l : List ℕ). pick_of_bytes pick s.reading l) was.stable in
    own_after calls new (Crashes pick) more f kept (crash_after pick s) (after_crash f pick s) image
    (made.stat ∙ ap (λ (o : Option Stat). resized o (length kept.bytes.items)) was.stat ∙ ap (λ (l : List ℕ). resized s.stat (length l)) image)
    (made.stable ∙ image)

-- a file keeps its room
pub takes_set : (file end number : ℕ) (files : List Kept) (elem kept : Kept) → number < length files → elem ≡ get_or files number elem → ((e : ℕ) → Takes e elem → Takes e kept) → FileTakes file end files → FileTakes file end (set files number kept)
takes_set file end number files elem kept within value grown takes d inside = ⊎_elim
    (λ (same : (eqb file number ≡ true) × (file ≡ number)).
    let place : get_or (set files number kept) file d ≡ kept = ap (λ n. get_or (set files number kept) n d) same.1 ∙ get_or-set_same files number kept d within in
    let had : Takes end elem = subst (Takes end) (ap (λ n. get_or files n elem) same.1 ∙ sym value) (takes elem (omega (arith, same.1, within))) in
    subst (Takes end) (sym place) (grown end had))
    (λ (other : (eqb file number ≡ false) × (file ≢ number)).
    subst (Takes end) (sym (get_or-set_other files number file kept d other.1)) (takes d (omega (arith, inside, length-set {A = Kept} files number kept))))
    (eqb_tells file number)
